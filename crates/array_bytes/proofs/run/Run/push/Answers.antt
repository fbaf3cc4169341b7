use Rattle.std.proofs.Common.{◌≡◌, ◌+◌, ◌++◌, ◌∷◌, [], min, length, refl, sym, ◌∙◌, arith, length-append}
use Rattle.array_bytes.proofs.RunPush.{not_sign, pushed_digit}
use Rattle.array_bytes.proofs.run.Run.push.Goals as goal

pub returns-then-is_digit : goal.returns-then-is_digit
returns-then-is_digit c = λ bytes is.
    let count : c.count_up-self.result ≡ min (length (bytes ++ c.args.byte ∷ [])) 65 = omega (arith, c.count_up-self.ensures, is.count, length-append bytes (c.args.byte ∷ [])) in
    pushed_digit c.args.self.now _ bytes c.args.byte is (not_sign bytes c.args.self.now.counted c.args.byte is.count (sym c.is_sign-is_sign.ensures ∙ c.if-is_sign.false)) count refl
    (sym c.is_digit.ensures ∙ c.if-is_digit.true) refl c.min-self.ensures
