use Rattle.std.proofs.Common.{◌≡◌, ◌≤◌, ◌^◌, arith, subst, sym, MatchOption, Option, ℕ}
use Rattle.soda_words.specs.Tokens.{value_behind}
use Rattle.soda_words.proofs.Fronts.{past_end}
use Rattle.soda_words.proofs.numbers.value.Goals as goal

pub returns-in_err-checked_mul : goal.returns-in_err-checked_mul
returns-in_err-checked_mul c =
    let P : Option ℕ → Type 0 = λ r. MatchOption r (2 ^ 64 ≤ value_behind 0 c.args.digits.now) (λ n. n ≡ value_behind 0 c.args.digits.now) in
    subst P (sym c.from_residual.ensures) (past_end c.loop-digit.digit-index c.loop-digit.number c.args.digits.now c.loop-digit.invariant c.loop-digit-test.true (omega (arith, c.in_err-checked_mul.ensures)))

pub returns-in_err-number : goal.returns-in_err-number
returns-in_err-number c =
    let P : Option ℕ → Type 0 = λ r. MatchOption r (2 ^ 64 ≤ value_behind 0 c.args.digits.now) (λ n. n ≡ value_behind 0 c.args.digits.now) in
    subst P (sym c.from_residual-in_err-number.ensures) (past_end c.loop-digit.digit-index c.loop-digit.number c.args.digits.now c.loop-digit.invariant c.loop-digit-test.true (omega (arith, c.in_err-number.ensures, c.in_ok-checked_mul.ensures)))
