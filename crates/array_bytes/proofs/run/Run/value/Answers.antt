use Rattle.std.proofs.Common.{◌≡◌, ◌≤◌, ◌<◌, Some, ℤ, pos, neg_ℤ, ◌-ℤ◌, inl, inr, if◌then◌else◌, to_z, of_z, refl, sym, subst, ◌∙◌, ap, arith, ℕ}
use Rattle.std.specs.Int.{w128}
use Rattle.std.proofs.lemmas.Int.{ints}
use Rattle.array_bytes.specs.Values.{with_sign}
use Rattle.array_bytes.proofs.RunPush.{no_value, one_value}
use Rattle.array_bytes.proofs.run.Run.value.Goals as goal

pub returns-then-not-self : goal.returns-then-not-self
returns-then-not-self c = λ bytes is. sym (no_value c.args.self bytes is (inr (inl c.if-not-self.true)))

pub returns-then-self-gt-MOST_RUN : goal.returns-then-self-gt-MOST_RUN
returns-then-self-gt-MOST_RUN c = λ bytes is. sym (no_value c.args.self bytes is (inl c.if-self-gt-MOST_RUN.true))

pub returns-then-self-signs : goal.returns-then-self-signs
returns-then-self-signs c = λ bytes is. sym (no_value c.args.self bytes is (inr (inr (subst (λ (n : ℕ). c.args.self.counted ≤ n) c.signs.ensures c.if-self-signs.true))))

pub returns-then-self : goal.returns-then-self
returns-then-self c = λ bytes is.
    let m = c.args.self.magnitude in
    let value : to_z w128 (of_z w128 (pos 0 -ℤ to_z w128 m)) ≡ neg_ℤ (pos m) = omega (arith, ints, c.args.self.near) in
    let some = subst (λ (n : ℕ). n < c.args.self.counted) c.signs.ensures c.if-self-signs.false in
    ap (λ (v : ℤ). Some v) value ∙ sym (one_value c.args.self bytes is c.if-self-gt-MOST_RUN.false c.if-not-self.false some ∙ ap (λ t. Some (with_sign t m)) c.if-self.true)

pub returns-else-self : goal.returns-else-self
returns-else-self c = λ bytes is.
    let m = c.args.self.magnitude in
    let value : to_z w128 m ≡ pos m = omega (arith, ints, c.args.self.near) in
    let some = subst (λ (n : ℕ). n < c.args.self.counted) c.signs.ensures c.if-self-signs.false in
    ap (λ (v : ℤ). Some v) value ∙ sym (one_value c.args.self bytes is c.if-self-gt-MOST_RUN.false c.if-not-self.false some ∙ ap (λ t. Some (with_sign t m)) c.if-self.false)
