use Rattle.std.proofs.Common.{◌∙◌, Some, None, sym, ap, rules, FitsSigned, if◌then◌else◌}
use Rattle.std.specs.Int.{w128}
use Rattle.std.proofs.lemmas.Int.{to_z-of_z}
use Rattle.param_lines.proofs.Ranged.{judged}
use Rattle.param_lines.proofs.number.value_in.Goals as goal

pub returns-then-in_range : goal.returns-then-in_range
returns-then-in_range c =
    let v = c.with_sign-value.result in
    let fits : FitsSigned w128 v = search rules in
    let same = to_z-of_z w128 v fits in
    let judging = judged c.args.ty c.args.word.now c.behind_sign-digits.result.now c.begins_minus.result c.near_number.result v c.in_range.result c.bits-bits.ensures.valid c.behind_sign-digits.ensures (sym c.is_some_digits.ensures ∙ c.if-not-is_some_digits.false) c.begins_minus.ensures c.near_number.ensures c.with_sign-value.ensures (simp to_z-of_z at c.in_range.ensures) in
    rw same (ap (λ b. if b then Some v else None) (sym c.if-in_range.true) ∙ judging)

pub returns-else-in_range : goal.returns-else-in_range
returns-else-in_range c =
    let v = c.with_sign-value.result in
    let fits : FitsSigned w128 v = search rules in
    let judging = judged c.args.ty c.args.word.now c.behind_sign-digits.result.now c.begins_minus.result c.near_number.result v c.in_range.result c.bits-bits.ensures.valid c.behind_sign-digits.ensures (sym c.is_some_digits.ensures ∙ c.if-not-is_some_digits.false) c.begins_minus.ensures c.near_number.ensures c.with_sign-value.ensures (simp to_z-of_z at c.in_range.ensures) in
    ap (λ b. if b then Some v else None) (sym c.if-in_range.false) ∙ judging
