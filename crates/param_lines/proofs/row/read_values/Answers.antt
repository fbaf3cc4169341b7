use Rattle.std.proofs.Common.{◌≡◌, ◌∙◌, ◌^◌, [], ◌∷◌, Some, None, map, min, ap, rules, List}
use Rattle.soda_ir.specs.declared.program.Param.{Param}
use Rattle.soda_ir.specs.Program.{plain_param}
use Rattle.soda_ir.specs.Valid.{value_count}
use Rattle.array_bytes.specs.Runs.{runs}
use Rattle.param_lines.specs.pieces.Slots.{values_in}
use Rattle.param_lines.proofs.Numbers.{as_many, values_few, values_many, values_none}
use Rattle.param_lines.proofs.row.read_values.Goals as goal

pub returns-in_default : goal.returns-in_default
returns-in_default c =
    let none : None ≡ values_in c.args.param.now.ty (runs c.args.text.now) = search rules in
    values_none (plain_param c.args.param.now) (runs c.args.text.now) none

pub returns-then-len-value_count : goal.returns-then-len-value_count
returns-then-len-value_count c =
    let p = plain_param c.args.param.now in
    let some : Some c.in-Some.values ≡ values_in p.ty (runs c.args.text.now) = search rules in
    let counted : c.value_count.result ≡ min (value_count (p ∷ [])) (2 ^ 64) = c.value_count.ensures ∙ ap (λ (ps : List Param). min (value_count (map plain_param ps)) (2 ^ 64)) c.from_ref.ensures.value in
    let many = as_many p c.in-Some.values c.len.result c.value_count.result c.len.ensures (search rules) counted in
    values_many p (runs c.args.text.now) c.in-Some.values some (many.0 c.if-len-value_count.true)

pub returns-else-len-value_count : goal.returns-else-len-value_count
returns-else-len-value_count c =
    let p = plain_param c.args.param.now in
    let some : Some c.in-Some.values ≡ values_in p.ty (runs c.args.text.now) = search rules in
    let counted : c.value_count.result ≡ min (value_count (p ∷ [])) (2 ^ 64) = c.value_count.ensures ∙ ap (λ (ps : List Param). min (value_count (map plain_param ps)) (2 ^ 64)) c.from_ref.ensures.value in
    let many = as_many p c.in-Some.values c.len.result c.value_count.result c.len.ensures (search rules) counted in
    values_few p (runs c.args.text.now) c.in-Some.values some (λ e. c.if-len-value_count.false (many.1 e))
