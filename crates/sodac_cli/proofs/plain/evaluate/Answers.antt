use Rattle.std.proofs.Common.{List, ℤ, sym, ap, subst, ◌∙◌}
use Rattle.std.proofs.lemmas.Result.{IfOk-weaker}
use Rattle.soda_ir.specs.Program.{plain}
use Rattle.soda_ir.specs.Valid.{output_types}
use Rattle.soda_eval.specs.Runs.{HasArrays, cells_at, defined_arrays}
use Rattle.sodac_cli.proofs.plain.evaluate.Goals as goal

pub returns-clause-in_range : goal.returns-clause-in_range
returns-clause-in_range c =
    let p = plain c.args.program.now in
    let P : List (List ℤ) → Type 0 = λ xs. HasArrays (cells_at p c.args.rows) (output_types p.tensors) xs in
    let all = c.cells_are_in_range.ensures.arrays p c.args.rows c.args.values.now c.args.inputs.items c.parts-parts.ensures.valid.sound c.requires.inputs in
    IfOk-weaker c.plain_run-arrays.result _ _
    (λ v e. subst P (sym (e ∙ ap (λ (xs : List (List ℤ)). defined_arrays p c.args.rows c.args.values.now xs) c.as_slice.ensures.value)) all)
    c.plain_run-arrays.ensures
