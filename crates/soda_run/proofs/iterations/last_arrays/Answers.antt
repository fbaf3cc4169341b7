use Rattle.std.proofs.Common.{◌≡◌, ◌-◌, ◌++◌, length, drop, take, sym, ap, ◌∙◌, subst, arith}
use Rattle.std.proofs.Math.Seq.{take-append_seam}
use Rattle.std.proofs.lemmas.List.{length-map}
use Rattle.soda_ir.specs.declared.program.Parts.{Parts}
use Rattle.soda_ir.specs.Points.{size}
use Rattle.soda_ir.specs.Program.{extents_at, plain, plain_tensor}
use Rattle.soda_eval.specs.Runs.{cells_at, run_of}
use Rattle.time_stages.specs.Placing.{placing_order}
use Rattle.soda_run.specs.pieces.Filled.{AreFilled}
use Rattle.soda_run.proofs.Sequence.{first_begins}
use Rattle.soda_run.proofs.iterations.last_arrays.Goals as goal

pub run_all-requires-clause-begun : goal.run_all-requires-clause-begun
run_all-requires-clause-begun c =
    let p = plain c.args.program.now in
    let many : c.len.result ≡ length p.tensors = c.len.ensures ∙ ap (λ (q : Parts). length q.tensors) c.parts.ensures.value ∙ sym (length-map c.args.program.now.tensors plain_tensor) in
    let box : c.as_slice.result.now ≡ extents_at p c.args.rows = c.as_slice.ensures ∙ c.requires.plan.extents in
    let cells : c.size-cells.result ≡ cells_at p c.args.rows = omega (arith, c.size-cells.ensures, ap size box, c.requires.small) in
    first_begins p c.requires.plan.sound c.args.rows c.args.params.now c.args.inputs.now c.deref_mut.result.now c.len.result c.size-cells.result c.requires.inputs many cells (c.deref_mut.ensures.value ∙ c.in_ok-arrays.ensures)

pub returns : goal.returns
returns c =
    let p = plain c.args.program.now in
    let many : c.in_ok-arrays.arrays.len ≡ length c.run_all.new.arrays = omega (arith, c.deref_mut.ensures.len, c.run_all.auto.arrays) in
    let rest = drop (length c.run_all.new.arrays) c.in_ok-arrays.arrays.items in
    let same : take c.in_ok-arrays.arrays.len (c.run_all.new.arrays ++ rest) ≡ c.run_all.new.arrays = ap (λ n. take n (c.run_all.new.arrays ++ rest)) many ∙ take-append_seam c.run_all.new.arrays rest in
    subst (AreFilled p c.args.rows (run_of p c.args.rows c.args.params.now c.args.inputs.now (c.args.program.now.iterate - 1)) c.args.params.now (placing_order p)) (sym same) c.in_ok-run_all.ensures
