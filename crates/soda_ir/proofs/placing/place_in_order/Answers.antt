use Rattle.std.proofs.Common.{◌∙◌, false, sym, ap, slice_index_or}
use Rattle.soda_ir.specs.Program.{plain}
use Rattle.soda_ir.proofs.Rounds.{mark_placed}
use Rattle.soda_ir.proofs.placing.place_in_order.Goals as goal
use Rattle.soda_ir.proofs.placing.place_in_order.Goals.{then-at-marks+then-is_ready, else-at-marks}

pub loop-tensor-preserved : goal.loop-tensor-preserved
loop-tensor-preserved c =
    elim c.if-at-marks.branch [ then-at-marks+then-is_ready w ↦ (λ x e. mark_placed (plain c.args.parts.now) c.loop-tensor.marks _ c.loop-tensor.invariant (sym w.is_ready.ensures ∙ w.if-is_ready.true) x (ap (λ xs. slice_index_or xs x false) (sym w.marks-is) ∙ e)) | else-at-marks w ↦ (λ x e. c.loop-tensor.invariant x (ap (λ xs. slice_index_or xs x false) (sym w.marks-is) ∙ e)) ]
