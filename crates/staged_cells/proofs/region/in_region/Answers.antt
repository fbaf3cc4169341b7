use Rattle.std.proofs.Common.{◌≡◌, Some, slice_get, sym, ◌∙◌, subst}
use Rattle.soda_ir.specs.declared.program.Parts.{Parts}
use Rattle.soda_ir.specs.Program.{extents_at, plain}
use Rattle.soda_eval.specs.Points.{point}
use Rattle.time_stages.specs.declared.staging.StagedTensor.{StagedTensor}
use Rattle.time_stages.specs.Margins.{keeps_away}
use Rattle.time_stages.specs.Staged.{staged_tensors}
use Rattle.staged_cells.proofs.Sent.{region_is}
use Rattle.staged_cells.proofs.region.in_region.Goals as goal

pub returns-clause-margins : goal.returns-clause-margins
returns-clause-margins c =
    subst (λ (q : Parts). (s : StagedTensor) → slice_get (staged_tensors (plain q)) c.args.tensor ≡ Some s → c.is_kept.result ≡ keeps_away
    (extents_at (plain q) c.args.rows) s.low s.high (point (extents_at (plain q) c.args.rows) c.args.index))
    c.parts.ensures.value c.is_kept.ensures

pub returns-clause-region : goal.returns-clause-region
returns-clause-region c = λ s params inputs e.
    let p = plain c.args.program.now in
    returns-clause-margins c s e ∙ sym (region_is p c.parts.ensures.valid.sound c.args.rows params inputs c.args.tensor s e
    (point (extents_at p c.args.rows) c.args.index))
