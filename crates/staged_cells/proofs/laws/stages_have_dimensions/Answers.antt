use Rattle.std.proofs.Common.{◌≡◌, ◌-◌, length, sym, subst}
use Rattle.soda_ir.specs.Program.{extents_at}
use Rattle.time_stages.specs.declared.staging.StagedTensor.{StagedTensor}
use Rattle.time_stages.proofs.CallerLemmas.{own_margins, own_turn}
use Rattle.region_margins.proofs.CallerLemmas.{margins_by_dimension}
use Rattle.staged_cells.proofs.laws.stages_have_dimensions.Goals as goal

pub returns : goal.returns
returns c = λ p rows v s sound e.
    subst (λ (u : StagedTensor). (length u.low ≡ length (extents_at p rows)) × (length u.high ≡ length (extents_at p rows))) (sym (own_margins p v s e))
    (margins_by_dimension p sound rows (s.turn - 1) s.tensor (own_turn p v s sound e).2)
