use Rattle.cycle_sim.proofs.Ranges.{stage_in_range}
use Rattle.cycle_sim.proofs.laws.cells_of_a_run_are_in_range.Goals as goal

pub returns : goal.returns
returns c = λ s inputs v z settings arrays.
    stage_in_range s.program s.rows s.params inputs v z
    (λ t e. c.stage_cells_are_in_range.ensures.range s.program s.rows s.params inputs v t z settings.streams.valid.sound e arrays)
