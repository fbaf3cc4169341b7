use Rattle.std.proofs.Common.{◌∙◌}
use Rattle.cycle_sim.proofs.laws.sinks_of_a_run_take.Goals as goal

pub returns : goal.returns
returns c = λ s inputs m v k ports settings lt is held.
    held ∙ c.sinks_take_arrays.ensures.ports s.program s.delays s.rows s.params inputs m v k settings.streams lt is
