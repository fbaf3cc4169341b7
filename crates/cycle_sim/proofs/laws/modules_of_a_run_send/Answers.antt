use Rattle.std.proofs.Common.{◌∙◌}
use Rattle.cycle_sim.specs.Settings.{net_in, streams_over}
use Rattle.cycle_sim.proofs.Sent.{all_sent}
use Rattle.cycle_sim.proofs.laws.modules_of_a_run_send.Goals as goal

pub returns : goal.returns
returns c = λ s inputs m k ports sends settings arrays held many by.
    all_sent s inputs m k ports sends (c.queues_stand_in_order.ensures.from (net_in s) m) many by
    ∙ c.modules_send_streams.ensures.all s.program s.delays s.rows s.params inputs m k ports settings.streams arrays
    (c.modules_send_streams.ensures.carry s.program s.delays (streams_over s inputs) m k ports held)
