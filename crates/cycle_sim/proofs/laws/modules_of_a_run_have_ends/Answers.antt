use Rattle.std.proofs.Common.{◌<◌, ℕ, length, get_or, refl, sym, subst, arith}
use Rattle.std.proofs.lemmas.List.Elements.{All-map, All-from_get_or, Contains-get_or}
use Rattle.soda_ir.proofs.CallerLemmas.{input_there}
use Rattle.soda_ir.specs.Counts.{is_output}
use Rattle.net_ir.specs.Nets.{exits, queue_at}
use Rattle.net_ir.specs.declared.network.Module.TheVariants.{Compute, Sink, Source}
use Rattle.net_shape.specs.Modules.{IsThere}
use Rattle.net_shape.specs.Plans.{IsPlan, Plan}
use Rattle.staged_cells.specs.Streams.{lane_of, receiver}
use Rattle.cycle_sim.specs.Ends.{AreWhole}
use Rattle.cycle_sim.specs.Settings.{net_in, plan_in}
use Rattle.cycle_sim.proofs.Apart.{counted_within}
use Rattle.cycle_sim.proofs.EndsOfRuns.{inner_stage, input_stage, lane_within, whole_input, whole_output}
use Rattle.cycle_sim.proofs.OneModule.{IsLast, last_of, module_there}
use Rattle.cycle_sim.proofs.laws.modules_of_a_run_have_ends.Goals as goal

pub returns-clause-source : goal.returns-clause-source
returns-clause-source c s m v settings lt is =
    let plan : Plan = plan_in s in
    let is_plan : IsPlan plan = c.programs_have_plans.ensures.plan s.program s.delays settings.streams.valid settings.streams.widths in
    let there : IsThere plan (Source v) = (c.modules_are_numbered.ensures.set plan (Source v) is_plan).0 (module_there plan m (Sink 0) (Source v) lt is) in
    let at = input_stage s.program s.delays v there in
    let own = c.inputs_are_staged_first.ensures s.program v at.0 settings.streams.valid.sound at.1 at.2 in
    let input = input_there s.program.tensors at.0.tensor settings.streams.valid.sound.ends.inputs_first at.2 in (
      omega (arith, input.there, own.1),
      subst (AreWhole s.program.burst) (sym at.3) (whole_input s.program at.0.tensor settings.streams.valid.sound.ends.bursts at.2),
    )

pub returns-clause-sink : goal.returns-clause-sink
returns-clause-sink c s m v settings lt is =
    let plan : Plan = plan_in s in
    let is_plan : IsPlan plan = c.programs_have_plans.ensures.plan s.program s.delays settings.streams.valid settings.streams.widths in
    let there : IsThere plan (Sink v) = (c.modules_are_numbered.ensures.set plan (Sink v) is_plan).0 (module_there plan m (Sink 0) (Sink v) lt is) in
    let last : IsLast s.program v = last_of s.program s.delays v there in
    let known = (c.staged_tensors_keep_margins.ensures.turns s.program v last.stage settings.streams.valid.sound last.is).2 in (
      omega (arith, last.number, counted_within (is_output s.program) last.stage.tensor (length s.program.tensors) known last.output),
      subst (AreWhole s.program.burst) (sym last.type) (whole_output s.program last.stage.tensor settings.streams.valid.sound.ends.bursts last.output),
    )

pub returns-clause-compute : goal.returns-clause-compute
returns-clause-compute c s m v lane settings lt is =
    let plan : Plan = plan_in s in
    let is_plan : IsPlan plan = c.programs_have_plans.ensures.plan s.program s.delays settings.streams.valid settings.streams.widths in
    let there : IsThere plan (Compute v lane) = (c.modules_are_numbered.ensures.set plan (Compute v lane) is_plan).0 (module_there plan m (Sink 0) (Compute v lane) lt is) in
    (there.2, inner_stage s.program s.delays v lane there, c.ports_are_of_reads.ensures.count s.program s.delays m v lane settings.streams lt is)

pub returns-clause-lanes : goal.returns-clause-lanes
returns-clause-lanes c s m settings lt =
    let plan : Plan = plan_in s in
    let is_plan : IsPlan plan = c.programs_have_plans.ensures.plan s.program s.delays settings.streams.valid settings.streams.widths in
    let network = c.networks_fit.ensures.network plan is_plan in
    All-map (λ n. n < s.program.unroll) (λ queue. lane_of (receiver (net_in s) queue)) (exits (net_in s) m)
    (All-from_get_or (λ queue. lane_of (receiver (net_in s) queue) < s.program.unroll) (exits (net_in s) m) 0
    (λ j within.
    let queue : ℕ = get_or (exits (net_in s) m) j 0 in
    let there : queue < length (net_in s).queues =
    (((c.queues_stand_in_order.ensures.from (net_in s) m).all queue).0 (Contains-get_or (exits (net_in s) m) j 0 within)).0 in
    lane_within plan is_plan.lanes (receiver (net_in s) queue)
    ((c.modules_are_numbered.ensures.set plan (receiver (net_in s) queue) is_plan).0
    (module_there plan (queue_at (net_in s).queues queue).to (Sink 0) (receiver (net_in s) queue) (network.to queue there) refl))))
