use Rattle.std.proofs.Common.{◌<◌, arith}
use Rattle.net_ir.specs.declared.network.Module.TheVariants.{Sink, Source}
use Rattle.net_shape.specs.Modules.{IsThere, number_of}
use Rattle.net_shape.specs.Plans.{IsPlan, Plan}
use Rattle.cycle_sim.specs.Settings.{plan_in}
use Rattle.cycle_sim.proofs.EndsInOrder.{sources_rise}
use Rattle.cycle_sim.proofs.OneModule.{Numbering, module_there, number_at}
use Rattle.cycle_sim.proofs.laws.sources_of_a_run_stand_in_order.Goals as goal

pub returns : goal.returns
returns c s m n v w settings lt within a b less =
    let plan : Plan = plan_in s in
    let is_plan : IsPlan plan = c.programs_have_plans.ensures.plan s.program s.delays settings.streams.valid settings.streams.widths in
    let numbers : Numbering plan = λ k d. c.modules_are_numbered.ensures.numbers plan k d is_plan in
    let there_v : IsThere plan (Source v) =
    (c.modules_are_numbered.ensures.set plan (Source v) is_plan).0 (module_there plan m (Sink 0) (Source v) lt a) in
    let there_w : IsThere plan (Source w) =
    (c.modules_are_numbered.ensures.set plan (Source w) is_plan).0 (module_there plan n (Sink 0) (Source w) within b) in
    let rise : number_of plan (Source v) < number_of plan (Source w) = sources_rise plan is_plan.lanes v w there_v there_w less in
    omega (arith, number_at plan numbers m (Sink 0) (Source v) lt a, number_at plan numbers n (Sink 0) (Source w) within b, rise)
