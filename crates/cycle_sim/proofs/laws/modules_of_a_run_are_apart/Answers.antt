use Rattle.std.proofs.Common.{◌≡◌, ◌∙◌, sym, ap}
use Rattle.net_ir.specs.declared.network.Module.TheVariants.{Sink}
use Rattle.net_shape.specs.Modules.{IsThere}
use Rattle.net_shape.specs.Plans.{IsPlan, Plan}
use Rattle.cycle_sim.specs.Settings.{plan_in}
use Rattle.cycle_sim.proofs.OneModule.{Numbering, module_there, one_place, one_sink}
use Rattle.cycle_sim.proofs.laws.modules_of_a_run_are_apart.Goals as goal

pub returns-clause-modules : goal.returns-clause-modules
returns-clause-modules c s m n settings lt within same =
    one_place (plan_in s)
    (λ k d. c.modules_are_numbered.ensures.numbers (plan_in s) k d
    (c.programs_have_plans.ensures.plan s.program s.delays settings.streams.valid settings.streams.widths)) m n (Sink 0) lt within same

pub returns-clause-sinks : goal.returns-clause-sinks
returns-clause-sinks c s m n v w settings lt within a b same =
    let plan : Plan = plan_in s in
    let is_plan : IsPlan plan = c.programs_have_plans.ensures.plan s.program s.delays settings.streams.valid settings.streams.widths in
    let numbers : Numbering plan = λ k d. c.modules_are_numbered.ensures.numbers plan k d is_plan in
    let there_v : IsThere plan (Sink v) =
    (c.modules_are_numbered.ensures.set plan (Sink v) is_plan).0 (module_there plan m (Sink 0) (Sink v) lt a) in
    let there_w : IsThere plan (Sink w) =
    (c.modules_are_numbered.ensures.set plan (Sink w) is_plan).0 (module_there plan n (Sink 0) (Sink w) within b) in
    let one : v ≡ w = one_sink s.program s.delays (λ before after x. c.placing_is_good.ensures.once s.program before after x)
    (λ x. c.placing_is_good.ensures.all s.program x settings.streams.valid.sound)
    (λ i t e. (c.staged_tensors_keep_margins.ensures.turns s.program i t settings.streams.valid.sound e).2) v w there_v there_w same in
    one_place plan numbers m n (Sink 0) lt within (a ∙ ap Sink one ∙ sym b)
