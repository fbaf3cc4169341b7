use Rattle.std.proofs.Common.{◌≡◌, ◌∙◌, ap, arith, length, subst, sym}
use Rattle.std.proofs.lemmas.Result.{IfOk-weaker}
use Rattle.net_ir.specs.Nets.{IsNetwork}
use Rattle.net_shape.specs.Modules.{modules_of}
use Rattle.net_shape.specs.Queues.{network_of}
use Rattle.plan_net.proofs.Standing.{whole_network}
use Rattle.plan_net.proofs.joins.connect.Goals as goal

pub new-requires-clause-network : goal.new-requires-clause-network
new-requires-clause-network c =
    subst IsNetwork (sym (whole_network c.args.layout.now c.in_ok-modules.modules.items c.in_ok-queues.queues.items (c.in_ok-modules.ensures.items ∙ c.deref.ensures.value ∙ c.requires.chart.modules)
    c.in_ok-queues.ensures.all)) (c.networks_fit.ensures.network c.args.layout.now c.in_ok-queues.ensures.plan)

pub new-requires-clause-queues : goal.new-requires-clause-queues
new-requires-clause-queues c = c.in_ok-queues.ensures.small

pub new-requires-clause-modules : goal.new-requires-clause-modules
new-requires-clause-modules c =
    let e : c.in_ok-modules.modules.items ≡ modules_of c.args.layout.now = c.in_ok-modules.ensures.items ∙ c.deref.ensures.value ∙ c.requires.chart.modules in
    omega (arith, ap length e, c.requires.few)

pub returns : goal.returns
returns c =
    IfOk-weaker c.new.result (λ net. net ≡ record { modules = c.in_ok-modules.modules.items; queues = c.in_ok-queues.queues.items }) (λ net. net ≡ network_of c.args.layout.now)
    (λ net e. e ∙ whole_network c.args.layout.now c.in_ok-modules.modules.items c.in_ok-queues.queues.items (c.in_ok-modules.ensures.items ∙ c.deref.ensures.value ∙ c.requires.chart.modules)
    c.in_ok-queues.ensures.all) c.new.ensures
