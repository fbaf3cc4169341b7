use Rattle.std.proofs.Common.{ap, ◌∙◌, map}
use Rattle.net_ir.specs.declared.network.Module.{Module}
use Rattle.net_ir.specs.States.{unmoved}
use Rattle.net_ir.proofs.Facts.{start_lawful}
use Rattle.net_ir.proofs.counts.Counts.start.Goals as goal

pub invariant_of-result : goal.invariant_of-result
invariant_of-result c =
    start_lawful c.in_ok-modules.modules.items c.in_ok-queues.queues.items c.args.net.now.modules c.args.firings c.in_ok-turns.turns.items
    (c.in_ok-modules.ensures.items ∙ c.modules.ensures.value)
    (c.in_ok-turns.ensures ∙ ap (map (λ (_ : Module). unmoved)) c.modules-2.ensures.value)
