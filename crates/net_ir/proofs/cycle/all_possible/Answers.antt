use Rattle.std.proofs.Common.{true, false, refl}
use Rattle.std.specs.List.{list_all}
use Rattle.net_ir.specs.Nets.{exits}
use Rattle.net_ir.specs.declared.events.Event.TheVariants.{Send}
use Rattle.net_ir.specs.States.{is_possible}
use Rattle.net_ir.proofs.CycleSteps.{events_possible}
use Rattle.net_ir.proofs.cycle.all_possible.Goals as goal

pub returns-then-takes_possible : goal.returns-then-takes_possible
returns-then-takes_possible c =
    events_possible c.args.net.now c.args.counts.now.state c.args.module c.args.firing true c.sends_possible.result c.if-takes_possible.ensures c.sends_possible.ensures

pub returns : goal.returns
returns c =
    events_possible c.args.net.now c.args.counts.now.state c.args.module c.args.firing false
    (list_all (λ n. is_possible c.args.net.now c.args.counts.now.state (Send n)) (exits c.args.net.now c.args.module)) c.if-takes_possible.ensures refl
