use Rattle.std.proofs.Common.{sym, subst, arith}
use Rattle.net_ir.specs.States.{IsTurn}
use Rattle.net_ir.proofs.Facts.{lawful_on, taken_fits}
use Rattle.net_ir.proofs.counts.taken.Goals as goal

pub taken_by-requires-clause-fits : goal.taken_by-requires-clause-fits
taken_by-requires-clause-fits c =
    let net = c.args.net.now in
    let m = c.queue_of-to.result.to in
    let lawful = lawful_on c.args.counts.now.network net c.args.counts.now.firings c.args.counts.now.state c.requires.started c.turn-turn.ensures.lawful in
    let turn = subst (IsTurn net c.args.counts.now.firings m) (sym c.turn-turn.ensures.value) (lawful.turns m c.queue_of-to.ensures.to) in
    omega (arith, taken_fits net c.args.counts.now.firings m c.args.queue c.turn-turn.result turn)
