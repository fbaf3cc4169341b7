use Rattle.std.proofs.Common.{sym, subst, arith}
use Rattle.net_ir.specs.States.{IsTurn}
use Rattle.net_ir.proofs.Facts.{lawful_on, sent_fits}
use Rattle.net_ir.proofs.counts.sent.Goals as goal

pub sent_by-requires-clause-fits : goal.sent_by-requires-clause-fits
sent_by-requires-clause-fits c =
    let net = c.args.net.now in
    let m = c.queue_of-from.result.from in
    let lawful = lawful_on c.args.counts.now.network net c.args.counts.now.firings c.args.counts.now.state c.requires.started c.turn-turn.ensures.lawful in
    let turn = subst (IsTurn net c.args.counts.now.firings m) (sym c.turn-turn.ensures.value) (lawful.turns m c.queue_of-from.ensures.from) in
    omega (arith, sent_fits net c.args.counts.now.firings m c.args.queue c.turn-turn.result turn)
