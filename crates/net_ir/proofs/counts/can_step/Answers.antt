use Rattle.std.proofs.Common.{true, sym, ◌∙◌, arith}
use Rattle.std.proofs.lemmas.Bool.{lt-ltb, le-ltb}
use Rattle.net_ir.proofs.Facts.{lawful_on, can_from, cannot, can_step_iff}
use Rattle.net_ir.proofs.counts.can_step.Goals as goal

pub returns-then-turn-firings_of-clause-value : goal.returns-then-turn-firings_of-clause-value
returns-then-turn-firings_of-clause-value c =
    can_from c.args.net.now c.args.counts.now.firings c.args.counts.now.state c.args.module c.turn-turn.result c.next_event.result true c.is_possible.result c.turn-turn.ensures.value c.next_event.ensures.value
    (sym (lt-ltb _ _ (omega (arith, c.if-turn-firings_of.true, c.firings_of.ensures.value)))) c.is_possible.ensures

pub returns-then-turn-firings_of-clause-event : goal.returns-then-turn-firings_of-clause-event
returns-then-turn-firings_of-clause-event c =
    let iff = can_step_iff c.args.net.now c.args.counts.now.firings c.args.counts.now.state c.args.module c.next_event.ensures.network
    (lawful_on c.args.counts.now.network c.args.net.now c.args.counts.now.firings c.args.counts.now.state c.requires.started c.turn-turn.ensures.lawful) c.requires.known in
    let same = returns-then-turn-firings_of-clause-value c in
    (λ e. iff.0 (sym same ∙ e), λ e. same ∙ iff.1 e)

pub returns-else-turn-firings_of-clause-value : goal.returns-else-turn-firings_of-clause-value
returns-else-turn-firings_of-clause-value c =
    cannot c.args.net.now c.args.counts.now.firings c.args.counts.now.state c.args.module c.turn-turn.result _ c.turn-turn.ensures.value
    (omega (arith, c.if-turn-firings_of.false, c.firings_of.ensures.value)) (le-ltb _ _ c.if-turn-firings_of.false)
