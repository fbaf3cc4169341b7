use Rattle.std.proofs.Common.{◌∙◌, refl, sym, subst, length, arith}
use Rattle.std.proofs.lemmas.Bool.{true≢false, false≢true}
use Rattle.net_ir.specs.Nets.{entrances}
use Rattle.net_cycles.specs.machine.Moves.{FilledTo}
use Rattle.net_cycles.proofs.Readiness.{full_if, fires_not, fires_roomy}
use Rattle.net_cycles.proofs.firing.can_fire.Goals as goal

pub returns-then-stalled-module : goal.returns-then-stalled-module
returns-then-stalled-module c =
    fires_not c.args.net.now c.args.firings c.args.stalled.now c.args.fired.now c.args.module c.args.rings.now c.requires.counts
    (λ can. true≢false (sym c.if-stalled-module.true ∙ can.awake))

pub returns-then-firing-firings_of : goal.returns-then-firing-firings_of
returns-then-firing-firings_of c =
    fires_not c.args.net.now c.args.firings c.args.stalled.now c.args.fired.now c.args.module c.args.rings.now c.requires.counts
    (λ can. absurd (omega (arith, can.left, c.firings_of.ensures, c.firing_of-firing.ensures, c.if-firing-firings_of.true)))

pub returns-then-not-are_filled : goal.returns-then-not-are_filled
returns-then-not-are_filled c =
    let net = c.args.net.now in
    fires_not net c.args.firings c.args.stalled.now c.args.fired.now c.args.module c.args.rings.now c.requires.counts
    (λ can. false≢true (c.if-not-are_filled.ensures.1
    (subst (λ k. FilledTo net c.args.rings.now c.args.module k (length (entrances net c.args.module))) (sym c.firing_of-firing.ensures)
    (full_if net c.args.firings c.args.stalled.now c.args.fired.now c.args.module c.args.rings.now c.requires.counts can))))

pub returns : goal.returns
returns c =
    let net = c.args.net.now in
    fires_roomy net c.args.firings c.args.stalled.now c.args.fired.now c.args.module c.args.rings.now c.requires.counts
    c.are_roomy.result c.are_roomy.ensures c.if-stalled-module.false
    (omega (arith, c.firings_of.ensures, c.firing_of-firing.ensures, c.if-firing-firings_of.false))
    (subst (λ k. FilledTo net c.args.rings.now c.args.module k (length (entrances net c.args.module))) c.firing_of-firing.ensures
    (c.if-not-are_filled.ensures.0 refl))
