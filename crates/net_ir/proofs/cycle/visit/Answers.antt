use Rattle.std.proofs.Common.{◌∙◌, sym, ap, subst, set, arith}
use Rattle.net_ir.specs.declared.events.Turn.{Turn}
use Rattle.net_ir.specs.States.{Machine, IsLawful}
use Rattle.net_ir.specs.CycleRun.{IsBetween, fired_wholly}
use Rattle.net_ir.proofs.Facts.{lawful_on}
use Rattle.net_ir.proofs.CycleSteps.{IsBetween-visit, fires_parts, fired_lawful, visit_fired, visit_kept}
use Rattle.net_ir.proofs.cycle.visit.Goals as goal

pub overflow_add-turn : goal.overflow_add-turn
overflow_add-turn c =
    let old : Machine = c.args.counts.now in
    let can = fires_parts c.args.net.now old.firings c.firings_of-firings.ensures.network c.args.stalled.now old.state c.args.module (sym c.if-fires.ensures) in
    omega (arith, can.0, ap (λ (t : Turn). t.fired) c.turn-turn.ensures.value, c.turn-turn.ensures.small)

pub set_turn-requires-clause-lawful : goal.set_turn-requires-clause-lawful
set_turn-requires-clause-lawful c =
    let net = c.args.net.now in
    let old : Machine = c.args.counts.now in
    let m = c.args.module in
    let lawful = lawful_on old.network net old.firings old.state c.requires.started c.turn-turn.ensures.lawful in
    let new = fired_lawful net old.firings c.firings_of-firings.ensures.network c.args.stalled.now old.state m lawful c.requires.between c.requires.known
    (sym c.if-fires.ensures) in
    subst (λ (t : Turn). IsLawful old.network old.firings (set old.state m (fired_wholly t))) (sym c.turn-turn.ensures.value)
    (lawful_on net old.network old.firings _ (sym c.requires.started) new)

pub returns-then-fires-clause-state : goal.returns-then-fires-clause-state
returns-then-fires-clause-state c =
    let old : Machine = c.args.counts.now in
    c.set_turn.ensures ∙ ap (λ s. record { network = old.network; firings = old.firings; state = s })
    (visit_fired c.args.net.now old.firings c.firings_of-firings.ensures.network c.args.stalled.now old.state c.args.module c.turn-turn.result c.turn-turn.ensures.value (sym c.if-fires.ensures))

pub returns-then-turn-firings-clause-state : goal.returns-then-turn-firings-clause-state
returns-then-turn-firings-clause-state c =
    let old : Machine = c.args.counts.now in
    ap (λ s. record { network = old.network; firings = old.firings; state = s })
    (visit_kept c.args.net.now old.firings c.firings_of-firings.ensures.network c.args.stalled.now old.state c.args.module (sym c.if-fires.ensures))

pub returns-else-turn-firings-clause-state : goal.returns-else-turn-firings-clause-state
returns-else-turn-firings-clause-state c =
    let old : Machine = c.args.counts.now in
    ap (λ s. record { network = old.network; firings = old.firings; state = s })
    (visit_kept c.args.net.now old.firings c.firings_of-firings.ensures.network c.args.stalled.now old.state c.args.module (sym c.if-fires.ensures))

pub returns-then-fires-clause-still_between : goal.returns-then-fires-clause-still_between
returns-then-fires-clause-still_between c =
    let net = c.args.net.now in
    let old : Machine = c.args.counts.now in
    let m = c.args.module in
    let lawful = lawful_on old.network net old.firings old.state c.requires.started c.turn-turn.ensures.lawful in
    subst (λ (x : Machine). IsBetween x.state) (sym (returns-then-fires-clause-state c))
    (IsBetween-visit net old.firings c.firings_of-firings.ensures.network c.args.stalled.now old.state m
    (omega (arith, lawful.whole, c.requires.known)) c.requires.between)
