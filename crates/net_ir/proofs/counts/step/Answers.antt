use Rattle.std.proofs.Common.{ap, sym, ◌∙◌, subst, set, arith}
use Rattle.net_ir.specs.declared.events.Turn.{Turn}
use Rattle.net_ir.specs.States.{Machine, IsLawful, turn_at}
use Rattle.net_ir.proofs.Facts.{lawful_on, can_parts, after_is, elsewhere-after}
use Rattle.net_ir.proofs.Steps.{IsLawful-after}
use Rattle.net_ir.proofs.counts.step.Goals as goal

pub turn_after-next-requires-clause-fired : goal.turn_after-next-requires-clause-fired
turn_after-next-requires-clause-fired c =
    let old : Machine = c.args.counts.now in
    let can = can_parts c.args.net.now old.firings old.state c.args.module c.requires.possible in
    omega (arith, can.0, ap (λ (t : Turn). t.fired) c.turn-turn.ensures.value, c.turn-turn.ensures.small)

pub set_turn-requires-clause-lawful : goal.set_turn-requires-clause-lawful
set_turn-requires-clause-lawful c =
    let net = c.args.net.now in
    let old : Machine = c.args.counts.now in
    let m = c.args.module in
    let lawful = lawful_on old.network net old.firings old.state c.requires.started c.turn-turn.ensures.lawful in
    let can = can_parts net old.firings old.state m c.requires.possible in
    let same = after_is net old.state m c.turn-turn.result c.turn_after-next.result c.next_event.result c.turn-turn.ensures.value c.next_event.ensures.value c.turn_after-next.ensures in
    lawful_on net old.network old.firings (set old.state m c.turn_after-next.result) (sym c.requires.started)
    (subst (IsLawful net old.firings) (sym same) (IsLawful-after net old.firings old.state m lawful c.requires.known can.0 can.1))

pub returns-clause-after : goal.returns-clause-after
returns-clause-after c =
    let net = c.args.net.now in
    let old : Machine = c.args.counts.now in
    let same = after_is net old.state c.args.module c.turn-turn.result c.turn_after-next.result c.next_event.result c.turn-turn.ensures.value c.next_event.ensures.value c.turn_after-next.ensures in
    c.set_turn.ensures ∙ ap (λ s. record { network = old.network; firings = old.firings; state = s }) same

pub returns-clause-lawful : goal.returns-clause-lawful
returns-clause-lawful c =
    let net = c.args.net.now in
    let old : Machine = c.args.counts.now in
    let m = c.args.module in
    let lawful = lawful_on old.network net old.firings old.state c.requires.started c.turn-turn.ensures.lawful in
    let can = can_parts net old.firings old.state m c.requires.possible in
    subst (λ (x : Machine). IsLawful net x.firings x.state) (sym (returns-clause-after c))
    (IsLawful-after net old.firings old.state m lawful c.requires.known can.0 can.1)

pub returns-clause-others : goal.returns-clause-others
returns-clause-others c =
    λ n ne. ap (λ (x : Machine). turn_at x.state n) (returns-clause-after c) ∙ elsewhere-after c.args.net.now c.args.counts.now.state c.args.module n ne
