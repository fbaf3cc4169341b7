use Rattle.std.proofs.Common.{true, false, ◌∙◌, sym, ap, refl, arith}
use Rattle.std.proofs.lemmas.Bool.{lt-ltb, le-ltb}
use Rattle.std.specs.List.{list_all}
use Rattle.net_ir.specs.declared.events.Turn.{Turn}
use Rattle.net_ir.specs.Firings.{events}
use Rattle.net_ir.specs.States.{turn_at, is_possible, has_firing}
use Rattle.net_ir.proofs.CycleSteps.{fires_is}
use Rattle.net_ir.proofs.cycle.fires.Goals as goal

pub returns-then-stalled-module : goal.returns-then-stalled-module
returns-then-stalled-module c =
    let state = c.args.counts.now.state in
    fires_is c.args.net.now c.args.counts.now.firings c.args.stalled.now state c.args.module true
    (has_firing c.args.net.now c.args.counts.now.firings state c.args.module)
    (list_all (is_possible c.args.net.now state) (events c.args.net.now c.args.module (turn_at state c.args.module).fired))
    (sym c.if-stalled-module.true) refl refl

pub returns-then-turn-firings_of : goal.returns-then-turn-firings_of
returns-then-turn-firings_of c =
    let state = c.args.counts.now.state in
    fires_is c.args.net.now c.args.counts.now.firings c.args.stalled.now state c.args.module false false
    (list_all (is_possible c.args.net.now state) (events c.args.net.now c.args.module (turn_at state c.args.module).fired))
    (sym c.if-stalled-module.false) (sym (le-ltb _ _ (omega
    (arith, c.if-turn-firings_of.true, c.firings_of.ensures.value, ap (λ (t : Turn). t.fired) c.turn-turn.ensures.value)))) refl

pub returns : goal.returns
returns c =
    let state = c.args.counts.now.state in
    fires_is c.args.net.now c.args.counts.now.firings c.args.stalled.now state c.args.module false true c.all_possible.result
    (sym c.if-stalled-module.false) (sym (lt-ltb _ _ (omega
    (arith, c.if-turn-firings_of.false, c.firings_of.ensures.value, ap (λ (t : Turn). t.fired) c.turn-turn.ensures.value))))
    (c.all_possible.ensures ∙ ap (λ (t : Turn). list_all (is_possible c.args.net.now state)
    (events c.args.net.now c.args.module t.fired)) c.turn-turn.ensures.value)
