use Rattle.std.proofs.Common.{◌≡◌, ◌≤◌, ◌∙◌, length, length-take-le, ap, arith, sym, subst}
use Rattle.net_ir.specs.Nets.{entrances}
use Rattle.net_cycles.specs.machine.Moves.{FilledTo}
use Rattle.net_cycles.proofs.Kept.{counts_after, ports_are, streams_after}
use Rattle.net_cycles.proofs.firing.fire.Goals as goal

pub take_all-requires-clause-filled : goal.take_all-requires-clause-filled
take_all-requires-clause-filled g c =
    let net = c.args.net.now in
    subst (λ k. FilledTo net c.args.rings.now c.args.module k (length (entrances net c.args.module))) (sym c.firing_of.ensures) c.requires.filled

pub fire-done-requires-clause-found : goal.fire-done-requires-clause-found
fire-done-requires-clause-found g c stream agrees =
    let net = c.args.net.now in
    let ready = subst (λ k. FilledTo net c.args.rings.now c.args.module k (length (entrances net c.args.module)))
    (sym c.firing_of.ensures) c.requires.filled in
    let few : length c.entrances.result.now ≤ length c.args.ports.now =
    omega (arith, ap length c.entrances.ensures.value, c.entrances.ensures.few, c.requires.ports) in
    let places : length c.take_all.new.values ≡ length (entrances net c.args.module) =
    c.take_all.auto.values ∙ length-take-le (length c.entrances.result.now) c.args.ports.now few ∙ ap length c.entrances.ensures.value in
    ports_are net c.entrances.ensures.network c.args.fired.now c.args.module c.firing_of.result c.requires.known c.requires.whole
    c.firing_of.ensures c.args.rings.now c.take_all.new.rings c.take_all.new.values c.requires.counts c.take_all.ensures ready
    stream (c.requires.streams stream agrees) places

pub returns-in-Ok-clause-counts : goal.returns-in-Ok-clause-counts
returns-in-Ok-clause-counts g c =
    let net = c.args.net.now in
    let ready = subst (λ k. FilledTo net c.args.rings.now c.args.module k (length (entrances net c.args.module)))
    (sym c.firing_of.ensures) c.requires.filled in
    counts_after net c.entrances.ensures.network c.args.fired.now c.args.module c.firing_of.result c.requires.known c.requires.whole
    c.firing_of.ensures c.args.rings.now c.take_all.new.rings c.take_all.new.values c.requires.counts c.take_all.ensures ready
    c.send_all.new.rings c.fire-done.new.sends c.send_all.ensures

pub returns-in-Err-clause-counts : goal.returns-in-Err-clause-counts
returns-in-Err-clause-counts g c =
    let net = c.args.net.now in
    let ready = subst (λ k. FilledTo net c.args.rings.now c.args.module k (length (entrances net c.args.module)))
    (sym c.firing_of.ensures) c.requires.filled in
    counts_after net c.entrances.ensures.network c.args.fired.now c.args.module c.firing_of.result c.requires.known c.requires.whole
    c.firing_of.ensures c.args.rings.now c.take_all.new.rings c.take_all.new.values c.requires.counts c.take_all.ensures ready
    c.send_all.new.rings c.fire-done.new.sends c.send_all.ensures

pub returns-in-Ok-clause-streams : goal.returns-in-Ok-clause-streams
returns-in-Ok-clause-streams g c stream agrees =
    let net = c.args.net.now in
    let ready = subst (λ k. FilledTo net c.args.rings.now c.args.module k (length (entrances net c.args.module)))
    (sym c.firing_of.ensures) c.requires.filled in
    streams_after net c.entrances.ensures.network c.args.fired.now c.args.module c.firing_of.result c.requires.known c.requires.whole
    c.firing_of.ensures c.args.rings.now c.take_all.new.rings c.take_all.new.values c.requires.counts c.take_all.ensures ready
    c.send_all.new.rings c.fire-done.new.sends c.send_all.ensures stream
    (c.requires.streams stream (c.fire-done.ensures.agrees stream agrees)) (c.in-Ok.ensures.sent stream agrees)
