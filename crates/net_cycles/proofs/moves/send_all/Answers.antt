use Rattle.std.proofs.Common.{◌≡◌, ◌<◌, ℕ, ℤ, List, length, get_or, ap, pos, sym, subst, arith, rules}
use Rattle.std.proofs.lemmas.Int.{to_z-of_z}
use mir.Syntax.{w128}
use mir.Val.{SFits}
use Rattle.net_ir.specs.Nets.{exits}
use Rattle.ring_region.specs.Fifos.{Fifo, fifo_at}
use Rattle.net_cycles.specs.machine.Moves.{exit}
use Rattle.net_cycles.proofs.Steps.{next_exit, send_step_at}
use Rattle.net_cycles.proofs.moves.send_all.Goals as goal

pub put-requires-clause-room : goal.put-requires-clause-room
put-requires-clause-room c =
    let net = c.args.net.now in
    let j = c.loop-place.place in
    let h : j < length (exits net c.args.module) = omega (arith, ap length c.exits-ports.ensures.value) in
    let is : get_or c.exits-ports.result.now j 0 ≡ exit net c.args.module j =
    ap (λ (xs : List ℕ). get_or xs j 0) c.exits-ports.ensures.value in
    let same = next_exit net c.args.module j c.args.rings.now c.loop-place.rings c.args.values.now h c.loop-place.invariant in
    subst (λ y. length (fifo_at c.loop-place.rings y).items < (fifo_at c.loop-place.rings y).capacity) (sym is)
    (subst (λ (f : Fifo). length f.items < f.capacity) (sym same) (c.requires.roomy j h))

pub loop-place-preserved : goal.loop-place-preserved
loop-place-preserved c =
    let net = c.args.net.now in
    let j = c.loop-place.place in
    let x : ℕ = get_or c.exits-ports.result.now j 0 in
    let h : j < length (exits net c.args.module) = omega (arith, ap length c.exits-ports.ensures.value) in
    let is : x ≡ exit net c.args.module j = ap (λ (xs : List ℕ). get_or xs j 0) c.exits-ports.ensures.value in
    let known : x < length net.queues = subst (λ y. y < length net.queues) (sym is) (c.exits-ports.ensures.known j 0 h) in
    let value : ℤ = get_or c.args.values.now j (pos 0) in
    let fits : SFits w128 value = search rules in
    send_step_at net c.args.module j c.args.rings.now c.loop-place.rings c.put.new.self c.args.values.now _ x is
    (to_z-of_z w128 value fits) h
    (omega (arith, known, c.loop-place.invariant.count, c.requires.count)) c.loop-place.invariant c.put.ensures
