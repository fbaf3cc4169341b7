use Rattle.std.proofs.Common.{◌<◌, ◌-◌, arith}
use Rattle.std.proofs.lemmas.Int.{to_z-of_z}
use mir.Syntax.{w128}
use Rattle.ring_region.proofs.PartSteps.{part_holds, put_parts, put_fifos}
use Rattle.ring_region.proofs.rings.Rings.put.Goals as goal

pub invariant_of-self : goal.invariant_of-self
invariant_of-self c =
    let inside = c.self.inside in
    let p = c.index.result.now in
    let holds = part_holds inside.region.items inside.parts.items c.args.self.now c.self.invariant c.self.view_is c.args.queue
    c.requires.known p c.index.ensures in
    let room : p.held < p.end - p.begin = omega (arith, holds.0, holds.1, c.requires.room) in
    put_parts inside.region.items inside.parts.items c.args.self.now c.self.invariant c.self.view_is c.args.queue
    c.requires.known p c.index.ensures _ c.next_place.result c.next_place.ensures room

pub returns : goal.returns
returns c =
    let inside = c.self.inside in
    let p = c.index.result.now in
    let holds = part_holds inside.region.items inside.parts.items c.args.self.now c.self.invariant c.self.view_is c.args.queue
    c.requires.known p c.index.ensures in
    let room : p.held < p.end - p.begin = omega (arith, holds.0, holds.1, c.requires.room) in
    put_fifos inside.region.items inside.parts.items c.args.self.now c.self.invariant c.self.view_is c.args.queue
    c.requires.known p c.index.ensures c.args.value _ c.next_place.result (to_z-of_z w128 c.args.value c.ranges.value)
    c.next_place.ensures room
