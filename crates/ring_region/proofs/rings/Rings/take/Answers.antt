use Rattle.std.proofs.Common.{◌∙◌, arith, rules}
use Rattle.std.proofs.lemmas.Int.{to_z-of_z}
use mir.Syntax.{w128}
use mir.Val.{SFits}
use Rattle.ring_region.proofs.PartSteps.{part_holds, take_parts, take_fifos, take_first}
use Rattle.ring_region.proofs.rings.Rings.take.Goals as goal

pub overflow_sub-part : goal.overflow_sub-part
overflow_sub-part c =
    let holds = part_holds c.self.inside.region.items c.self.inside.parts.items c.args.self.now c.self.invariant c.self.view_is
    c.args.queue c.requires.known c.index.result.now c.index.ensures in
    omega (arith, holds.0, c.requires.filled)

pub invariant_of-self : goal.invariant_of-self
invariant_of-self c =
    let inside = c.self.inside in
    let p = c.index.result.now in
    let holds = part_holds inside.region.items inside.parts.items c.args.self.now c.self.invariant c.self.view_is c.args.queue
    c.requires.known p c.index.ensures in
    take_parts inside.region.items inside.parts.items c.args.self.now c.self.invariant c.self.view_is c.args.queue
    c.requires.known p c.index.ensures c.next_place.result c.next_place.ensures (omega (arith, holds.0, c.requires.filled))

pub returns-clause-value : goal.returns-clause-value
returns-clause-value c =
    let inside = c.self.inside in
    let p = c.index.result.now in
    let holds = part_holds inside.region.items inside.parts.items c.args.self.now c.self.invariant c.self.view_is c.args.queue
    c.requires.known p c.index.ensures in
    let fits : SFits w128 c.index-value.result.now = search rules in
    to_z-of_z w128 c.index-value.result.now fits
    ∙ take_first inside.region.items inside.parts.items c.args.self.now c.self.invariant c.self.view_is c.args.queue
    c.requires.known p c.index.ensures c.index-value.result.now c.index-value.ensures (omega (arith, holds.0, c.requires.filled))

pub returns-clause-rest : goal.returns-clause-rest
returns-clause-rest c =
    let inside = c.self.inside in
    let p = c.index.result.now in
    let holds = part_holds inside.region.items inside.parts.items c.args.self.now c.self.invariant c.self.view_is c.args.queue
    c.requires.known p c.index.ensures in
    take_fifos inside.region.items inside.parts.items c.args.self.now c.self.invariant c.self.view_is c.args.queue
    c.requires.known p c.index.ensures c.next_place.result c.next_place.ensures (omega (arith, holds.0, c.requires.filled))
