use Rattle.std.proofs.Common.{arith}
use Rattle.ring_region.proofs.PartSteps.{part_holds}
use Rattle.ring_region.proofs.rings.Rings.held.Goals as goal

pub returns-clause-held : goal.returns-clause-held
returns-clause-held c =
    let holds = part_holds c.self.inside.region.items c.self.inside.parts.items c.args.self.now c.self.invariant c.self.view_is
    c.args.queue c.requires c.index.result.now c.index.ensures in
    omega (arith, holds.0)

pub returns-clause-within : goal.returns-clause-within
returns-clause-within c =
    let holds = part_holds c.self.inside.region.items c.self.inside.parts.items c.args.self.now c.self.invariant c.self.view_is
    c.args.queue c.requires c.index.result.now c.index.ensures in
    omega (arith, holds.1, holds.2)
