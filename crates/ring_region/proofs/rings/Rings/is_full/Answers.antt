use Rattle.std.proofs.Common.{arith}
use Rattle.std.proofs.lemmas.Bool.Decides.{nat_tests}
use Rattle.ring_region.proofs.PartSteps.{part_holds}
use Rattle.ring_region.proofs.rings.Rings.is_full.Goals as goal

pub returns-clause-full : goal.returns-clause-full
returns-clause-full c =
    let holds = part_holds c.self.inside.region.items c.self.inside.parts.items c.args.self.now c.self.invariant c.self.view_is
    c.args.queue c.requires c.index-part.result.now c.index-part.ensures in
    grind (arith, nat_tests, holds.0, holds.1)

pub returns-clause-within : goal.returns-clause-within
returns-clause-within c =
    let holds = part_holds c.self.inside.region.items c.self.inside.parts.items c.args.self.now c.self.invariant c.self.view_is
    c.args.queue c.requires c.index-part.result.now c.index-part.ensures in
    omega (arith, holds.0, holds.1, holds.2)
