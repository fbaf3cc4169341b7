use Rattle.std.proofs.Common.{arith}
use Rattle.std.proofs.lemmas.Bool.Decides.{nat_tests}
use Rattle.ring_region.proofs.PartSteps.{part_holds}
use Rattle.ring_region.proofs.rings.Rings.is_empty.Goals as goal

pub returns : goal.returns
returns c =
    let holds = part_holds c.self.inside.region.items c.self.inside.parts.items c.args.self.now c.self.invariant c.self.view_is
    c.args.queue c.requires c.index.result.now c.index.ensures in
    grind (arith, nat_tests, holds.0)
