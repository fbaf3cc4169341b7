use Rattle.std.proofs.Common.{◌∙◌, ℤ, List, pos, length, get_or, ap}
use Rattle.ring_region.specs.Fifos.{place_of}
use Rattle.ring_region.proofs.PartSteps.{region_filled, items_lie, first_inside, items_few}
use Rattle.ring_region.proofs.rings.Rings.region.Goals as goal

pub returns-clause-filled : goal.returns-clause-filled
returns-clause-filled c =
    ap length c.deref.ensures.value
    ∙ region_filled c.self.inside.region.items c.self.inside.parts.items c.args.self.now c.self.invariant c.self.view_is

pub returns-clause-items : goal.returns-clause-items
returns-clause-items c q i h less =
    ap (λ (xs : List ℤ). get_or xs (place_of c.args.self.now q i) (pos 0)) c.deref.ensures.value
    ∙ items_lie c.self.inside.region.items c.self.inside.parts.items c.args.self.now c.self.invariant c.self.view_is q i h less

pub returns-clause-first : goal.returns-clause-first
returns-clause-first c =
    first_inside c.self.inside.region.items c.self.inside.parts.items c.args.self.now c.self.invariant c.self.view_is

pub returns-clause-few : goal.returns-clause-few
returns-clause-few c =
    items_few c.self.inside.region.items c.self.inside.parts.items c.args.self.now c.self.invariant c.self.view_is
