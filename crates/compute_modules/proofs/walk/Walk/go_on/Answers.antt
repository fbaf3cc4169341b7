use Rattle.std.proofs.Common.{◌+◌, List, sym, ◌∙◌, ap, subst, arith}
use Rattle.std.proofs.lemmas.List.{with_items_is}
use Rattle.std.proofs.Math.Logic.{∥∥₁_map}
use Rattle.compute_modules.specs.declared.side.Side.{Side}
use Rattle.compute_modules.specs.pieces.Walks.{StandAt, box, cells_of, moved_sides}
use Rattle.compute_modules.proofs.Sides.{box_moved, cells_moved, stands_on}
use Rattle.compute_modules.proofs.walk.Walk.go_on.Goals as goal

pub invariant_of-self-clause-all : goal.invariant_of-self-clause-all
invariant_of-self-clause-all c =
    let sides = with_items_is c.args.self.now.sides c.advance.new.sides (c.advance.auto.sides ∙ c.deref_mut.ensures.len) ∙ c.advance.ensures ∙ ap (λ (ss : List Side). moved_sides ss c.saturating_sub-count.result) c.deref_mut.ensures.value in
    c.args.self.now.all ∙ sym (cells_moved c.args.self.now.sides.items c.saturating_sub-count.result) ∙ ap cells_of (sym sides)

pub invariant_of-self-clause-there : goal.invariant_of-self-clause-there
invariant_of-self-clause-there c =
    let sides = with_items_is c.args.self.now.sides c.advance.new.sides (c.advance.auto.sides ∙ c.deref_mut.ensures.len) ∙ c.advance.ensures ∙ ap (λ (ss : List Side). moved_sides ss c.saturating_sub-count.result) c.deref_mut.ensures.value in
    ∥∥₁_map c.args.self.now.there (λ stands. subst (λ (ss : List Side). StandAt ss (c.args.self.now.at + c.saturating_sub-count.result)) (sym sides)
    (stands_on c.args.self.now.sides.items c.args.self.now.at c.saturating_sub-count.result (omega (arith, c.args.self.now.all, c.args.self.now.fit)) stands))

pub returns-clause-sides : goal.returns-clause-sides
returns-clause-sides c =
    let sides = with_items_is c.args.self.now.sides c.advance.new.sides (c.advance.auto.sides ∙ c.deref_mut.ensures.len) ∙ c.advance.ensures ∙ ap (λ (ss : List Side). moved_sides ss c.saturating_sub-count.result) c.deref_mut.ensures.value in
    ap box sides ∙ box_moved c.args.self.now.sides.items c.saturating_sub-count.result
