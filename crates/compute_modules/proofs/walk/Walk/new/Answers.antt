use Rattle.std.proofs.Common.{◌++◌, List, sym, ◌∙◌, ap, subst, arith}
use Rattle.std.proofs.lemmas.List.{with_items_is}
use Rattle.compute_modules.specs.declared.side.Side.{Side}
use Rattle.compute_modules.specs.pieces.Walks.{StandAt, box, cells_of, moved_sides, sides_of}
use Rattle.compute_modules.proofs.Sides.{box_moved, box_of, cells_by_extents, cells_moved, stands_first}
use Rattle.compute_modules.proofs.walk.Walk.new.Goals as goal

pub invariant_of-result-clause-all : goal.invariant_of-result-clause-all
invariant_of-result-clause-all c =
    let ss = sides_of c.args.extents.now c.args.low.now c.args.high.now in
    let sides = with_items_is c.add_sides.new.sides c.advance.new.sides (c.advance.auto.sides ∙ c.deref_mut.ensures.len) ∙ c.advance.ensures
    ∙ ap (λ (ts : List Side). moved_sides ts c.from-at.result)
    (c.deref_mut.ensures.value ∙ c.in_ok-add_sides.ensures ∙ ap (λ (ts : List Side). ts ++ ss) c.new-sides.ensures.items) in
    c.cells_in-cells.ensures c.requires.small ∙ sym (cells_by_extents c.args.extents.now c.args.low.now c.args.high.now c.requires.low c.requires.high)
    ∙ sym (cells_moved ss c.from-at.result) ∙ ap cells_of (sym sides)

pub invariant_of-result-clause-there : goal.invariant_of-result-clause-there
invariant_of-result-clause-there c =
    let ss = sides_of c.args.extents.now c.args.low.now c.args.high.now in
    let sides = with_items_is c.add_sides.new.sides c.advance.new.sides (c.advance.auto.sides ∙ c.deref_mut.ensures.len) ∙ c.advance.ensures
    ∙ ap (λ (ts : List Side). moved_sides ts c.from-at.result)
    (c.deref_mut.ensures.value ∙ c.in_ok-add_sides.ensures ∙ ap (λ (ts : List Side). ts ++ ss) c.new-sides.ensures.items) in
    let all = cells_by_extents c.args.extents.now c.args.low.now c.args.high.now c.requires.low c.requires.high in
    ∣ subst (λ (ts : List Side). StandAt ts c.from-at.result) (sym sides)
    (stands_first c.args.extents.now c.args.low.now c.args.high.now c.from-at.result (omega (arith, all, c.requires.small))) ∣₁

pub returns-clause-sides : goal.returns-clause-sides
returns-clause-sides c =
    let ss = sides_of c.args.extents.now c.args.low.now c.args.high.now in
    let sides = with_items_is c.add_sides.new.sides c.advance.new.sides (c.advance.auto.sides ∙ c.deref_mut.ensures.len) ∙ c.advance.ensures
    ∙ ap (λ (ts : List Side). moved_sides ts c.from-at.result)
    (c.deref_mut.ensures.value ∙ c.in_ok-add_sides.ensures ∙ ap (λ (ts : List Side). ts ++ ss) c.new-sides.ensures.items) in
    ap box sides ∙ box_moved ss c.from-at.result ∙ box_of c.args.extents.now c.args.low.now c.args.high.now
