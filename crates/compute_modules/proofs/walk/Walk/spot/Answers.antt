use Rattle.std.proofs.Common.{◌≡◌, ◌<◌, true, false, sym, ◌∙◌, ap, arith}
use Rattle.std.specs.List.{list_all}
use Rattle.std.proofs.Math.Bool.{Bool-set}
use Rattle.std.proofs.Math.Logic.{∥∥₁_elim}
use Rattle.compute_modules.specs.pieces.Walks.{cells_of, keeps_side}
use Rattle.compute_modules.proofs.Walks.{spot_past, spot_there}
use Rattle.compute_modules.proofs.walk.Walk.spot.Goals as goal

pub returns-then-self : goal.returns-then-self
returns-then-self c =
    spot_past c.args.self.now.sides.items c.args.self.now.at c.args.self.now.early (omega (arith, c.if-self-ne0.false)) (omega (arith, c.if-self.true, c.args.self.now.all))

pub returns-then-keep : goal.returns-then-keep
returns-then-keep c =
    let w = c.args.self.now in
    let within : w.at < cells_of w.sides.items = omega (arith, c.if-self.false, w.all) in
    let keeps : list_all keeps_side w.sides.items ≡ true = ap (list_all keeps_side) (sym c.deref.ensures.value) ∙ sym c.keep.ensures ∙ c.if-keep.true in
    spot_there w.sides.items w.at w.early true (omega (arith, c.if-self-ne0.false)) within
    (∥∥₁_elim w.there (Bool-set _ _) (λ stands. ap (list_all keeps_side) (sym (stands within)) ∙ keeps))

pub returns-else-keep : goal.returns-else-keep
returns-else-keep c =
    let w = c.args.self.now in
    let within : w.at < cells_of w.sides.items = omega (arith, c.if-self.false, w.all) in
    let keeps : list_all keeps_side w.sides.items ≡ false = ap (list_all keeps_side) (sym c.deref.ensures.value) ∙ sym c.keep.ensures ∙ c.if-keep.false in
    spot_there w.sides.items w.at w.early false (omega (arith, c.if-self-ne0.false)) within
    (∥∥₁_elim w.there (Bool-set _ _) (λ stands. ap (list_all keeps_side) (sym (stands within)) ∙ keeps))
