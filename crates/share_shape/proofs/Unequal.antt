-- Formulas that are not shift-equal: of two sizes, or one with a cell and one without.
use Rattle.std.proofs.Common.{◌≡◌, Bool, true, false, List, map, ℤ, refl, sym, ◌∙◌, ap}
use Rattle.std.specs.Prelude.{neg_ℤ}
use Rattle.std.proofs.lemmas.Bool.{false≢true}
use Rattle.soda_ir.specs.Formula.{Formula, number, read, param, unary, binary, choice, cast}
use Rattle.share_shape.specs.Shifts.{are_shift_equal, first_offset, has_cell, shifted}
use Rattle.share_shape.specs.Sizes.{joined, size}
use Rattle.share_shape.proofs.Counting.{same_cell}
use Rattle.share_shape.proofs.Same.{one_base}

no_hit_by : (c f : Formula) (b : Bool) → are_shift_equal c f ≡ b → has_cell c ≡ true → has_cell f ≡ false → b ≡ false
no_hit_by c f true e h k = absurd (false≢true (sym k ∙ sym (same_cell c f e) ∙ h))
no_hit_by c f false e h k = λ i. false

-- a formula with no cell is shift-equal to none that has one
pub no_hit : (c f : Formula) → has_cell c ≡ true → has_cell f ≡ false → are_shift_equal c f ≡ false
no_hit c f h k = no_hit_by c f (are_shift_equal c f) (λ i. are_shift_equal c f) h k

size_shifted : (v : List ℤ) (f : Formula) → size (shifted v f) ≡ size f
size_shifted v (number n) = refl
size_shifted v (read t o) = refl
size_shifted v (param p k) = refl
size_shifted v (unary op a) = ap (joined 0) (size_shifted v a)
size_shifted v (binary op a b) = ap (λ m. joined m (size (shifted v b))) (size_shifted v a) ∙ ap (joined (size a)) (size_shifted v b)
size_shifted v (choice c a b) =
    ap (λ m. joined m (joined (size (shifted v a)) (size (shifted v b)))) (size_shifted v c)
    ∙ ap (λ m. joined (size c) (joined m (size (shifted v b)))) (size_shifted v a)
    ∙ ap (λ m. joined (size c) (joined (size a) m)) (size_shifted v b)
size_shifted v (cast t a) = ap (joined 0) (size_shifted v a)

same_size : (f g : Formula) → are_shift_equal f g ≡ true → size f ≡ size g
same_size f g e =
    sym (size_shifted (map neg_ℤ (first_offset f)) f) ∙ ap size (one_base f g e) ∙ size_shifted (map neg_ℤ (first_offset g)) g

unequal_by : (f g : Formula) (b : Bool) → are_shift_equal f g ≡ b → (size f ≡ size g → ⊥) → b ≡ false
unequal_by f g true e h = absurd (h (same_size f g e))
unequal_by f g false e h = refl

-- formulas of two sizes are not shift-equal
pub unequal : (f g : Formula) → (size f ≡ size g → ⊥) → are_shift_equal f g ≡ false
unequal f g h = unequal_by f g (are_shift_equal f g) refl h
