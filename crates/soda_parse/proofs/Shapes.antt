-- The refusal of a shape, put together.
use Rattle.std.proofs.Common.{◌≡◌, ℕ, Bool, Option, ap, ◌∙◌}
use Rattle.soda_parse.specs.Text.{shape_by}
use Rattle.soda_parse.specs.declared.refusal.Refusal.{Refusal}

-- a refusal of the shape by equal findings is the same
pub shaped : (r : Option Refusal) (a b : Option ℕ) (c d e f : Bool) (g h : Option ℕ) → r ≡ shape_by a c e g → a ≡ b → c ≡ d → e ≡ f → g ≡ h →
    r ≡ shape_by b d f h
shaped r a b c d e f g h is p q s t =
    is ∙ (ap (λ (x : Option ℕ). shape_by x c e g) p ∙ (ap (λ (x : Bool). shape_by b x e g) q ∙
    (ap (λ (x : Bool). shape_by b d x g) s ∙ ap (λ (x : Option ℕ). shape_by b d f x) t)))
