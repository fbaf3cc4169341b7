-- A run ends once.
use Rattle.std.proofs.Common.{◌≡◌, ◌<◌, ◌≤◌, ℕ, zero, suc, Bool, List, [], ◌∷◌, take, arith, refl, sym, ap, subst, ◌∙◌, inl, inr}
use Rattle.std.proofs.Math.Nat.{eq-or-lt_of_le}
use Rattle.std.proofs.lemmas.List.{take-append-le, take_all}
use Rattle.net_ir.specs.Nets.{Net}
use Rattle.net_ir.specs.States.{IsFinished, zeros}
use Rattle.net_ir.specs.CycleRun.{cycles}
use Rattle.soda_ir.specs.Points.{listed}
use Rattle.soda_ir.proofs.CallerLemmas.{length-listed}
use Rattle.sim_course.specs.Course.{EndsAfter}

-- neither of two numbers is below the other
neither_below : (a b : ℕ) → (a < b → ⊥) → (b < a → ⊥) → a ≡ b
neither_below a b f g = omega (arith, f, g)

-- the first of the values at more numbers
first_listed : {A : Type 0} → (f : ℕ → A) (k n : ℕ) → k ≤ n → take k (listed f n) ≡ listed f k
first_listed f zero zero le = refl
first_listed f (suc k) zero le = absurd (omega (arith, le))
first_listed f k (suc n) le =
    elim (eq-or-lt_of_le le) [
      | inl same ↦ take_all k (listed f (suc n)) (omega (arith, same, length-listed f (suc n))) ∙ ap (λ (i : ℕ). listed f i) (sym same)
      | inr below ↦ take-append-le k (listed f n) (f n ∷ []) (omega (arith, below, length-listed f n))
          ∙ first_listed f k n (omega (arith, below))
    ]

module _ (net : Net) (firings : ℕ) (flags : ℕ → List Bool) where
  not_later : (count other : ℕ) → EndsAfter net firings flags count → EndsAfter net firings flags other → count < other → ⊥
  not_later count other x y lt =
      let P : List (List Bool) → Type 0 = λ s. IsFinished net firings (cycles net firings s (zeros net)) in
      y.1 count (omega (arith, lt, length-listed flags other)) (subst P (sym (first_listed flags count other (omega (arith, lt)))) x.0)

  pub one_end : (count other : ℕ) → EndsAfter net firings flags count → EndsAfter net firings flags other → count ≡ other
  one_end count other x y = neither_below count other (not_later count other x y) (not_later other count y x)
