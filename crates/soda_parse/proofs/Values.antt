-- The values of params, counted one size at a time.
use Rattle.std.proofs.Common.{◌≡◌, ℕ, ◌+◌, ◌*◌, ◌<◌, ◌≤◌, List, [], ◌∷◌, length, map, drop, None, refl, sym, ap, ◌∙◌, arith, mul-one}
use Rattle.std.proofs.Math.ListN.{drop_of_length-le}
use Rattle.soda_ir.specs.Points.{size}
use Rattle.soda_parse.specs.ProgramConditions.{first_past, param_products, partial_products}

-- the product of the first sizes is taken, and no sum was too great so far
pub record IsMultiplied (before product index : ℕ) (sizes : List ℕ) : Type 0 where
  pub small : before + product ≤ 65537
  pub after : 0 < index → before + product ≤ 65536
  pub total : product * size (drop index sizes) ≡ size sizes
  pub value : first_past 65536 (map (λ n. before + n) (partial_products product (drop index sizes))) ≡
      first_past 65536 (map (λ n. before + n) (partial_products 1 sizes))

-- what a param with sizes adds
pub multiplied : (before product i : ℕ) (sizes : List ℕ) → IsMultiplied before product i sizes → length sizes ≤ i → (length sizes ≡ 0 → ⊥) →
    (before + product ≤ 65536) × (before + product ≡ before + size sizes) × (first_past 65536 (map (λ n. before + n) (param_products sizes)) ≡ None)
multiplied before product i [] h le some = absurd (some refl)
multiplied before product i (n ∷ ns) h le some =
    let none : drop i (n ∷ ns) ≡ [] = drop_of_length-le (n ∷ ns) le in
    let total : product * 1 ≡ size (n ∷ ns) = ap (λ (rest : List ℕ). product * size rest) (sym none) ∙ h.total in
    let value : None ≡ first_past 65536 (map (λ m. before + m) (partial_products 1 (n ∷ ns))) =
    ap (λ (rest : List ℕ). first_past 65536 (map (λ m. before + m) (partial_products product rest))) (sym none) ∙ h.value in
    (h.after (omega arith), ap (λ m. before + m) (sym (mul-one product) ∙ total), sym value)
