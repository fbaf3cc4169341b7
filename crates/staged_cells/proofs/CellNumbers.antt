-- The numbers of cells: that of an item that a read takes is that of the cell that it reads.
use Rattle.std.proofs.Common.{◌≡◌, ℕ, ◌+◌, ◌-◌, ◌*◌, ◌<◌, ◌≤◌, List, slice_index, refl, ap, arith, ℤ, pos, negsuc, ◌+ℤ◌, ◌-ℤ◌, ◌≤ℤ◌}
use Rattle.std.proofs.Math.Nat.{mul-le-mul}
use Rattle.std.proofs.lemmas.Int.{ints}
use Rattle.delay_net.specs.Windows.{MeetsWindow, age, at_least_0}
use Rattle.delay_net.specs.declared.net.Read.{Read}

counted : (z : ℤ) → pos 0 ≤ℤ z → pos (at_least_0 z) ≡ z
counted (pos n) h = refl
counted (negsuc n) h = absurd (omega (arith, ints))

-- the age of a read whose window is met
pub age_is : (delays : List ℕ) (r : Read) → MeetsWindow delays r
    → pos (at_least_0 (age delays r)) ≡ (pos (slice_index delays r.reader) -ℤ r.offset) -ℤ pos (slice_index delays r.of)
age_is delays r meets =
    let low : pos 0 ≤ℤ ((pos (slice_index delays r.reader) -ℤ r.offset) -ℤ pos (slice_index delays r.of)) = omega (arith, ints) in
    counted (age delays r) low

module _ (u k a row lane s dx dw : ℕ) (offset : ℤ) (old : pos s ≡ (pos dx -ℤ offset) -ℤ pos dw) (back : row + s ≡ a * u + lane) where
  -- the item is the cell that is read
  pub number_read : a ≤ k → (pos (u * (k - a) + row) -ℤ pos dw) ≡ ((pos (u * k + lane) -ℤ pos dx) +ℤ offset)
  number_read le =
      let n = k - a in
      let whole : n + a ≡ k = omega arith in
      let product : u * (n + a) ≡ u * k = ap (λ z. u * z) whole in
      omega (arith, ints)

  -- before that the cell that is read comes before the first
  pub number_early : k < a → row < u → pos 0 ≤ℤ ((pos (u * k + lane) -ℤ pos dx) +ℤ offset) → ⊥
  number_early lt low from =
      let more : k + 1 ≤ a = omega arith in
      let same : u ≤ u = omega arith in
      let product = mul-le-mul more same in
      omega (arith, ints, product)
