use Rattle.std.proofs.Common.{arith, ◌≡◌, ℕ, ◌*◌, ◌∙◌, ap, sym, List, [], ◌∷◌, ◌++◌}
use Rattle.std.proofs.Math.Nat.{mul_assoc}
use Rattle.soda_ir.specs.Points.{size}

-- an array has as many cells as its fixed extents and its rows say
pub size_rows : (ns : List ℕ) (rows : ℕ) → size (ns ++ rows ∷ []) ≡ size ns * rows
size_rows [] rows = omega arith
size_rows (n ∷ ns) rows = ap (λ k. n * k) (size_rows ns rows) ∙ sym (mul_assoc n (size ns) rows)
