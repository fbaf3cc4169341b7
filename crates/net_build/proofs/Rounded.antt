-- Division that is rounded up.
use Rattle.std.proofs.Common.{ℕ, ◌+◌, ◌-◌, ◌*◌, ◌/◌, ◌<◌, ◌≤◌, ◌↔◌, arith, ⊎_elim}
use Rattle.std.proofs.Math.Nat.{mul-le-mul_left}
use Rattle.std.proofs.lemmas.Bool.{cases_lt}

-- a quotient that is rounded up is at most a number exactly where the whole is at most that many times the divisor
pub rounded_up : (a u n : ℕ) → 0 < u → ((a + (u - 1)) / u ≤ n) ↔ (a ≤ u * n)
rounded_up a u n h =
    let q = (a + (u - 1)) / u in (
      λ (le : q ≤ n). omega (arith, mul-le-mul_left u le),
      λ (le : a ≤ u * n). ⊎_elim (λ (lt : n < q). let up : n + 1 ≤ q = omega arith in absurd (omega (arith, mul-le-mul_left u up)))
          (λ (ge : q ≤ n). ge) (cases_lt n q),
    )
