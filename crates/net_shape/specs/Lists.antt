-- Lists put together.
use Rattle.std.specs.Prelude.{ℕ, zero, suc, List, [], ◌++◌}

-- the lists at the numbers below n, one after the other
unfoldable pub joined : {A : Type 0} → (ℕ → List A) → (n : ℕ) → List A
joined f zero = []
joined f (suc n) = joined f n ++ f n
