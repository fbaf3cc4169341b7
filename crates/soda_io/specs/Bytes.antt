-- What a sink has taken.
use Rattle.std.specs.Prelude.{◌≡◌, ℕ, List, ◌++◌, take, true, is_some, MatchResult, Ok, Err}
use Rattle.std.specs.Prelude.{Option}
use Rattle.std.specs.Prelude.{Result}
use Rattle.soda_io.specs.declared.error.IoErr.{IoErr}
use Rattle.soda_io.specs.declared.error.IoErr.TheVariants.{Failed, Memory}

-- at `Ok n` the first n bytes were taken, and else nothing
abbrev pub Takes : List ℕ → List ℕ → List ℕ → Result ℕ IoErr → Type 0
Takes before now bytes result = MatchResult result (λ n. now ≡ before ++ take n bytes) (λ _. now ≡ before)

-- a type of writer each value of which tells what it holds
abbrev pub Tells : {W : Type 0} → (W → Option (List ℕ)) → Type 0
Tells {W} contents = (w : W) → is_some (contents w) ≡ true

-- how many calls that answered `Ok` or `Failed` this is: 1 or 0
abbrev pub answered : {T : Type 0} → Result T IoErr → ℕ
answered (Ok v) = 1
answered (Err Failed) = 1
answered (Err Memory) = 0
