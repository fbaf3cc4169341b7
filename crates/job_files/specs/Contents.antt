-- What names hold while a job writes its outputs.
use Rattle.std.specs.Prelude.{◌≡◌, ◌≢◌, ℕ, ◌≤◌, List, [], ◌∷◌, ◌++◌, length, map, take, Option, Some, Result, All, OnOk}
use Rattle.soda_io.specs.declared.error.IoErr.{IoErr}

-- what each name holds
abbrev pub Holding : Type 0
Holding = List ℕ → Option (List ℕ)

-- a name that is there, whatever it holds
abbrev pub IsThere : Holding → List ℕ → Type 0
IsThere holding name = (bytes : List ℕ) × (holding name ≡ Some bytes)

-- an output that holds nothing
abbrev pub emptied : List ℕ → List ℕ × List ℕ
emptied name = (name, [])

-- none of the outputs has this name
abbrev pub IsNoneOf : List (List ℕ × List ℕ) → List ℕ → Type 0
IsNoneOf outputs name = All (λ output. output.0 ≢ name) outputs

-- no two of the outputs have one name
abbrev pub AreApart : List (List ℕ × List ℕ) → Type 0
AreApart [] = Unit {0}
AreApart (output ∷ outputs) = IsNoneOf outputs output.0 × AreApart outputs

-- the outputs, each with a name of its own, hold these bytes, and every other name what it held before
pub record Holds (before now : Holding) (outputs : List (List ℕ × List ℕ)) : Type 0 where
  pub apart : AreApart outputs
  pub own : All (λ output. now output.0 ≡ Some output.1) outputs
  pub others : (name : List ℕ) → IsNoneOf outputs name → now name ≡ before name

-- a prefix of the bytes was put behind what was there, and at Ok all of them
pub record PutsFront (old new bytes : List ℕ) (result : Result (Unit {0}) IoErr) : Type 0 where
  pub count : ℕ
  pub at_most : count ≤ length bytes
  pub all : OnOk result (count ≡ length bytes)
  pub put : new ≡ old ++ take count bytes

-- the output of this name, which stands between these others and held `so_far`, gets a prefix of the bytes; no other
-- changes
pub record PutsTo (before after : Holding) (front : List (List ℕ × List ℕ)) (name so_far : List ℕ)
    (back : List (List ℕ × List ℕ)) (bytes : List ℕ) (result : Result (Unit {0}) IoErr) : Type 0 where
  pub now : List ℕ
  pub puts : PutsFront so_far now bytes result
  pub holds : Holds before after (front ++ (name, now) ∷ back)

-- the first so many of the names were emptied, and no other changed: behind these outputs they hold nothing
abbrev pub Empties : (before after : Holding) → List (List ℕ × List ℕ) → List (List ℕ) → ℕ → Type 0
Empties before after outputs names count = Holds before after (outputs ++ map emptied (take count names))
