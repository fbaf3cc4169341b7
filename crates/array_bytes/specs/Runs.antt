-- The runs of bytes that white space separates, and the whole cells of raw bytes.
use Rattle.std.specs.Prelude.{ℕ, zero, suc, Bool, true, false, ◌||◌, ◌==◌, nat_le, if◌then◌else◌, List, [], ◌∷◌, length, take, drop}
use Rattle.std.specs.List.{filter}

-- array white space: tab, line feed, form feed, carriage return and blank
abbrev pub is_space : ℕ → Bool
is_space b = b == 9 || b == 10 || b == 12 || b == 13 || b == 32

-- a byte put before the first of some fields
abbrev pub put_first : ℕ → List (List ℕ) → List (List ℕ)
put_first b [] = (b ∷ []) ∷ []
put_first b (f ∷ fs) = (b ∷ f) ∷ fs

-- the fields of a text: what stands before, between and behind its bytes of white space, some of it empty
abbrev pub fields : List ℕ → List (List ℕ)
fields [] = [] ∷ []
fields (b ∷ bs) = if is_space b then [] ∷ fields bs else put_first b (fields bs)

-- the last field, which no white space ends
abbrev pub last_field : List (List ℕ) → List ℕ
last_field [] = []
last_field (f ∷ []) = f
last_field (f ∷ g ∷ fs) = last_field (g ∷ fs)

-- the fields before the last, each of which white space ends
abbrev pub ended_fields : List (List ℕ) → List (List ℕ)
ended_fields [] = []
ended_fields (f ∷ []) = []
ended_fields (f ∷ g ∷ fs) = f ∷ ended_fields (g ∷ fs)

-- a field that isn't empty is a run
abbrev pub is_run : List ℕ → Bool
is_run [] = false
is_run (b ∷ bs) = true

-- the runs of bytes that aren't white space
unfoldable pub runs : List ℕ → List (List ℕ)
runs bs = filter is_run (fields bs)

-- those that white space ends
unfoldable pub ended_runs : List ℕ → List (List ℕ)
ended_runs bs = filter is_run (ended_fields (fields bs))

-- the run that the bytes end in, which may go on behind them; empty where they end in white space
unfoldable pub open_run : List ℕ → List ℕ
open_run bs = last_field (fields bs)

-- the whole cells of so many bytes each that the bytes begin with, at most n
unfoldable pub whole_cells : ℕ → ℕ → List ℕ → List (List ℕ)
whole_cells size zero bs = []
whole_cells size (suc n) bs =
    if nat_le size (length bs) then take size bs ∷ whole_cells size n (drop size bs) else []
