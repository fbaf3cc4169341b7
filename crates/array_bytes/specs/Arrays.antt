-- The cells of an array's file, and its first fault.
use Rattle.std.specs.Prelude.{◌≡◌, ◌≤◌, ℕ, zero, suc, ◌+◌, ◌*◌, Bool, nat_lt, if◌then◌else◌, List, [], ◌∷◌, map, length, take, ℤ, All}
use Rattle.std.specs.Prelude.{Option, Some, None}
use Rattle.soda_words.specs.IntType.{IntType}
use Rattle.int_types.specs.Ranges.{InRange}
use Rattle.array_bytes.specs.Sizes.{cell_size, most_bytes}
use Rattle.array_bytes.specs.Runs.{runs, ended_runs, whole_cells}
use Rattle.array_bytes.specs.Values.{text_value, raw_value, is_of}
use Rattle.array_bytes.specs.declared.form.Form.{Form}
use Rattle.array_bytes.specs.declared.form.Form.TheVariants.{Text, Raw}
use Rattle.array_bytes.specs.declared.fault.CellFault.{CellFault}
use Rattle.array_bytes.specs.declared.fault.CellFault.TheVariants.{BadCell, CellRange, TooFew, TooMany, TooLong}

-- what the bytes of a file show of its cells
pub record Shown : Type 0 where
  -- the number of each run whose end is known, in order; None for one that is no cell
  pub values : List (Option ℤ)
  -- the fault where so many cells are good and there is no further run
  pub short : ℕ → CellFault
  -- the fault behind the last of the cells, if there is one
  pub rest : Option CellFault

-- a text of n cells has more bytes than it may have
abbrev pub is_long : ℕ → List ℕ → Bool
is_long n bytes = nat_lt (most_bytes n) (length bytes)

-- a text of n cells has a run behind them
abbrev pub has_more : ℕ → List ℕ → Bool
has_more n bytes = nat_lt n (length (runs bytes))

-- what the bytes that are read of a text show, where there are more than it may have: the last run has no end
abbrev pub cut_shown : ℕ → List ℕ → Shown
cut_shown n bytes = record {
  values = map text_value (ended_runs bytes);
  short = λ i. TooLong;
  rest = Some (if has_more n bytes then TooMany else TooLong);
}

-- what the bytes of another text show
abbrev pub full_shown : ℕ → List ℕ → Shown
full_shown n bytes = record {
  values = map text_value (runs bytes);
  short = λ i. TooFew i;
  rest = if has_more n bytes then Some TooMany else None;
}

-- what a text shows
unfoldable pub text_shown : ℕ → List ℕ → Shown
text_shown n bytes = if is_long n bytes then cut_shown n (take (most_bytes n) bytes) else full_shown n bytes

-- what raw bytes show
unfoldable pub raw_shown : IntType → ℕ → List ℕ → Shown
raw_shown t n bytes = record {
  values = map (λ run. Some (raw_value t run)) (whole_cells (cell_size t) n bytes);
  short = λ i. TooFew i;
  rest = if nat_lt (n * cell_size t) (length bytes) then Some TooMany else None;
}

abbrev pub shown : Form → IntType → ℕ → List ℕ → Shown
shown Text t n bytes = text_shown n bytes
shown Raw t n bytes = raw_shown t n bytes

-- the numbers before the first that isn't there or is none of the type's, at most n
abbrev pub good_of : IntType → ℕ → List (Option ℤ) → List ℤ
good_of t zero vs = []
good_of t (suc n) [] = []
good_of t (suc n) (None ∷ vs) = []
good_of t (suc n) (Some v ∷ vs) = if is_of t v then v ∷ good_of t n vs else []

-- the first fault where n cells are still to come, of which the first has the number i
abbrev pub fault_from : IntType → ℕ → ℕ → List (Option ℤ) → (ℕ → CellFault) → Option CellFault → Option CellFault
fault_from t i zero vs short rest = rest
fault_from t i (suc n) [] short rest = Some (short i)
fault_from t i (suc n) (None ∷ vs) short rest = Some (BadCell i)
fault_from t i (suc n) (Some v ∷ vs) short rest =
    if is_of t v then fault_from t (i + 1) n vs short rest else Some (CellRange i)

-- the good cells of a file of n cells: those before its first fault
unfoldable pub good_cells : Form → IntType → ℕ → List ℕ → List ℤ
good_cells form t n bytes = good_of t n (shown form t n bytes).values

-- its first fault, if it has one; it stands at the number of good cells, and at the end where these are n
unfoldable pub first_fault : Form → IntType → ℕ → List ℕ → Option CellFault
first_fault form t n bytes =
    fault_from t 0 n (shown form t n bytes).values (shown form t n bytes).short (shown form t n bytes).rest
