-- The lanes of a firing and the cells that they are about.
use Rattle.std.proofs.Common.{◌≡◌, ℕ, ◌+◌, ◌-◌, ◌*◌, ◌<◌, ◌≤◌, min, List, ◌++◌, length, take, drop, replicate, get_or, ℤ, pos, sym, ap, ◌∙◌, arith, length-take, length-drop, length-append, inl, inr}
use Rattle.std.proofs.lemmas.Bool.Decides.{nat_tests}
use Rattle.std.proofs.lemmas.Bool.{cases_lt}
use Rattle.std.proofs.lemmas.List.{same_lists, length-replicate, get_or-replicate, get_or-take, get_or-drop, get_or_default, get_or-append_right, get_or_append_left, take-append-drop, take-take, drop-take}
use Rattle.std.proofs.lemmas.List.FromFn.{fill_by_all, get_or-map-range_with_len}
use Rattle.file_modules.specs.Firings.{cells_before, handed, lane_of, lanes_of}
use Rattle.file_modules.specs.Laws.{AreCells, BeginsWithNone, EndsWithAll, HandsFirstCells, HandsNextCells, SendsCells}

-- how long a part of a list is
pub part_size : (xs : List ℤ) (a n : ℕ) → a + n ≤ length xs → length (take (a + n - a) (drop a xs)) ≡ n
part_size xs a n fits = simp (length-take, length-drop) (omega arith)

-- the first cell of the next firing is as many further as there are lanes
pub next_first : (u k : ℕ) → u * (k + 1) ≡ u * k + u
next_first u k = omega arith

pub begins_with_none : BeginsWithNone
begins_with_none u d n = omega arith

pub ends_with_all : EndsWithAll
ends_with_all u d n k past = omega arith

-- a lane whose cell is there
pub lane_there : (u d n : ℕ) (cells : List ℤ) (k r : ℕ) → d ≤ u * k + r → u * k + r - d < n
    → lane_of u d n cells k r ≡ get_or cells (u * k + r - d) (pos 0)
lane_there u d n cells k r from below = grind (arith, nat_tests)

-- a lane of padding
pub lane_below : (u d n : ℕ) (cells : List ℤ) (k r : ℕ) → u * k + r < d → lane_of u d n cells k r ≡ pos 0
lane_below u d n cells k r below = grind (arith, nat_tests)

pub lane_past : (u d n : ℕ) (cells : List ℤ) (k r : ℕ) → n ≤ u * k + r - d → lane_of u d n cells k r ≡ pos 0
lane_past u d n cells k r past = grind (arith, nat_tests)

pub sends_cells : SendsCells
sends_cells u d n k array r lt from below =
    get_or-map-range_with_len (lane_of u d n array k) 0 u r r (pos 0) lt (omega arith) ∙ lane_there u d n array k r from below

-- the cells of a firing are as many as it hands on
hands_as_many : (u d n k : ℕ) (array lanes : List ℤ) → length lanes ≡ u → n ≤ length array
    → length (handed u d n k lanes) ≡ length (take (cells_before u d n (k + 1) - cells_before u d n k) (drop (cells_before u d n k) array))
hands_as_many u d n k array lanes size long = simp (length-take, length-drop) (omega (arith, next_first u k))

-- where a cell that is handed on stands among the lanes, and in the array
lane_of_cell : (u d n x y i : ℕ) → y ≡ x + u → i < min n (y - d) - min n (x - d)
    → (d - x + i < u) × (d ≤ x + (d - x + i)) × (x + (d - x + i) - d < n) × (x + (d - x + i) - d ≡ min n (x - d) + i)
lane_of_cell u d n x y i next lt = (omega arith, omega arith, omega arith, omega arith)

hands_each : (u d n k : ℕ) (array lanes : List ℤ) → length lanes ≡ u → n ≤ length array → AreCells u d n k array lanes
    → (i : ℕ) (e : ℤ) → i < length (handed u d n k lanes)
    → get_or (handed u d n k lanes) i e ≡ get_or (take (cells_before u d n (k + 1) - cells_before u d n k) (drop (cells_before u d n k) array)) i e
hands_each u d n k array lanes size long are i e lt =
    let c : ℕ = cells_before u d n (k + 1) - cells_before u d n k in
    let few : i < c = omega (arith, length-take c (drop (d - u * k) lanes)) in
    let at = lane_of_cell u d n (u * k) (u * (k + 1)) i (next_first u k) few in
    let r : ℕ = d - u * k + i in
    let q : ℕ = u * k + r - d in
    let there : q < length array = omega (arith, at.2) in
    get_or-take c (drop (d - u * k) lanes) i e few ∙ get_or-drop (d - u * k) lanes i e
    ∙ get_or_default lanes r e (pos 0) (omega (arith, at.0)) ∙ are r at.0 at.1 at.2 ∙ get_or_default array q (pos 0) e there
    ∙ ap (λ (j : ℕ). get_or array j e) at.3
    ∙ sym (get_or-take c (drop (cells_before u d n k) array) i e few ∙ get_or-drop (cells_before u d n k) array i e)

pub hands_next : HandsNextCells
hands_next u d n k array lanes size long are =
    same_lists _ _ (hands_as_many u d n k array lanes size long) (hands_each u d n k array lanes size long are)

-- the cells before a firing and those of the firing
cells_both : (xs : List ℤ) (m n : ℕ) → m ≤ n → take m xs ++ take (n - m) (drop m xs) ≡ take n xs
cells_both xs m n le =
    let e : m + (n - m) ≡ n = omega arith in
    ap (λ (ys : List ℤ). ys ++ take (n - m) (drop m xs)) (sym (take-take m n xs le))
    ∙ ap (λ (ys : List ℤ). take m (take n xs) ++ ys) (sym (drop-take m (n - m) xs) ∙ ap (λ (j : ℕ). drop m (take j xs)) e)
    ∙ take-append-drop m (take n xs)

pub hands_first : HandsFirstCells
hands_first u d n k array lanes size long are =
    ap (λ (ys : List ℤ). take (cells_before u d n k) array ++ ys) (hands_next u d n k array lanes size long are)
    ∙ cells_both array (cells_before u d n k) (cells_before u d n (k + 1)) (omega (arith, next_first u k))

-- what stands in a list of zeros where a part of it was written
module _ (u d n k a c : ℕ) (block cells : List ℤ) (first : a ≡ min (d - u * k) u)
    (count : c ≡ cells_before u d n (k + 1) - cells_before u d n k) (size : length block ≡ c)
    (is : block ≡ take c (drop (cells_before u d n k) cells)) (long : cells_before u d n k + c ≤ length cells) where
  abbrev pub zeros : List ℤ
  zeros = replicate u (pos 0)

  abbrev pub written : List ℤ
  written = take a zeros ++ (block ++ drop c (drop a zeros))

  front_size : length (take a zeros) ≡ a
  front_size = length-take a zeros ∙ omega (arith, length-replicate u (pos 0))

  written_size : length written ≡ u
  written_size = simp (length-append, length-drop, length-take, length-replicate, size) (omega (arith, next_first u k))

  on_front : (r : ℕ) → r < a → get_or written r (pos 0) ≡ lane_of u d n cells k r
  on_front r lt =
      get_or_append_left (take a zeros) (block ++ drop c (drop a zeros)) (pos 0) r (omega (arith, front_size)) ∙ get_or-take a zeros r (pos 0) lt
      ∙ get_or-replicate u r (pos 0) (pos 0) (omega arith) ∙ sym (lane_below u d n cells k r (omega arith))

  on_block : (r : ℕ) → a ≤ r → r < a + c → get_or written r (pos 0) ≡ lane_of u d n cells k r
  on_block r from below =
      let j : ℕ = r - a in
      let at : u * k + r - d ≡ cells_before u d n k + j = omega (arith, next_first u k) in
      get_or-append_right (take a zeros) (block ++ drop c (drop a zeros)) a r (pos 0) front_size from
      ∙ get_or_append_left block (drop c (drop a zeros)) (pos 0) j (omega (arith, size))
      ∙ ap (λ (xs : List ℤ). get_or xs j (pos 0)) is ∙ get_or-take c (drop (cells_before u d n k) cells) j (pos 0) (omega arith)
      ∙ get_or-drop (cells_before u d n k) cells j (pos 0) ∙ ap (λ (i : ℕ). get_or cells i (pos 0)) (sym at)
      ∙ sym (lane_there u d n cells k r (omega (arith, next_first u k)) (omega (arith, next_first u k)))

  on_back : (r : ℕ) → a + c ≤ r → r < u → get_or written r (pos 0) ≡ lane_of u d n cells k r
  on_back r past lt =
      let j : ℕ = r - a in
      get_or-append_right (take a zeros) (block ++ drop c (drop a zeros)) a r (pos 0) front_size (omega arith)
      ∙ get_or-append_right block (drop c (drop a zeros)) c j (pos 0) size (omega arith)
      ∙ get_or-drop c (drop a zeros) (j - c) (pos 0) ∙ get_or-drop a zeros (c + (j - c)) (pos 0)
      ∙ get_or-replicate u (a + (c + (j - c))) (pos 0) (pos 0) (omega arith)
      ∙ sym (lane_past u d n cells k r (omega (arith, next_first u k)))

  on_each : (r : ℕ) → r < u → get_or written r (pos 0) ≡ lane_of u d n cells k r
  on_each r lt = elim (cases_lt r a) [ inl h ↦ on_front r h | inr h ↦ elim (cases_lt r (a + c)) [ inl b ↦ on_block r h b | inr b ↦ on_back r b lt ] ]

  -- it is the firing's lanes
  pub written_is : written ≡ lanes_of u d n cells k
  written_is = fill_by_all (lane_of u d n cells k) written u (pos 0) written_size on_each
