-- The cells of raw bytes, one after the other.
use Rattle.std.proofs.Common.{◌≡◌, ℕ, zero, suc, ◌+◌, ◌-◌, ◌*◌, ◌≤◌, ◌<◌, Bool, true, false, nat_le, nat_lt, List, [], ◌∷◌, ◌++◌, map, length, take, drop, Option, Some, None, Result, Ok, Err, ℤ, pos, All, if◌then◌else◌, refl, sym, subst, ◌∙◌, ap, arith, length-append, length-drop}
use Rattle.std.proofs.lemmas.Bool.{le-leb, lt-leb, lt-ltb, le-ltb}
use Rattle.std.proofs.lemmas.List.{append-nil, append_assoc, drop-append-le, map-append, take-append-le, take_all}
use Rattle.std.proofs.lemmas.List.Elements.{All-push}
use Rattle.byteorder.specs.Endian.{little_number, twos_complement}
use Rattle.byteorder.specs.Numbers.{little_from-take}
use Rattle.soda_words.specs.IntType.{IntType}
use Rattle.array_bytes.specs.Sizes.{cell_size}
use Rattle.array_bytes.specs.Runs.{whole_cells}
use Rattle.array_bytes.specs.Values.{is_of, raw_value}
use Rattle.array_bytes.specs.Arrays.{Shown, fault_from, first_fault, good_cells, good_of, raw_shown}
use Rattle.array_bytes.specs.Machine.Scans.{FailsAfter, IsRawOf, IsWhole, Judges}
use Rattle.array_bytes.specs.declared.form.Form.TheVariants.{Raw}
use Rattle.array_bytes.specs.declared.fault.CellFault.{CellFault}
use Rattle.array_bytes.specs.declared.fault.CellFault.TheVariants.{CellRange, TooFew, TooMany}
use Rattle.array_bytes.proofs.FaultLaws.{IsOf, fault_is, good_is, some}
use Rattle.array_bytes.proofs.ScanSteps.{full_fault, full_good, judged_fault, judged_good, none_good, short_fault}

-- a cell has a byte at least, and eight at most
pub size_some : (t : IntType) → (0 < cell_size t) × (cell_size t ≤ 8)
unfolding cell_size
size_some t = by (nat_le t.bits 8) (nat_le t.bits 16) (nat_le t.bits 32)
  where
    by : (a b c : Bool) → (0 < (if a then 1 else (if b then 2 else (if c then 4 else 8)))) × ((if a then 1 else (if b then 2 else (if c then 4 else 8))) ≤ 8)
    by true b c = (omega arith, omega arith)
    by false true c = (omega arith, omega arith)
    by false false true = (omega arith, omega arith)
    by false false false = (omega arith, omega arith)

-- the whole cells of bytes that are whole cells, and of what follows
whole_more : (size k m n : ℕ) (used rest : List ℕ) → length used ≡ k * size → n ≡ k + m → whole_cells size n (used ++ rest) ≡ whole_cells size k used ++ whole_cells size m rest
unfolding whole_cells
whole_more size zero m n [] rest e f = let z : n ≡ m = omega arith in ap (λ j. whole_cells size j rest) z
whole_more size zero m n (b ∷ used) rest e f = absurd (omega arith)
whole_more size (suc k) m n used rest e f =
    let j : n ≡ suc (k + m) = omega arith in
    let fits : size ≤ length used = omega arith in
    let tail : length (drop size used) ≡ k * size = omega (arith, length-drop size used) in
    ap (λ i. whole_cells size i (used ++ rest)) j
    ∙ ap (λ t. if t then take size (used ++ rest) ∷ whole_cells size (k + m) (drop size (used ++ rest)) else []) (le-leb size (length (used ++ rest)) (omega (arith, length-append used rest)))
    ∙ ap (λ (xs : List ℕ). xs ∷ whole_cells size (k + m) (drop size (used ++ rest))) (take-append-le size used rest fits)
    ∙ ap (λ (xs : List ℕ). take size used ∷ whole_cells size (k + m) xs) (drop-append-le size used rest fits)
    ∙ ap (λ (xs : List (List ℕ)). take size used ∷ xs) (whole_more size k m (k + m) (drop size used) rest tail refl)
    ∙ sym (ap (λ t. (if t then take size used ∷ whole_cells size k (drop size used) else []) ++ whole_cells size m rest) (le-leb size (length used) fits))

next_whole : (size m : ℕ) (rest : List ℕ) → size ≤ length rest → whole_cells size (suc m) rest ≡ take size rest ∷ whole_cells size m (drop size rest)
unfolding whole_cells
next_whole size m rest le = ap (λ t. if t then take size rest ∷ whole_cells size m (drop size rest) else []) (le-leb size (length rest) le)

none_whole : (size m : ℕ) (rest : List ℕ) → length rest < size → whole_cells size m rest ≡ []
unfolding whole_cells
none_whole size zero rest lt = refl
none_whole size (suc m) rest lt = ap (λ t. if t then take size rest ∷ whole_cells size m (drop size rest) else []) (lt-leb size (length rest) lt)

-- the values, each there
some_values : (t : IntType) (rs : List (List ℕ)) → map (λ run. Some (raw_value t run)) rs ≡ map some (map (raw_value t) rs)
some_values t [] = refl
some_values t (r ∷ rs) = ap (λ (vs : List (Option ℤ)). Some (raw_value t r) ∷ vs) (some_values t rs)

-- a cell's number is that of its own bytes
pub own_bytes : (t : IntType) (xs : List ℕ) → raw_value t (take (cell_size t) xs) ≡ raw_value t xs
unfolding raw_value
own_bytes t xs = ap (λ n. if t.signed then twos_complement (cell_size t) n else pos n) (little_from-take 0 (cell_size t) (cell_size t) xs (omega arith))

module _ (t : IntType) (n : ℕ) (used : List ℕ) (cells : List ℤ) (a : IsRawOf t n used cells) (rest : List ℕ) where
  -- what the file shows behind the cells
  shows_rest : (raw_shown t n (used ++ rest)).values ≡ map some cells ++ map (λ run. Some (raw_value t run)) (whole_cells (cell_size t) (n - length cells) rest)
  unfolding raw_shown
  shows_rest =
      let size : ℕ = cell_size t in
      let k : ℕ = length cells in
      ap (map (λ run. Some (raw_value t run))) (whole_more size k (n - k) n used rest a.whole (omega (arith, a.few)))
      ∙ map-append (λ run. Some (raw_value t run)) (whole_cells size k used) (whole_cells size (n - k) rest)
      ∙ ap (λ (vs : List (Option ℤ)). vs ++ map (λ run. Some (raw_value t run)) (whole_cells size (n - k) rest)) (some_values t (whole_cells size k used) ∙ ap (map some) a.values)

  pub raw_found_first : (more : List ℤ) × (good_cells Raw t n (used ++ rest) ≡ cells ++ more)
  raw_found_first =
      let vs : List (Option ℤ) = map (λ run. Some (raw_value t run)) (whole_cells (cell_size t) (n - length cells) rest) in
      (good_of t (n - length cells) vs, good_is Raw t n (used ++ rest) (raw_shown t n (used ++ rest)) refl cells vs shows_rest a.of_type a.few)

  raw_fails : (vs : List (Option ℤ)) (f : CellFault) → (raw_shown t n (used ++ rest)).values ≡ map some cells ++ vs → good_of t (n - length cells) vs ≡ []
      → fault_from t (length cells) (n - length cells) vs (raw_shown t n (used ++ rest)).short (raw_shown t n (used ++ rest)).rest ≡ Some f → FailsAfter Raw t n (used ++ rest) cells f
  raw_fails vs f first none fault = record {
    good = good_is Raw t n (used ++ rest) (raw_shown t n (used ++ rest)) refl cells vs first a.of_type a.few ∙ ap (λ (xs : List ℤ). cells ++ xs) none ∙ append-nil cells;
    first = fault_is Raw t n (used ++ rest) (raw_shown t n (used ++ rest)) refl cells vs first a.of_type a.few ∙ fault;
  }

  -- the file ends within the next cell
  pub raw_short : length cells < n → length rest < cell_size t → FailsAfter Raw t n (used ++ rest) cells (TooFew (length cells))
  unfolding raw_shown
  raw_short below short =
      let none : map (λ run. Some (raw_value t run)) (whole_cells (cell_size t) (n - length cells) rest) ≡ [] = ap (map (λ run. Some (raw_value t run))) (none_whole (cell_size t) (n - length cells) rest short) in
      raw_fails [] (TooFew (length cells)) (shows_rest ∙ ap (λ (vs : List (Option ℤ)). map some cells ++ vs) none) (none_good t (n - length cells))
      (short_fault t n (length cells) (raw_shown t n (used ++ rest)).short (raw_shown t n (used ++ rest)).rest below)

  module _ (below : length cells < n) (fits : cell_size t ≤ length rest) where
    next_shown : (raw_shown t n (used ++ rest)).values ≡ map some cells ++ Some (raw_value t rest) ∷ map (λ run. Some (raw_value t run)) (whole_cells (cell_size t) (n - length cells - 1) (drop (cell_size t) rest))
    next_shown =
        let size : ℕ = cell_size t in
        let k : n - length cells ≡ suc (n - length cells - 1) = omega arith in
        shows_rest
        ∙ ap (λ m. map some cells ++ map (λ run. Some (raw_value t run)) (whole_cells size m rest)) k
        ∙ ap (λ (rs : List (List ℕ)). map some cells ++ map (λ run. Some (raw_value t run)) rs) (next_whole size (n - length cells - 1) rest fits)
        ∙ ap (λ v. map some cells ++ Some v ∷ map (λ run. Some (raw_value t run)) (whole_cells size (n - length cells - 1) (drop size rest))) (own_bytes t rest)

    -- the next cell is none of the type
    pub raw_fault : (f : CellFault) → Judges t (length cells) (Some (raw_value t rest)) (Err f) → FailsAfter Raw t n (used ++ rest) cells f
    raw_fault f judged =
        let more : List (Option ℤ) = map (λ run. Some (raw_value t run)) (whole_cells (cell_size t) (n - length cells - 1) (drop (cell_size t) rest)) in
        raw_fails (Some (raw_value t rest) ∷ more) f next_shown (judged_good t (length cells) n (Some (raw_value t rest)) f more judged below)
        (judged_fault t (length cells) n (Some (raw_value t rest)) f more (raw_shown t n (used ++ rest)).short (raw_shown t n (used ++ rest)).rest judged below)

  -- behind all cells
  pub raw_more : length cells ≡ n → 0 < length rest → FailsAfter Raw t n (used ++ rest) cells TooMany
  unfolding raw_shown
  raw_more all some_rest =
      let vs : List (Option ℤ) = map (λ run. Some (raw_value t run)) (whole_cells (cell_size t) (n - length cells) rest) in
      let size : length used ≡ n * cell_size t = a.whole ∙ ap (λ k. k * cell_size t) all in
      raw_fails vs TooMany shows_rest (full_good t n (length cells) vs all)
      (full_fault t n (length cells) vs (raw_shown t n (used ++ rest)).short (raw_shown t n (used ++ rest)).rest all
      ∙ ap (λ b. if b then Some TooMany else None) (lt-ltb (n * cell_size t) (length (used ++ rest)) (omega (arith, size, length-append used rest))))

  pub raw_whole : length cells ≡ n → length rest ≡ 0 → IsWhole Raw t n (used ++ rest) cells
  unfolding raw_shown
  raw_whole all none =
      let vs : List (Option ℤ) = map (λ run. Some (raw_value t run)) (whole_cells (cell_size t) (n - length cells) rest) in
      let size : length used ≡ n * cell_size t = a.whole ∙ ap (λ k. k * cell_size t) all in
      let s : Shown = raw_shown t n (used ++ rest) in
      record {
        good = good_is Raw t n (used ++ rest) s refl cells vs shows_rest a.of_type a.few ∙ ap (λ (xs : List ℤ). cells ++ xs) (full_good t n (length cells) vs all) ∙ append-nil cells;
        first =
            fault_is Raw t n (used ++ rest) s refl cells vs shows_rest a.of_type a.few ∙ full_fault t n (length cells) vs s.short s.rest all
            ∙ ap (λ b. if b then Some TooMany else None) (le-ltb (n * cell_size t) (length (used ++ rest)) (omega (arith, size, none, length-append used rest)));
        all = all;
      }

zero_whole : (size : ℕ) (xs : List ℕ) → whole_cells size 0 xs ≡ []
unfolding whole_cells
zero_whole size xs = refl

-- one more cell
pub raw_push : (t : IntType) (n : ℕ) (used one : List ℕ) (cells : List ℤ) (c : ℤ) → IsRawOf t n used cells → length cells < n → length one ≡ cell_size t → Judges t (length cells) (Some (raw_value t one)) (Ok c) → IsRawOf t n (used ++ one) (cells ++ c ∷ [])
raw_push t n used one cells c a below own judged =
    let size : ℕ = cell_size t in
    let k : ℕ = length cells in
    let count : length (cells ++ c ∷ []) ≡ k + 1 = length-append cells (c ∷ []) in
    let last : whole_cells size 1 one ≡ one ∷ [] =
    next_whole size 0 one (omega arith) ∙ ap (λ (xs : List ℕ). xs ∷ whole_cells size 0 (drop size one)) (take_all size one (omega arith)) ∙ ap (λ (rs : List (List ℕ)). one ∷ rs) (zero_whole size (drop size one)) in
    record {
      whole = length-append used one ∙ (let e : length used + length one ≡ (k + 1) * size = omega (arith, a.whole, own) in e) ∙ ap (λ j. j * size) (sym count);
      values =
          ap (λ j. map (raw_value t) (whole_cells size j (used ++ one))) count
          ∙ ap (map (raw_value t)) (whole_more size k 1 (k + 1) used one a.whole refl ∙ ap (λ (rs : List (List ℕ)). whole_cells size k used ++ rs) last)
          ∙ map-append (raw_value t) (whole_cells size k used) (one ∷ [])
          ∙ ap (λ (vs : List ℤ). vs ++ raw_value t one ∷ []) a.values ∙ ap (λ v. cells ++ v ∷ []) (sym judged.0);
      of_type = All-push (IsOf t) cells c a.of_type (ap (is_of t) judged.0 ∙ judged.1);
      few = omega (arith, count);
    }

pub raw_none : (t : IntType) (n : ℕ) → IsRawOf t n [] []
unfolding whole_cells
raw_none t n = record { whole = omega arith; values = refl; of_type = λ k d lt. absurd (omega arith); few = omega arith }
