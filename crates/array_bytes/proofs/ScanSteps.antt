-- One more byte of a text, and its end.
use Rattle.std.proofs.Common.{◌≡◌, ℕ, zero, suc, ◌+◌, ◌-◌, ◌≤◌, ◌<◌, min, Bool, true, false, List, [], ◌∷◌, ◌++◌, map, length, get_or, take, drop, nat_lt, Option, Some, None, Result, Ok, Err, ℤ, All, if◌then◌else◌, ◌⊎◌, inl, inr, refl, sym, subst, ◌∙◌, ap, arith, length-append}
use Rattle.std.proofs.lemmas.Bool.{cases_lt, lt-ltb, le-ltb}
use Rattle.std.proofs.lemmas.List.{append-nil, append_assoc, length-map, map-append, take-append-drop, take_at, take_more}
use Rattle.std.proofs.lemmas.List.Elements.{All-push}
use Rattle.soda_words.specs.IntType.{IntType}
use Rattle.int_types.specs.Ranges.{InRange}
use Rattle.array_bytes.specs.Sizes.{most_bytes}
use Rattle.array_bytes.specs.Runs.{is_space, runs, ended_runs, open_run}
use Rattle.array_bytes.specs.Values.{is_of, text_value}
use Rattle.array_bytes.specs.Arrays.{Shown, cut_shown, fault_from, first_fault, full_shown, good_cells, good_of, has_more, text_shown}
use Rattle.array_bytes.specs.Machine.Scans.{Counts, FailsAfter, Finds, IfCell, IfNothing, IsRunOf, IsScanOf, Judges, KeepsKind, Spends, Takes}
use Rattle.array_bytes.specs.declared.form.Form.TheVariants.{Text}
use Rattle.array_bytes.specs.declared.fault.CellFault.{CellFault}
use Rattle.array_bytes.specs.declared.fault.CellFault.TheVariants.{BadCell, CellRange, TooFew, TooMany, TooLong}
use Rattle.array_bytes.specs.declared.run.Run.{Run}
use Rattle.array_bytes.specs.declared.text_scan.Found.{Found}
use Rattle.array_bytes.specs.declared.text_scan.Found.TheVariants.{Nothing, Cell, Fault}
use Rattle.array_bytes.specs.declared.text_scan.TextScan.{TextScan}
use Rattle.array_bytes.proofs.RunLaws.{as_run, ended_grow, ended_other, ended_space, open_other, open_space, run_begins, runs_count, runs_grow, runs_parts}
use Rattle.array_bytes.proofs.FaultLaws.{IsOf, cut_at, cut_front, fault_is, full_at, good_is, shows_ended, some}

pub no_bytes : (r : List ℕ) (n : ℕ) → n ≡ min (length r) 65 → n ≡ 0 → r ≡ []
no_bytes [] n e z = refl
no_bytes (b ∷ r) n e z = absurd (omega arith)

pub some_bytes : (r : List ℕ) (n : ℕ) → n ≡ min (length r) 65 → (n ≡ 0 → ⊥) → as_run r ≡ r ∷ []
some_bytes [] n e ne = absurd (ne (omega arith))
some_bytes (b ∷ r) n e ne = refl

pub of_kind : (t u : IntType) (cells : List ℤ) → u ≡ t → All (IsOf t) cells → All (IsOf u) cells
of_kind t u cells e h = let P : IntType → Type 0 = λ x. All (IsOf x) cells in subst P (sym e) h

-- the answer about one more run, as a fault behind the cells before it
pub judged_good : (t : IntType) (i n : ℕ) (v : Option ℤ) (f : CellFault) (vs : List (Option ℤ)) → Judges t i v (Err f) → i < n → good_of t (n - i) (v ∷ vs) ≡ []
judged_good t i n v f vs j lt =
    let k : n - i ≡ suc (n - i - 1) = omega arith in
    ap (λ m. good_of t m (v ∷ vs)) k ∙ by v j (n - i - 1)
  where
    by : (v : Option ℤ) → Judges t i v (Err f) → (m : ℕ) → good_of t (suc m) (v ∷ vs) ≡ []
    by None j m = refl
    by (Some w) j m = ap (λ b. if b then w ∷ good_of t m vs else []) j.1

pub judged_fault : (t : IntType) (i n : ℕ) (v : Option ℤ) (f : CellFault) (vs : List (Option ℤ)) (short : ℕ → CellFault) (rest : Option CellFault) → Judges t i v (Err f) → i < n
    → fault_from t i (n - i) (v ∷ vs) short rest ≡ Some f
judged_fault t i n v f vs short rest j lt =
    let k : n - i ≡ suc (n - i - 1) = omega arith in
    ap (λ m. fault_from t i m (v ∷ vs) short rest) k ∙ by v j (n - i - 1)
  where
    by : (v : Option ℤ) → Judges t i v (Err f) → (m : ℕ) → fault_from t i (suc m) (v ∷ vs) short rest ≡ Some f
    by None j m = ap (λ g. Some g) (sym j)
    by (Some w) j m = ap (λ b. if b then fault_from t (i + 1) m vs short rest else Some (CellRange i)) j.1 ∙ ap (λ g. Some g) (sym j.0)

pub judged_some : (t : IntType) (i : ℕ) (v : Option ℤ) (c : ℤ) → Judges t i v (Ok c) → (v ≡ Some c) × (is_of t c ≡ true)
judged_some t i None c j = absurd j
judged_some t i (Some w) c j = (ap (λ x. Some x) (sym j.0), ap (is_of t) j.0 ∙ j.1)

-- the same of all that a file shows
pub fails : (t : IntType) (n : ℕ) (bytes : List ℕ) (s : Shown) → text_shown n bytes ≡ s → (cells : List ℤ) (vs : List (Option ℤ)) (f : CellFault) → s.values ≡ map some cells ++ vs → All (IsOf t) cells → length cells ≤ n
    → good_of t (n - length cells) vs ≡ [] → fault_from t (length cells) (n - length cells) vs s.short s.rest ≡ Some f → FailsAfter Text t n bytes cells f
fails t n bytes s at cells vs f first of_type few none fault = record {
  good = good_is Text t n bytes s at cells vs first of_type few ∙ ap (λ (xs : List ℤ). cells ++ xs) none ∙ append-nil cells;
  first = fault_is Text t n bytes s at cells vs first of_type few ∙ fault;
}

pub none_good : (t : IntType) (n : ℕ) → good_of t n [] ≡ []
none_good t zero = refl
none_good t (suc n) = refl

-- behind all cells
pub full_good : (t : IntType) (n i : ℕ) (vs : List (Option ℤ)) → i ≡ n → good_of t (n - i) vs ≡ []
full_good t n i vs e = let z : n - i ≡ 0 = omega arith in ap (λ k. good_of t k vs) z

pub full_fault : (t : IntType) (n i : ℕ) (vs : List (Option ℤ)) (short : ℕ → CellFault) (rest : Option CellFault) → i ≡ n → fault_from t i (n - i) vs short rest ≡ rest
full_fault t n i vs short rest e = let z : n - i ≡ 0 = omega arith in ap (λ k. fault_from t i k vs short rest) z

pub short_fault : (t : IntType) (n i : ℕ) (short : ℕ → CellFault) (rest : Option CellFault) → i < n → fault_from t i (n - i) [] short rest ≡ Some (short i)
short_fault t n i short rest lt = let k : n - i ≡ suc (n - i - 1) = omega arith in ap (λ m. fault_from t i m [] short rest) k

module _ (s : TextScan) (p : List ℕ) (cells : List ℤ) (a : IsScanOf false s p cells) where
  pub going_empty : s.run.counted ≡ 0 → open_run p ≡ []
  going_empty z = no_bytes (open_run p) s.run.counted a.going.count z

  pub ended_is : open_run p ≡ [] → runs p ≡ ended_runs p
  ended_is e = runs_parts p ∙ ap (λ (r : List ℕ). ended_runs p ++ as_run r) e ∙ append-nil (ended_runs p)

  pub ended_count : length (ended_runs p) ≡ length cells
  ended_count = sym (length-map (ended_runs p) text_value) ∙ ap length a.values ∙ length-map cells some

  module _ (z : TextScan) (b : ℕ) (same : KeepsKind s z) (spent : z.left + 1 ≡ s.left) where
    spent_is : z.left + length (p ++ b ∷ []) ≡ most_bytes z.cells
    spent_is = omega (arith, length-append p (b ∷ []), a.spent, same.cells)

    -- white space behind white space
    pub took_space : is_space b ≡ true → s.run.counted ≡ 0 → z.number ≡ s.number → z.run ≡ s.run → IsScanOf false z (p ++ b ∷ []) cells
    took_space space empty number run = record {
      spent = spent_is;
      values = ap (map text_value) (ended_space p b space ∙ ended_is (going_empty empty)) ∙ a.values;
      of_type = of_kind s.ty z.ty cells same.ty a.of_type;
      count = number ∙ a.count;
      few = omega (arith, a.few, same.cells);
      going =
          let P : Run → Type 0 = λ r. IsRunOf r (open_run (p ++ b ∷ [])) in
          let Q : List ℕ → Type 0 = λ r. IsRunOf s.run r in
          subst P (sym run) (subst Q (going_empty empty ∙ sym (open_space p b space)) a.going);
      full = λ e. open_space p b space;
    }

    -- a byte of a run
    pub took_other : is_space b ≡ false → z.number ≡ s.number → (s.number ≡ s.cells → ⊥) → IsRunOf z.run (open_run p ++ b ∷ []) → IsScanOf false z (p ++ b ∷ []) cells
    took_other other number less run = record {
      spent = spent_is;
      values = ap (map text_value) (ended_other p b other) ∙ a.values;
      of_type = of_kind s.ty z.ty cells same.ty a.of_type;
      count = number ∙ a.count;
      few = omega (arith, a.few, same.cells);
      going = let Q : List ℕ → Type 0 = λ r. IsRunOf z.run r in subst Q (sym (open_other p b other)) run;
      full = λ e. absurd (less (sym number ∙ e ∙ same.cells));
    }

    module _ (space : is_space b ≡ true) (some_run : s.run.counted ≡ 0 → ⊥) (lt : s.number < s.cells) where
      -- the runs with the one that was ended
      now_ended : ended_runs (p ++ b ∷ []) ≡ ended_runs p ++ open_run p ∷ []
      now_ended = ended_space p b space ∙ runs_parts p ∙ ap (λ (rs : List (List ℕ)). ended_runs p ++ rs) (some_bytes (open_run p) s.run.counted a.going.count some_run)

      now_values : map text_value (ended_runs (p ++ b ∷ [])) ≡ map some cells ++ text_value (open_run p) ∷ []
      now_values = ap (map text_value) now_ended ∙ map-append text_value (ended_runs p) (open_run p ∷ []) ∙ ap (λ (vs : List (Option ℤ)). vs ++ text_value (open_run p) ∷ []) a.values

      -- white space behind a cell
      pub took_cell : (c : ℤ) → Judges s.ty s.number (text_value (open_run p)) (Ok c) → z.number ≡ s.number + 1 → IsRunOf z.run [] → IsScanOf false z (p ++ b ∷ []) (cells ++ c ∷ [])
      took_cell c judged number run =
          let j = judged_some s.ty s.number (text_value (open_run p)) c judged in
          record {
            spent = spent_is;
            values = now_values ∙ ap (λ (v : Option ℤ). map some cells ++ v ∷ []) j.0 ∙ sym (map-append some cells (c ∷ []));
            of_type = of_kind s.ty z.ty (cells ++ c ∷ []) same.ty (All-push (IsOf s.ty) cells c a.of_type j.1);
            count = omega (arith, number, a.count, length-append cells (c ∷ []));
            few = omega (arith, a.count, lt, same.cells, length-append cells (c ∷ []));
            going = let Q : List ℕ → Type 0 = λ r. IsRunOf z.run r in subst Q (sym (open_space p b space)) run;
            full = λ e. open_space p b space;
          }

      -- white space behind what is no cell of the type
      pub took_fault : (f : CellFault) → Judges s.ty s.number (text_value (open_run p)) (Err f) → (rest : List ℕ) → 0 < s.left → FailsAfter Text z.ty z.cells (p ++ b ∷ rest) cells f
      took_fault f judged rest left =
          let n : ℕ = s.cells in
          let whole : (p ++ b ∷ []) ++ rest ≡ p ++ b ∷ rest = append_assoc p (b ∷ []) rest in
          let more = shows_ended n (p ++ b ∷ []) rest (omega (arith, length-append p (b ∷ []), a.spent)) in
          let vs : List (Option ℤ) = text_value (open_run p) ∷ more.0 in
          let first : (text_shown n (p ++ b ∷ rest)).values ≡ map some cells ++ vs =
          ap (λ (xs : List ℕ). (text_shown n xs).values) (sym whole) ∙ more.1 ∙ ap (λ (ws : List (Option ℤ)). ws ++ more.0) now_values ∙ append_assoc (map some cells) (text_value (open_run p) ∷ []) more.0 in
          let j : Judges s.ty (length cells) (text_value (open_run p)) (Err f) = subst (λ (i : ℕ). Judges s.ty i (text_value (open_run p)) (Err f)) a.count judged in
          let below : length cells < n = omega (arith, a.count, lt) in
          let F : FailsAfter Text s.ty n (p ++ b ∷ rest) cells f =
          fails s.ty n (p ++ b ∷ rest) (text_shown n (p ++ b ∷ rest)) refl cells vs f first a.of_type a.few
          (judged_good s.ty (length cells) n (text_value (open_run p)) f more.0 j below)
          (judged_fault s.ty (length cells) n (text_value (open_run p)) f more.0 (text_shown n (p ++ b ∷ rest)).short (text_shown n (p ++ b ∷ rest)).rest j below) in
          let P : IntType → Type 0 = λ t. FailsAfter Text t z.cells (p ++ b ∷ rest) cells f in
          let Q : ℕ → Type 0 = λ k. FailsAfter Text s.ty k (p ++ b ∷ rest) cells f in
          subst P (sym same.ty) (subst Q (sym same.cells) F)

  -- the byte behind those that a text may have
  pub too_long : (b : ℕ) (rest : List ℕ) → s.left ≡ 0 → FailsAfter Text s.ty s.cells (p ++ b ∷ rest) cells TooLong
  too_long b rest none =
      let n : ℕ = s.cells in
      let bytes : List ℕ = p ++ b ∷ rest in
      let size : length p ≡ most_bytes n = omega (arith, a.spent) in
      let front : take (most_bytes n) bytes ≡ p = take_at p (b ∷ rest) (most_bytes n) size in
      let at : text_shown n bytes ≡ cut_shown n p = cut_at n bytes (omega (arith, length-append p (b ∷ rest))) ∙ ap (cut_shown n) front in
      let first : (cut_shown n p).values ≡ map some cells ++ [] = a.values ∙ sym (append-nil (map some cells)) in
      fails s.ty n bytes (cut_shown n p) at cells [] TooLong first a.of_type a.few (none_good s.ty (n - length cells)) (by (cases_lt (length cells) n))
    where
      by : (length cells < s.cells) ⊎ (s.cells ≤ length cells) → fault_from s.ty (length cells) (s.cells - length cells) [] (cut_shown s.cells p).short (cut_shown s.cells p).rest ≡ Some TooLong
      by (inl lt) = short_fault s.ty s.cells (length cells) (cut_shown s.cells p).short (cut_shown s.cells p).rest lt
      by (inr ge) =
          let all : length cells ≡ s.cells = omega (arith, a.few) in
          let no_more : length (runs p) ≡ s.cells = ap length (ended_is (a.full (a.count ∙ all))) ∙ ended_count ∙ all in
          full_fault s.ty s.cells (length cells) [] (cut_shown s.cells p).short (cut_shown s.cells p).rest all
          ∙ ap (λ t. Some (if t then TooMany else TooLong)) (le-ltb s.cells (length (runs p)) (omega (arith, no_more)))

  -- a byte that is no white space behind all cells
  pub too_many : (b : ℕ) (rest : List ℕ) → is_space b ≡ false → 0 < s.left → s.number ≡ s.cells → FailsAfter Text s.ty s.cells (p ++ b ∷ rest) cells TooMany
  too_many b rest other left full =
      let all : length cells ≡ s.cells = sym a.count ∙ full in
      by all (cases_lt (most_bytes s.cells) (length (p ++ b ∷ rest)))
    where
      behind : length cells ≡ s.cells → (ys : List ℕ) → s.cells < length (runs (p ++ b ∷ ys))
      behind all ys = omega (arith, run_begins p b ys other, ended_count, all)

      by : length cells ≡ s.cells → (most_bytes s.cells < length (p ++ b ∷ rest)) ⊎ (length (p ++ b ∷ rest) ≤ most_bytes s.cells) → FailsAfter Text s.ty s.cells (p ++ b ∷ rest) cells TooMany
      by all (inl long) =
          let n : ℕ = s.cells in
          let k : ℕ = most_bytes n - length p - 1 in
          let bytes : List ℕ = p ++ b ∷ rest in
          let front : take (most_bytes n) bytes ≡ p ++ b ∷ take k rest =
          cut_front n p (b ∷ rest) (omega (arith, a.spent)) ∙ (let e : most_bytes n - length p ≡ suc k = omega (arith, a.spent) in ap (λ m. p ++ take m (b ∷ rest)) e) in
          let at : text_shown n bytes ≡ cut_shown n (p ++ b ∷ take k rest) = cut_at n bytes long ∙ ap (cut_shown n) front in
          let more = ended_grow p (b ∷ take k rest) in
          let vs : List (Option ℤ) = map text_value more.0 in
          let first : (cut_shown n (p ++ b ∷ take k rest)).values ≡ map some cells ++ vs =
          ap (map text_value) more.1 ∙ map-append text_value (ended_runs p) more.0 ∙ ap (λ (ws : List (Option ℤ)). ws ++ vs) a.values in
          fails s.ty n bytes (cut_shown n (p ++ b ∷ take k rest)) at cells vs TooMany first a.of_type a.few (full_good s.ty n (length cells) vs all)
          (full_fault s.ty n (length cells) vs (cut_shown n (p ++ b ∷ take k rest)).short (cut_shown n (p ++ b ∷ take k rest)).rest all
          ∙ ap (λ t. Some (if t then TooMany else TooLong)) (lt-ltb n (length (runs (p ++ b ∷ take k rest))) (behind all (take k rest))))
      by all (inr fits) =
          let n : ℕ = s.cells in
          let bytes : List ℕ = p ++ b ∷ rest in
          let more = runs_grow p (b ∷ rest) in
          let vs : List (Option ℤ) = map text_value more.0 in
          let first : (full_shown n bytes).values ≡ map some cells ++ vs =
          ap (map text_value) more.1 ∙ map-append text_value (ended_runs p) more.0 ∙ ap (λ (ws : List (Option ℤ)). ws ++ vs) a.values in
          fails s.ty n bytes (full_shown n bytes) (full_at n bytes fits) cells vs TooMany first a.of_type a.few (full_good s.ty n (length cells) vs all)
          (full_fault s.ty n (length cells) vs (full_shown n bytes).short (full_shown n bytes).rest all
          ∙ ap (λ t. if t then Some TooMany else None) (lt-ltb n (length (runs bytes)) (behind all rest)))

-- there are cells still to come while a run is read
pub still_few : (n m k : ℕ) → n ≤ m → (n ≡ m → k ≡ 0) → (k ≡ 0 → ⊥) → n < m
still_few n m k le over some = by (cases_lt n m)
  where
    by : (n < m) ⊎ (m ≤ n) → n < m
    by (inl lt) = lt
    by (inr ge) = absurd (some (over (omega arith)))

-- the bytes taken, with one more
pub one_more : (before bytes : List ℕ) (i : ℕ) → i < length bytes → (before ++ take i bytes) ++ get_or bytes i 0 ∷ [] ≡ before ++ take (i + 1) bytes
one_more before bytes i lt = append_assoc before (take i bytes) (get_or bytes i 0 ∷ []) ∙ ap (λ (xs : List ℕ). before ++ xs) (sym (take_more bytes i 0 lt))

-- what stops a scan of some bytes
pub scan_stops : (z : TextScan) (before bytes : List ℕ) (cells : List ℤ) (i : ℕ) → i < length bytes → (found : Found) → (found ≡ Nothing → ⊥) → Takes z (before ++ take i bytes) (get_or bytes i 0) cells found → Finds z before bytes cells (i + 1) found
scan_stops z before bytes cells i lt Nothing ne t = absurd (ne refl)
scan_stops z before bytes cells i lt (Cell v) ne t = let P : List ℕ → Type 0 = λ xs. IsScanOf false z xs (cells ++ v ∷ []) in subst P (one_more before bytes i lt) t
scan_stops z before bytes cells i lt (Fault f) ne t = λ rest.
    let b : ℕ = get_or bytes i 0 in
    let whole : (before ++ take i bytes) ++ b ∷ (drop (i + 1) bytes ++ rest) ≡ (before ++ bytes) ++ rest =
    sym (append_assoc (before ++ take i bytes) (b ∷ []) (drop (i + 1) bytes ++ rest))
    ∙ ap (λ (xs : List ℕ). xs ++ (drop (i + 1) bytes ++ rest)) (one_more before bytes i lt)
    ∙ sym (append_assoc (before ++ take (i + 1) bytes) (drop (i + 1) bytes) rest)
    ∙ ap (λ (xs : List ℕ). xs ++ rest) (append_assoc before (take (i + 1) bytes) (drop (i + 1) bytes) ∙ ap (λ (xs : List ℕ). before ++ xs) (take-append-drop (i + 1) bytes)) in
    let P : List ℕ → Type 0 = λ xs. FailsAfter Text z.ty z.cells xs cells f in
    subst P whole (t (drop (i + 1) bytes ++ rest))

-- the other clauses of a scan, over one more byte
pub kind_on : (s y z : TextScan) → KeepsKind s y → KeepsKind y z → KeepsKind s z
kind_on s y z a b = record { ty = b.ty ∙ a.ty; cells = b.cells ∙ a.cells }

pub spend_on : (s y z i : ℕ) (found : Found) → y + i ≡ s → Spends y z 1 found → Spends s z (i + 1) found
spend_on s y z i Nothing e f = omega arith
spend_on s y z i (Cell v) e f = omega arith
spend_on s y z i (Fault g) e f = omega arith

pub count_on : (s y z : ℕ) (found : Found) → y ≡ s → Counts y z found → Counts s z found
count_on s y z Nothing e f = f ∙ e
count_on s y z (Cell v) e f = omega arith
count_on s y z (Fault g) e f = f ∙ e

pub range_on : (t u : IntType) (found : Found) → u ≡ t → IfCell (InRange u) found → IfCell (InRange t) found
range_on t u found e h = let P : IntType → Type 0 = λ x. IfCell (InRange x) found in subst P e h

pub all_on : (P : Type 0) (found : Found) → (found ≡ Nothing → ⊥) → IfNothing P found
all_on P Nothing ne = absurd (ne refl)
all_on P (Cell v) ne = tt
all_on P (Fault f) ne = tt
