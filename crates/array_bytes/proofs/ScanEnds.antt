-- The end of a text, and what its good cells begin with.
use Rattle.std.proofs.Common.{◌≡◌, ℕ, zero, suc, ◌+◌, ◌-◌, ◌≤◌, ◌<◌, min, Bool, true, false, List, [], ◌∷◌, ◌++◌, map, length, Option, Some, None, Result, Ok, Err, ℤ, All, if◌then◌else◌, refl, sym, subst, ◌∙◌, ap, arith, length-append}
use Rattle.std.proofs.lemmas.Bool.{lt-ltb, le-ltb}
use Rattle.std.proofs.lemmas.List.{append-nil, append_assoc, length-map, map-append}
use Rattle.std.proofs.lemmas.List.Elements.{All-push}
use Rattle.soda_words.specs.IntType.{IntType}
use Rattle.array_bytes.specs.Sizes.{most_bytes}
use Rattle.array_bytes.specs.Runs.{runs, ended_runs, open_run}
use Rattle.array_bytes.specs.Values.{is_of, text_value}
use Rattle.array_bytes.specs.Arrays.{Shown, first_fault, full_shown, good_cells, good_of, text_shown}
use Rattle.array_bytes.specs.Machine.Scans.{Closes, CountsOne, FailsAfter, IsRunOf, IsScanOf, IsWhole, Judges, KeepsKind}
use Rattle.array_bytes.specs.declared.form.Form.TheVariants.{Text}
use Rattle.array_bytes.specs.declared.fault.CellFault.{CellFault}
use Rattle.array_bytes.specs.declared.fault.CellFault.TheVariants.{TooFew, TooMany}
use Rattle.array_bytes.specs.declared.text_scan.TextScan.{TextScan}
use Rattle.array_bytes.proofs.RunLaws.{as_run, runs_parts}
use Rattle.array_bytes.proofs.FaultLaws.{IsOf, fault_is, full_at, good_is, shows_ended, some}
use Rattle.array_bytes.proofs.ScanSteps.{ended_is, ended_count, fails, full_fault, full_good, going_empty, judged_fault, judged_good, judged_some, none_good, of_kind, short_fault, some_bytes}

-- all runs are known
all_known : (closed : Bool) (s : TextScan) (p : List ℕ) (cells : List ℤ) → IsScanOf closed s p cells → s.run.counted ≡ 0 → map text_value (runs p) ≡ map some cells
all_known true s p cells a none = a.values
all_known false s p cells a none = ap (map text_value) (ended_is s p cells a (going_empty s p cells a none)) ∙ a.values

-- the bytes of a scan are no more than a text may have
fits : (closed : Bool) (s : TextScan) (p : List ℕ) (cells : List ℤ) → IsScanOf closed s p cells → length p ≤ most_bytes s.cells
fits closed s p cells a = omega (arith, a.spent)

-- the end behind white space
pub too_few : (closed : Bool) (s : TextScan) (p : List ℕ) (cells : List ℤ) → IsScanOf closed s p cells → s.run.counted ≡ 0 → s.number < s.cells → FailsAfter Text s.ty s.cells p cells (TooFew s.number)
too_few closed s p cells a none lt =
    let n : ℕ = s.cells in
    let first : (full_shown n p).values ≡ map some cells ++ [] = all_known closed s p cells a none ∙ sym (append-nil (map some cells)) in
    let below : length cells < n = omega (arith, a.count, lt) in
    fails s.ty n p (full_shown n p) (full_at n p (fits closed s p cells a)) cells [] (TooFew s.number) first a.of_type a.few (none_good s.ty (n - length cells))
    (short_fault s.ty n (length cells) (full_shown n p).short (full_shown n p).rest below ∙ ap (λ i. Some (TooFew i)) (sym a.count))

-- a scan that was closed has no run
no_run : (s : TextScan) (p : List ℕ) (cells : List ℤ) → IsScanOf true s p cells → s.run.counted ≡ 0
no_run s p cells a = a.going.count

module _ (s : TextScan) (p : List ℕ) (cells : List ℤ) (a : IsScanOf false s p cells) (some_run : s.run.counted ≡ 0 → ⊥) (lt : s.number < s.cells) where
  all_values : map text_value (runs p) ≡ map some cells ++ text_value (open_run p) ∷ []
  all_values =
      ap (map text_value) (runs_parts p ∙ ap (λ (rs : List (List ℕ)). ended_runs p ++ rs) (some_bytes (open_run p) s.run.counted a.going.count some_run))
      ∙ map-append text_value (ended_runs p) (open_run p ∷ []) ∙ ap (λ (vs : List (Option ℤ)). vs ++ text_value (open_run p) ∷ []) a.values

  -- the end behind a cell
  pub closed_cell : (z : TextScan) (c : ℤ) → KeepsKind s z → z.left ≡ s.left → Judges s.ty s.number (text_value (open_run p)) (Ok c) → z.number ≡ s.number + 1 → IsRunOf z.run [] → IsScanOf true z p (cells ++ c ∷ [])
  closed_cell z c same left judged number run =
      let j = judged_some s.ty s.number (text_value (open_run p)) c judged in
      record {
        spent = omega (arith, a.spent, left, same.cells);
        values = all_values ∙ ap (λ (v : Option ℤ). map some cells ++ v ∷ []) j.0 ∙ sym (map-append some cells (c ∷ []));
        of_type = of_kind s.ty z.ty (cells ++ c ∷ []) same.ty (All-push (IsOf s.ty) cells c a.of_type j.1);
        count = omega (arith, number, a.count, length-append cells (c ∷ []));
        few = omega (arith, a.count, lt, same.cells, length-append cells (c ∷ []));
        going = run;
        full = λ e. refl;
      }

  -- the end behind what is no cell of the type
  pub closed_fault : (f : CellFault) → Judges s.ty s.number (text_value (open_run p)) (Err f) → FailsAfter Text s.ty s.cells p cells f
  closed_fault f judged =
      let n : ℕ = s.cells in
      let vs : List (Option ℤ) = text_value (open_run p) ∷ [] in
      let j : Judges s.ty (length cells) (text_value (open_run p)) (Err f) = subst (λ (i : ℕ). Judges s.ty i (text_value (open_run p)) (Err f)) a.count judged in
      let below : length cells < n = omega (arith, a.count, lt) in
      fails s.ty n p (full_shown n p) (full_at n p (fits false s p cells a)) cells vs f all_values a.of_type a.few
      (judged_good s.ty (length cells) n (text_value (open_run p)) f [] j below)
      (judged_fault s.ty (length cells) n (text_value (open_run p)) f [] (full_shown n p).short (full_shown n p).rest j below)

empty_going : (closed : Bool) (s : TextScan) (p : List ℕ) (cells : List ℤ) → IsScanOf closed s p cells → s.number ≡ s.cells → map text_value (runs p) ≡ map some cells
empty_going true s p cells a full = a.values
empty_going false s p cells a full = ap (map text_value) (ended_is s p cells a (a.full full)) ∙ a.values

pub ends_whole : (closed : Bool) (s : TextScan) (p : List ℕ) (cells : List ℤ) → IsScanOf closed s p cells → s.number ≡ s.cells → IsWhole Text s.ty s.cells p cells
ends_whole closed s p cells a full =
    let n : ℕ = s.cells in
    let all : length cells ≡ n = sym a.count ∙ full in
    let values : map text_value (runs p) ≡ map some cells = empty_going closed s p cells a full in
    let first : (full_shown n p).values ≡ map some cells ++ [] = values ∙ sym (append-nil (map some cells)) in
    let at : text_shown n p ≡ full_shown n p = full_at n p (fits closed s p cells a) in
    let count : length (runs p) ≡ n = sym (length-map (runs p) text_value) ∙ ap length values ∙ length-map cells some ∙ all in
    record {
      good = good_is Text s.ty n p (full_shown n p) at cells [] first a.of_type a.few ∙ ap (λ (xs : List ℤ). cells ++ xs) (none_good s.ty (n - length cells)) ∙ append-nil cells;
      first =
          fault_is Text s.ty n p (full_shown n p) at cells [] first a.of_type a.few
          ∙ full_fault s.ty n (length cells) [] (full_shown n p).short (full_shown n p).rest all
          ∙ ap (λ t. if t then Some TooMany else None) (le-ltb n (length (runs p)) (omega (arith, count)));
      all = all;
    }

-- the good cells of a text begin with those that were found
pub found_first : (s : TextScan) (p : List ℕ) (cells : List ℤ) → IsScanOf false s p cells → (rest : List ℕ) → (more : List ℤ) × (good_cells Text s.ty s.cells (p ++ rest) ≡ cells ++ more)
found_first s p cells a rest =
    let n : ℕ = s.cells in
    let shows = shows_ended n p rest (fits false s p cells a) in
    let first : (text_shown n (p ++ rest)).values ≡ map some cells ++ shows.0 = shows.1 ∙ ap (λ (vs : List (Option ℤ)). vs ++ shows.0) a.values in
    (good_of s.ty (n - length cells) shows.0, good_is Text s.ty n (p ++ rest) (text_shown n (p ++ rest)) refl cells shows.0 first a.of_type a.few)

-- the same where the text has ended
pub found_all : (s : TextScan) (p : List ℕ) (cells : List ℤ) → IsScanOf true s p cells → (more : List ℤ) × (good_cells Text s.ty s.cells p ≡ cells ++ more)
found_all s p cells a =
    let n : ℕ = s.cells in
    let first : (full_shown n p).values ≡ map some cells ++ [] = a.values ∙ sym (append-nil (map some cells)) in
    (good_of s.ty (n - length cells) [], good_is Text s.ty n p (full_shown n p) (full_at n p (fits true s p cells a)) cells [] first a.of_type a.few)

-- the end behind a run
pub close_run : (s z : TextScan) (p : List ℕ) (cells : List ℤ) (closed : Bool) → IsScanOf closed s p cells → (s.run.counted ≡ 0 → ⊥) → s.number < s.cells → KeepsKind s z → z.left ≡ s.left → IsRunOf z.run []
    → (result : Result ℤ CellFault) → CountsOne s.number z.number result → ((r : List ℕ) → IsRunOf s.run r → Judges s.ty s.number (text_value r) result) → Closes z p cells result
close_run s z p cells true a some_run lt same left run result counts judged = absurd (some_run a.going.count)
close_run s z p cells false a some_run lt same left run (Ok c) counts judged = closed_cell s p cells a some_run lt z c same left (judged (open_run p) a.going) counts run
close_run s z p cells false a some_run lt same left run (Err f) counts judged =
    let F : FailsAfter Text s.ty s.cells p cells f = closed_fault s p cells a some_run lt f (judged (open_run p) a.going) in
    let P : IntType → Type 0 = λ t. FailsAfter Text t z.cells p cells f in
    let Q : ℕ → Type 0 = λ k. FailsAfter Text s.ty k p cells f in
    subst P (sym same.ty) (subst Q (sym same.cells) F)

-- no more runs have ended than cells were found
pub ended_few : (closed : Bool) (s : TextScan) (p : List ℕ) (cells : List ℤ) → IsScanOf closed s p cells → length (ended_runs p) ≤ length cells
ended_few false s p cells a = let e : length (ended_runs p) ≡ length cells = ended_count s p cells a in omega arith
ended_few true s p cells a =
    let all : length (runs p) ≡ length cells = sym (length-map (runs p) text_value) ∙ ap length a.values ∙ length-map cells some in
    let parts : length (runs p) ≡ length (ended_runs p) + length (as_run (open_run p)) = ap length (runs_parts p) ∙ length-append (ended_runs p) (as_run (open_run p)) in
    omega arith
