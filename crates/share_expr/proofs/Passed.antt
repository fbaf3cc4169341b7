-- The limits, one by one.
use Rattle.std.proofs.Common.{◌≡◌, ℕ, suc, ◌+◌, ◌<◌, ◌≤◌, List, [], ◌++◌, Option, Some, None, map, drop, length, get_or, slice_index_or, ℤ, Result, Ok, Err, IfOk, sym, ◌∙◌, ap, subst, arith, drop-cons, if◌then◌else◌}
use Rattle.std.proofs.lemmas.Bool.{le-ltb, lt-ltb}
use Rattle.std.proofs.lemmas.List.{length-map}
use Rattle.std.proofs.Math.Seq.{drop-length}
use Rattle.soda_words.specs.Limits.{most_live, most_offset, most_reads, most_tensors}
use Rattle.soda_words.specs.Tokens.{or_else}
use Rattle.soda_ir.specs.declared.limit.LimitKind.TheVariants.{Offset, Tensors, Live, Reads}
use Rattle.soda_ir.specs.declared.program.Parts.{Parts}
use Rattle.soda_ir.specs.declared.program.Tensor.{Tensor}
use Rattle.soda_ir.specs.Counts.{IsCountable, live_count, read_count}
use Rattle.soda_ir.specs.Formula.{by_formula}
use Rattle.soda_ir.specs.Program.{PlainProgram, plain, plain_tensor}
use Rattle.soda_ir.specs.Valid.{IsValid}
use Rattle.soda_ir.proofs.CallerLemmas.{countable}
use Rattle.soda_eval.specs.Runs.{defined_arrays}
use Rattle.share_shape.specs.Compounds.{Site, sites}
use Rattle.share_shape.specs.Limits.{Passed, all_magnitudes, first_past, limit_passed, magnitudes, passed_by, past}
use Rattle.share_shape.specs.Procedure.{shared}
use Rattle.share_shape.specs.Shifts.{IsShiftEqual}
use Rattle.share_shape.proofs.CallerLemmas.{nothing_left, past_append, shared_like, shared_sound, shared_valid}

-- the first magnitude that passes, from a tensor on
abbrev pub far_from : List Tensor → ℕ → Option ℕ
far_from ts i = first_past most_offset (all_magnitudes (map plain_tensor (drop i ts)))

module _ (ts : List Tensor) (i : ℕ) (t : Tensor) (l : i < length ts) (e : t ≡ get_or ts i t) where
  abbrev here : Option ℕ
  here = first_past most_offset (by_formula (plain_tensor t).formula [] magnitudes)

  far_next : far_from ts i ≡ or_else here (far_from ts (suc i))
  far_next =
      ap (λ us. first_past most_offset (all_magnitudes (map plain_tensor us))) (drop-cons ts i t l)
      ∙ ap (λ (u : Tensor). first_past most_offset (by_formula (plain_tensor u).formula [] magnitudes ++ all_magnitudes (map plain_tensor (drop (suc i) ts)))) (sym e)
      ∙ past_append most_offset (by_formula (plain_tensor t).formula [] magnitudes) (all_magnitudes (map plain_tensor (drop (suc i) ts)))

  pub far_here : (n : ℕ) → here ≡ Some n → far_from ts i ≡ far_from ts 0 → far_from ts 0 ≡ Some n
  far_here n h inv = sym inv ∙ far_next ∙ ap (λ o. or_else o (far_from ts (suc i))) h

  pub near_here : here ≡ None → far_from ts i ≡ far_from ts 0 → far_from ts (i + 1) ≡ far_from ts 0
  near_here h inv =
      let s : i + 1 ≡ suc i = omega arith in
      ap (far_from ts) s ∙ sym (ap (λ o. or_else o (far_from ts (suc i))) h) ∙ sym far_next ∙ inv

pub nowhere_far : (ts : List Tensor) (i : ℕ) → length ts ≡ i → far_from ts i ≡ far_from ts 0 → far_from ts 0 ≡ None
nowhere_far ts i e inv =
    let n : drop i ts ≡ [] = ap (λ k. drop k ts) (sym e) ∙ drop-length ts in
    sym inv ∙ ap (λ us. first_past most_offset (all_magnitudes (map plain_tensor us))) n

past_more : (most n : ℕ) → most < n → past most n ≡ Some n
past_more most n h = ap (λ b. if b then Some n else None) (lt-ltb most n h)

past_none : (most n : ℕ) → n ≤ most → past most n ≡ None
past_none most n h = ap (λ b. if b then Some n else None) (le-ltb most n h)

module _ (p : PlainProgram) where
  abbrev reads_left : Option Passed
  reads_left = passed_by Reads (past most_reads (read_count p))

  abbrev live_left : Option Passed
  live_left = or_else (passed_by Live (past most_live (live_count p))) reads_left

  abbrev tensors_left : Option Passed
  tensors_left = or_else (passed_by Tensors (past most_tensors (length p.tensors))) live_left

  pub offset_passed : (n : ℕ) → first_past most_offset (all_magnitudes p.tensors) ≡ Some n → limit_passed p ≡ Some (record { kind = Offset; number = n })
  unfolding limit_passed
  offset_passed n e = ap (λ o. or_else (passed_by Offset o) tensors_left) e

  module _ (near : first_past most_offset (all_magnitudes p.tensors) ≡ None) where
    near_left : limit_passed p ≡ tensors_left
    unfolding limit_passed
    near_left = ap (λ o. or_else (passed_by Offset o) tensors_left) near

    pub tensors_passed : most_tensors < length p.tensors → limit_passed p ≡ Some (record { kind = Tensors; number = length p.tensors })
    tensors_passed h = near_left ∙ ap (λ o. or_else (passed_by Tensors o) live_left) (past_more most_tensors (length p.tensors) h)

    module _ (few : length p.tensors ≤ most_tensors) where
      few_left : limit_passed p ≡ live_left
      few_left = near_left ∙ ap (λ o. or_else (passed_by Tensors o) live_left) (past_none most_tensors (length p.tensors) few)

      pub live_passed : most_live < live_count p → limit_passed p ≡ Some (record { kind = Live; number = live_count p })
      live_passed h = few_left ∙ ap (λ o. or_else (passed_by Live o) reads_left) (past_more most_live (live_count p) h)

      module _ (live : live_count p ≤ most_live) where
        still_left : limit_passed p ≡ reads_left
        still_left = few_left ∙ ap (λ o. or_else (passed_by Live o) reads_left) (past_none most_live (live_count p) live)

        pub reads_passed : most_reads < read_count p → limit_passed p ≡ Some (record { kind = Reads; number = read_count p })
        reads_passed h = still_left ∙ ap (passed_by Reads) (past_more most_reads (read_count p) h)

        pub none_passed : read_count p ≤ most_reads → limit_passed p ≡ None
        none_passed h = still_left ∙ ap (passed_by Reads) (past_none most_reads (read_count p) h)

-- the same, of parts whose tensors are these
abbrev farthest : List Tensor → Option ℕ
farthest ts = first_past most_offset (all_magnitudes (map plain_tensor ts))

module _ (p : Parts) (ts : List Tensor) (same : ts ≡ p.tensors) where
  pub offset_found : (n : ℕ) → Some n ≡ farthest ts → limit_passed (plain p) ≡ Some (record { kind = Offset; number = n })
  offset_found n e = offset_passed (plain p) n (ap farthest (sym same) ∙ sym e)

  module _ (none : None ≡ farthest ts) (n : ℕ) (len : n ≡ length p.tensors) where
    near : farthest p.tensors ≡ None
    near = ap farthest (sym same) ∙ sym none

    many : n ≡ length (map plain_tensor p.tensors)
    many = len ∙ sym (length-map p.tensors plain_tensor)

    pub tensors_found : most_tensors < n → limit_passed (plain p) ≡ Some (record { kind = Tensors; number = n })
    tensors_found h =
        let more : most_tensors < length (map plain_tensor p.tensors) = omega (arith, many, h) in
        tensors_passed (plain p) near more ∙ ap (λ m. Some (record { kind = Tensors; number = m })) (sym many)

    module _ (few : n ≤ most_tensors) where
      few_of : length (map plain_tensor p.tensors) ≤ most_tensors
      few_of = omega (arith, many, few)

      pub live_found : (m : ℕ) → m ≡ live_count (plain p) → most_live < m → limit_passed (plain p) ≡ Some (record { kind = Live; number = m })
      live_found m e h =
          live_passed (plain p) near few_of (omega (arith, e, h)) ∙ ap (λ k. Some (record { kind = Live; number = k })) (sym e)

      module _ (m : ℕ) (counted : m ≡ live_count (plain p)) (within : m ≤ most_live) (r : ℕ) (read : r ≡ read_count (plain p)) where
        pub reads_found : most_reads < r → limit_passed (plain p) ≡ Some (record { kind = Reads; number = r })
        reads_found h =
            reads_passed (plain p) near few_of (omega (arith, counted, within)) (omega (arith, read, h)) ∙ ap (λ k. Some (record { kind = Reads; number = k })) (sym read)

        pub none_found : r ≤ most_reads → limit_passed (plain p) ≡ None
        none_found h = none_passed (plain p) near few_of (omega (arith, counted, within)) (omega (arith, read, h))

-- what is left of a valid program can be counted, and is valid where it passes no limit
module _ (p q : PlainProgram) (valid : IsValid p) (e : q ≡ shared p) where
  pub shared_countable : first_past most_offset (all_magnitudes q.tensors) ≡ None → length q.tensors ≤ most_tensors → IsCountable q
  shared_countable near few =
      let near_of : first_past most_offset (all_magnitudes (shared p).tensors) ≡ None = ap (λ (r : PlainProgram). first_past most_offset (all_magnitudes r.tensors)) (sym e) ∙ near in
      let few_of : length (shared p).tensors ≤ most_tensors = subst (λ (r : PlainProgram). length r.tensors ≤ most_tensors) e few in
      subst IsCountable (sym e) (countable (shared p) (shared_sound p valid.sound near_of few_of))

  pub still_valid : limit_passed q ≡ None → IsValid q
  still_valid h = subst IsValid (sym e) (shared_valid p valid (ap limit_passed (sym e) ∙ h))

  pub still_arrays : (rows : ℕ) (params : List ℤ) (inputs : List (List ℤ)) → defined_arrays q rows params inputs ≡ defined_arrays p rows params inputs
  still_arrays rows params inputs =
      ap (λ (r : PlainProgram). defined_arrays r rows params inputs) e ∙ (shared_like p valid.sound).arrays rows params inputs

  pub still_none : (s : Site) (i j : ℕ) → i < j → j < length (sites q)
      → IsShiftEqual (suc (length q.extents)) (slice_index_or (sites q) i s).compound (slice_index_or (sites q) j s).compound → ⊥
  still_none s i j h =
      subst (λ (r : PlainProgram). j < length (sites r) → IsShiftEqual (suc (length r.extents)) (slice_index_or (sites r) i s).compound (slice_index_or (sites r) j s).compound → ⊥) (sym e) (λ l k. nothing_left p s i j valid.sound h l k)

-- what holds of the one answer that may come
pub if_made : {T F : Type 0} (r : Result T F) (x : T) (P : T → Type 0) → IfOk r (λ m. m ≡ x) → P x → IfOk r P
if_made (Ok m) x P e h = subst P (sym e) h
if_made (Err f) x P e h = tt
