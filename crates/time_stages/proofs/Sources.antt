-- What a staged tensor is, and what its reads are of.
use Rattle.std.proofs.Common.{◌≡◌, ℕ, zero, suc, ◌+◌, ◌-◌, ◌<◌, ◌≤◌, Bool, true, false, not, ◌&&◌, ◌==◌, List, [], ◌∷◌, ◌++◌, length, map, take, drop, get_or, Some, slice_get, slice_index_or, refl, sym, ◌∙◌, ap, subst, arith, ⊎_elim, cond, if◌then◌else◌, eq-eqb, ℤ}
use Rattle.std.specs.List.{All, filter, list_any, position_or_len}
use Rattle.std.specs.Ordering.{eq_by_cmp, int_eq}
use Rattle.std.proofs.lemmas.Bool.{and_from, and_parts, cases_lt, eqb-true, false_from_ne_true, or_cases, or_left, or_right}
use Rattle.std.proofs.lemmas.Cmp.{int_eq_equiv, nat_eq_equiv}
use Rattle.std.proofs.lemmas.List.{append-nil, length-take-le, take-append-drop}
use Rattle.std.proofs.lemmas.List.Elements.{All-append, All-map, All-nil, filter-append}
use Rattle.std.proofs.lemmas.List.Sums.{passes_at_first}
use Rattle.delay_net.specs.declared.net.Read.{Read}
use Rattle.soda_ir.specs.declared.reads.Read.{Read as Reading}
use Rattle.soda_ir.specs.Counts.{does_read, is_input, tensor_reads}
use Rattle.soda_ir.specs.Program.{PlainProgram, outputs_of}
use Rattle.soda_ir.specs.Valid.{IsSound}
use Rattle.soda_ir.proofs.CallerLemmas.{ext}
use Rattle.time_stages.specs.declared.staging.StagedTensor.{StagedTensor}
use Rattle.time_stages.specs.Staged.{inputs_of, is_stage, live_statements, number_read, read_by, read_order, reads_of, reads_of_first, source_of, staged_reads, staged_statements, staged_tensor, staged_tensors}
use Rattle.time_stages.proofs.Closed.{closed, is_source, number_source, prefix_place, true_or_not}
use Rattle.time_stages.proofs.InOrder.{order_in}
use Rattle.time_stages.proofs.Pairs.{read_total, same_reads_tie}
use Rattle.time_stages.proofs.StagedLists.{statements_none, statements_step, tensors_are, tensors_within}
use Rattle.time_stages.proofs.StagedReads.{IsTurn, all_turns, first_more, first_none, get_at, reads_are_first, reads_of_is, renumbered, split_at, stage_is}

-- what a place of a list holds is in the list
pub place_in : {A : Type 0} (xs : List A) (i : ℕ) (x : A) → slice_get xs i ≡ Some x → (i < length xs) × (get_or xs i x ≡ x)
place_in [] i x e = absurd (cc)
place_in (y ∷ ys) zero x e =
    let i : y ≡ x = cc in
    (omega arith, i)
place_in (y ∷ ys) (suc i) x e =
    let r = place_in ys i x e in
    (omega (arith, r.0), r.1)

-- each has the margins of its iteration
abbrev IsOwn : PlainProgram → StagedTensor → Type 0
IsOwn p s = s ≡ staged_tensor p (s.turn - 1) s.tensor

own : (p : PlainProgram) (t x : ℕ) → IsOwn p (staged_tensor p t x)
own p t x =
    let e : t ≡ suc t - 1 = omega arith in
    ap (λ k. record { turn = suc t; tensor = x; low = (staged_tensor p k x).low; high = (staged_tensor p k x).high }) e
    ∙ ap (λ k. record { turn = suc k; tensor = x; low = (staged_tensor p (suc t - 1) x).low; high = (staged_tensor p (suc t - 1) x).high }) e

statements_own : (p : PlainProgram) (t : ℕ) → All (IsOwn p) (staged_statements p t)
statements_own p zero = subst (All (IsOwn p)) (sym (statements_none p)) (All-nil (IsOwn p))
statements_own p (suc t) =
    subst (All (IsOwn p)) (sym (statements_step p t)) (All-append (IsOwn p) (staged_statements p t) (map (staged_tensor p t) (live_statements p (p.iterate - suc t))) (statements_own p t)
    (All-map (IsOwn p) (staged_tensor p t) (live_statements p (p.iterate - suc t)) (λ k d l. own p t (get_or (live_statements p (p.iterate - suc t)) k d))))

all_own : (p : PlainProgram) → All (IsOwn p) (staged_tensors p)
all_own p =
    subst (All (IsOwn p)) (sym (tensors_are p)) (All-append (IsOwn p) (map (staged_tensor p 0) (inputs_of p)) (staged_statements p p.iterate) (All-map (IsOwn p) (staged_tensor p 0) (inputs_of p) (λ k d l. own p 0 (get_or (inputs_of p) k d))) (statements_own p p.iterate))

pub own_margins : (p : PlainProgram) (v : ℕ) (s : StagedTensor) → slice_get (staged_tensors p) v ≡ Some s → s ≡ staged_tensor p (s.turn - 1) s.tensor
own_margins p v s e =
    let at = place_in (staged_tensors p) v s e in
    subst (IsOwn p) at.1 (all_own p v s at.0)

pub own_turn : (p : PlainProgram) (v : ℕ) (s : StagedTensor) → IsSound p → slice_get (staged_tensors p) v ≡ Some s → (1 ≤ s.turn) × (s.turn ≤ p.iterate) × (s.tensor < length p.tensors)
own_turn p v s sound e =
    let at = place_in (staged_tensors p) v s e in
    let turn = subst (λ (u : StagedTensor). IsTurn p u.turn) at.1 (all_turns p sound.limits.some_iterations v s at.0) in
    let within = subst (λ (u : StagedTensor). u.tensor < length p.tensors) at.1 (tensors_within p v s at.0) in
    (turn.first, turn.last, within)

-- a staged tensor that is the source of a read
source_found : (p : PlainProgram) (turn y : ℕ) (s : StagedTensor) → 1 ≤ turn → IsOwn p s → is_source p turn y s ≡ true → s ≡ source_of p turn y
source_found p turn y s some mine e =
    let c = is_input p y && not (turn == 1) in
    ⊎_elim (λ (h : c ≡ true).
    let is = stage_is (turn - 1) (slice_index_or (outputs_of p) y 0) s (sym (ap (λ (b : Bool). (if b then is_stage (turn - 1) (slice_index_or (outputs_of p) y 0) else is_stage turn y) s) h) ∙ e) in
    let before : s.turn - 1 ≡ turn - 2 = omega (arith, is.0) in
    mine ∙ ap (λ k. staged_tensor p k s.tensor) before ∙ ap (staged_tensor p (turn - 2)) is.1
    ∙ sym (ap (λ b. if b then staged_tensor p (turn - 2) (slice_index_or (outputs_of p) y 0) else staged_tensor p (turn - 1) y) h))
    (λ (h : c ≡ false).
    let is = stage_is turn y s (sym (ap (λ (b : Bool). (if b then is_stage (turn - 1) (slice_index_or (outputs_of p) y 0) else is_stage turn y) s) h) ∙ e) in
    let before : s.turn - 1 ≡ turn - 1 = omega (arith, is.0) in
    mine ∙ ap (λ k. staged_tensor p k s.tensor) before ∙ ap (staged_tensor p (turn - 1)) is.1
    ∙ sym (ap (λ b. if b then staged_tensor p (turn - 2) (slice_index_or (outputs_of p) y 0) else staged_tensor p (turn - 1) y) h))
    (true_or_not c)

-- what is read is staged before
pub source_staged : (p : PlainProgram) (v : ℕ) (s : StagedTensor) (y : ℕ) → IsSound p → slice_get (staged_tensors p) v ≡ Some s → does_read p s.tensor y ≡ true
    → (number_read p (staged_tensors p) s.turn y < v) × (slice_get (staged_tensors p) (number_read p (staged_tensors p) s.turn y) ≡ Some (source_of p s.turn y))
source_staged p v s y sound e h =
    let ts = staged_tensors p in
    let f = is_source p s.turn y in
    let at = place_in ts v s e in
    let split : ts ≡ take v ts ++ s ∷ drop (v + 1) ts = split_at ts v s at.0 ∙ ap (λ (u : StagedTensor). take v ts ++ u ∷ drop (v + 1) ts) at.1 in
    let found = closed p sound (take v ts) (drop (v + 1) ts) s y split h in
    let place = prefix_place f (take v ts) (drop v ts) found in
    let whole : position_or_len f (take v ts ++ drop v ts) ≡ position_or_len f ts = ap (position_or_len f) (take-append-drop v ts) in
    let number : number_read p ts s.turn y ≡ position_or_len f ts = number_source p ts s.turn y in
    let before : number_read p ts s.turn y < v = omega (arith, place, whole, number, length-take-le v ts (omega (arith, at.0))) in
    let n = number_read p ts s.turn y in
    let within : n < length ts = omega (arith, before, at.0) in
    let passes : f (get_or ts n s) ≡ true = ap (λ k. f (get_or ts k s)) number ∙ passes_at_first f ts s (omega (arith, within, number)) in
    let is : get_or ts n s ≡ source_of p s.turn y = source_found p s.turn y (get_or ts n s) (own_turn p v s sound e).0 (all_own p n s within) passes in
    (before, get_at ts n s within ∙ ap Some is)

-- the reads of a reader
other_reader : (v k : ℕ) (rs : List Reading) → (k ≡ v → ⊥) → filter (λ (r : Read). r.reader == v) (map (read_by k) rs) ≡ []
other_reader v k [] h = refl
other_reader v k (r ∷ rs) h =
    ap (λ b. cond b (read_by k r ∷ filter (λ (q : Read). q.reader == v) (map (read_by k) rs)) (filter (λ (q : Read). q.reader == v) (map (read_by k) rs))) (false_from_ne_true (k == v) (λ e. h (eqb-true k v e)))
    ∙ other_reader v k rs h

own_reader : (v : ℕ) (rs : List Reading) → filter (λ (r : Read). r.reader == v) (map (read_by v) rs) ≡ map (read_by v) rs
own_reader v [] = refl
own_reader v (r ∷ rs) =
    ap (λ b. cond b (read_by v r ∷ filter (λ (q : Read). q.reader == v) (map (read_by v) rs)) (filter (λ (q : Read). q.reader == v) (map (read_by v) rs))) (eq-eqb v v refl)
    ∙ ap (λ qs. read_by v r ∷ qs) (own_reader v rs)

module _ (p : PlainProgram) (v : ℕ) (s : StagedTensor) (e : slice_get (staged_tensors p) v ≡ Some s) where
  abbrev ts : List StagedTensor
  ts = staged_tensors p

  abbrev mine : Read → Bool
  mine r = r.reader == v

  none_before : (k : ℕ) → k ≤ v → k ≤ length ts → filter mine (reads_of_first p ts k) ≡ []
  none_before zero l m = ap (filter mine) (first_none p ts)
  none_before (suc k) l m =
      ap (filter mine) (first_more p ts k s (omega arith))
      ∙ filter-append mine (reads_of_first p ts k) (map (read_by k) (reads_of p ts (get_or ts k s)))
      ∙ ap (λ rs. rs ++ filter mine (map (read_by k) (reads_of p ts (get_or ts k s)))) (none_before k (omega arith) (omega arith))
      ∙ other_reader v k (reads_of p ts (get_or ts k s)) (λ i. absurd (omega arith))

  here_behind : (k : ℕ) → v < k → k ≤ length ts → filter mine (reads_of_first p ts k) ≡ map (read_by v) (reads_of p ts s)
  here_behind zero l m = absurd (omega arith)
  here_behind (suc k) l m =
      let at = place_in ts v s e in
      let block = map (read_by k) (reads_of p ts (get_or ts k s)) in
      ap (filter mine) (first_more p ts k s (omega arith))
      ∙ filter-append mine (reads_of_first p ts k) block
      ∙ ⊎_elim (λ (b : v < k).
      ap (λ rs. rs ++ filter mine block) (here_behind k b (omega arith))
      ∙ ap (λ rs. map (read_by v) (reads_of p ts s) ++ rs) (other_reader v k (reads_of p ts (get_or ts k s)) (λ i. absurd (omega arith)))
      ∙ append-nil (map (read_by v) (reads_of p ts s)))
      (λ (b : k ≤ v).
      let i : k ≡ v = omega arith in
      ap (λ rs. rs ++ filter mine block) (none_before k b (omega arith))
      ∙ ap (λ j. filter mine (map (read_by j) (reads_of p ts (get_or ts j s)))) i
      ∙ own_reader v (reads_of p ts (get_or ts v s))
      ∙ ap (λ (u : StagedTensor). map (read_by v) (reads_of p ts u)) at.1)
      (cases_lt v k)

  pub reads_by_it : filter mine (staged_reads p) ≡ map (read_by v) (reads_of p ts s)
  reads_by_it =
      let at = place_in ts v s e in
      ap (filter mine) (reads_are_first p) ∙ here_behind (length ts) at.0 (omega arith)

-- each read of a tensor is one of the staged tensor's
abbrev pub same_as : ℕ → ℤ → Reading → Bool
same_as y d r = r.of == y && int_eq r.offset d

turned_same : (a b : ℕ) → (a == b) ≡ (b == a)
turned_same a b = nat_eq_equiv.symm a b

same_tied : (y : ℕ) (d : ℤ) → same_as y d ≡ eq_by_cmp read_order (record { of = y; offset = d })
same_tied y d =
    let q : Reading = record { of = y; offset = d } in
    ext (same_as y d) (eq_by_cmp read_order q) (λ r. ap (λ b. b && int_eq r.offset d) (turned_same r.of y) ∙ ap (λ b. y == r.of && b) (int_eq_equiv.symm r.offset d) ∙ sym (same_reads_tie q r))

any_renumbered : (f : ℕ → ℕ) (y : ℕ) (d : ℤ) (rs : List Reading) → list_any (same_as y d) rs ≡ true → list_any (same_as (f y) d) (map (λ (r : Reading). record { of = f r.of; offset = r.offset }) rs) ≡ true
any_renumbered f y d [] e = e
any_renumbered f y d (r ∷ rs) e =
    ⊎_elim (λ (h : same_as y d r ≡ true). or_left (same_as (f y) d (record { of = f r.of; offset = r.offset })) (list_any (same_as (f y) d) (map (λ (q : Reading). record { of = f q.of; offset = q.offset }) rs)) (kept r.of r.offset h))
    (λ h. or_right (same_as (f y) d (record { of = f r.of; offset = r.offset })) (list_any (same_as (f y) d) (map (λ (q : Reading). record { of = f q.of; offset = q.offset }) rs)) (any_renumbered f y d rs h))
    (or_cases (same_as y d r) (list_any (same_as y d) rs) e)
  where
    kept : (x : ℕ) (w : ℤ) → (x == y && int_eq w d) ≡ true → (f x == f y && int_eq w d) ≡ true
    kept x w h =
        let both = and_parts (x == y) (int_eq w d) h in
        and_from (f x == f y) (int_eq w d) (eq-eqb (f x) (f y) (ap f (eqb-true x y both.0))) both.1

pub each_staged : (p : PlainProgram) (s : StagedTensor) (y : ℕ) (d : ℤ) → list_any (same_as y d) (tensor_reads p s.tensor) ≡ true → list_any (same_as (number_read p (staged_tensors p) s.turn y) d) (reads_of p (staged_tensors p) s) ≡ true
each_staged p s y d e =
    let ts = staged_tensors p in
    let f : ℕ → ℕ = number_read p ts s.turn in
    let q : Reading = record { of = f y; offset = d } in
    let rs = map (renumbered p ts s.turn) (tensor_reads p s.tensor) in
    ap (λ (t : Reading → Bool). list_any t (reads_of p ts s)) (same_tied (f y) d)
    ∙ ap (list_any (eq_by_cmp read_order q)) (reads_of_is p ts s)
    ∙ order_in read_order read_total q rs
    ∙ ap (λ (t : Reading → Bool). list_any t rs) (sym (same_tied (f y) d))
    ∙ any_renumbered f y d (tensor_reads p s.tensor) e
