-- The reads of a staged program: how many there are, and that they make a net.
use Rattle.std.proofs.Common.{◌≡◌, ◌≢◌, ℕ, zero, suc, ◌+◌, ◌-◌, ◌^◌, ◌<◌, ◌≤◌, ◌⊎◌, Bool, true, false, not, ◌&&◌, ◌||◌, ◌==◌, List, [], ◌∷◌, ◌++◌, length, map, take, drop, get_or, Option, Some, None, slice_get, slice_index_or, refl, sym, ◌∙◌, ap, subst, arith, ⊎_elim, inl, inr, if◌then◌else◌, ℤ, pos, negsuc, neg_ℤ, ◌≤ℤ◌, unsigned_abs, length-append, add-one, eq-eqb}
use Rattle.std.specs.List.{All, AllByRecursion, list_any, position_or_len, sum_by}
use Rattle.std.specs.declared.cmp.Ordering.{Ordering}
use Rattle.std.specs.declared.cmp.Ordering.TheVariants.{Less, Equal, Greater}
use Rattle.std.specs.Ordering.{eq_by_cmp, int_eq}
use Rattle.std.proofs.lemmas.Bool.{and_parts, eqb-true, false≢true}
use Rattle.std.proofs.lemmas.Int.{ints}
use Rattle.std.proofs.lemmas.List.{append-nil, drop_more, length-map, length-take-le, take-append-drop, take_all, take_more}
use Rattle.std.proofs.lemmas.List.Elements.{All-append, All-from_recursion, All-map, All-nil, recursion_from_All}
use Rattle.std.proofs.lemmas.List.Folds.{list_any_at, list_any-append}
use Rattle.std.proofs.lemmas.List.Sums.{passes_at_first, sum_by_push}
use Rattle.delay_net.specs.declared.net.Read.{Read}
use Rattle.delay_net.specs.Shape.{HasSmallOffset, IsNet, IsWidth}
use Rattle.soda_ir.specs.declared.reads.Read.{Read as Reading}
use Rattle.soda_ir.specs.Counts.{border_reads, distinct_count, formula_in, formula_reads, is_input, is_output, output_number, read_count, tensor_reads}
use Rattle.soda_ir.specs.Formula.{Formula, number, read, param, unary, binary, choice, cast, by_formula, every}
use Rattle.soda_ir.specs.Points.{linear}
use Rattle.soda_ir.specs.Program.{PlainProgram, extents_at, outputs_of, preserves}
use Rattle.soda_ir.specs.Uses.{is_near}
use Rattle.soda_ir.specs.Valid.{IsSound, IsValid}
use Rattle.soda_ir.proofs.CallerLemmas.{countable, distance_bound, near_at, reach_of}
use Rattle.soda_words.proofs.CallerLemmas.{same_tests}
use Rattle.time_stages.specs.declared.staging.StagedTensor.{StagedTensor}
use Rattle.time_stages.specs.Staged.{in_order, inputs_of, is_stage, live_statements, number_read, put_in, read_by, read_order, reads_of, reads_of_first, staged_reads, staged_statements, staged_tensor, staged_tensors, staged_widths, type_of}
use Rattle.time_stages.proofs.Closed.{closed, is_source, number_source, prefix_place, true_or_not}
use Rattle.time_stages.proofs.InOrder.{distinct, order_length}
use Rattle.time_stages.proofs.OutputNumbers.{input_numbered, output_is}
use Rattle.time_stages.proofs.Pairs.{read_total, same_distinct, same_reads_tie}
use Rattle.time_stages.proofs.StagedCounts.{reads_summed, sum_same, tensors_counted}
use Rattle.time_stages.proofs.StagedLists.{statements_none, statements_step, tensors_are}

-- ---- the staged tensor of a number

pub get_at : {A : Type 0} (xs : List A) (i : ℕ) (d : A) → i < length xs → slice_get xs i ≡ Some (get_or xs i d)
get_at [] i d l = absurd (omega arith)
get_at (x ∷ xs) zero d l = refl
get_at (x ∷ xs) (suc i) d l = get_at xs i d (omega arith)

pub split_at : {A : Type 0} (xs : List A) (i : ℕ) (d : A) → i < length xs → xs ≡ take i xs ++ get_or xs i d ∷ drop (i + 1) xs
split_at xs i d l = sym (take-append-drop i xs) ∙ ap (λ zs. take i xs ++ zs) (drop_more xs i d l)

pub first_none : (p : PlainProgram) (ts : List StagedTensor) → reads_of_first p ts 0 ≡ []
unfolding reads_of_first
first_none p ts = refl

first_step : (p : PlainProgram) (ts : List StagedTensor) (n : ℕ) → reads_of_first p ts (suc n) ≡ reads_of_first p ts n ++ elim (slice_get ts n) [ None ↦ [] | Some s ↦ map (read_by n) (reads_of p ts s) ]
unfolding reads_of_first
first_step p ts n = refl

pub first_more : (p : PlainProgram) (ts : List StagedTensor) (n : ℕ) (d : StagedTensor) → n < length ts → reads_of_first p ts (suc n) ≡ reads_of_first p ts n ++ map (read_by n) (reads_of p ts (get_or ts n d))
first_more p ts n d l =
    first_step p ts n ∙ ap (λ (o : Option StagedTensor). reads_of_first p ts n ++ elim o [ None ↦ [] | Some s ↦ map (read_by n) (reads_of p ts s) ]) (get_at ts n d l)

pub reads_are_first : (p : PlainProgram) → staged_reads p ≡ reads_of_first p (staged_tensors p) (length (staged_tensors p))
unfolding staged_reads
reads_are_first p = refl

pub widths_are : (p : PlainProgram) → staged_widths p ≡ map (λ s. (type_of p s.tensor).bits) (staged_tensors p)
unfolding staged_widths
widths_are p = refl

-- a read by the number of what is read
abbrev pub renumbered : PlainProgram → List StagedTensor → (turn : ℕ) → Reading → Reading
renumbered p ts turn r = record { of = number_read p ts turn r.of; offset = r.offset }

pub reads_of_is : (p : PlainProgram) (ts : List StagedTensor) (s : StagedTensor) → reads_of p ts s ≡ in_order read_order (map (renumbered p ts s.turn) (tensor_reads p s.tensor))
unfolding reads_of
reads_of_is p ts s = refl

abbrev some_stage : StagedTensor
some_stage = record { turn = 0; tensor = 0; low = []; high = [] }

-- ---- each read of a staged tensor is found among them

own_reads : (rs : List Reading) → All (λ r. list_any (λ (q : Reading). q.of == r.of) rs ≡ true) rs
own_reads rs = λ k d l. list_any_at (λ (q : Reading). q.of == (get_or rs k d).of) rs k d l (eq-eqb (get_or rs k d).of (get_or rs k d).of refl)

pub place_within : {A : Type 0} (f : A → Bool) (xs : List A) → list_any f xs ≡ true → position_or_len f xs < length xs
place_within f xs e =
    let h = prefix_place f xs [] e in
    omega (arith, ap (position_or_len f) (append-nil xs))

-- the iterations of the staged tensors
pub record IsTurn (p : PlainProgram) (turn : ℕ) : Type 0 where
  pub first : 1 ≤ turn
  pub last : turn ≤ p.iterate

pub all_turns : (p : PlainProgram) → 1 ≤ p.iterate → All (λ s. IsTurn p s.turn) (staged_tensors p)
all_turns p some =
    let P : StagedTensor → Type 0 = λ s. IsTurn p s.turn in
    subst (All P) (sym (tensors_are p)) (All-append P (map (staged_tensor p 0) (inputs_of p)) (staged_statements p p.iterate) (All-map P (staged_tensor p 0) (inputs_of p) (λ k d l. record { first = omega arith; last = some })) (until p.iterate (omega arith)))
  where
    until : (t : ℕ) → t ≤ p.iterate → All (λ s. IsTurn p s.turn) (staged_statements p t)
    until zero l = subst (All (λ s. IsTurn p s.turn)) (sym (statements_none p)) (All-nil (λ s. IsTurn p s.turn))
    until (suc t) l =
        let P : StagedTensor → Type 0 = λ s. IsTurn p s.turn in
        subst (All P) (sym (statements_step p t)) (All-append P (staged_statements p t) (map (staged_tensor p t) (live_statements p (p.iterate - suc t))) (until t (omega arith)) (All-map P (staged_tensor p t) (live_statements p (p.iterate - suc t)) (λ k d m. record { first = omega arith; last = l })))

-- what a staged tensor is that is the source of a read
abbrev IsBefore : PlainProgram → (turn y : ℕ) → StagedTensor → Type 0
IsBefore p turn y s =
    (is_input p y ≡ true) × (turn ≢ 1) × (s.turn ≡ turn - 1) × (s.tensor ≡ slice_index_or (outputs_of p) y 0)

abbrev IsHere : (turn y : ℕ) → StagedTensor → Type 0
IsHere turn y s = (s.turn ≡ turn) × (s.tensor ≡ y)

pub stage_is : (turn x : ℕ) (s : StagedTensor) → is_stage turn x s ≡ true → (s.turn ≡ turn) × (s.tensor ≡ x)
stage_is turn x s e =
    let both = and_parts (s.turn == turn) (s.tensor == x) e in
    (eqb-true s.turn turn both.0, eqb-true s.tensor x both.1)

not_one : (turn : ℕ) → not (turn == 1) ≡ true → turn ≢ 1
not_one turn e i = false≢true (sym (ap not (eq-eqb turn 1 i)) ∙ e)

source_is : (p : PlainProgram) (turn y : ℕ) (s : StagedTensor) → is_source p turn y s ≡ true → IsBefore p turn y s ⊎ IsHere turn y s
source_is p turn y s e =
    ⊎_elim (λ (c : (is_input p y && not (turn == 1)) ≡ true).
    let both = and_parts (is_input p y) (not (turn == 1)) c in
    let is = stage_is (turn - 1) (slice_index_or (outputs_of p) y 0) s (sym (ap (λ (b : Bool). (if b then is_stage (turn - 1) (slice_index_or (outputs_of p) y 0) else is_stage turn y) s) c) ∙ e) in
    inl (both.0, not_one turn both.1, is.0, is.1))
    (λ (c : (is_input p y && not (turn == 1)) ≡ false).
    inr (stage_is turn y s (sym (ap (λ (b : Bool). (if b then is_stage (turn - 1) (slice_index_or (outputs_of p) y 0) else is_stage turn y) s) c) ∙ e)))
    (true_or_not (is_input p y && not (turn == 1)))

-- reads of different tensors are reads of different staged tensors
source_one : (p : PlainProgram) (turn y z : ℕ) (s : StagedTensor) → IsSound p → IsTurn p turn → is_source p turn y s ≡ true → is_source p turn z s ≡ true → y ≡ z
source_one p turn y z s sound within a b =
    ⊎_elim (λ (f : IsBefore p turn y s). ⊎_elim (λ (g : IsBefore p turn z s).
    let iterated : p.iterate ≢ 1 = λ i. f.1 (let h = within.first in let k = within.last in omega arith) in
    let u = output_is p y (input_numbered p sound iterated y f.0) in
    let v = output_is p z (input_numbered p sound iterated z g.0) in
    sym u.1 ∙ ap (output_number p) (sym f.3 ∙ g.3) ∙ v.1) (λ (g : IsHere turn z s). absurd (let h = within.first in omega (arith, f.2, g.0))) (source_is p turn z s b))
    (λ (f : IsHere turn y s). ⊎_elim (λ (g : IsBefore p turn z s). absurd (let h = within.first in omega (arith, f.0, g.2))) (λ (g : IsHere turn z s). sym f.1 ∙ g.1) (source_is p turn z s b))
    (source_is p turn y s a)

place_one : (p : PlainProgram) (ts : List StagedTensor) (turn y z : ℕ) → IsSound p → IsTurn p turn → list_any (is_source p turn y) ts ≡ true → list_any (is_source p turn z) ts ≡ true → number_read p ts turn y ≡ number_read p ts turn z → y ≡ z
place_one p ts turn y z sound within a b e =
    let f = is_source p turn y in
    let g = is_source p turn z in
    let same : position_or_len f ts ≡ position_or_len g ts = sym (number_source p ts turn y) ∙ e ∙ number_source p ts turn z in
    let here = passes_at_first f ts some_stage (place_within f ts a) in
    let there = passes_at_first g ts some_stage (place_within g ts b) in
    source_one p turn y z (get_or ts (position_or_len f ts) some_stage) sound within here (ap (λ k. g (get_or ts k some_stage)) same ∙ there)

-- ---- as many reads as are counted

abbrev tied : Reading → Reading → Bool
tied = eq_by_cmp read_order

any_mapped : (g : Reading → Reading) (P : Reading → Type 0) → ((r q : Reading) → P r → P q → tied (g r) (g q) ≡ tied r q) → (r : Reading) (rs : List Reading) → P r → AllByRecursion P rs
    → list_any (tied (g r)) (map g rs) ≡ list_any (tied r) rs
any_mapped g P h r [] a all = refl
any_mapped g P h r (q ∷ qs) a all =
    ap (λ b. b || list_any (tied (g r)) (map g qs)) (h r q a all.0) ∙ ap (λ b. tied r q || b) (any_mapped g P h r qs a all.1)

distinct_mapped : (g : Reading → Reading) (P : Reading → Type 0) → ((r q : Reading) → P r → P q → tied (g r) (g q) ≡ tied r q) → (rs : List Reading) → AllByRecursion P rs
    → distinct read_order read_total (map g rs) ≡ distinct read_order read_total rs
distinct_mapped g P h [] all = refl
distinct_mapped g P h (r ∷ rs) all =
    ap (λ b. (if b then 0 else 1) + distinct read_order read_total (map g rs)) (any_mapped g P h r rs all.0 all.1)
    ∙ ap (λ n. (if list_any (tied r) rs then 0 else 1) + n) (distinct_mapped g P h rs all.1)

module _ (p : PlainProgram) (sound : IsSound p) where
  abbrev ts : List StagedTensor
  ts = staged_tensors p

  -- the read's source is among these
  abbrev IsFound : List StagedTensor → (turn : ℕ) → Reading → Type 0
  IsFound before turn r = list_any (is_source p turn r.of) before ≡ true

  -- the sources of a staged tensor's reads stand before it
  found_at : (k : ℕ) (d : StagedTensor) → k < length ts → AllByRecursion (IsFound (take k ts) (get_or ts k d).turn) (tensor_reads p (get_or ts k d).tensor)
  found_at k d l =
      let s = get_or ts k d in
      recursion_from_All (IsFound (take k ts) s.turn) (tensor_reads p s.tensor) (λ i e m. closed p sound (take k ts) (drop (k + 1) ts) s (get_or (tensor_reads p s.tensor) i e).of (split_at ts k d l) (own_reads (tensor_reads p s.tensor) i e m))

  found_later : (k turn : ℕ) (rs : List Reading) → AllByRecursion (IsFound (take k ts) turn) rs → AllByRecursion (IsFound ts turn) rs
  found_later k turn [] h = tt
  found_later k turn (r ∷ rs) h =
      (ap (list_any (is_source p turn r.of)) (sym (take-append-drop k ts)) ∙ list_any-append (is_source p turn r.of) (take k ts) (drop k ts) ∙ or_true (list_any (is_source p turn r.of) (take k ts)) (list_any (is_source p turn r.of) (drop k ts)) h.0, found_later k turn rs h.1)
    where
      or_true : (a b : Bool) → a ≡ true → (a || b) ≡ true
      or_true true b e = refl
      or_true false b e = absurd (false≢true e)

  tie_kept : (turn : ℕ) → IsTurn p turn → (r q : Reading) → IsFound ts turn r → IsFound ts turn q → tied (renumbered p ts turn r) (renumbered p ts turn q) ≡ tied r q
  tie_kept turn within r q a b =
      let same : (number_read p ts turn r.of == number_read p ts turn q.of) ≡ (r.of == q.of) = same_tests (number_read p ts turn r.of == number_read p ts turn q.of) (r.of == q.of)
      (λ e. eq-eqb r.of q.of (place_one p ts turn r.of q.of sound within a b (eqb-true (number_read p ts turn r.of) (number_read p ts turn q.of) e)))
      (λ e. eq-eqb (number_read p ts turn r.of) (number_read p ts turn q.of) (ap (number_read p ts turn) (eqb-true r.of q.of e))) in
      same_reads_tie (renumbered p ts turn r) (renumbered p ts turn q)
      ∙ ap (λ c. c && int_eq r.offset q.offset) same
      ∙ sym (same_reads_tie r q)

  -- as many reads of a staged tensor as its tensor has
  counted_at : (k : ℕ) (d : StagedTensor) → k < length ts → length (reads_of p ts (get_or ts k d)) ≡ distinct_count (tensor_reads p (get_or ts k d).tensor)
  counted_at k d l =
      let s = get_or ts k d in
      let within : IsTurn p s.turn = all_turns p sound.limits.some_iterations k d l in
      ap length (reads_of_is p ts s)
      ∙ order_length read_order read_total (map (renumbered p ts s.turn) (tensor_reads p s.tensor))
      ∙ distinct_mapped (renumbered p ts s.turn) (IsFound ts s.turn) (tie_kept s.turn within) (tensor_reads p s.tensor) (found_later k s.turn (tensor_reads p s.tensor) (found_at k d l))
      ∙ same_distinct (tensor_reads p s.tensor)

  first_length : (k : ℕ) → k ≤ length ts → length (reads_of_first p ts k) ≡ sum_by (λ s. length (reads_of p ts s)) (take k ts)
  first_length zero l = ap length (first_none p ts)
  first_length (suc k) l =
      let s = get_or ts k some_stage in
      let more : take (suc k) ts ≡ take k ts ++ s ∷ [] = sym (ap (λ j. take j ts) (add-one k)) ∙ take_more ts k some_stage (omega arith) in
      ap length (first_more p ts k some_stage (omega arith))
      ∙ length-append (reads_of_first p ts k) (map (read_by k) (reads_of p ts s))
      ∙ ap (λ j. length (reads_of_first p ts k) + j) (length-map (reads_of p ts s) (read_by k))
      ∙ ap (λ j. j + length (reads_of p ts s)) (first_length k (omega arith))
      ∙ sym (sum_by_push (λ u. length (reads_of p ts u)) (take k ts) s)
      ∙ ap (sum_by (λ u. length (reads_of p ts u))) (sym more)

  pub reads_counted : length (staged_reads p) ≡ read_count p
  reads_counted =
      ap length (reads_are_first p)
      ∙ first_length (length ts) (omega arith)
      ∙ ap (sum_by (λ u. length (reads_of p ts u))) (take_all (length ts) ts (omega arith))
      ∙ sum_same (λ u. length (reads_of p ts u)) (λ u. distinct_count (tensor_reads p u.tensor)) ts (λ k d l. counted_at k d l)
      ∙ reads_summed p sound

  -- ---- a net

  -- an offset within 2^41 cells
  abbrev IsNearRead : Reading → Type 0
  IsNearRead r = unsigned_abs r.offset ≤ 2 ^ 41

  all_both : (P : Reading → Type 0) (xs zs : List Reading) → AllByRecursion P xs → AllByRecursion P zs → AllByRecursion P (xs ++ zs)
  all_both P [] zs h k = k
  all_both P (a ∷ xs) zs h k = (h.0, all_both P xs zs h.1 k)

  formula_near : (f : Formula) → every (λ t o. is_near o) f ≡ true → AllByRecursion IsNearRead (formula_reads (extents_at p 1) f)
  formula_near (number n) e = tt
  formula_near (read t o) e =
      (let b = distance_bound p.extents o (linear (extents_at p 1) o) e refl in let r = reach_of p (countable p sound) in omega (arith, b, r), tt)
  formula_near (param q k) e = tt
  formula_near (unary op a) e = formula_near a e
  formula_near (binary op a b) e =
      let both = and_parts (every (λ t o. is_near o) a) (every (λ t o. is_near o) b) e in
      all_both IsNearRead (formula_reads (extents_at p 1) a) (formula_reads (extents_at p 1) b) (formula_near a both.0) (formula_near b both.1)
  formula_near (choice c a b) e =
      let both = and_parts (every (λ t o. is_near o) c && every (λ t o. is_near o) a) (every (λ t o. is_near o) b) e in
      let first = and_parts (every (λ t o. is_near o) c) (every (λ t o. is_near o) a) both.0 in
      all_both IsNearRead (formula_reads (extents_at p 1) c) (formula_reads (extents_at p 1) a ++ formula_reads (extents_at p 1) b) (formula_near c first.0) (all_both IsNearRead (formula_reads (extents_at p 1) a) (formula_reads (extents_at p 1) b) (formula_near a first.1) (formula_near b both.1))
  formula_near (cast t a) e = formula_near a e

  reads_near : (x : ℕ) → AllByRecursion IsNearRead (tensor_reads p x)
  reads_near x =
      all_both IsNearRead (by_formula (formula_in p x) [] (formula_reads (extents_at p 1))) (border_reads p x) (by (formula_in p x) refl) (border (preserves p && is_output p x))
    where
      by : (o : Option Formula) → formula_in p x ≡ o → AllByRecursion IsNearRead (by_formula o [] (formula_reads (extents_at p 1)))
      by None e = tt
      by (Some f) e = formula_near f (near_at p x f (countable p sound) e)

      border : (b : Bool) → AllByRecursion IsNearRead (if b then record { of = output_number p x; offset = pos 0 } ∷ [] else [])
      border true = (omega arith, tt)
      border false = tt

  -- what holds of the values of a list holds of the list in order
  put_by : (P : Reading → Type 0) (o : Ordering) (r q : Reading) (qs zs : List Reading) → P r → AllByRecursion P (q ∷ qs) → AllByRecursion P zs
      → AllByRecursion P (elim o [ Less ↦ r ∷ q ∷ qs | Equal ↦ q ∷ qs | Greater ↦ q ∷ zs ])
  put_by P Less r q qs zs h all rest = (h, all)
  put_by P Equal r q qs zs h all rest = all
  put_by P Greater r q qs zs h all rest = (all.0, rest)

  put_all : (P : Reading → Type 0) (r : Reading) (qs : List Reading) → P r → AllByRecursion P qs → AllByRecursion P (put_in read_order r qs)
  put_all P r [] h all = (h, tt)
  put_all P r (q ∷ qs) h all = put_by P (read_order r q) r q qs (put_in read_order r qs) h all (put_all P r qs h all.1)

  order_all : (P : Reading → Type 0) (rs : List Reading) → AllByRecursion P rs → AllByRecursion P (in_order read_order rs)
  order_all P [] all = tt
  order_all P (r ∷ rs) all = put_all P r (in_order read_order rs) all.0 (order_all P rs all.1)

  -- a read of a staged tensor before the number k, not far away
  abbrev IsEarlier : ℕ → Reading → Type 0
  IsEarlier k r = (r.of < k) × IsNearRead r

  renumbered_all : (k : ℕ) (d : StagedTensor) → k < length ts → (rs : List Reading) → AllByRecursion (IsFound (take k ts) (get_or ts k d).turn) rs → AllByRecursion IsNearRead rs
      → AllByRecursion (IsEarlier k) (map (renumbered p ts (get_or ts k d).turn) rs)
  renumbered_all k d l [] found near = tt
  renumbered_all k d l (r ∷ rs) found near =
      let turn = (get_or ts k d).turn in
      let place = prefix_place (is_source p turn r.of) (take k ts) (drop k ts) found.0 in
      let before : number_read p ts turn r.of < k = omega (arith, place, number_source p ts turn r.of, ap (position_or_len (is_source p turn r.of)) (take-append-drop k ts), length-take-le k ts (omega arith)) in
      ((before, near.0), renumbered_all k d l rs found.1 near.1)

  earlier_at : (k : ℕ) (d : StagedTensor) → k < length ts → AllByRecursion (IsEarlier k) (reads_of p ts (get_or ts k d))
  earlier_at k d l =
      let s = get_or ts k d in
      subst (AllByRecursion (IsEarlier k)) (sym (reads_of_is p ts s)) (order_all (IsEarlier k) (map (renumbered p ts s.turn) (tensor_reads p s.tensor)) (renumbered_all k d l (tensor_reads p s.tensor) (found_at k d l) (reads_near s.tensor)))

  abbrev IsNetRead : Read → Type 0
  IsNetRead r = (r.of < r.reader) × (r.reader < length ts) × HasSmallOffset r

  small : (z : ℤ) → unsigned_abs z ≤ 2 ^ 41 → (neg_ℤ (pos (2 ^ 42)) ≤ℤ z) × (z ≤ℤ pos (2 ^ 42))
  small (pos m) h = (omega (arith, ints), omega (arith, ints))
  small (negsuc m) h = (omega (arith, ints), omega (arith, ints))

  by_reader : (k : ℕ) → k < length ts → (rs : List Reading) → AllByRecursion (IsEarlier k) rs → AllByRecursion IsNetRead (map (read_by k) rs)
  by_reader k l [] all = tt
  by_reader k l (r ∷ rs) all = ((all.0.0, l, small r.offset all.0.1), by_reader k l rs all.1)

  all_reads : (xs zs : List Read) → AllByRecursion IsNetRead xs → AllByRecursion IsNetRead zs → AllByRecursion IsNetRead (xs ++ zs)
  all_reads [] zs h k = k
  all_reads (a ∷ xs) zs h k = (h.0, all_reads xs zs h.1 k)

  first_all : (k : ℕ) → k ≤ length ts → AllByRecursion IsNetRead (reads_of_first p ts k)
  first_all zero l = subst (AllByRecursion IsNetRead) (sym (first_none p ts)) tt
  first_all (suc k) l =
      subst (AllByRecursion IsNetRead) (sym (first_more p ts k some_stage (omega arith))) (all_reads (reads_of_first p ts k) (map (read_by k) (reads_of p ts (get_or ts k some_stage))) (first_all k (omega arith)) (by_reader k (omega arith) (reads_of p ts (get_or ts k some_stage)) (earlier_at k some_stage (omega arith))))

  net_reads : All IsNetRead (staged_reads p)
  net_reads = All-from_recursion IsNetRead (staged_reads p) (subst (AllByRecursion IsNetRead) (sym (reads_are_first p)) (first_all (length ts) (omega arith)))

  widths_length : length (staged_widths p) ≡ length ts
  widths_length = ap length (widths_are p) ∙ length-map (staged_tensors p) (λ s. (type_of p s.tensor).bits)

  -- the staged program makes a net, where its widths are ones
  pub net_is : IsValid p → All IsWidth (staged_widths p) → IsNet (staged_widths p) (staged_reads p)
  net_is valid widths = record {
    few_tensors = omega (arith, widths_length, tensors_counted p sound, valid.few_live);
    widths = widths;
    few_reads = omega (arith, reads_counted, valid.few_reads);
    order = λ k d l. let h = net_reads k d l in (h.0, omega (arith, h.1, widths_length));
    offsets = λ k d l. (net_reads k d l).2;
  }
