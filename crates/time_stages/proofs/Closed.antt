-- What a staged tensor reads stands before it.
use Rattle.std.proofs.Common.{◌≡◌, ◌≢◌, ℕ, zero, suc, ◌+◌, ◌-◌, ◌<◌, ◌≤◌, ◌⊎◌, Bool, true, false, not, ◌&&◌, ◌||◌, ◌==◌, List, [], ◌∷◌, ◌++◌, length, map, Option, Some, None, slice_get, slice_index_or, refl, sym, ◌∙◌, ap, arith, ⊎_elim, inl, inr, cond, if◌then◌else◌, eq-eqb, append_assoc, pos}
use Rattle.std.specs.List.{filter, list_any, position_or_len}
use Rattle.std.proofs.lemmas.Bool.{and_from, and_parts, cases_lt, eqb-true, false_from_ne_true, false≢true, or_cases, or_left, or_right, true≢false}
use Rattle.std.proofs.lemmas.List.{append-nil}
use Rattle.std.proofs.lemmas.List.Folds.{list_any-append}
use Rattle.soda_ir.specs.declared.reads.Read.{Read as Reading}
use Rattle.soda_ir.specs.Counts.{border_reads, does_read, formula_in, formula_reads, is_input, is_live, is_output, is_output_role, is_input_role, is_wanted, output_number, some_below, tensor_reads}
use Rattle.soda_ir.specs.Formula.{Formula, number, read, param, unary, binary, choice, cast, by_formula, every}
use Rattle.soda_ir.specs.Points.{listed}
use Rattle.soda_ir.specs.declared.program.Role.{Role}
use Rattle.soda_ir.specs.declared.program.Role.TheVariants.{Input, Local, Output}
use Rattle.soda_ir.specs.Program.{PlainProgram, PlainTensor, extents_at, outputs_of, preserves}
use Rattle.soda_ir.specs.Valid.{IsSound}
use Rattle.soda_ir.proofs.CallerLemmas.{input_bare, wanted_step}
use Rattle.time_stages.specs.declared.staging.StagedTensor.{StagedTensor}
use Rattle.time_stages.specs.Placing.{is_among, is_there, placing_order}
use Rattle.time_stages.specs.Staged.{inputs_of, is_stage, live_statements, number_of, number_read, staged_statements, staged_tensor, staged_tensors}
use Rattle.time_stages.proofs.Order.{among_split, order_all, order_behind, order_below}
use Rattle.time_stages.proofs.OutputNumbers.{border_is_input, input_numbered, output_is, outputs_below}
use Rattle.time_stages.proofs.Rounds.{reached_settled}
use Rattle.time_stages.proofs.StagedLists.{statements_none, statements_step, tensors_are}

-- ---- where a value stands in a list that is made of others

nothing : {A : Type 0} (before after : List A) (x : A) → [] ≡ before ++ x ∷ after → ⊥
nothing [] after x e = cc
nothing (b ∷ bs) after x e = cc

pub record FilterSplit (f : ℕ → Bool) (xs before : List ℕ) (x : ℕ) : Type 0 where
  pub front : List ℕ
  pub back : List ℕ
  pub is : xs ≡ front ++ x ∷ back
  pub kept : filter f front ≡ before
  pub passes : f x ≡ true

filter_first : (f : ℕ → Bool) (y : ℕ) (ys before after : List ℕ) (x : ℕ) → f y ≡ true → y ∷ filter f ys ≡ before ++ x ∷ after → ((bs : List ℕ) → filter f ys ≡ bs ++ x ∷ after → FilterSplit f ys bs x) → FilterSplit f (y ∷ ys) before x
filter_first f y ys [] after x h e rest =
    let i : y ≡ x = cc in
    record { front = []; back = ys; is = ap (λ z. z ∷ ys) i; kept = refl; passes = sym (ap f i) ∙ h }
filter_first f y ys (b ∷ bs) after x h e rest =
    let i : y ≡ b = cc in
    let d : filter f ys ≡ bs ++ x ∷ after = cc in
    let r = rest bs d in
    record {
      front = y ∷ r.front;
      back = r.back;
      is = ap (λ zs. y ∷ zs) r.is;
      kept = ap (λ c. cond c (y ∷ filter f r.front) (filter f r.front)) h ∙ ap (λ zs. y ∷ zs) r.kept ∙ ap (λ z. z ∷ bs) i;
      passes = r.passes;
    }

filter_next : (f : ℕ → Bool) (y : ℕ) (ys before : List ℕ) (x : ℕ) → f y ≡ false → FilterSplit f ys before x → FilterSplit f (y ∷ ys) before x
filter_next f y ys before x h r = record {
  front = y ∷ r.front;
  back = r.back;
  is = ap (λ zs. y ∷ zs) r.is;
  kept = ap (λ c. cond c (y ∷ filter f r.front) (filter f r.front)) h ∙ r.kept;
  passes = r.passes;
}

pub filter_split : (f : ℕ → Bool) (xs before after : List ℕ) (x : ℕ) → filter f xs ≡ before ++ x ∷ after → FilterSplit f xs before x
filter_split f [] before after x e = absurd (nothing before after x e)
filter_split f (y ∷ ys) before after x e =
    elim (f y) as (λ (c : Bool). f y ≡ c → cond c (y ∷ filter f ys) (filter f ys) ≡ before ++ x ∷ after → FilterSplit f (y ∷ ys) before x) [
      | true ↦ λ h d. filter_first f y ys before after x h d (λ bs g. filter_split f ys bs after x g)
      | false ↦ λ h d. filter_next f y ys before x h (filter_split f ys before after x d)
    ] refl e

pub record MapSplit {B : Type 0} (g : ℕ → B) (xs : List ℕ) (before : List B) (s : B) : Type 0 where
  pub front : List ℕ
  pub at : ℕ
  pub back : List ℕ
  pub is : xs ≡ front ++ at ∷ back
  pub front_is : map g front ≡ before
  pub at_is : g at ≡ s

map_next : {B : Type 0} (g : ℕ → B) (x : ℕ) (xs : List ℕ) (b : B) (bs : List B) (s : B) → g x ≡ b → MapSplit g xs bs s → MapSplit g (x ∷ xs) (b ∷ bs) s
map_next g x xs b bs s i r = record {
  front = x ∷ r.front;
  at = r.at;
  back = r.back;
  is = ap (λ zs. x ∷ zs) r.is;
  front_is = ap (λ z. z ∷ map g r.front) i ∙ ap (λ zs. b ∷ zs) r.front_is;
  at_is = r.at_is;
}

pub map_split : {B : Type 0} (g : ℕ → B) (xs : List ℕ) (before after : List B) (s : B) → map g xs ≡ before ++ s ∷ after → MapSplit g xs before s
map_split g [] before after s e = absurd (nothing before after s e)
map_split g (x ∷ xs) [] after s e =
    let i : g x ≡ s = cc in
    record { front = []; at = x; back = xs; is = refl; front_is = refl; at_is = i }
map_split g (x ∷ xs) (b ∷ bs) after s e =
    map_next g x xs b bs s (cc) (map_split g xs bs after s (cc))

-- the value stands in the first part, or behind it in the second
abbrev InFirst : {A : Type 0} (xs before : List A) (s : A) → Type 0
InFirst {A} xs before s = (rest : List A) × (xs ≡ before ++ s ∷ rest)

abbrev InSecond : {A : Type 0} (xs ys before after : List A) (s : A) → Type 0
InSecond {A} xs ys before after s = (front : List A) × (before ≡ xs ++ front) × (ys ≡ front ++ s ∷ after)

append_split : {A : Type 0} (xs ys before after : List A) (s : A) → xs ++ ys ≡ before ++ s ∷ after → InFirst xs before s ⊎ InSecond xs ys before after s
append_split [] ys before after s e = inr (before, refl, e)
append_split (x ∷ xs) ys [] after s e =
    let i : x ≡ s = cc in
    inl (xs, ap (λ z. z ∷ xs) i)
append_split (x ∷ xs) ys (b ∷ bs) after s e =
    let i : x ≡ b = cc in
    let d : xs ++ ys ≡ bs ++ s ∷ after = cc in
    ⊎_elim (λ (h : InFirst xs bs s). inl (h.0, ap (λ z. z ∷ xs) i ∙ ap (λ zs. b ∷ zs) h.1)) (λ (h : InSecond xs ys bs after s). inr (h.0, ap (λ z. z ∷ bs) (sym i) ∙ ap (λ zs. x ∷ zs) h.1, h.2)) (append_split xs ys bs after s d)

-- ---- what is among them

among_filter : (f : ℕ → Bool) (y : ℕ) (xs : List ℕ) → f y ≡ true → is_among y xs ≡ true → is_among y (filter f xs) ≡ true
among_filter f y [] h e = e
among_filter f y (x ∷ xs) h e =
    elim (f x) as (λ (c : Bool). f x ≡ c → is_among y (cond c (x ∷ filter f xs) (filter f xs)) ≡ true) [
      | true ↦ λ k. ⊎_elim (λ (i : (x == y) ≡ true). or_left (x == y) (is_among y (filter f xs)) i) (λ (r : is_among y xs ≡ true). or_right (x == y) (is_among y (filter f xs)) (among_filter f y xs h r)) (or_cases (x == y) (is_among y xs) e)
      | false ↦ λ k. ⊎_elim (λ (i : (x == y) ≡ true). absurd (true≢false (sym h ∙ sym (ap f (eqb-true x y i)) ∙ k))) (λ (r : is_among y xs ≡ true). among_filter f y xs h r) (or_cases (x == y) (is_among y xs) e)
    ] refl

-- a tensor of an iteration among those of the iteration
staged_there : (p : PlainProgram) (t y : ℕ) (xs : List ℕ) → is_among y xs ≡ true → list_any (is_stage (suc t) y) (map (staged_tensor p t) xs) ≡ true
staged_there p t y [] e = e
staged_there p t y (x ∷ xs) e =
    ⊎_elim (λ (i : (x == y) ≡ true). or_left (suc t == suc t && x == y) (list_any (is_stage (suc t) y) (map (staged_tensor p t) xs)) (and_from (suc t == suc t) (x == y) (eq-eqb (suc t) (suc t) refl) i))
    (λ (r : is_among y xs ≡ true). or_right (suc t == suc t && x == y) (list_any (is_stage (suc t) y) (map (staged_tensor p t) xs)) (staged_there p t y xs r))
    (or_cases (x == y) (is_among y xs) e)

some_at : (f : ℕ → Bool) (x n : ℕ) → x < n → f x ≡ true → some_below f n ≡ true
some_at f x zero l e = absurd (omega arith)
some_at f x (suc n) l e =
    ⊎_elim (λ (m : x < n). or_left (some_below f n) (f n) (some_at f x n m e)) (λ (m : n ≤ x).
    let i : n ≡ x = omega arith in
    or_right (some_below f n) (f n) (ap f i ∙ e)) (cases_lt x n)

-- ---- what a tensor reads

-- a test of what a formula's cells name holds of each read
read_passes : (test : ℕ → Bool) (ns : List ℕ) (y : ℕ) (f : Formula) → every (λ z o. test z) f ≡ true → list_any (λ (r : Reading). r.of == y) (formula_reads ns f) ≡ true → test y ≡ true
read_passes test ns y (number n) h e = absurd (false≢true e)
read_passes test ns y (read t o) h e =
    ⊎_elim (λ (i : (t == y) ≡ true). sym (ap test (eqb-true t y i)) ∙ h) (λ (r : false ≡ true). absurd (false≢true r)) (or_cases (t == y) false e)
read_passes test ns y (param q k) h e = absurd (false≢true e)
read_passes test ns y (unary op a) h e = read_passes test ns y a h e
read_passes test ns y (binary op a b) h e =
    let both = and_parts (every (λ z o. test z) a) (every (λ z o. test z) b) h in
    ⊎_elim (λ l. read_passes test ns y a both.0 l) (λ r. read_passes test ns y b both.1 r)
    (or_cases (list_any (λ (r : Reading). r.of == y) (formula_reads ns a)) (list_any (λ (r : Reading). r.of == y) (formula_reads ns b)) (sym (list_any-append (λ (r : Reading). r.of == y) (formula_reads ns a) (formula_reads ns b)) ∙ e))
read_passes test ns y (choice c a b) h e =
    let both = and_parts (every (λ z o. test z) c && every (λ z o. test z) a) (every (λ z o. test z) b) h in
    let first = and_parts (every (λ z o. test z) c) (every (λ z o. test z) a) both.0 in
    let q : Reading → Bool = λ r. r.of == y in
    ⊎_elim (λ l. read_passes test ns y c first.0 l) (λ (r : list_any q (formula_reads ns a ++ formula_reads ns b) ≡ true).
    ⊎_elim (λ l. read_passes test ns y a first.1 l) (λ m. read_passes test ns y b both.1 m) (or_cases (list_any q (formula_reads ns a)) (list_any q (formula_reads ns b)) (sym (list_any-append q (formula_reads ns a) (formula_reads ns b)) ∙ r)))
    (or_cases (list_any q (formula_reads ns c)) (list_any q (formula_reads ns a ++ formula_reads ns b)) (sym (list_any-append q (formula_reads ns c) (formula_reads ns a ++ formula_reads ns b)) ∙ e))
read_passes test ns y (cast t a) h e = read_passes test ns y a h e

by_passes : (test : ℕ → Bool) (ns : List ℕ) (y : ℕ) (o : Option Formula) → ((f : Formula) → o ≡ Some f → every (λ z d. test z) f ≡ true) → list_any (λ (r : Reading). r.of == y) (by_formula o [] (formula_reads ns)) ≡ true → test y ≡ true
by_passes test ns y None h e = absurd (false≢true e)
by_passes test ns y (Some f) h e = read_passes test ns y f (h f refl) e

border_by : (b : Bool) (n y : ℕ) → list_any (λ (r : Reading). r.of == y) (if b then record { of = n; offset = pos 0 } ∷ [] else []) ≡ true → (b ≡ true) × (n ≡ y)
border_by true n y e =
    ⊎_elim (λ (i : (n == y) ≡ true). (refl, eqb-true n y i)) (λ (r : false ≡ true). absurd (false≢true r)) (or_cases (n == y) false e)
border_by false n y e = absurd (false≢true e)

no_both : (r : Role) → is_input_role r ≡ true → is_output_role r ≡ true → ⊥
no_both Input e h = false≢true h
no_both Local e h = false≢true e
no_both Output e h = false≢true e

-- no input is an output
pub no_input_output : (ts : List PlainTensor) (x : ℕ) → elim (slice_get ts x) [ None ↦ false | Some t ↦ is_input_role t.role ] ≡ true → elim (slice_get ts x) [ None ↦ false | Some t ↦ is_output_role t.role ] ≡ true → ⊥
no_input_output [] x e h = false≢true e
no_input_output (t ∷ ts) zero e h = no_both t.role e h
no_input_output (t ∷ ts) (suc x) e h = no_input_output ts x e h

pub true_or_not : (b : Bool) → (b ≡ true) ⊎ (b ≡ false)
true_or_not true = inl refl
true_or_not false = inr refl

and_no : (b : Bool) → (b && not (1 == 1)) ≡ false
and_no true = refl
and_no false = refl

-- the source of a read: the staged tensor that what is read stands for
abbrev pub is_source : PlainProgram → (turn y : ℕ) → StagedTensor → Bool
is_source p turn y =
    if is_input p y && not (turn == 1) then is_stage (turn - 1) (slice_index_or (outputs_of p) y 0) else is_stage turn y

pub number_source : (p : PlainProgram) (ts : List StagedTensor) (turn y : ℕ) → number_read p ts turn y ≡ position_or_len (is_source p turn y) ts
number_source p ts turn y = by (is_input p y && not (turn == 1))
  where
    by : (b : Bool) → (if b then number_of ts (turn - 1) (slice_index_or (outputs_of p) y 0) else number_of ts turn y)
        ≡ position_or_len (if b then is_stage (turn - 1) (slice_index_or (outputs_of p) y 0) else is_stage turn y) ts
    by true = refl
    by false = refl

pub prefix_place : {A : Type 0} (f : A → Bool) (before after : List A) → list_any f before ≡ true → position_or_len f (before ++ after) < length before
prefix_place f [] after e = absurd (false≢true e)
prefix_place f (x ∷ xs) after e =
    elim (f x) as (λ (b : Bool). (b || list_any f xs) ≡ true → cond (not b) (1 + position_or_len f (xs ++ after)) 0 < suc (length xs)) [
      | true ↦ λ d. omega arith
      | false ↦ λ d. omega (arith, prefix_place f xs after d)
    ] e

-- what each of these staged tensors reads stands before it
abbrev pub Closed : PlainProgram → List StagedTensor → Type 0
Closed p ts =
    (before after : List StagedTensor) (s : StagedTensor) (y : ℕ) → ts ≡ before ++ s ∷ after → does_read p s.tensor y ≡ true
    → list_any (is_source p s.turn y) before ≡ true

module _ (p : PlainProgram) (sound : IsSound p) where
  -- an input reads nothing
  pub input_reads : (x : ℕ) → is_input p x ≡ true → tensor_reads p x ≡ []
  input_reads x e =
      let none : formula_in p x ≡ None = input_bare p.tensors x sound.parts.formulas e in
      let output : is_output p x ≡ false = false_from_ne_true (is_output p x) (λ h. no_input_output p.tensors x e h) in
      ap (λ f. by_formula f [] (formula_reads (extents_at p 1)) ++ border_reads p x) none
      ∙ ap (λ b. if preserves p && b then record { of = output_number p x; offset = pos 0 } ∷ [] else []) output
      ∙ no_border (preserves p)
    where
      no_border : (b : Bool) → ◌≡◌ {A = List Reading} (if b && false then record { of = output_number p x; offset = pos 0 } ∷ [] else []) []
      no_border true = refl
      no_border false = refl

  pub input_reads_not : (x y : ℕ) → is_input p x ≡ true → does_read p x y ≡ true → ⊥
  input_reads_not x y e h =
      false≢true (sym (ap (λ (rs : List Reading). list_any (λ r. r.of == y) rs) (input_reads x e)) ∙ h)

  -- what a placed tensor reads is there before it
  reads_there : (front back : List ℕ) (x y : ℕ) → placing_order p ≡ front ++ x ∷ back → does_read p x y ≡ true → is_there p front y ≡ true
  reads_there front back x y e h =
      let ns = extents_at p 1 in
      let q : Reading → Bool = λ r. r.of == y in
      ⊎_elim (λ l. by_passes (is_there p front) ns y (formula_in p x) (λ f d. order_behind p (length p.tensors) front back x f e d) l)
      (λ (r : list_any q (border_reads p x) ≡ true).
      let b = border_by (preserves p && is_output p x) (output_number p x) y r in
      let both = and_parts (preserves p) (is_output p x) b.0 in
      or_left (is_input p y) (is_among y front) (sym (ap (is_input p) b.1) ∙ border_is_input p sound both.0 x (order_below p (length p.tensors) front back x e) both.1))
      (or_cases (list_any q (by_formula (formula_in p x) [] (formula_reads ns))) (list_any q (border_reads p x)) (sym (list_any-append q (by_formula (formula_in p x) [] (formula_reads ns)) (border_reads p x)) ∙ h))

  -- what a live tensor reads is live
  live_reads : (later x y : ℕ) → x < length p.tensors → y < length p.tensors → is_live p later x ≡ true → does_read p x y ≡ true → is_live p later y ≡ true
  live_reads later x y l m e h =
      reached_settled (does_read p) (length p.tensors) (is_wanted p later) y m
      ∙ or_right (is_wanted p later y) (some_below (λ z. is_live p later z && does_read p z y) (length p.tensors))
      (some_at (λ z. is_live p later z && does_read p z y) x (length p.tensors) l (and_from (is_live p later x) (does_read p x y) e h))

  input_below : (ts : List PlainTensor) (x : ℕ) → elim (slice_get ts x) [ None ↦ false | Some t ↦ is_input_role t.role ] ≡ true → x < length ts
  input_below [] x e = absurd (false≢true e)
  input_below (t ∷ ts) zero e = omega arith
  input_below (t ∷ ts) (suc x) e = omega (arith, input_below ts x e)

  -- an output that the next iteration reads is live
  output_live : (later y : ℕ) → p.iterate ≢ 1 → is_input p y ≡ true → is_live p later y ≡ true → is_among (slice_index_or (outputs_of p) y 0) (live_statements p (suc later)) ≡ true
  output_live later y iterated e h =
      let x = slice_index_or (outputs_of p) y 0 in
      let numbered = input_numbered p sound iterated y e in
      let is = output_is p y numbered in
      let below = outputs_below p y numbered in
      let wanted : is_wanted p (suc later) x ≡ true = wanted_step p later x ∙ and_from (is_output p x) (is_live p later (output_number p x)) is.0 (ap (is_live p later) is.1 ∙ h) in
      let live : is_live p (suc later) x ≡ true = reached_settled (does_read p) (length p.tensors) (is_wanted p (suc later)) x below
      ∙ or_left (is_wanted p (suc later) x) (some_below (λ z. is_live p (suc later) z && does_read p z x) (length p.tensors)) wanted in
      let local : is_input p x ≡ false = false_from_ne_true (is_input p x) (λ i. no_input_output p.tensors x i is.0) in
      among_filter (is_live p (suc later)) x (placing_order p) live (order_all p x sound below ∙ ap not local)

  abbrev pub staged_until : ℕ → List StagedTensor
  staged_until t = map (staged_tensor p 0) (inputs_of p) ++ staged_statements p t

  all_numbers : (k y : ℕ) → y < k → is_among y (listed (λ x. x) k) ≡ true
  all_numbers zero y l = absurd (omega arith)
  all_numbers (suc k) y l =
      list_any-append (λ x. x == y) (listed (λ x. x) k) (k ∷ [])
      ∙ ⊎_elim (λ (m : y < k). or_left (is_among y (listed (λ x. x) k)) (k == y || false) (all_numbers k y m)) (λ (m : k ≤ y). or_right (is_among y (listed (λ x. x) k)) (k == y || false) (or_left (k == y) false (eq-eqb k y (omega arith)))) (cases_lt y k)

  input_among : (y : ℕ) → is_input p y ≡ true → is_among y (inputs_of p) ≡ true
  input_among y e =
      among_filter (is_input p) y (listed (λ x. x) (length p.tensors)) e (all_numbers (length p.tensors) y (input_below p.tensors y e))

  -- the source of what a tensor of an iteration reads: a tensor of that iteration
  source_here : (turn y : ℕ) → (is_input p y && not (turn == 1)) ≡ false → is_source p turn y ≡ is_stage turn y
  source_here turn y e =
      ap (λ b. if b then is_stage (turn - 1) (slice_index_or (outputs_of p) y 0) else is_stage turn y) e

  source_before : (t y : ℕ) → is_input p y ≡ true → is_source p (suc (suc t)) y ≡ is_stage (suc t) (slice_index_or (outputs_of p) y 0)
  source_before t y e =
      let later : (suc (suc t) == 1) ≡ false = false_from_ne_true (suc (suc t) == 1) (λ d. let i = eqb-true (suc (suc t)) 1 d in absurd (omega arith)) in
      let less : suc (suc t) - 1 ≡ suc t = omega arith in
      ap (λ b. if b && not (suc (suc t) == 1) then is_stage (suc (suc t) - 1) (slice_index_or (outputs_of p) y 0) else is_stage (suc (suc t)) y) e
      ∙ ap (λ b. if not b then is_stage (suc (suc t) - 1) (slice_index_or (outputs_of p) y 0) else is_stage (suc (suc t)) y) later
      ∙ ap (λ k. is_stage k (slice_index_or (outputs_of p) y 0)) less

  -- an input's source stands before the iteration
  input_found : (t y : ℕ) → suc t ≤ p.iterate → is_input p y ≡ true → is_live p (p.iterate - suc t) y ≡ true → list_any (is_source p (suc t) y) (staged_until t) ≡ true
  input_found zero y l e h =
      let first : (is_input p y && not (1 == 1)) ≡ false = and_no (is_input p y) in
      ap (λ f. list_any f (staged_until 0)) (source_here 1 y first)
      ∙ list_any-append (is_stage 1 y) (map (staged_tensor p 0) (inputs_of p)) (staged_statements p 0)
      ∙ or_left (list_any (is_stage 1 y) (map (staged_tensor p 0) (inputs_of p))) (list_any (is_stage 1 y) (staged_statements p 0)) (staged_there p 0 y (inputs_of p) (input_among y e))
  input_found (suc t) y l e h =
      let x = slice_index_or (outputs_of p) y 0 in
      let later : p.iterate - suc t ≡ suc (p.iterate - suc (suc t)) = omega arith in
      let live : is_among x (live_statements p (p.iterate - suc t)) ≡ true = ap (λ k. is_among x (live_statements p k)) later ∙ output_live (p.iterate - suc (suc t)) y (λ i. omega arith) e h in
      let block = map (staged_tensor p t) (live_statements p (p.iterate - suc t)) in
      let found : list_any (is_stage (suc t) x) block ≡ true = staged_there p t x (live_statements p (p.iterate - suc t)) live in
      let statements : list_any (is_stage (suc t) x) (staged_statements p (suc t)) ≡ true = ap (list_any (is_stage (suc t) x)) (statements_step p t)
      ∙ list_any-append (is_stage (suc t) x) (staged_statements p t) block
      ∙ or_right (list_any (is_stage (suc t) x) (staged_statements p t)) (list_any (is_stage (suc t) x) block) found in
      ap (λ f. list_any f (staged_until (suc t))) (source_before t y e)
      ∙ list_any-append (is_stage (suc t) x) (map (staged_tensor p 0) (inputs_of p)) (staged_statements p (suc t))
      ∙ or_right (list_any (is_stage (suc t) x) (map (staged_tensor p 0) (inputs_of p))) (list_any (is_stage (suc t) x) (staged_statements p (suc t))) statements

  -- what a tensor of an iteration reads stands before the iteration, or before it in the iteration
  found_before : (t : ℕ) (before after : List ℕ) (x y : ℕ) → suc t ≤ p.iterate → live_statements p (p.iterate - suc t) ≡ before ++ x ∷ after → does_read p x y ≡ true
      → list_any (is_source p (suc t) y) (staged_until t ++ map (staged_tensor p t) before) ≡ true
  found_before t before after x y l e h =
      let later = p.iterate - suc t in
      let s = filter_split (is_live p later) (placing_order p) before after x e in
      let there = reads_there s.front s.back x y s.is h in
      let below = order_below p (length p.tensors) s.front s.back x s.is in
      let f = is_source p (suc t) y in
      let block = map (staged_tensor p t) before in
      list_any-append f (staged_until t) block
      ∙ ⊎_elim (λ (i : is_input p y ≡ true).
      let live = live_reads later x y below (input_below p.tensors y i) s.passes h in
      or_left (list_any f (staged_until t)) (list_any f block) (input_found t y l i live))
      (λ (i : is_input p y ≡ false).
      let among : is_among y s.front ≡ true = sym (ap (λ b. b || is_among y s.front) i) ∙ there in
      let split = among_split s.front y among in
      let within : y < length p.tensors = order_below p (length p.tensors) split.0 (split.1 ++ x ∷ s.back) y (s.is ∙ ap (λ zs. zs ++ x ∷ s.back) split.2 ∙ append_assoc split.0 (y ∷ split.1) (x ∷ s.back)) in
      let live = live_reads later x y below within s.passes h in
      let here : is_among y before ≡ true = ap (is_among y) (sym s.kept) ∙ among_filter (is_live p later) y s.front live among in
      let source : f ≡ is_stage (suc t) y = source_here (suc t) y (ap (λ b. b && not (suc t == 1)) i) in
      or_right (list_any f (staged_until t)) (list_any f block) (ap (λ g. list_any g block) source ∙ staged_there p t y before here))
      (true_or_not (is_input p y))

  closed_inputs : Closed p (map (staged_tensor p 0) (inputs_of p))
  closed_inputs before after s y e h =
      let m = map_split (staged_tensor p 0) (inputs_of p) before after s e in
      let f = filter_split (is_input p) (listed (λ x. x) (length p.tensors)) m.front m.back m.at m.is in
      absurd (input_reads_not m.at y f.passes (ap (λ (u : StagedTensor). does_read p u.tensor y) m.at_is ∙ h))

  closed_until : (t : ℕ) → t ≤ p.iterate → Closed p (staged_until t)
  closed_until zero l before after s y e h =
      closed_inputs before after s y (sym (append-nil (map (staged_tensor p 0) (inputs_of p))) ∙ ap (λ zs. map (staged_tensor p 0) (inputs_of p) ++ zs) (sym (statements_none p)) ∙ e) h
  closed_until (suc t) l before after s y e h =
      let later = p.iterate - suc t in
      let block = map (staged_tensor p t) (live_statements p later) in
      let is : staged_until t ++ block ≡ before ++ s ∷ after = append_assoc (map (staged_tensor p 0) (inputs_of p)) (staged_statements p t) block ∙ ap (λ zs. map (staged_tensor p 0) (inputs_of p) ++ zs) (sym (statements_step p t)) ∙ e in
      ⊎_elim (λ (a : InFirst (staged_until t) before s). closed_until t (omega arith) before a.0 s y a.1 h) (λ (b : InSecond (staged_until t) block before after s).
      let m = map_split (staged_tensor p t) (live_statements p later) b.0 after s b.2 in
      let reads : does_read p m.at y ≡ true = ap (λ (u : StagedTensor). does_read p u.tensor y) m.at_is ∙ h in
      let found = found_before t m.front m.back m.at y l m.is reads in
      ap (λ (u : StagedTensor). list_any (is_source p u.turn y) before) (sym m.at_is)
      ∙ ap (list_any (is_source p (suc t) y)) (b.1 ∙ ap (λ zs. staged_until t ++ zs) (sym m.front_is))
      ∙ found) (append_split (staged_until t) block before after s is)

  pub closed : Closed p (staged_tensors p)
  closed before after s y e h =
      closed_until p.iterate (omega arith) before after s y (sym (tensors_are p) ∙ e) h
