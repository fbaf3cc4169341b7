-- The plan of a valid program is one, and inputs are staged in the first iteration alone.
use Rattle.std.proofs.Common.{◌≡◌, ◌≢◌, ℕ, zero, suc, ◌+◌, ◌-◌, ◌<◌, ◌≤◌, ◌&&◌, ◌==◌, Bool, true, false, cond, List, [], ◌∷◌, ◌++◌, length, map, take, drop, get_or, Some, slice_get, refl, sym, ◌∙◌, ap, subst, arith, ⊎_elim, if◌then◌else◌, eq-eqb, pos}
use Rattle.std.specs.List.{All, Contains, filter}
use Rattle.std.proofs.lemmas.Bool.{cases_Bool, cases_lt, false_from_ne_true, false≢true, or_parts}
use Rattle.std.proofs.lemmas.List.{append-nil, drop_more, get_or-append_right, get_or-map, get_or_append_left, get_or_default, length-append, length-map, take-append-drop}
use Rattle.std.proofs.lemmas.List.Elements.{All-append, All-filter, All-map, All-nil, filter-append, recursion_from_All}
use Rattle.delay_net.specs.Shape.{IsNet}
use Rattle.delay_net.specs.declared.net.Read.{Read}
use Rattle.net_shape.specs.Plans.{IsPlan, kind_at}
use Rattle.net_shape.specs.declared.kinds.Kind.TheVariants.{Input, Inner, Output}
use Rattle.net_shape.proofs.CallerLemmas.{keep_all}
use Rattle.net_build.specs.Planned.{kind_of, plan_of}
use Rattle.soda_ir.specs.Counts.{border_reads, formula_reads, is_input, is_live, is_output, output_number, tensor_reads}
use Rattle.soda_ir.specs.Formula.{by_formula}
use Rattle.soda_ir.specs.Points.{listed}
use Rattle.soda_ir.specs.Program.{PlainProgram, extents_at, input_types, preserves}
use Rattle.soda_ir.specs.Valid.{IsSound}
use Rattle.soda_ir.specs.declared.reads.Read.{Read as Reading}
use Rattle.soda_ir.proofs.CallerLemmas.{IsInput, get-listed, input_bare, input_known, input_there, length-listed, type_in}
use Rattle.time_stages.specs.declared.staging.StagedTensor.{StagedTensor}
use Rattle.time_stages.specs.Placing.{placing_order}
use Rattle.time_stages.specs.Staged.{in_order, inputs_of, live_statements, number_read, read_by, read_order, reads_of, staged_reads, staged_statements, staged_tensor, staged_tensors, staged_widths, type_of}
use Rattle.time_stages.proofs.CallerLemmas.{get_at, next_at, next_parts, no_input_output, place_in, reads_by_it}
use Rattle.staged_cells.proofs.Lists.{in_filter}

pub some_stage : StagedTensor
some_stage = record { turn = 0; tensor = 0; low = []; high = [] }

-- a filter of the numbers from 0 on, which passes all below one that it passes
filter_first : (f : ℕ → Bool) → ((m n : ℕ) → m < n → f n ≡ true → f m ≡ true) → (n v d : ℕ) → v < length (filter f (listed (λ x. x) n))
    → get_or (filter f (listed (λ x. x) n)) v d ≡ v
filter_first f low zero v d lt = absurd (omega arith)
filter_first f low (suc n) v d lt =
    let xs = listed (λ (x : ℕ). x) n in
    let split : filter f (xs ++ n ∷ []) ≡ filter f xs ++ cond (f n) (n ∷ []) [] = filter-append f xs (n ∷ []) in
    ⊎_elim
    (λ (t : f n ≡ true).
    let all : filter f xs ≡ xs =
    keep_all f xs (recursion_from_All (λ x. f x ≡ true) xs
    (λ k e l. let m : k < n = omega (arith, length-listed (λ (x : ℕ). x) n) in ap f (get-listed (λ x. x) n k e m) ∙ low k n m t)) in
    let whole : filter f (xs ++ n ∷ []) ≡ xs ++ n ∷ [] = split ∙ ap (λ b. filter f xs ++ cond b (n ∷ []) []) t ∙ ap (λ ys. ys ++ n ∷ []) all in
    ap (λ ys. get_or ys v d) whole ∙ get-listed (λ x. x) (suc n) v d (omega (arith, ap length whole, length-listed (λ (x : ℕ). x) (suc n))))
    (λ (t : f n ≡ false).
    let same : filter f (xs ++ n ∷ []) ≡ filter f xs = split ∙ ap (λ b. filter f xs ++ cond b (n ∷ []) []) t ∙ append-nil (filter f xs) in
    ap (λ ys. get_or ys v d) same ∙ filter_first f low n v d (omega (arith, ap length same)))
    (cases_Bool (f n))

-- an input of the program is one of the plan
pub kind_input : (p : PlainProgram) (s : StagedTensor) → is_input p s.tensor ≡ true → kind_of p s ≡ Input
kind_input p s e = ap (λ b. if b then Input else (if is_output p s.tensor && s.turn == p.iterate then Output else Inner)) e

module _ (p : PlainProgram) (sound : IsSound p) where
  abbrev ts : List StagedTensor
  ts = staged_tensors p

  -- an input reads nothing
  no_reads : (x : ℕ) → is_input p x ≡ true → tensor_reads p x ≡ []
  no_reads x i =
      let other : is_output p x ≡ false = false_from_ne_true (is_output p x) (λ o. no_input_output p.tensors x i o) in
      let apart : (preserves p && is_output p x) ≡ false =
      false_from_ne_true (preserves p && is_output p x) (λ b. never (preserves p) (is_output p x) other b) in
      ap (λ o. by_formula o [] (formula_reads (extents_at p 1)) ++ border_reads p x) (input_bare p.tensors x sound.parts.formulas i)
      ∙ ap (λ b. if b then record { of = output_number p x; offset = pos 0 } ∷ [] else []) apart
    where
      never : (a b : Bool) → b ≡ false → (a && b) ≡ true → ⊥
      never true b e h = false≢true (sym e ∙ h)
      never false b e h = false≢true h

  none_by : (v : ℕ) (s : StagedTensor) → slice_get ts v ≡ Some s → is_input p s.tensor ≡ true → filter (λ (r : Read). r.reader == v) (staged_reads p) ≡ []
  unfolding reads_of
  none_by v s e i =
      reads_by_it p v s e
      ∙ ap (λ (rs : List Reading). map (read_by v)
      (in_order read_order (map (λ (r : Reading). record { of = number_read p ts s.turn r.of; offset = r.offset }) rs))) (no_reads s.tensor i)

  -- what is an input of the plan is one of the program
  input_kind : (s : StagedTensor) → kind_of p s ≡ Input → is_input p s.tensor ≡ true
  input_kind s e = by (is_input p s.tensor) (is_output p s.tensor && s.turn == p.iterate) e
    where
      by : (a b : Bool) → (if a then Input else (if b then Output else Inner)) ≡ Input → a ≡ true
      by true b e = refl
      by false true e = absurd (cc)
      by false false e = absurd (cc)

  pub output_kind : (s : StagedTensor) → kind_of p s ≡ Output → (is_output p s.tensor && s.turn == p.iterate) ≡ true
  output_kind s e = by (is_input p s.tensor) (is_output p s.tensor && s.turn == p.iterate) e
    where
      by : (a b : Bool) → (if a then Input else (if b then Output else Inner)) ≡ Output → b ≡ true
      by true b e = absurd (cc)
      by false true e = refl
      by false false e = absurd (cc)

  module _ (delays : List ℕ) where
    pub kinds_are : length (plan_of p delays).kinds ≡ length ts
    kinds_are = length-map ts (kind_of p)

    pub kind_is : (v : ℕ) → v < length ts → kind_at (plan_of p delays) v ≡ kind_of p (get_or ts v some_stage)
    kind_is v lt = get_or-map (kind_of p) ts v some_stage Inner lt

    -- the staged tensor of a number
    pub staged_at : (v : ℕ) → v < length (plan_of p delays).kinds → slice_get ts v ≡ Some (get_or ts v some_stage)
    staged_at v lt = get_at ts v some_stage (omega (arith, kinds_are))

    pub is_source : (v : ℕ) → v < length (plan_of p delays).kinds → kind_at (plan_of p delays) v ≡ Input → is_input p (get_or ts v some_stage).tensor ≡ true
    is_source v lt e = input_kind (get_or ts v some_stage) (sym (kind_is v (omega (arith, kinds_are))) ∙ e)

    module _ (net : IsNet (staged_widths p) (staged_reads p)) where
      widths_are : length (staged_widths p) ≡ length ts
      unfolding staged_widths
      widths_are = length-map ts (λ (s : StagedTensor). (type_of p s.tensor).bits)

      not_input : (k : ℕ) (d : Read) → k < length (staged_reads p) → kind_at (plan_of p delays) (get_or (staged_reads p) k d).reader ≢ Input
      not_input k d lt e =
          let r = get_or (staged_reads p) k d in
          let v = r.reader in
          let within : v < length (plan_of p delays).kinds = omega (arith, (net.order k d lt).1, widths_are, kinds_are) in
          let none = none_by v (get_or ts v some_stage) (staged_at v within) (is_source v within e) in
          let has : Contains (filter (λ (q : Read). q.reader == v) (staged_reads p)) r =
          in_filter (λ (q : Read). q.reader == v) (staged_reads p) k r lt (get_or_default (staged_reads p) k r d lt) (eq-eqb v v refl) in
          let empty : Contains [] r = subst (λ rs. Contains rs r) none has in
          absurd (omega (arith, empty.1))

      pub plan_is : IsPlan (plan_of p delays)
      plan_is = record {
        lanes = omega (arith, sound.limits.some_lanes);
        of = λ k d lt. (net.order k d lt).0;
        reader = λ k d lt. omega (arith, (net.order k d lt).1, widths_are, kinds_are);
        inputs = not_input;
      }

  -- ---- inputs are staged in the first iteration

  placed_no_input : (k d : ℕ) → k < length (placing_order p) → is_input p (get_or (placing_order p) k d) ≡ false
  placed_no_input k d lt =
      let xs = placing_order p in
      let x = get_or xs k d in
      let split : xs ≡ take k xs ++ x ∷ drop (k + 1) xs = sym (take-append-drop k xs) ∙ ap (λ zs. take k xs ++ zs) (drop_more xs k d lt) in
      let next = next_at p (length p.tensors) (take k xs) (drop (k + 1) xs) x split in
      (or_parts (is_input p x) _ (next_parts p (take k xs) x next).0).0

  statements_no_input : (t : ℕ) → All (λ (s : StagedTensor). is_input p s.tensor ≡ false) (staged_statements p t)
  unfolding staged_statements
  statements_no_input zero = All-nil (λ (s : StagedTensor). is_input p s.tensor ≡ false)
  statements_no_input (suc t) =
      All-append (λ (s : StagedTensor). is_input p s.tensor ≡ false) (staged_statements p t) (map (staged_tensor p t) (live_statements p (p.iterate - suc t)))
      (statements_no_input t)
      (All-map (λ (s : StagedTensor). is_input p s.tensor ≡ false) (staged_tensor p t) (live_statements p (p.iterate - suc t))
      (All-filter (is_live p (p.iterate - suc t)) (λ x. is_input p x ≡ false) (placing_order p) placed_no_input))

  inputs_first : All (λ (s : StagedTensor). is_input p s.tensor ≡ true → s.turn ≡ 1) ts
  unfolding staged_tensors
  inputs_first =
      All-append (λ (s : StagedTensor). is_input p s.tensor ≡ true → s.turn ≡ 1) (map (staged_tensor p 0) (inputs_of p)) (staged_statements p p.iterate)
      (All-map (λ (s : StagedTensor). is_input p s.tensor ≡ true → s.turn ≡ 1) (staged_tensor p 0) (inputs_of p) (λ k d lt i. refl))
      (λ k d lt i. absurd (false≢true (sym (statements_no_input p.iterate k d lt) ∙ i)))

  pub input_turn : (v : ℕ) (s : StagedTensor) → slice_get ts v ≡ Some s → is_input p s.tensor ≡ true → s.turn ≡ 1
  input_turn v s e i =
      let at = place_in ts v s e in
      subst (λ (u : StagedTensor). is_input p u.tensor ≡ true → u.turn ≡ 1) at.1 (inputs_first v s at.0) i

  -- as a number that is above none that isn't an input, an input is its own staged number
  inputs_low : (m n : ℕ) → m < n → is_input p n ≡ true → is_input p m ≡ true
  inputs_low m n lt i =
      let there : IsInput (input_types p.tensors) n (type_in p.tensors n) = input_there p.tensors n sound.ends.inputs_first i in
      input_known p.tensors m sound.ends.inputs_first (omega (arith, there.there))

  pub input_place : (v : ℕ) (s : StagedTensor) → slice_get ts v ≡ Some s → is_input p s.tensor ≡ true → s.tensor ≡ v
  unfolding staged_tensors
  input_place v s e i =
      let at = place_in ts v s e in
      let xs = inputs_of p in
      let first = map (staged_tensor p 0) xs in
      let rest = staged_statements p p.iterate in
      let few : length first ≡ length xs = length-map xs (staged_tensor p 0) in
      ⊎_elim
      (λ (lt : v < length xs).
      let is : get_or ts v s ≡ staged_tensor p 0 (get_or xs v 0) = get_or_append_left first rest s v (omega (arith, few))
      ∙ get_or-map (staged_tensor p 0) xs v 0 s lt in
      ap (λ (u : StagedTensor). u.tensor) (sym at.1 ∙ is) ∙ filter_first (is_input p) inputs_low (length p.tensors) v 0 lt)
      (λ (ge : length xs ≤ v).
      let is : get_or ts v s ≡ get_or rest (v - length xs) s = get_or-append_right first rest (length xs) v s few ge in
      let within : v - length xs < length rest = omega (arith, length-append first rest, few, at.0) in
      absurd (false≢true (sym (subst (λ (u : StagedTensor). is_input p u.tensor ≡ false) (sym is ∙ at.1)
      (statements_no_input p.iterate (v - length xs) s within)) ∙ i)))
      (cases_lt v (length xs))
