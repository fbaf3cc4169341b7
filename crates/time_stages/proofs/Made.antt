-- The margins of tensors: their depth is no matter, they rest on the inputs' alone, and they are made in placing order.
use Rattle.std.proofs.Common.{◌≡◌, ℕ, zero, suc, ◌+◌, ◌*◌, ◌<◌, ◌≤◌, Bool, true, false, not, ◌&&◌, ◌||◌, ◌==◌, List, [], ◌∷◌, ◌++◌, length, map, set, replicate, Option, Some, None, slice_get, slice_index_or, ℤ, pos, unsigned_abs, nat_le, nat_lt, refl, sym, ◌∙◌, ap, subst, arith, ⊎_elim, length-append}
use Rattle.std.specs.List.{list_all}
use Rattle.std.proofs.Math.Bool.{or-false}
use Rattle.std.proofs.lemmas.Bool.{and_from, and_parts, cases_eq, cases_lt, eqb-true, false≢true, leb-true, ltb-true, or_cases}
use Rattle.std.proofs.lemmas.List.{get_or_default, get_or_past, get_or-set_other, get_or-set_same, length-replicate, length-set, same_lists}
use Rattle.soda_ir.specs.Counts.{can_be_placed, formula_in, has_place, is_input, is_input_role}
use Rattle.soda_ir.specs.Formula.{Formula, number, read, param, unary, binary, choice, cast, by_formula, every}
use Rattle.soda_ir.specs.Points.{listed}
use Rattle.soda_ir.specs.Program.{PlainProgram, PlainTensor}
use Rattle.soda_ir.specs.Uses.{formula_is, is_good_cell, is_near}
use Rattle.soda_ir.specs.Valid.{IsSound, has_formula_if_no_input}
use Rattle.soda_ir.proofs.CallerLemmas.{countable, every_both, get-listed, get-listed-past, good_length, good_near, good_there, input_bare, length-listed, past_last, reads_good}
use Rattle.soda_words.specs.Limits.{most_offset, most_tensors}
use Rattle.time_stages.specs.declared.margins.Margins.{Margins}
use Rattle.time_stages.specs.declared.margins.Side.{Side}
use Rattle.time_stages.specs.declared.margins.Side.TheVariants.{Low, High}
use Rattle.time_stages.specs.Margins.{AreMargins, dims_of, formula_margins, margins_over, needed, no_margins, widest}
use Rattle.time_stages.specs.Placing.{is_there, placing_order}
use Rattle.time_stages.specs.pieces.Numbers.{margins_made, side_of}
use Rattle.time_stages.proofs.Numbers.{margins_are, numbers_bound}
use Rattle.time_stages.proofs.Order.{all_there, formula_passes, order_behind, placed_length, there_push}

over_step : (p : PlainProgram) (inputs : ℕ → Margins) (k x : ℕ) → margins_over p inputs (suc k) x ≡ by_formula (formula_in p x) (inputs x) (formula_margins (dims_of p) (λ y o. needed (margins_over p inputs k y) o))
unfolding margins_over
over_step p inputs k x = refl

-- what a formula's reads need comes from the margins of what it reads
formula_same : (dims : ℕ) (a b : ℕ → Margins) (test : ℕ → List ℤ → Bool) → ((y : ℕ) (o : List ℤ) → test y o ≡ true → a y ≡ b y) → (f : Formula) → every test f ≡ true → formula_margins dims (λ y o. needed (a y) o) f ≡ formula_margins dims (λ y o. needed (b y) o) f
formula_same dims a b test h (number n) e = refl
formula_same dims a b test h (read t o) e = ap (λ m. needed m o) (h t o e)
formula_same dims a b test h (param p k) e = refl
formula_same dims a b test h (unary op x) e = formula_same dims a b test h x e
formula_same dims a b test h (binary op x y) e =
    let both = and_parts (every test x) (every test y) e in
    ap (λ m. widest m (formula_margins dims (λ y o. needed (a y) o) y)) (formula_same dims a b test h x both.0) ∙ ap (λ m. widest (formula_margins dims (λ y o. needed (b y) o) x) m) (formula_same dims a b test h y both.1)
formula_same dims a b test h (choice c x y) e =
    let both = and_parts (every test c && every test x) (every test y) e in
    let first = and_parts (every test c) (every test x) both.0 in
    let F : (ℕ → Margins) → Formula → Margins = λ v f. formula_margins dims (λ y o. needed (v y) o) f in
    ap (λ m. widest m (widest (F a x) (F a y))) (formula_same dims a b test h c first.0)
    ∙ ap (λ m. widest (F b c) (widest m (F a y))) (formula_same dims a b test h x first.1)
    ∙ ap (λ m. widest (F b c) (widest (F b x) m)) (formula_same dims a b test h y both.1)
formula_same dims a b test h (cast t x) e = formula_same dims a b test h x e

by_same : {A : Type 0} → (o : Option Formula) (v w : A) (F G : Formula → A) → (o ≡ None → v ≡ w) → ((f : Formula) → o ≡ Some f → F f ≡ G f) → by_formula o v F ≡ by_formula o w G
by_same None v w F G n h = n refl
by_same (Some f) v w F G n h = h f refl

-- where a tensor has its place, more depth changes nothing
same_depth : (p : PlainProgram) (inputs : ℕ → Margins) (k m x : ℕ) → k ≤ m → has_place p k x ≡ true → margins_over p inputs k x ≡ margins_over p inputs m x
same_depth p inputs zero m x l e = absurd (false≢true e)
same_depth p inputs (suc k) zero x l e = absurd (omega arith)
same_depth p inputs (suc k) (suc m) x l e =
    over_step p inputs k x
    ∙ by_same (formula_in p x) (inputs x) (inputs x) (formula_margins (dims_of p) (λ y o. needed (margins_over p inputs k y) o)) (formula_margins (dims_of p) (λ y o. needed (margins_over p inputs m y) o)) (λ n. refl) (λ f d. formula_same (dims_of p) (margins_over p inputs k) (margins_over p inputs m) (λ y o. has_place p k y) (λ y o h. same_depth p inputs k m y (omega arith) h) f (formula_passes (every (λ y o. has_place p k y)) p.tensors x f e d))
    ∙ sym (over_step p inputs m x)

-- the margins of a tensor are those that its reads need
pub over_settled : (p : PlainProgram) (inputs : ℕ → Margins) (x : ℕ) → can_be_placed p x ≡ true → margins_over p inputs (length p.tensors) x ≡ by_formula (formula_in p x) (inputs x) (formula_margins (dims_of p) (λ y o. needed (margins_over p inputs (length p.tensors) y) o))
over_settled p inputs x e =
    same_depth p inputs (length p.tensors) (suc (length p.tensors)) x (omega arith) e ∙ over_step p inputs (length p.tensors) x

-- no other margins are so
pub over_one : (p : PlainProgram) (inputs m : ℕ → Margins) → ((x : ℕ) → x < length p.tensors → m x ≡ by_formula (formula_in p x) (inputs x) (formula_margins (dims_of p) (λ y o. needed (m y) o))) → (k x : ℕ) → has_place p k x ≡ true → m x ≡ margins_over p inputs k x
over_one p inputs m h zero x e = absurd (false≢true e)
over_one p inputs m h (suc k) x e =
    ⊎_elim (λ (l : x < length p.tensors). h x l
    ∙ by_same (formula_in p x) (inputs x) (inputs x) (formula_margins (dims_of p) (λ y o. needed (m y) o)) (formula_margins (dims_of p) (λ y o. needed (margins_over p inputs k y) o)) (λ n. refl) (λ f d. formula_same (dims_of p) m (margins_over p inputs k) (λ y o. has_place p k y) (λ y o i. over_one p inputs m h k y i) f (formula_passes (every (λ y o. has_place p k y)) p.tensors x f e d))
    ∙ sym (over_step p inputs k x)) (λ (l : length p.tensors ≤ x). absurd (false≢true (sym (past_last (λ t. by_formula t.formula true (every (λ y o. has_place p k y))) p x l) ∙ e))) (cases_lt x (length p.tensors))

-- a tensor that has no formula is an input
none_input : (g : Formula → Bool) (ts : List PlainTensor) (x : ℕ) → list_all has_formula_if_no_input ts ≡ true → elim (slice_get ts x) [ None ↦ false | Some t ↦ by_formula t.formula true g ] ≡ true → slice_index_or (map (λ t. t.formula) ts) x None ≡ None → elim (slice_get ts x) [ None ↦ false | Some t ↦ is_input_role t.role ] ≡ true
none_input g [] x h e d = e
none_input g (t ∷ ts) zero h e d =
    sym (ap (λ (o : Option Formula). elim o [ None ↦ is_input_role t.role | Some f ↦ not (is_input_role t.role) ]) d) ∙ (and_parts (has_formula_if_no_input t) (list_all has_formula_if_no_input ts) h).0
none_input g (t ∷ ts) (suc x) h e d =
    none_input g ts x (and_parts (has_formula_if_no_input t) (list_all has_formula_if_no_input ts) h).1 e d

-- only the margins of inputs matter
pub over_inputs : (p : PlainProgram) (a b : ℕ → Margins) → IsSound p → ((j : ℕ) → is_input p j ≡ true → a j ≡ b j) → (k x : ℕ) → has_place p k x ≡ true → margins_over p a k x ≡ margins_over p b k x
over_inputs p a b s h zero x e = absurd (false≢true e)
over_inputs p a b s h (suc k) x e =
    over_step p a k x
    ∙ by_same (formula_in p x) (a x) (b x) (formula_margins (dims_of p) (λ y o. needed (margins_over p a k y) o)) (formula_margins (dims_of p) (λ y o. needed (margins_over p b k y) o)) (λ n. h x (none_input (every (λ y o. has_place p k y)) p.tensors x s.parts.formulas e n)) (λ f d. formula_same (dims_of p) (margins_over p a k) (margins_over p b k) (λ y o. has_place p k y) (λ y o i. over_inputs p a b s h k y i) f (formula_passes (every (λ y o. has_place p k y)) p.tensors x f e d))
    ∙ sym (over_step p b k x)

-- no component of a near cell's offset is further than this
near_component : (o : List ℤ) (d : ℕ) → is_near o ≡ true → unsigned_abs (slice_index_or o d (pos 0)) ≤ most_offset
near_component [] d e = omega arith
near_component (x ∷ xs) zero e =
    leb-true (unsigned_abs x) most_offset (and_parts (nat_le (unsigned_abs x) most_offset) (is_near xs) e).0
near_component (x ∷ xs) (suc d) e = near_component xs d (and_parts (nat_le (unsigned_abs x) most_offset) (is_near xs) e).1

-- the margins that are made, when these are placed
pub record IsMade (p : PlainProgram) (inputs : ℕ → Margins) (placed : List ℕ) (made : List Margins) : Type 0 where
  pub long : length made ≡ length p.tensors
  pub value : (y : ℕ) → y < length p.tensors → is_there p placed y ≡ true → slice_index_or made y (no_margins 0) ≡ margins_over p inputs (length p.tensors) y
  pub dims : (side : Side) (y : ℕ) → y < length p.tensors → length (side_of side (slice_index_or made y (no_margins 0))) ≡ dims_of p
  pub most : (most : ℕ) → ((j : ℕ) → AreMargins (dims_of p) most (inputs j)) → (side : Side) (y d : ℕ) → slice_index_or (side_of side (slice_index_or made y (no_margins 0))) d 0 ≤ most + most_offset * length placed

input_dims : (dims most : ℕ) (m : Margins) → AreMargins dims most m → (side : Side) → length (side_of side m) ≡ dims
input_dims dims most m a Low = a.low_dims
input_dims dims most m a High = a.high_dims

input_most : (dims most : ℕ) (m : Margins) → AreMargins dims most m → (side : Side) (d : ℕ) → slice_index_or (side_of side m) d 0 ≤ most
input_most dims most m a Low d = a.low_most d
input_most dims most m a High d = a.high_most d

none_most : (side : Side) (d most : ℕ) → slice_index_or (side_of side (no_margins 0)) d 0 ≤ most
none_most Low d most = omega arith
none_most High d most = omega arith

-- at first those of the inputs are
pub made_first : (p : PlainProgram) (inputs : ℕ → Margins) (some : ℕ) → IsSound p → ((j : ℕ) → AreMargins (dims_of p) some (inputs j)) → IsMade p inputs [] (listed inputs (length p.tensors))
made_first p inputs some s good = record {
  long = length-listed inputs (length p.tensors);
  value = λ y l e. get-listed inputs (length p.tensors) y (no_margins 0) l ∙ sym (over_settled p inputs y (s.placed y l) ∙ ap (λ o. by_formula o (inputs y) (formula_margins (dims_of p) (λ z o. needed (margins_over p inputs (length p.tensors) z) o))) (input_bare p.tensors y s.parts.formulas (sym (or-false (is_input p y)) ∙ e)));
  dims = λ side y l. ap (λ m. length (side_of side m)) (get-listed inputs (length p.tensors) y (no_margins 0) l) ∙ input_dims (dims_of p) some (inputs y) (good y) side;
  most = λ most h side y d. ⊎_elim (λ (l : y < length p.tensors). omega (arith, ap (λ m. slice_index_or (side_of side m) d 0) (get-listed inputs (length p.tensors) y (no_margins 0) l), input_most (dims_of p) most (inputs y) (h y) side d)) (λ (l : length p.tensors ≤ y). omega (arith, ap (λ m. slice_index_or (side_of side m) d 0) (get-listed-past inputs (length p.tensors) y (no_margins 0) l), none_most side d most)) (cases_lt y (length p.tensors));
}

-- the test of each read of a tensor that comes behind these
good_reads : (p : PlainProgram) (before after : List ℕ) (x : ℕ) (f : Formula) → IsSound p → placing_order p ≡ before ++ x ∷ after → formula_in p x ≡ Some f → every (λ y o. is_there p before y && is_good_cell p y o) f ≡ true
good_reads p before after x f s e d =
    every_both (λ y o. is_there p before y) (is_good_cell p) f (order_behind p (length p.tensors) before after x f e d) (reads_good p x f (countable p s) d)

-- one tensor more
module _ (p : PlainProgram) (inputs : ℕ → Margins) (before after : List ℕ) (x some : ℕ) (made : List Margins) (m : Margins) (s : IsSound p) (good : (j : ℕ) → AreMargins (dims_of p) some (inputs j)) (split : placing_order p ≡ before ++ x ∷ after) (l : x < length p.tensors) (was : IsMade p inputs before made) (is : m ≡ by_formula (formula_in p x) (inputs x) (margins_made made (dims_of p))) where
  abbrev test : ℕ → List ℤ → Bool
  test y o = is_there p before y && is_good_cell p y o

  new_value : m ≡ margins_over p inputs (length p.tensors) x
  new_value =
      is
      ∙ by_same (formula_in p x) (inputs x) (inputs x) (margins_made made (dims_of p)) (formula_margins (dims_of p) (λ y o. needed (margins_over p inputs (length p.tensors) y) o)) (λ n. refl) (λ f d. margins_are (dims_of p) made (margins_over p inputs (length p.tensors)) test (λ y o t. let both = and_parts (is_there p before y) (is_good_cell p y o) t in let there = good_there p y o both.1 in (was.value y there both.0, λ side. was.dims side y there, good_length p y o both.1)) f (good_reads p before after x f s split d))
      ∙ sym (over_settled p inputs x (s.placed x l))

  new_dims : (side : Side) → length (side_of side m) ≡ dims_of p
  new_dims side =
      ap (λ n. length (side_of side n)) is ∙ by_dims (formula_in p x)
    where
      made_dims : (r : Side) (f : Formula) → length (side_of r (margins_made made (dims_of p) f)) ≡ dims_of p
      made_dims Low f = length-listed _ (dims_of p)
      made_dims High f = length-listed _ (dims_of p)

      by_dims : (o : Option Formula) → length (side_of side (by_formula o (inputs x) (margins_made made (dims_of p)))) ≡ dims_of p
      by_dims None = input_dims (dims_of p) some (inputs x) (good x) side
      by_dims (Some f) = made_dims side f

  new_most : (most : ℕ) → ((j : ℕ) → AreMargins (dims_of p) most (inputs j)) → (side : Side) (d : ℕ) → slice_index_or (side_of side m) d 0 ≤ most + most_offset * length before + most_offset
  new_most most h side d = omega (arith, ap (λ n. slice_index_or (side_of side n) d 0) is, by_most (formula_in p x) refl)
    where
      near : (y k : ℕ) (o : List ℤ) → test y o ≡ true → unsigned_abs (slice_index_or o k (pos 0)) ≤ most_offset
      near y k o t = near_component o k (good_near p y o (and_parts (is_there p before y) (is_good_cell p y o) t).1)

      made_most : (r : Side) (f : Formula) → formula_in p x ≡ Some f → slice_index_or (side_of r (margins_made made (dims_of p) f)) d 0 ≤ most + most_offset * length before + most_offset
      made_most Low f e = numbers_bound made (most + most_offset * length before) (dims_of p) test (was.most most h) near f (good_reads p before after x f s split e) Low d
      made_most High f e = numbers_bound made (most + most_offset * length before) (dims_of p) test (was.most most h) near f (good_reads p before after x f s split e) High d

      by_most : (o : Option Formula) → formula_in p x ≡ o → slice_index_or (side_of side (by_formula o (inputs x) (margins_made made (dims_of p)))) d 0 ≤ most + most_offset * length before + most_offset
      by_most None e = omega (arith, input_most (dims_of p) most (inputs x) (h x) side d)
      by_most (Some f) e = made_most side f e

  set_other : {A : Type 0} → (f : Margins → A) (y : ℕ) → (y ≡ x → ⊥) → f (slice_index_or (set made x m) y (no_margins 0)) ≡ f (slice_index_or made y (no_margins 0))
  set_other f y i = ap f (get_or-set_other made x y m (no_margins 0) i)

  set_same : {A : Type 0} → (f : Margins → A) (y : ℕ) → y ≡ x → f (slice_index_or (set made x m) y (no_margins 0)) ≡ f m
  set_same f y i =
      ap (λ z. f (slice_index_or (set made x m) z (no_margins 0))) i ∙ ap f (get_or-set_same made x m (no_margins 0) (rw was.long l))

  there_before : (y : ℕ) → (y ≡ x → ⊥) → is_there p (before ++ x ∷ []) y ≡ true → is_there p before y ≡ true
  there_before y i e =
      ⊎_elim (λ (h : is_there p before y ≡ true). h) (λ (h : (x == y) ≡ true). absurd (i (sym (eqb-true x y h)))) (or_cases (is_there p before y) (x == y) (sym (there_push p before x y) ∙ e))

  pub made_more : IsMade p inputs (before ++ x ∷ []) (set made x m)
  made_more = record {
    long = length-set made x m ∙ was.long;
    value = λ y b e. ⊎_elim (λ (i : y ≡ x). set_same (λ n. n) y i ∙ new_value ∙ sym (ap (margins_over p inputs (length p.tensors)) i)) (λ (i : y ≡ x → ⊥). set_other (λ n. n) y i ∙ was.value y b (there_before y i e)) (cases_eq y x);
    dims = λ side y b. ⊎_elim (λ (i : y ≡ x). set_same (λ n. length (side_of side n)) y i ∙ new_dims side) (λ (i : y ≡ x → ⊥). set_other (λ n. length (side_of side n)) y i ∙ was.dims side y b) (cases_eq y x);
    most = λ most h side y d. let one : length (before ++ x ∷ []) ≡ length before + 1 = length-append before (x ∷ []) in ⊎_elim (λ (i : y ≡ x). omega (arith, one, set_same (λ n. slice_index_or (side_of side n) d 0) y i, new_most most h side d)) (λ (i : y ≡ x → ⊥). omega (arith, one, set_other (λ n. slice_index_or (side_of side n) d 0) y i, was.most most h side y d)) (cases_eq y x);
  }

-- at last all are made
pub made_last : (p : PlainProgram) (inputs : ℕ → Margins) (made : List Margins) → IsSound p → IsMade p inputs (placing_order p) made → made ≡ listed (margins_over p inputs (length p.tensors)) (length p.tensors)
made_last p inputs made s was =
    let M : ℕ → Margins = margins_over p inputs (length p.tensors) in
    same_lists made (listed M (length p.tensors)) (was.long ∙ sym (length-listed M (length p.tensors))) (λ k d l. let b : k < length p.tensors = rw (sym was.long) l in get_or_default made k d (no_margins 0) l ∙ was.value k b (all_there p s k b) ∙ sym (get-listed M (length p.tensors) k d b))

none_at : (n d : ℕ) → slice_index_or (replicate n 0) d 0 ≤ 0
none_at zero d = omega arith
none_at (suc n) zero = omega arith
none_at (suc n) (suc d) = none_at n d

pub none_are_margins : (dims most : ℕ) → AreMargins dims most (no_margins dims)
none_are_margins dims most = record {
  low_dims = length-replicate dims 0;
  high_dims = length-replicate dims 0;
  low_most = λ d. omega (arith, none_at dims d);
  high_most = λ d. omega (arith, none_at dims d);
}

pub made_most : (p : PlainProgram) (inputs : ℕ → Margins) (made : List Margins) → IsSound p → IsMade p inputs (placing_order p) made → (most : ℕ) → ((j : ℕ) → AreMargins (dims_of p) most (inputs j)) → (x : ℕ) → AreMargins (dims_of p) (most + most_offset * most_tensors) (slice_index_or made x (no_margins (dims_of p)))
made_most p inputs made s was most h x =
    ⊎_elim (λ (b : x < length p.tensors). let long : x < length made = rw was.long b in let same = get_or_default made x (no_margins (dims_of p)) (no_margins 0) long in let few = placed_length p (length p.tensors) in subst (AreMargins (dims_of p) (most + most_offset * most_tensors)) (sym same) (record {
      low_dims = was.dims Low x b;
      high_dims = was.dims High x b;
      low_most = λ d. omega (arith, was.most most h Low x d, few, s.limits.few_tensors);
      high_most = λ d. omega (arith, was.most most h High x d, few, s.limits.few_tensors);
    })) (λ (b : length p.tensors ≤ x). let past : length made ≤ x = rw was.long b in subst (AreMargins (dims_of p) (most + most_offset * most_tensors)) (sym (get_or_past made x (no_margins (dims_of p)) past)) (none_are_margins (dims_of p) (most + most_offset * most_tensors))) (cases_lt x (length p.tensors))
