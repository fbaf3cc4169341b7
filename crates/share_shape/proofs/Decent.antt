-- What sharing gives is a valid program, where it passes no limit.
use Rattle.std.proofs.Common.{◌≡◌, ℕ, zero, suc, ◌^◌, ◌<◌, Bool, true, false, not, ◌&&◌, ◌||◌, List, [], ◌∷◌, ℤ, Option, Some, None, option_map, map, length, refl, sym, ◌∙◌, ap, if◌then◌else◌}
use Rattle.std.specs.List.{insert, list_all, list_any}
use Rattle.std.proofs.lemmas.Bool.{and_from, and_parts, false≢true, or_right}
use Rattle.soda_words.specs.IntType.{IntType}
use Rattle.soda_words.specs.Limits.{most_brackets, most_tokens}
use Rattle.soda_ir.specs.declared.program.Role.{Role}
use Rattle.soda_ir.specs.declared.program.Role.TheVariants.{Input, Local, Output}
use Rattle.soda_ir.specs.Counts.{is_input_role, is_output_role}
use Rattle.soda_ir.specs.Formula.{Formula, number, read, param, unary, binary, choice, cast}
use Rattle.soda_ir.specs.Program.{PlainProgram, PlainTensor, input_types}
use Rattle.soda_ir.specs.Uses.{each_use, formula_is, is_good_place}
use Rattle.soda_ir.specs.Valid.{are_free_names, fills_burst, has_formula_if_no_input, has_inputs_first, names_of, output_types}
use Rattle.share_shape.specs.Procedure.{renumbered, replaced, replaced_in}
use Rattle.share_shape.specs.Shifts.{shifted}
use Rattle.share_shape.proofs.Fit.{IsFit}
use Rattle.share_shape.proofs.Found.{IsClosed, formula_on}
use Rattle.share_shape.proofs.Replaced.{IsKept}
use Rattle.share_shape.proofs.Sizes.{IsSmall, small_closed}

or_more : (a b c : Bool) → (b ≡ true → c ≡ true) → (a || b) ≡ true → (a || c) ≡ true
or_more true b c h e = refl
or_more false b c h e = h e

formula_passes : (test : Formula → Bool) (o : Option Formula) → ((f : Formula) → o ≡ Some f → test f ≡ true) → (elim o [ None ↦ true | Some f ↦ test f ]) ≡ true
formula_passes test None h = refl
formula_passes test (Some f) h = h f refl

-- a test over a list with one element more, and over mapped elements
pub all_insert : {X : Type 0} → (test : X → Bool) (xs : List X) (i : ℕ) (x : X) → test x ≡ true → list_all test xs ≡ true → list_all test (insert xs i x) ≡ true
all_insert test [] zero x h e = and_from _ _ h refl
all_insert test [] (suc i) x h e = and_from _ _ h refl
all_insert test (y ∷ ys) zero x h e = and_from _ _ h e
all_insert test (y ∷ ys) (suc i) x h e =
    let parts = and_parts (test y) (list_all test ys) e in and_from _ _ parts.0 (all_insert test ys i x h parts.1)

pub any_insert : {X : Type 0} → (test : X → Bool) (xs : List X) (i : ℕ) (x : X) → list_any test xs ≡ true → list_any test (insert xs i x) ≡ true
any_insert test [] i x e = absurd (false≢true e)
any_insert test (y ∷ ys) zero x e = or_right (test x) (test y || list_any test ys) e
any_insert test (y ∷ ys) (suc i) x e = or_more (test y) (list_any test ys) (list_any test (insert ys i x)) (any_insert test ys i x) e

pub all_map : {X Y : Type 0} → (test : Y → Bool) (f : X → Y) (xs : List X) → list_all test (map f xs) ≡ list_all (λ x. test (f x)) xs
all_map test f [] = refl
all_map test f (x ∷ xs) = ap (λ b. test (f x) && b) (all_map test f xs)

pub any_map : {X Y : Type 0} → (test : Y → Bool) (f : X → Y) (xs : List X) → list_any test (map f xs) ≡ list_any (λ x. test (f x)) xs
any_map test f [] = refl
any_map test f (x ∷ xs) = ap (λ b. test (f x) || b) (any_map test f xs)

-- a test of all formulas, by number
pub formulas_pass : (test : Formula → Bool) (ts : List PlainTensor) → ((y : ℕ) (f : Formula) → formula_on ts y ≡ Some f → test f ≡ true) → list_all (formula_is test) ts ≡ true
formulas_pass test [] h = refl
formulas_pass test (t ∷ ts) h =
    and_from _ _ (formula_passes test t.formula (λ f e. h 0 f e)) (formulas_pass test ts (λ y f e. h (suc y) f e))

formula_at_passes : (test : Formula → Bool) (ts : List PlainTensor) (y : ℕ) (f : Formula) → list_all (formula_is test) ts ≡ true → formula_on ts y ≡ Some f → test f ≡ true
formula_at_passes test [] y f h e = cc
formula_at_passes test (t ∷ ts) zero f h e =
    sym (ap (λ (o : Option Formula). elim o [ None ↦ true | Some g ↦ test g ]) e) ∙ (and_parts (formula_is test t) (list_all (formula_is test) ts) h).0
formula_at_passes test (t ∷ ts) (suc y) f h e =
    formula_at_passes test ts y f (and_parts (formula_is test t) (list_all (formula_is test) ts) h).1 e

not_input : (o : Option Formula) (b : Bool) (f : Formula) → (elim o [ None ↦ b | Some g ↦ not b ]) ≡ true → o ≡ Some f → b ≡ false
not_input None b f h e = cc
not_input (Some g) true f h e = absurd (false≢true h)
not_input (Some g) false f h e = refl

-- the types of the inputs and outputs stay
abbrev with_input : Role → IntType → List IntType → List IntType
with_input r t ts = elim r [ Input ↦ t ∷ ts | Local ↦ ts | Output ↦ ts ]

abbrev with_output : Role → IntType → List IntType → List IntType
with_output r t ts = elim r [ Input ↦ ts | Local ↦ ts | Output ↦ t ∷ ts ]

inputs_same : (k : ℕ) (c : Formula) (ts : List PlainTensor) → input_types (map (replaced_in k c) ts) ≡ input_types ts
inputs_same k c [] = refl
inputs_same k c (t ∷ ts) = ap (with_input t.role t.ty) (inputs_same k c ts)

outputs_same : (k : ℕ) (c : Formula) (ts : List PlainTensor) → output_types (map (replaced_in k c) ts) ≡ output_types ts
outputs_same k c [] = refl
outputs_same k c (t ∷ ts) = ap (with_output t.role t.ty) (outputs_same k c ts)

pub inputs_inserted : (l : PlainTensor) → l.role ≡ Local → (k : ℕ) (c : Formula) (ts : List PlainTensor) (i : ℕ) → input_types (insert (map (replaced_in k c) ts) i l) ≡ input_types ts
inputs_inserted l e k c [] zero = ap (λ (r : Role). with_input r l.ty []) e
inputs_inserted l e k c [] (suc i) = ap (λ (r : Role). with_input r l.ty []) e
inputs_inserted l e k c (t ∷ ts) zero =
    ap (λ (r : Role). with_input r l.ty (with_input t.role t.ty (input_types (map (replaced_in k c) ts)))) e ∙ ap (with_input t.role t.ty) (inputs_same k c ts)
inputs_inserted l e k c (t ∷ ts) (suc i) = ap (with_input t.role t.ty) (inputs_inserted l e k c ts i)

pub outputs_inserted : (l : PlainTensor) → l.role ≡ Local → (k : ℕ) (c : Formula) (ts : List PlainTensor) (i : ℕ) → output_types (insert (map (replaced_in k c) ts) i l) ≡ output_types ts
outputs_inserted l e k c [] zero = ap (λ (r : Role). with_output r l.ty []) e
outputs_inserted l e k c [] (suc i) = ap (λ (r : Role). with_output r l.ty []) e
outputs_inserted l e k c (t ∷ ts) zero =
    ap (λ (r : Role). with_output r l.ty (with_output t.role t.ty (output_types (map (replaced_in k c) ts)))) e ∙ ap (with_output t.role t.ty) (outputs_same k c ts)
outputs_inserted l e k c (t ∷ ts) (suc i) = ap (with_output t.role t.ty) (outputs_inserted l e k c ts i)

-- the inputs still stand first: the local stands behind a tensor with a formula
abbrev no_inputs : List PlainTensor → Bool
no_inputs ts = list_all (λ t. not (is_input_role t.role)) ts

none_inserted : (l : PlainTensor) → l.role ≡ Local → (k : ℕ) (c : Formula) (ts : List PlainTensor) (i : ℕ) → no_inputs ts ≡ true → no_inputs (insert (map (replaced_in k c) ts) i l) ≡ true
none_inserted l e k c ts i h =
    all_insert (λ t. not (is_input_role t.role)) (map (replaced_in k c) ts) i l (ap (λ (r : Role). not (is_input_role r)) e) (all_map (λ t. not (is_input_role t.role)) (replaced_in k c) ts ∙ h)

first_by : (b : Bool) (l : PlainTensor) (e : l.role ≡ Local) (k : ℕ) (c : Formula) (ts : List PlainTensor) (i : ℕ) → (if b then has_inputs_first ts else no_inputs ts) ≡ true → (has_inputs_first ts ≡ true → has_inputs_first (insert (map (replaced_in k c) ts) i l) ≡ true) → (if b then has_inputs_first (insert (map (replaced_in k c) ts) i l) else no_inputs (insert (map (replaced_in k c) ts) i l)) ≡ true
first_by true l e k c ts i h rest = rest h
first_by false l e k c ts i h rest = none_inserted l e k c ts i h

pub first_inserted : (l : PlainTensor) → l.role ≡ Local → (k : ℕ) (c : Formula) (ts : List PlainTensor) (i : ℕ) (f : Formula) → has_inputs_first ts ≡ true → list_all has_formula_if_no_input ts ≡ true → formula_on ts i ≡ Some f → has_inputs_first (insert (map (replaced_in k c) ts) i l) ≡ true
first_inserted l e k c [] i f h g m = cc
first_inserted l e k c (t ∷ ts) zero f h g m =
    let parts = and_parts (has_formula_if_no_input t) (list_all has_formula_if_no_input ts) g in
    let none : is_input_role t.role ≡ false = not_input t.formula (is_input_role t.role) f parts.0 m in
    let rest : no_inputs ts ≡ true = sym (ap (λ b. if b then has_inputs_first ts else no_inputs ts) none) ∙ h in
    ap (λ (r : Role). if is_input_role r then has_inputs_first (map (replaced_in k c) (t ∷ ts)) else no_inputs (map (replaced_in k c) (t ∷ ts))) e
    ∙ all_map (λ u. not (is_input_role u.role)) (replaced_in k c) (t ∷ ts) ∙ and_from _ _ (ap not none) rest
first_inserted l e k c (t ∷ ts) (suc i) f h g m =
    first_by (is_input_role t.role) l e k c ts i h (λ z. first_inserted l e k c ts i f z (and_parts (has_formula_if_no_input t) (list_all has_formula_if_no_input ts) g).1 m)

-- formulas stand where they stood
formula_still : (k : ℕ) (c : Formula) (o : Option Formula) (b : Bool) → (elim o [ None ↦ b | Some f ↦ not b ]) ≡ true → (elim (option_map (replaced k c) o) [ None ↦ b | Some f ↦ not b ]) ≡ true
formula_still k c None b h = h
formula_still k c (Some f) b h = h

pub formulas_still : (k : ℕ) (c : Formula) (ts : List PlainTensor) → list_all has_formula_if_no_input ts ≡ true → list_all has_formula_if_no_input (map (replaced_in k c) ts) ≡ true
formulas_still k c [] h = refl
formulas_still k c (t ∷ ts) h =
    let parts = and_parts (has_formula_if_no_input t) (list_all has_formula_if_no_input ts) h in
    and_from _ _ (formula_still k c t.formula (is_input_role t.role) parts.0) (formulas_still k c ts parts.1)

-- params' values, and formulas that are written in the language's size
abbrev pub has_places : PlainProgram → Formula → Bool
has_places p f = each_use (λ t o. true) (is_good_place p) f

places_closed : (p : PlainProgram) → IsClosed (λ f. has_places p f ≡ true)
places_closed p = record {
  of_unary = λ op a e. e;
  of_binary = λ op a b e. and_parts (has_places p a) (has_places p b) e;
  of_choice = λ c a b e.
      let parts = and_parts (has_places p c && has_places p a) (has_places p b) e in
      let front = and_parts (has_places p c) (has_places p a) parts.0 in
      (front.0, front.1, parts.1);
  of_cast = λ t a e. e;
}

module _ (p : PlainProgram) where
  pub places_local : (k : ℕ) (v : List ℤ) (f : Formula) → has_places p (renumbered k (shifted v f)) ≡ has_places p f
  places_local k v (number n) = refl
  places_local k v (read t o) = refl
  places_local k v (param q i) = refl
  places_local k v (unary op a) = places_local k v a
  places_local k v (binary op a b) =
      ap (λ x. x && has_places p (renumbered k (shifted v b))) (places_local k v a) ∙ ap (λ x. has_places p a && x) (places_local k v b)
  places_local k v (choice c a b) =
      ap (λ x. x && has_places p (renumbered k (shifted v a)) && has_places p (renumbered k (shifted v b))) (places_local k v c)
      ∙ ap (λ x. has_places p c && x && has_places p (renumbered k (shifted v b))) (places_local k v a)
      ∙ ap (λ x. has_places p c && has_places p a && x) (places_local k v b)
  places_local k v (cast t a) = places_local k v a

  pub places_kept : (k : ℕ) (c : Formula) → IsKept k c (λ f h. has_places p f ≡ true → has_places p h ≡ true)
  places_kept k c = record {
    on_number = λ n e. refl;
    on_read = λ t o e. refl;
    on_param = λ q i e. e;
    on_hit = λ f o e h. refl;
    on_unary = λ op a x e r h. r h;
    on_binary = λ op a b x y e r s h.
        let parts = and_parts (has_places p a) (has_places p b) h in and_from _ _ (r parts.0) (s parts.1);
    on_choice = λ q a b z x y e r s t h.
        let parts = and_parts (has_places p q && has_places p a) (has_places p b) h in
        let front = and_parts (has_places p q) (has_places p a) parts.0 in
        and_from _ _ (and_from _ _ (r front.0) (s front.1)) (t parts.1);
    on_cast = λ t a x e r h. r h;
  }

-- what a formula needs beside its reads
pub record IsFine (p : PlainProgram) (f : Formula) : Type 0 where
  pub places : has_places p f ≡ true
  pub small : IsSmall p most_tokens most_brackets f

pub fine_closed : (p : PlainProgram) → IsClosed (IsFine p)
fine_closed p = record {
  of_unary = λ op a r. record { places = (places_closed p).of_unary op a r.places; small = (small_closed p most_tokens most_brackets).of_unary op a r.small };
  of_binary = λ op a b r.
      let x = (places_closed p).of_binary op a b r.places in let y = (small_closed p most_tokens most_brackets).of_binary op a b r.small in
      (record { places = x.0; small = y.0 }, record { places = x.1; small = y.1 });
  of_choice = λ c a b r.
      let x = (places_closed p).of_choice c a b r.places in let y = (small_closed p most_tokens most_brackets).of_choice c a b r.small in
      (record { places = x.0; small = y.0 }, record { places = x.1; small = y.1 }, record { places = x.2; small = y.2 });
  of_cast = λ t a r. record { places = (places_closed p).of_cast t a r.places; small = (small_closed p most_tokens most_brackets).of_cast t a r.small };
}

-- what each step keeps of the program p
pub record IsDecent (p q : PlainProgram) : Type 0 where
  pub fit : IsFit q
  pub kernel : q.kernel ≡ p.kernel
  pub burst : q.burst ≡ p.burst
  pub unroll : q.unroll ≡ p.unroll
  pub iterate : q.iterate ≡ p.iterate
  pub border : q.border ≡ p.border
  pub params : q.params ≡ p.params
  pub extents : q.extents ≡ p.extents
  pub names : length (names_of q.params q.tensors) < 2 ^ 64 → are_free_names (names_of q.params q.tensors) ≡ true
  pub formulas : list_all has_formula_if_no_input q.tensors ≡ true
  pub fine : (y : ℕ) (f : Formula) → formula_on q.tensors y ≡ Some f → IsFine p f
  pub first : has_inputs_first q.tensors ≡ true
  pub some_input : list_any (λ t. is_input_role t.role) q.tensors ≡ true
  pub some_output : list_any (λ t. is_output_role t.role) q.tensors ≡ true
  pub bursts : list_all (fills_burst p.burst) q.tensors ≡ true
  pub inputs : input_types q.tensors ≡ input_types p.tensors
  pub outputs : output_types q.tensors ≡ output_types p.tensors
