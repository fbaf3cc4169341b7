-- The conditions on a program, from their tests and back.
use Rattle.std.proofs.Common.{◌≡◌, ℕ, Bool, true, false, ◌&&◌, ◌||◌, List, [], ◌∷◌, map, refl, sym, ◌∙◌, ap, Some, None, Option, ℤ, Result, Ok, Err, IfOk}
use Rattle.std.specs.List.{list_all, list_any}
use Rattle.std.proofs.lemmas.Bool.{and_from, and_parts, false≢true}
use Rattle.std.proofs.lemmas.List.Folds.{list_all-map}
use Rattle.soda_words.specs.Names.{is_name}
use Rattle.soda_ir.specs.declared.program.Parts.{Parts}
use Rattle.soda_ir.specs.Formula.{every}
use Rattle.soda_ir.specs.Counts.{IsCountable, is_input_role, is_output_role}
use Rattle.soda_ir.specs.Formula.{Formula, number, read, param, unary, binary, choice, cast}
use Rattle.soda_ir.specs.Program.{PlainProgram, PlainTensor, plain, plain_param, plain_tensor}
use Rattle.soda_ir.specs.Uses.{each_use, formula_is, is_good_cell, is_good_place}
use Rattle.soda_ir.specs.Valid.{HasGoodEnds, HasGoodParts, IsSound, are_free_names, fills_burst, has_formula_if_no_input, has_good_uses, has_inputs_first, is_good_param, is_small, names_of}

list_any-map : {X Y : Type 0} → (p : X → Bool) (h : Y → X) (ys : List Y) → list_any p (map h ys) ≡ list_any (λ y. p (h y)) ys
list_any-map p h [] = refl
list_any-map p h (y ∷ ys) = ap (λ b. p (h y) || b) (list_any-map p h ys)

-- a test that holds of all makes a weaker one hold
list_all-weaker : {X : Type 0} → (p q : X → Bool) → ((x : X) → p x ≡ true → q x ≡ true) → (xs : List X) → list_all p xs ≡ true → list_all q xs ≡ true
list_all-weaker p q h [] e = refl
list_all-weaker p q h (x ∷ xs) e =
    let parts = and_parts (p x) (list_all p xs) e in
    and_from (q x) (list_all q xs) (h x parts.0) (list_all-weaker p q h xs parts.1)

cells_of_uses : (c : ℕ → List ℤ → Bool) (v : ℕ → ℕ → Bool) (f : Formula) → each_use c v f ≡ true → every c f ≡ true
cells_of_uses c v (number n) e = refl
cells_of_uses c v (read t o) e = e
cells_of_uses c v (param p k) e = refl
cells_of_uses c v (unary op a) e = cells_of_uses c v a e
cells_of_uses c v (binary op a b) e =
    let parts = and_parts (each_use c v a) (each_use c v b) e in
    and_from (every c a) (every c b) (cells_of_uses c v a parts.0) (cells_of_uses c v b parts.1)
cells_of_uses c v (choice d a b) e =
    let parts = and_parts (each_use c v d && each_use c v a) (each_use c v b) e in
    let front = and_parts (each_use c v d) (each_use c v a) parts.0 in
    and_from (every c d && every c a) (every c b) (and_from (every c d) (every c a) (cells_of_uses c v d front.0) (cells_of_uses c v a front.1)) (cells_of_uses c v b parts.1)
cells_of_uses c v (cast t a) e = cells_of_uses c v a e

by_formulas : (p q : Formula → Bool) → ((f : Formula) → p f ≡ true → q f ≡ true) → (o : Option Formula) → elim o [ None ↦ true | Some f ↦ p f ] ≡ true → elim o [ None ↦ true | Some f ↦ q f ] ≡ true
by_formulas p q h None e = refl
by_formulas p q h (Some f) e = h f e

-- what is sound can be counted
-- the live tensors and reads of a sound program can be counted
pub countable : (p : PlainProgram) → IsSound p → IsCountable p
countable p s = record {
  cells = list_all-weaker (has_good_uses p) (formula_is (every (is_good_cell p))) (λ t e. by_formulas (each_use (is_good_cell p) (is_good_place p)) (every (is_good_cell p)) (cells_of_uses (is_good_cell p) (is_good_place p)) t.formula e) p.tensors s.parts.uses;
  extents = s.limits.extents;
  few_dims = s.limits.few_dims;
  small_tile = s.limits.small_tile;
  few_tensors = s.limits.few_tensors;
  few_iterations = s.limits.few_iterations;
}

pub ends : (q : Parts) (i a o b : Bool) → i ≡ has_inputs_first (map plain_tensor q.tensors) → a ≡ list_any (λ t. is_input_role t.role) q.tensors → o ≡ list_any (λ t. is_output_role t.role) q.tensors → b ≡ list_all (λ t. fills_burst q.burst (plain_tensor t)) q.tensors → ((i && a && o && b) ≡ true → HasGoodEnds (plain q)) × (HasGoodEnds (plain q) → (i && a && o && b) ≡ true)
ends q i a o b hi ha ho hb =
    let input = list_any-map (λ (t : PlainTensor). is_input_role t.role) plain_tensor q.tensors in
    let output = list_any-map (λ (t : PlainTensor). is_output_role t.role) plain_tensor q.tensors in
    let bursts = list_all-map (fills_burst q.burst) plain_tensor q.tensors in (
      λ e. let x = and_parts (i && a && o) b e in let y = and_parts (i && a) o x.0 in let z = and_parts i a y.0 in record {
        inputs_first = sym hi ∙ z.0;
        some_input = input ∙ sym ha ∙ z.1;
        some_output = output ∙ sym ho ∙ y.1;
        bursts = bursts ∙ sym hb ∙ x.1;
      },
      λ g. and_from (i && a && o) b (and_from (i && a) o (and_from i a (hi ∙ g.inputs_first) (ha ∙ sym input ∙ g.some_input)) (ho ∙ sym output ∙ g.some_output)) (hb ∙ sym bursts ∙ g.bursts),
    )

pub no_parts : (q : Parts) (a : Bool) → a ≡ list_all (λ r. is_good_param (plain_param r)) q.params → a ≡ false → HasGoodParts (plain q) → ⊥
no_parts q a ha off g =
    false≢true (sym off ∙ ha ∙ sym (list_all-map is_good_param plain_param q.params) ∙ g.params)

turned : (a b c d e f : Bool) → ((a && b && c) && (d && e && f)) ≡ ((a && d) && (b && e) && (c && f))
turned false b c d e f = refl
turned true false c false e f = refl
turned true false c true e f = refl
turned true true false false e f = refl
turned true true false true false f = refl
turned true true false true true f = refl
turned true true true d e f = refl

-- a test of three parts holds of all where each part does
list_all-three : {X : Type 0} → (p q r : X → Bool) (xs : List X) → list_all (λ x. p x && q x && r x) xs ≡ (list_all p xs && list_all q xs && list_all r xs)
list_all-three p q r [] = refl
list_all-three p q r (x ∷ xs) =
    ap (λ b. (p x && q x && r x) && b) (list_all-three p q r xs) ∙ turned (p x) (q x) (r x) (list_all p xs) (list_all q xs) (list_all r xs)

pub parts : (q : Parts) (k n f : Bool) → list_all (λ r. is_good_param (plain_param r)) q.params ≡ true → k ≡ is_name q.kernel → n ≡ are_free_names (names_of (map plain_param q.params) (map plain_tensor q.tensors)) → f ≡ list_all (λ t. has_formula_if_no_input (plain_tensor t) && has_good_uses (plain q) (plain_tensor t) && is_small (plain q) (plain_tensor t)) q.tensors → ((k && n && f) ≡ true → HasGoodParts (plain q)) × (HasGoodParts (plain q) → (k && n && f) ≡ true)
parts q k n f ha hk hn hf =
    let params = list_all-map is_good_param plain_param q.params in
    let formulas = list_all-map has_formula_if_no_input plain_tensor q.tensors in
    let uses = list_all-map (has_good_uses (plain q)) plain_tensor q.tensors in
    let small = list_all-map (is_small (plain q)) plain_tensor q.tensors in
    let A = list_all (λ t. has_formula_if_no_input (plain_tensor t)) q.tensors in
    let B = list_all (λ t. has_good_uses (plain q) (plain_tensor t)) q.tensors in
    let C = list_all (λ t. is_small (plain q) (plain_tensor t)) q.tensors in
    let all : f ≡ (A && B && C) = hf ∙ list_all-three (λ t. has_formula_if_no_input (plain_tensor t)) (λ t. has_good_uses (plain q) (plain_tensor t)) (λ t. is_small (plain q) (plain_tensor t)) q.tensors in (
      λ e. let v = and_parts (k && n) f e in let y = and_parts k n v.0 in let w = and_parts (A && B) C (sym all ∙ v.1) in let x = and_parts A B w.0 in record {
        kernel = sym hk ∙ y.0;
        params = params ∙ ha;
        names = sym hn ∙ y.1;
        formulas = formulas ∙ x.0;
        uses = uses ∙ x.1;
        small = small ∙ w.1;
      },
      λ g. and_from (k && n) f (and_from k n (hk ∙ g.kernel) (hn ∙ g.names)) (all ∙ and_from (A && B) C (and_from A B (sym formulas ∙ g.formulas) (sym uses ∙ g.uses)) (sym small ∙ g.small)),
    )

pub if_ok : {A E : Type 0} {P Q : A → Type 0} (r : Result A E) → IfOk r P → ((a : A) → P a → Q a) → IfOk r Q
if_ok (Ok a) h f = f a h
if_ok (Err e) h f = h
