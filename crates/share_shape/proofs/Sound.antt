-- A sound program is fit for sharing, and what sharing it gives has the same runs and arrays.
use Rattle.std.proofs.Common.{◌≡◌, ℕ, zero, suc, ◌<◌, ◌≤◌, Bool, true, false, not, ◌&&◌, ◌||◌, ◌==◌, List, [], ◌∷◌, ℤ, Option, Some, None, option_map, length, nat_lt, refl, sym, ◌∙◌, ap, subst, arith, if◌then◌else◌}
use Rattle.std.specs.List.{list_all, list_any}
use Rattle.std.proofs.lemmas.Bool.{and_from, and_parts, false≢true, not-true}
use Rattle.soda_ir.specs.Counts.{is_input_role}
use Rattle.soda_ir.specs.Formula.{Formula, number, read, param, unary, binary, choice, cast, every}
use Rattle.soda_ir.specs.Program.{PlainProgram, PlainTensor}
use Rattle.soda_ir.specs.Uses.{each_use, is_good_cell, is_good_place, is_near}
use Rattle.soda_ir.specs.Valid.{IsSound, has_formula_if_no_input, has_inputs_first}
use Rattle.soda_eval.specs.Runs.{defined_arrays, run_of}
use Rattle.soda_ir.proofs.CallerLemmas.{every_weaker, formula_good}
use Rattle.soda_eval.proofs.CallerLemmas.{rank, ranks, ranks_below}
use Rattle.share_shape.specs.Compounds.{Site, sites}
use Rattle.share_shape.specs.Procedure.{first_shared, next_shared, shared, shared_at}
use Rattle.share_shape.proofs.Arrays.{arrays_same, run_same}
use Rattle.share_shape.proofs.Ending.{kept_in, some_program}
use Rattle.share_shape.proofs.Fit.{IsFit, dims_of, still_fit}
use Rattle.share_shape.proofs.Found.{formula_on}
use Rattle.share_shape.proofs.Sides.{is_there}

-- how many inputs stand first
abbrev leading : List PlainTensor → ℕ
leading [] = 0
leading (t ∷ ts) = if is_input_role t.role then suc (leading ts) else 0

-- a formula is there exactly where the tensor is no input
no_formula : (o : Option Formula) (b : Bool) → (elim o [ None ↦ b | Some f ↦ not b ]) ≡ true → b ≡ true → o ≡ None
no_formula None b e h = refl
no_formula (Some f) b e h = absurd (false≢true (sym (ap not h) ∙ e))

some_formula : (o : Option Formula) (b : Bool) → (elim o [ None ↦ b | Some f ↦ not b ]) ≡ true → b ≡ false → (f : Formula) × (o ≡ Some f)
some_formula None b e h = absurd (false≢true (sym h ∙ e))
some_formula (Some f) b e h = (f, refl)

abbrev no_inputs : List PlainTensor → Bool
no_inputs ts = list_all (λ t. not (is_input_role t.role)) ts

all_full : (ts : List PlainTensor) → no_inputs ts ≡ true → list_all has_formula_if_no_input ts ≡ true → (y : ℕ) → y < length ts → (f : Formula) × (formula_on ts y ≡ Some f)
all_full [] e h y l = absurd (omega arith)
all_full (t ∷ ts) e h zero l =
    some_formula t.formula (is_input_role t.role) (and_parts (has_formula_if_no_input t) (list_all has_formula_if_no_input ts) h).0 (not-true _ (and_parts (not (is_input_role t.role)) (no_inputs ts) e).0)
all_full (t ∷ ts) e h (suc y) l =
    all_full ts (and_parts (not (is_input_role t.role)) (no_inputs ts) e).1 (and_parts (has_formula_if_no_input t) (list_all has_formula_if_no_input ts) h).1 y (omega arith)

bare_by : (b : Bool) (t : PlainTensor) (ts : List PlainTensor) (y : ℕ) → is_input_role t.role ≡ b → has_formula_if_no_input t ≡ true → (if b then has_inputs_first ts else no_inputs ts) ≡ true → y < (if b then suc (leading ts) else 0)
    → ((z : ℕ) → has_inputs_first ts ≡ true → z < leading ts → formula_on ts z ≡ None) → formula_on (t ∷ ts) y ≡ None
bare_by true t ts zero r h e l rest = no_formula t.formula (is_input_role t.role) h r
bare_by true t ts (suc y) r h e l rest = rest y e (omega arith)
bare_by false t ts y r h e l rest = absurd (omega arith)

bare_of : (ts : List PlainTensor) → has_inputs_first ts ≡ true → list_all has_formula_if_no_input ts ≡ true → (y : ℕ) → y < leading ts → formula_on ts y ≡ None
bare_of [] e h y l = absurd (omega arith)
bare_of (t ∷ ts) e h y l =
    let parts = and_parts (has_formula_if_no_input t) (list_all has_formula_if_no_input ts) h in
    bare_by (is_input_role t.role) t ts y refl parts.0 e l (λ z f m. bare_of ts f parts.1 z m)

full_by : (b : Bool) (t : PlainTensor) (ts : List PlainTensor) (y : ℕ) → is_input_role t.role ≡ b → list_all has_formula_if_no_input (t ∷ ts) ≡ true → (if b then has_inputs_first ts else no_inputs ts) ≡ true → (if b then suc (leading ts) else 0) ≤ y → y < suc (length ts)
    → ((z : ℕ) → has_inputs_first ts ≡ true → leading ts ≤ z → z < length ts → (f : Formula) × (formula_on ts z ≡ Some f)) → (f : Formula) × (formula_on (t ∷ ts) y ≡ Some f)
full_by true t ts zero r h e l m rest = absurd (omega arith)
full_by true t ts (suc y) r h e l m rest = rest y e (omega arith) (omega arith)
full_by false t ts zero r h e l m rest =
    some_formula t.formula (is_input_role t.role) (and_parts (has_formula_if_no_input t) (list_all has_formula_if_no_input ts) h).0 r
full_by false t ts (suc y) r h e l m rest =
    all_full ts e (and_parts (has_formula_if_no_input t) (list_all has_formula_if_no_input ts) h).1 y (omega arith)

full_of : (ts : List PlainTensor) → has_inputs_first ts ≡ true → list_all has_formula_if_no_input ts ≡ true → (y : ℕ) → leading ts ≤ y → y < length ts → (f : Formula) × (formula_on ts y ≡ Some f)
full_of [] e h y l m = absurd (omega arith)
full_of (t ∷ ts) e h y l m =
    full_by (is_input_role t.role) t ts y refl h e l m (λ z f i j. full_of ts f (and_parts (has_formula_if_no_input t) (list_all has_formula_if_no_input ts) h).1 z i j)

none_any : (ts : List PlainTensor) → no_inputs ts ≡ true → list_any (λ t. is_input_role t.role) ts ≡ false
none_any [] e = refl
none_any (t ∷ ts) e =
    let parts = and_parts (not (is_input_role t.role)) (no_inputs ts) e in
    ap (λ b. b || list_any (λ u. is_input_role u.role) ts) (not-true (is_input_role t.role) parts.0) ∙ none_any ts parts.1

leads_by : (b : Bool) (ts : List PlainTensor) → (if b then has_inputs_first ts else no_inputs ts) ≡ true → (b || list_any (λ t. is_input_role t.role) ts) ≡ true → 0 < (if b then suc (leading ts) else 0)
leads_by true ts e h = omega arith
leads_by false ts e h = absurd (false≢true (sym (none_any ts e) ∙ h))

leads : (ts : List PlainTensor) → has_inputs_first ts ≡ true → list_any (λ t. is_input_role t.role) ts ≡ true → 0 < leading ts
leads [] e h = absurd (false≢true h)
leads (t ∷ ts) e h = leads_by (is_input_role t.role) ts e h

-- the cells among what a formula names
pub cells_of : (cells : ℕ → List ℤ → Bool) (values : ℕ → ℕ → Bool) (f : Formula) → each_use cells values f ≡ true → every cells f ≡ true
cells_of cells values (number n) e = refl
cells_of cells values (read t o) e = e
cells_of cells values (param p k) e = refl
cells_of cells values (unary op a) e = cells_of cells values a e
cells_of cells values (binary op a b) e =
    let parts = and_parts (each_use cells values a) (each_use cells values b) e in
    and_from _ _ (cells_of cells values a parts.0) (cells_of cells values b parts.1)
cells_of cells values (choice c a b) e =
    let parts = and_parts (each_use cells values c && each_use cells values a) (each_use cells values b) e in
    let front = and_parts (each_use cells values c) (each_use cells values a) parts.0 in
    and_from _ _ (and_from _ _ (cells_of cells values c front.0) (cells_of cells values a front.1)) (cells_of cells values b parts.1)
cells_of cells values (cast t a) e = cells_of cells values a e

pub fit_of : (p : PlainProgram) → IsSound p → IsFit p
fit_of p sound = record {
  inputs = leading p.tensors;
  some = leads p.tensors sound.ends.inputs_first sound.ends.some_input;
  bare = bare_of p.tensors sound.ends.inputs_first sound.parts.formulas;
  full = full_of p.tensors sound.ends.inputs_first sound.parts.formulas;
  reads = λ y f e.
      let uses = formula_good (each_use (is_good_cell p) (is_good_place p)) p.tensors y f sound.parts.uses e in
      let good = cells_of (is_good_cell p) (is_good_place p) f uses in
      every_weaker (is_good_cell p) (is_there (length p.tensors) (dims_of p)) (λ t o h. (and_parts (nat_lt t (length p.tensors) && length o == dims_of p) (is_near o) h).0) f good;
  rank = rank p;
  below = ranks_below p sound;
  ranked = λ y f e. ranks p sound 0 y f e;
}

-- what has the runs and arrays of p
pub record IsLike (p q : PlainProgram) : Type 0 where
  pub fit : IsFit q
  pub runs : (rows : ℕ) (params : List ℤ) (inputs : List (List ℤ)) (t : ℕ) → run_of q rows params inputs t ≡ run_of p rows params inputs t
  pub arrays : (rows : ℕ) (params : List ℤ) (inputs : List (List ℤ)) → defined_arrays q rows params inputs ≡ defined_arrays p rows params inputs

pub step_at : (p q : PlainProgram) (o : Option Site) → first_shared (sites p) ≡ o → option_map (shared_at p) o ≡ Some q → (s : Site) × (first_shared (sites p) ≡ Some s) × (shared_at p s ≡ q)
step_at p q None e h = cc
step_at p q (Some s) e h = (s, e, some_program h)

pub step_of : (p q : PlainProgram) → next_shared p ≡ Some q → (s : Site) × (first_shared (sites p) ≡ Some s) × (shared_at p s ≡ q)
unfolding next_shared
step_of p q h = step_at p q (first_shared (sites p)) refl h

-- a step keeps a program fit
pub fit_next : (q r : PlainProgram) → next_shared q ≡ Some r → IsFit q → IsFit r
fit_next q r h fit = let at = step_of q r h in subst IsFit at.2 (still_fit q fit at.0 at.1)

like_next : (p q r : PlainProgram) → next_shared q ≡ Some r → IsLike p q → IsLike p r
like_next p q r h l =
    let at = step_of q r h in
    subst (IsLike p) at.2 (record {
      fit = still_fit q l.fit at.0 at.1;
      runs = λ rows params inputs t. run_same q l.fit at.0 at.1 rows params inputs t ∙ l.runs rows params inputs t;
      arrays = λ rows params inputs. arrays_same q l.fit at.0 at.1 rows params inputs ∙ l.arrays rows params inputs;
    })

pub shared_like : (p : PlainProgram) → IsSound p → IsLike p (shared p)
unfolding shared
shared_like p sound =
    kept_in (IsLike p) (λ q r h l. like_next p q r h l) (length (sites p)) p (record {
      fit = fit_of p sound;
      runs = λ rows params inputs t. refl;
      arrays = λ rows params inputs. refl;
    })
