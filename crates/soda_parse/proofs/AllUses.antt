-- What all formulas of an accepted text name, and which tensors are placed at once.
use Rattle.std.proofs.Common.{◌≡◌, ℕ, zero, suc, ◌<◌, ◌≤◌, ◌==◌, Bool, true, false, not, List, [], ◌∷◌, ◌++◌, length, map, Some, None, Option, refl, sym, ap, ◌∙◌, arith}
use Rattle.std.specs.Prelude.{find, flat_map, nat_le, slice_get}
use Rattle.std.specs.List.{list_all}
use Rattle.std.proofs.lemmas.Bool.Decides.{nat_tests}
use Rattle.std.proofs.lemmas.List.{length-map}
use Rattle.soda_checks.specs.Conditions.{is_wrong_site}
use Rattle.soda_checks.specs.Outline.{outline_in, outline_of, uses_in}
use Rattle.soda_checks.specs.declared.outline.Outline.{Outline}
use Rattle.soda_checks.specs.declared.outline.Site.{Site}
use Rattle.soda_checks.specs.declared.outline.Site.TheVariants.{Size as SiteSize, Left}
use Rattle.soda_ir.specs.Counts.{can_be_placed, has_place, tensor_is}
use Rattle.soda_ir.specs.Formula.{by_formula, every}
use Rattle.soda_ir.specs.Program.{PlainProgram, PlainTensor}
use Rattle.soda_ir.specs.Valid.{has_good_uses, is_good_param}
use Rattle.soda_parse.specs.Meaning.{input_of, param_of, tensors_in}
use Rattle.soda_parse.proofs.Cells.{AllFine}
use Rattle.soda_parse.proofs.Places.{HasParams, good_uses}
use Rattle.soda_parse.proofs.SameTypes.{both_of}
use Rattle.soda_parse.proofs.Tiling.{none_here}
use Rattle.soda_parse.proofs.Uses.{Fits, none_in_both}
use Rattle.soda_formula.specs.Statements.{PlainStatement, PlainFormulaLine, kernel, burst_width, unroll_factor, iterate, border, cluster, param, input, local, output}
use Rattle.soda_formula.specs.declared.statement.InputLine.{InputLine}
use Rattle.soda_formula.specs.declared.statement.ParamLine.{ParamLine}
use Rattle.soda_formula.specs.declared.statement.Size.{Size}

past_sizes : (o : Outline) (sizes : List Size) (ys : List Site) → find (is_wrong_site o) (map (λ s. SiteSize s) sizes ++ ys) ≡ None →
    find (is_wrong_site o) ys ≡ None
past_sizes o sizes ys e = (none_in_both (is_wrong_site o) (map (λ s. SiteSize s) sizes) ys e).1

in_line : (o : Outline) (f : PlainFormulaLine) (ys : List Site) → find (is_wrong_site o) (Left f.name f.left ∷ (uses_in f.formula ++ ys)) ≡ None →
    (find (is_wrong_site o) (uses_in f.formula) ≡ None) × (find (is_wrong_site o) ys ≡ None)
in_line o f ys e =
    none_in_both (is_wrong_site o) (uses_in f.formula) ys (none_here (is_wrong_site o) (Left f.name f.left) (uses_in f.formula ++ ys) e).1

uses_there : (o : Outline) (p : PlainProgram) (dims : ℕ) (ss : List PlainStatement) → Fits o p dims → HasParams o p → AllFine o dims ss →
    find (is_wrong_site o) (outline_of ss).sites ≡ None → list_all (has_good_uses p) (flat_map (tensors_in o) ss) ≡ true
unfolding outline_of outline_in
uses_there o p dims [] fits h fine e = refl
uses_there o p dims (kernel l w ∷ ss) fits h fine e = uses_there o p dims ss fits h fine e
uses_there o p dims (burst_width l n ∷ ss) fits h fine e = uses_there o p dims ss fits h fine e
uses_there o p dims (unroll_factor l n ∷ ss) fits h fine e = uses_there o p dims ss fits h fine e
uses_there o p dims (iterate l n ∷ ss) fits h fine e = uses_there o p dims ss fits h fine e
uses_there o p dims (border l b ∷ ss) fits h fine e = uses_there o p dims ss fits h fine e
uses_there o p dims (cluster l ∷ ss) fits h fine e = uses_there o p dims ss fits h fine e
uses_there o p dims (param q ∷ ss) fits h fine e =
    uses_there o p dims ss fits h fine (past_sizes o q.sizes (outline_of ss).sites e)
uses_there o p dims (input i ∷ ss) fits h fine e = uses_there o p dims ss fits h fine e
uses_there o p dims (local f ∷ ss) fits h fine e =
    let both = in_line o f (outline_of ss).sites e in
    rw (good_uses o p dims f.left f.formula fits h fine.0 both.0) (uses_there o p dims ss fits h fine.1 both.1)
uses_there o p dims (output f ∷ ss) fits h fine e =
    let both = in_line o f (outline_of ss).sites e in
    rw (good_uses o p dims f.left f.formula fits h fine.0 both.0) (uses_there o p dims ss fits h fine.1 both.1)

-- all formulas name what is there
pub all_uses : (o : Outline) (p : PlainProgram) (dims : ℕ) (is : List InputLine) (ss : List PlainStatement) → Fits o p dims → HasParams o p →
    AllFine o dims ss → find (is_wrong_site o) (outline_of ss).sites ≡ None → list_all (has_good_uses p) (map input_of is ++ flat_map (tensors_in o) ss) ≡ true
all_uses o p dims [] ss fits h fine e = uses_there o p dims ss fits h fine e
all_uses o p dims (i ∷ is) ss fits h fine e = all_uses o p dims is ss fits h fine e

-- a param of a list of good ones has at most two sizes
pub two_sizes : (qs : List ParamLine) → list_all is_good_param (map param_of qs) ≡ true → (k : ℕ) (q : ParamLine) → slice_get qs k ≡ Some q → length q.sizes ≤ 2
two_sizes [] e k q is = cc
two_sizes (r ∷ qs) e zero q is =
    let same : r ≡ q = cc in
    let good = (both_of (is_good_param (param_of r)) (list_all is_good_param (map param_of qs)) e).0 in
    let two = (both_of (nat_le (length (map (λ s. s.value) r.sizes)) 2) (list_all (λ n. not (n == 0)) (map (λ s. s.value) r.sizes)) good).0 in
    let small : length r.sizes ≤ 2 = grind (arith, nat_tests, two, length-map r.sizes (λ s. s.value)) in
    rw (sym same) small
two_sizes (r ∷ qs) e (suc k) q is =
    two_sizes qs (both_of (is_good_param (param_of r)) (list_all is_good_param (map param_of qs)) e).1 k q is

input_at : (is : List InputLine) (ts : List PlainTensor) (x : ℕ) → x < length is → (i : InputLine) × (slice_get (map input_of is ++ ts) x ≡ Some (input_of i))
input_at [] ts x lt = absurd (omega arith)
input_at (i ∷ is) ts zero lt = (i, refl)
input_at (i ∷ is) ts (suc x) lt = input_at is ts x (omega arith)

tensor_there : (test : PlainTensor → Bool) (p : PlainProgram) (x : ℕ) (t : PlainTensor) → slice_get p.tensors x ≡ Some t → tensor_is test p x ≡ test t
tensor_there test p x t e = ap (λ (o : Option PlainTensor). elim o [ None ↦ false | Some u ↦ test u ]) e

placed_once : (p : PlainProgram) (n x : ℕ) (i : InputLine) → 0 < n → slice_get p.tensors x ≡ Some (input_of i) → has_place p n x ≡ true
placed_once p zero x i lt e = absurd (omega arith)
placed_once p (suc n) x i lt e = tensor_there (λ t. by_formula t.formula true (every (λ y o. has_place p n y))) p x (input_of i) e

-- an input is placed
pub input_placed : (p : PlainProgram) (is : List InputLine) (ts : List PlainTensor) (x : ℕ) → p.tensors ≡ map input_of is ++ ts → x < length is →
    0 < length p.tensors → can_be_placed p x ≡ true
input_placed p is ts x e lt some =
    let there = input_at is ts x lt in
    placed_once p (length p.tensors) x there.0 some (ap (λ (us : List PlainTensor). slice_get us x) e ∙ there.1)
