-- The values that the formulas of a text name, where the conditions on them hold.
use Rattle.std.proofs.Common.{◌≡◌, ℕ, ◌+◌, ◌*◌, ◌<◌, ◌≤◌, Bool, true, false, not, List, [], ◌∷◌, ◌++◌, length, map, Some, None, Option, refl, sym, ap, ◌∙◌, arith, ℤ, mul-one, one-mul, mul_assoc, subst}
use Rattle.std.specs.Prelude.{find, option_map, position, slice_get, nat_lt}
use Rattle.std.specs.List.{position_or_len}
use Rattle.std.proofs.lemmas.Bool.Decides.{nat_tests}
use Rattle.std.proofs.lemmas.List.Folds.{find_at}
use Rattle.std.proofs.lemmas.Nat.{mul-add-lt}
use Rattle.std.proofs.lemmas.Option.{slice_get-map, slice_get_within}
use Rattle.soda_checks.specs.Conditions.{are_below, is_wrong_site}
use Rattle.soda_checks.specs.Outline.{is_same, uses_in}
use Rattle.soda_checks.specs.declared.outline.Outline.{Outline}
use Rattle.soda_checks.specs.declared.outline.Site.TheVariants.{Value}
use Rattle.soda_formula.specs.Terms.{Term, literal, cell, value, unary, binary, choice, cast}
use Rattle.soda_ir.specs.Formula.{every}
use Rattle.soda_ir.specs.Formula.{Formula}
use Rattle.soda_ir.specs.Points.{size}
use Rattle.soda_ir.specs.Program.{PlainParam, PlainProgram}
use Rattle.soda_ir.specs.Uses.{each_use, is_good_cell, is_good_place}
use Rattle.soda_ir.specs.Valid.{value_count}
use Rattle.soda_parse.specs.ProgramConditions.{first_past, param_products, partial_products, values_past}
use Rattle.soda_parse.specs.Meaning.{cell_formula, formula_of, named_value, offset_or_none, param_of, place_at, place_of, place_or_0, shifted, tensor_number, value_formula}
use Rattle.soda_parse.proofs.Kept.{none_first, none_second}
use Rattle.soda_parse.proofs.SameTypes.{both_of}
use Rattle.soda_parse.proofs.Tiling.{false_not, none_here}
use Rattle.soda_parse.proofs.Uses.{FineCells, Fits, fine_first, fine_second, good_read, none_in_both}
use Rattle.soda_formula.specs.declared.statement.ParamLine.{ParamLine}
use Rattle.soda_formula.specs.declared.statement.Size.{Size}
use Rattle.soda_words.specs.declared.token.Word.{Word}
use Rattle.std.proofs.lemmas.Bool.{ltb-true}
use Rattle.soda_print.proofs.CallerLemmas.{count_cons, count_there}

not_past : (n : ℕ) → nat_lt 65536 n ≡ false → n ≤ 65536
not_past n e = grind (arith, nat_tests, e)

sum_small : (b n : ℕ) (ks : List ℕ) → b + n ≤ 65536 → first_past 65536 (map (λ m. b + m) (partial_products n ks)) ≡ None → b + n * size ks ≤ 65536
sum_small b n [] le e = omega (arith, mul-one n)
sum_small b n (k ∷ ks) le e =
    let here = none_here (λ (m : ℕ). nat_lt 65536 m) (b + n * k) (map (λ m. b + m) (partial_products (n * k) ks)) e in
    subst (λ (m : ℕ). b + m ≤ 65536) (mul_assoc n k (size ks)) (sum_small b (n * k) ks (not_past (b + n * k) here.0) here.1)

one_small : (b : ℕ) (sizes : List ℕ) → first_past 65536 (map (λ m. b + m) (param_products sizes)) ≡ None → b + size sizes ≤ 65536
one_small b [] e = not_past (b + 1) (none_here (λ (m : ℕ). nat_lt 65536 m) (b + 1) [] e).0
one_small b (k ∷ ks) e =
    let here = none_here (λ (m : ℕ). nat_lt 65536 m) (b + 1 * k) (map (λ m. b + m) (partial_products (1 * k) ks)) e in
    subst (λ (m : ℕ). b + m ≤ 65536) (ap (λ (m : ℕ). m * size ks) (one-mul k)) (sum_small b (1 * k) ks (not_past (b + 1 * k) here.0) here.1)

-- all params together have few values
pub values_small : (b : ℕ) (qs : List PlainParam) → b ≤ 65536 → values_past b qs ≡ None → b + value_count qs ≤ 65536
values_small b [] le e = omega arith
values_small b (q ∷ qs) le e =
    let first = one_small b q.sizes (none_first (first_past 65536 (map (λ n. b + n) (param_products q.sizes))) (values_past (b + size q.sizes) qs) e) in
    let rest =
    values_small (b + size q.sizes) qs first (none_second (first_past 65536 (map (λ n. b + n) (param_products q.sizes)))
    (values_past (b + size q.sizes) qs) e) in
    omega (arith, rest, count_cons q qs)

in_grid : (i j m n : ℕ) → i < m → j < n → i * n + j < m * n
in_grid i j m n lt mt = omega (arith, mul-add-lt i n j m lt mt)

-- a place that indexes name is one of the values
place_within : (sizes : List Size) (is : List ℕ) → are_below is sizes ≡ true → length sizes ≤ 2 → place_at sizes is < size (map (λ s. s.value) sizes)
place_within [] is e le = omega arith
place_within (s ∷ []) [] e le = cc
place_within (s ∷ []) (i ∷ []) e le =
    let lt = ltb-true i s.value (both_of (nat_lt i s.value) true e).0 in omega (arith, lt, mul-one s.value)
place_within (s ∷ []) (i ∷ j ∷ is) e le = let h : false ≡ true = (both_of (nat_lt i s.value) false e).1 in cc
place_within (s ∷ t ∷ []) [] e le = cc
place_within (s ∷ t ∷ []) (i ∷ []) e le = let h : false ≡ true = (both_of (nat_lt i s.value) false e).1 in cc
place_within (s ∷ t ∷ []) (i ∷ j ∷ is) e le =
    let a = both_of (nat_lt i s.value) (are_below (j ∷ is) (t ∷ [])) e in
    let b = both_of (nat_lt j t.value) (are_below is []) a.1 in
    subst (λ (m : ℕ). i * t.value + j < s.value * m) (sym (mul-one t.value)) (in_grid i j s.value t.value (ltb-true i s.value a.0) (ltb-true j t.value b.0))
place_within (s ∷ t ∷ u ∷ ss) is e le = absurd (omega arith)

small_place : (n m : ℕ) → n < m → m ≤ 65536 → place_or_0 n ≡ n
small_place n m lt le = let small : nat_lt n 65536 ≡ true = grind (arith, nat_tests) in rw small refl

-- the params of a program are those of the outline, each with at most two sizes, with few values together
pub record HasParams (o : Outline) (p : PlainProgram) : Type 0 where
  pub same : p.params ≡ map param_of o.params
  pub two : (k : ℕ) (q : ParamLine) → slice_get o.params k ≡ Some q → length q.sizes ≤ 2
  pub few : value_count p.params ≤ 65536

good_at : (p : PlainProgram) (k i : ℕ) (q : PlainParam) → slice_get p.params k ≡ Some q → i < size q.sizes → is_good_place p k i ≡ true
good_at p k i q e lt = let small : nat_lt i (size q.sizes) ≡ true = grind (arith, nat_tests) in rw (e, is_good_place) small

good_value : (o : Outline) (p : PlainProgram) (cells : ℕ → List ℤ → Bool) (w : Word) (is : List ℕ) (f : Option ParamLine) → HasParams o p →
    find (λ q. is_same w q.name) o.params ≡ f → (elim f [ None ↦ true | Some q ↦ not (are_below is q.sizes) ]) ≡ false →
    each_use cells (is_good_place p) (named_value o.params w is) ≡ true
good_value o p cells w is None h found e = cc
good_value o p cells w is (Some q) h found e =
    let test : ParamLine → Bool = λ r. is_same w r.name in
    let k : ℕ = position_or_len test o.params in
    let there : slice_get o.params k ≡ Some q = sym (find_at test o.params) ∙ found in
    let lt : nat_lt k (length o.params) ≡ true = grind (arith, nat_tests, slice_get_within o.params k q there) in
    let placed : position test o.params ≡ Some k = rw lt refl in
    let mine : slice_get p.params k ≡ Some (param_of q) = ap (λ (qs : List PlainParam). slice_get qs k) h.same ∙
    (slice_get-map param_of o.params k ∙ ap (option_map param_of) there) in
    let below_all : are_below is q.sizes ≡ true = false_not (are_below is q.sizes) e in
    let within = place_within q.sizes is below_all (h.two k q there) in
    let few : size (map (λ s. s.value) q.sizes) ≤ 65536 = omega (arith, count_there p.params k (param_of q) mine, h.few) in
    let place : place_of q.sizes is ≡ place_at q.sizes is = rw below_all (small_place (place_at q.sizes is) (size (map (λ s. s.value) q.sizes)) within few) in
    let good : is_good_place p k (place_of q.sizes is) ≡ true = good_at p k (place_of q.sizes is) (param_of q) mine (rw place within) in
    ap (λ (f : Formula). each_use cells (is_good_place p) f) (ap (λ (a : Option ℕ). value_formula a (find test o.params) is) placed ∙
    ap (λ (b : Option ParamLine). value_formula (Some k) b is) found) ∙ good

same_test : (cells : ℕ → List ℤ → Bool) (values : ℕ → ℕ → Bool) (n : Option ℕ) (offset : List ℤ) →
    each_use cells values (cell_formula n offset) ≡ every cells (cell_formula n offset)
same_test cells values None offset = refl
same_test cells values (Some k) offset = refl

-- what a formula of a text names is there: its cells are good, and its places in range
pub good_uses : (o : Outline) (p : PlainProgram) (dims : ℕ) (left : List ℤ) (t : Term) → Fits o p dims → HasParams o p → FineCells o dims left (uses_in t) →
    find (is_wrong_site o) (uses_in t) ≡ None → each_use (is_good_cell p) (is_good_place p) (formula_of o left t) ≡ true
good_uses o p dims left (literal n) fits h fine e = refl
good_uses o p dims left (cell w offsets) fits h fine e =
    same_test (is_good_cell p) (is_good_place p) (tensor_number o w) (offset_or_none (shifted offsets left)) ∙
    good_read o p dims left w offsets (tensor_number o w) refl fits fine
good_uses o p dims left (value w is) fits h fine e =
    good_value o p (is_good_cell p) w is (find (λ q. is_same w q.name) o.params) h refl (none_here (is_wrong_site o) (Value w is) [] e).0
good_uses o p dims left (unary op a) fits h fine e = good_uses o p dims left a fits h fine e
good_uses o p dims left (binary op a b) fits h fine e =
    let both = none_in_both (is_wrong_site o) (uses_in a) (uses_in b) e in
    rw (good_uses o p dims left a fits h (fine_first o dims left a (uses_in b) fine) both.0)
    (good_uses o p dims left b fits h (fine_second o dims left a (uses_in b) fine) both.1)
good_uses o p dims left (choice c a b) fits h fine e =
    let all = none_in_both (is_wrong_site o) (uses_in c) (uses_in a ++ uses_in b) e in
    let both = none_in_both (is_wrong_site o) (uses_in a) (uses_in b) all.1 in
    let rest = fine_second o dims left c (uses_in a ++ uses_in b) fine in
    rw (
      good_uses o p dims left c fits h (fine_first o dims left c (uses_in a ++ uses_in b) fine) all.0,
      good_uses o p dims left a fits h (fine_first o dims left a (uses_in b) rest) both.0,
    ) (good_uses o p dims left b fits h (fine_second o dims left a (uses_in b) rest) both.1)
good_uses o p dims left (cast t a) fits h fine e = good_uses o p dims left a fits h fine e
