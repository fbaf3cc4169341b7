-- What the conditions look at in the statements of a program: sites, types and names.
use Rattle.std.proofs.Common.{◌≡◌, ℕ, suc, ◌<◌, ◌==◌, ◌&&◌, Bool, true, false, not, nat_le, nat_lt, List, [], ◌∷◌, ◌++◌, length, map, Some, None, Option, refl, ap, ◌∙◌, arith, ℤ}
use Rattle.std.specs.Prelude.{find, slice_get, unsigned_abs}
use Rattle.std.specs.List.{list_all}
use Rattle.std.proofs.lemmas.Bool.Decides.{nat_tests}
use Rattle.soda_words.specs.IntType.{IntType, IsType}
use Rattle.soda_checks.specs.Conditions.{is_tensor}
use Rattle.soda_checks.specs.Outline.{casts_in, outline_in, outline_of, uses_in}
use Rattle.soda_checks.specs.declared.outline.Outline.{Outline}
use Rattle.soda_checks.specs.declared.outline.Site.{Site}
use Rattle.soda_checks.specs.declared.outline.Site.TheVariants.{Size as SiteSize, Left, Cell, Value}
use Rattle.soda_ir.specs.Formula.{Formula, number, read, param as value_of, unary, binary, choice, cast}
use Rattle.soda_ir.specs.Points.{size}
use Rattle.soda_ir.specs.Program.{PlainParam, PlainProgram, PlainTensor}
use Rattle.soda_ir.specs.Uses.{each_use, is_good_cell, is_good_place, is_near}
use Rattle.soda_ir.specs.Valid.{has_good_uses, is_good_param}
use Rattle.soda_parse.specs.ProgramConditions.{far_from, first_past, site_magnitudes}
use Rattle.soda_print.specs.Canonical.{indexes, tensor_name, type_text}
use Rattle.soda_print.specs.Sized.{AreSizedParams, AreSizedTensors, IsSized}
use Rattle.soda_formula.specs.declared.statement.Size.{Size}
use Rattle.soda_words.specs.Tokens.{or_else}
use Rattle.soda_words.specs.declared.token.Word.{Word}
use Rattle.soda_parse.proofs.ReadBack.{IsCellThere, cell_there, shifted_zeros, sizes_on}
use Rattle.soda_parse.proofs.SameTypes.{both_of}
use Rattle.soda_parse.proofs.Statements.{AreDefined, none_defined, a_local, an_output, AreOrdered, no_input, an_input, declared_from, tensors_from, word, written, written_value, zeros}
use Rattle.soda_parse.proofs.Tiling.{none_here}
use Rattle.soda_parse.proofs.Uses.{far_uses}
use Rattle.std.proofs.lemmas.Bool.{not-true, ltb-true}

-- nothing is found in two lists
pub none_two : {A : Type 0} (test : A → Bool) (xs ys : List A) → find test xs ≡ None → find test ys ≡ None → find test (xs ++ ys) ≡ None
none_two test [] ys e f = f
none_two test (x ∷ xs) ys e f =
    let here = none_here test x xs e in
    rw here.0 (none_two test xs ys here.1 f)

-- nothing is found in a list where nothing is in its rest, and its first item isn't it
pub none_first_of : {A : Type 0} (test : A → Bool) (x : A) (xs : List A) → test x ≡ false → find test xs ≡ None → find test (x ∷ xs) ≡ None
none_first_of test x xs e f = rw e f

-- a test finds none of the sites of a program's statements
pub record Passes (test : Site → Bool) (p : PlainProgram) : Type 0 where
  pub cells : (line k : ℕ) (ds : List ℤ) → IsCellThere p k ds → test (Cell (word line (tensor_name p k)) ds) ≡ false
  pub values : (line k i : ℕ) (q : PlainParam) → slice_get p.params k ≡ Some q → i < size q.sizes → test (Value (word line q.name) (indexes q.sizes i)) ≡ false
  pub lefts : (w : Word) → test (Left w (zeros p)) ≡ false
  pub sizes : (line n : ℕ) → (n == 0) ≡ false → test (SiteSize (record { line = line; value = n })) ≡ false

value_none : (test : Site → Bool) (p : PlainProgram) (line k i : ℕ) (r : Option PlainParam) → Passes test p → slice_get p.params k ≡ r →
    (elim r as (λ v. Bool) [ None ↦ false | Some q ↦ nat_lt i (size q.sizes) ]) ≡ true → find test (uses_in (written_value line i r)) ≡ None
value_none test p line k i None h e u = cc
value_none test p line k i (Some q) h e u =
    none_first_of test (Value (word line q.name) (indexes q.sizes i)) [] (h.values line k i q e (ltb-true i (size q.sizes) u)) refl

-- a test that finds no cell and no value of a program finds nothing in a formula
pub uses_none : (test : Site → Bool) (p : PlainProgram) (line : ℕ) (f : Formula) → Passes test p → each_use (is_good_cell p) (is_good_place p) f ≡ true →
    find test (uses_in (written p line f)) ≡ None
uses_none test p line (number n) h u = refl
uses_none test p line (read k ds) h u =
    none_first_of test (Cell (word line (tensor_name p k)) ds) [] (h.cells line k ds (cell_there p k ds u)) refl
uses_none test p line (value_of k i) h u = value_none test p line k i (slice_get p.params k) h refl u
uses_none test p line (unary op a) h u = uses_none test p line a h u
uses_none test p line (binary op a b) h u =
    let both = both_of (each_use (is_good_cell p) (is_good_place p) a) (each_use (is_good_cell p) (is_good_place p) b) u in
    none_two test (uses_in (written p line a)) (uses_in (written p line b)) (uses_none test p line a h both.0) (uses_none test p line b h both.1)
uses_none test p line (choice c a b) h u =
    let e : Formula → Bool = each_use (is_good_cell p) (is_good_place p) in
    let both = both_of (e c && e a) (e b) u in
    let front = both_of (e c) (e a) both.0 in
    none_two test (uses_in (written p line c)) (uses_in (written p line a) ++ uses_in (written p line b)) (uses_none test p line c h front.0)
    (none_two test (uses_in (written p line a)) (uses_in (written p line b)) (uses_none test p line a h front.1) (uses_none test p line b h both.1))
uses_none test p line (cast t a) h u = uses_none test p line a h u

defined_none : (test : Site → Bool) (p : PlainProgram) (line : ℕ) {ts : List PlainTensor} → Passes test p → AreDefined ts →
    list_all (has_good_uses p) ts ≡ true → find test (outline_of (tensors_from p line ts)).sites ≡ None
unfolding outline_of outline_in
defined_none test p line h none_defined u = refl
defined_none test p line h (a_local {ts} n ty f more) u =
    let both = both_of (each_use (is_good_cell p) (is_good_place p) f) (list_all (has_good_uses p) ts) u in
    none_first_of test (Left (word line n) (zeros p)) (uses_in (written p line f) ++ (outline_of (tensors_from p (suc line) ts)).sites)
    (h.lefts (word line n)) (none_two test (uses_in (written p line f)) (outline_of (tensors_from p (suc line) ts)).sites
    (uses_none test p line f h both.0) (defined_none test p (suc line) h more both.1))
defined_none test p line h (an_output {ts} n ty f more) u =
    let both = both_of (each_use (is_good_cell p) (is_good_place p) f) (list_all (has_good_uses p) ts) u in
    none_first_of test (Left (word line n) (zeros p)) (uses_in (written p line f) ++ (outline_of (tensors_from p (suc line) ts)).sites)
    (h.lefts (word line n)) (none_two test (uses_in (written p line f)) (outline_of (tensors_from p (suc line) ts)).sites
    (uses_none test p line f h both.0) (defined_none test p (suc line) h more both.1))

tensors_none : (test : Site → Bool) (p : PlainProgram) (line : ℕ) {ts : List PlainTensor} → Passes test p → AreOrdered ts →
    list_all (has_good_uses p) ts ≡ true → find test (outline_of (tensors_from p line ts)).sites ≡ None
unfolding outline_of outline_in
tensors_none test p line h (no_input d) u = defined_none test p line h d u
tensors_none test p line h (an_input {ts} n ty more) u = tensors_none test p (suc line) h more u

-- a number that is not 0
abbrev pub nonzero : ℕ → Bool
nonzero n = not (n == 0)

sizes_none : (test : Site → Bool) (p : PlainProgram) (line : ℕ) (ns : List ℕ) → Passes test p → list_all nonzero ns ≡ true →
    find test (map (λ s. SiteSize s) (sizes_on line ns)) ≡ None
sizes_none test p line [] h g = refl
sizes_none test p line (n ∷ ns) h g =
    let both = both_of (nonzero n) (list_all nonzero ns) g in
    none_first_of test (SiteSize (record {
      line = line;
      value =
          n;
    })) (map (λ s. SiteSize s) (sizes_on line ns)) (h.sizes line n (not-true (n == 0) both.0)) (sizes_none test p line ns h both.1)

-- no site of the statements
pub sites_none : (test : Site → Bool) (p : PlainProgram) (line : ℕ) (qs : List PlainParam) {ts : List PlainTensor} → Passes test p → AreOrdered ts →
    list_all is_good_param qs ≡ true → list_all (has_good_uses p) ts ≡ true → find test (outline_of (declared_from p line qs ts)).sites ≡ None
unfolding outline_of outline_in
sites_none test p line [] h d g u = tensors_none test p line h d u
sites_none test p line (q ∷ qs) {ts} h d g u =
    let both = both_of (is_good_param q) (list_all is_good_param qs) g in
    let good = both_of (nat_le (length q.sizes) 2) (list_all nonzero q.sizes) both.0 in
    none_two test (map (λ s. SiteSize s) (sizes_on line q.sizes)) (outline_of (declared_from p (suc line) qs ts)).sites
    (sizes_none test p line q.sizes h good.1) (sites_none test p (suc line) qs h d both.1 u)

-- the cells of a program's statements are near
near_none : (ds : List ℤ) → is_near ds ≡ true → first_past 32768 (map unsigned_abs ds) ≡ None
near_none [] h = refl
near_none (d ∷ ds) h =
    let both = both_of (nat_le (unsigned_abs d) 32768) (is_near ds) h in
    let not_far : nat_lt 32768 (unsigned_abs d) ≡ false = grind (arith, nat_tests, both.0) in
    none_first_of (λ n. nat_lt 32768 n) (unsigned_abs d) (map unsigned_abs ds) not_far (near_none ds both.1)

-- a tensor's name is one of a tensor
abbrev pub AreTensors : Outline → PlainProgram → Type 0
AreTensors o p = (line k : ℕ) → k < length p.tensors → is_tensor o (word line (tensor_name p k)) ≡ true

far_cell : (o : Outline) (p : PlainProgram) (line k : ℕ) (ds : List ℤ) → AreTensors o p → IsCellThere p k ds →
    first_past 32768 (site_magnitudes o (zeros p) (Cell (word line (tensor_name p k)) ds)) ≡ None
far_cell o p line k ds h there = rw (h line k there.within, shifted_zeros ds p.extents) (near_none ds there.near)

or_both : {A : Type 0} (a b : Option A) → a ≡ None → b ≡ None → or_else a b ≡ None
or_both a b e f = rw e f

far_value : (o : Outline) (left : List ℤ) (line i : ℕ) (r : Option PlainParam) → far_from o left (uses_in (written_value line i r)) ≡ None
far_value o left line i None = refl
far_value o left line i (Some q) = refl

far_two : (o : Outline) (p : PlainProgram) (line : ℕ) (f : Formula) (rest : List Site) → far_from o (zeros p) (uses_in (written p line f)) ≡ None →
    far_from o (zeros p) rest ≡ None → far_from o (zeros p) (uses_in (written p line f) ++ rest) ≡ None
far_two o p line f rest e g =
    far_uses o (zeros p) (written p line f) rest ∙ or_both (far_from o (zeros p) (uses_in (written p line f))) (far_from o (zeros p) rest) e g

far_formula : (o : Outline) (p : PlainProgram) (line : ℕ) (f : Formula) → AreTensors o p → each_use (is_good_cell p) (is_good_place p) f ≡ true →
    far_from o (zeros p) (uses_in (written p line f)) ≡ None
far_formula o p line (number n) h u = refl
far_formula o p line (read k ds) h u =
    or_both (first_past 32768 (site_magnitudes o (zeros p) (Cell (word line (tensor_name p k)) ds))) None (far_cell o p line k ds h (cell_there p k ds u)) refl
far_formula o p line (value_of k i) h u = far_value o (zeros p) line i (slice_get p.params k)
far_formula o p line (unary op a) h u = far_formula o p line a h u
far_formula o p line (binary op a b) h u =
    let both = both_of (each_use (is_good_cell p) (is_good_place p) a) (each_use (is_good_cell p) (is_good_place p) b) u in
    far_two o p line a (uses_in (written p line b)) (far_formula o p line a h both.0) (far_formula o p line b h both.1)
far_formula o p line (choice c a b) h u =
    let e : Formula → Bool = each_use (is_good_cell p) (is_good_place p) in
    let both = both_of (e c && e a) (e b) u in
    let front = both_of (e c) (e a) both.0 in
    far_two o p line c (uses_in (written p line a) ++ uses_in (written p line b)) (far_formula o p line c h front.0)
    (far_two o p line a (uses_in (written p line b)) (far_formula o p line a h front.1) (far_formula o p line b h both.1))
far_formula o p line (cast t a) h u = far_formula o p line a h u

far_defined : (o : Outline) (p : PlainProgram) (line : ℕ) (left : List ℤ) {ts : List PlainTensor} → AreTensors o p → AreDefined ts →
    list_all (has_good_uses p) ts ≡ true → far_from o left (outline_of (tensors_from p line ts)).sites ≡ None
unfolding outline_of outline_in
far_defined o p line left h none_defined u = refl
far_defined o p line left h (a_local {ts} n ty f more) u =
    let both = both_of (each_use (is_good_cell p) (is_good_place p) f) (list_all (has_good_uses p) ts) u in
    far_two o p line f (outline_of (tensors_from p (suc line) ts)).sites (far_formula o p line f h both.0) (far_defined o p (suc line) (zeros p) h more both.1)
far_defined o p line left h (an_output {ts} n ty f more) u =
    let both = both_of (each_use (is_good_cell p) (is_good_place p) f) (list_all (has_good_uses p) ts) u in
    far_two o p line f (outline_of (tensors_from p (suc line) ts)).sites (far_formula o p line f h both.0) (far_defined o p (suc line) (zeros p) h more both.1)

far_tensors : (o : Outline) (p : PlainProgram) (line : ℕ) (left : List ℤ) {ts : List PlainTensor} → AreTensors o p → AreOrdered ts →
    list_all (has_good_uses p) ts ≡ true → far_from o left (outline_of (tensors_from p line ts)).sites ≡ None
unfolding outline_of outline_in
far_tensors o p line left h (no_input d) u = far_defined o p line left h d u
far_tensors o p line left h (an_input {ts} n ty more) u = far_tensors o p (suc line) left h more u

far_sizes : (o : Outline) (left : List ℤ) (ss : List Size) (rest : List Site) → far_from o left rest ≡ None →
    far_from o left (map (λ s. SiteSize s) ss ++ rest) ≡ None
far_sizes o left [] rest e = e
far_sizes o left (s ∷ ss) rest e = far_sizes o left ss rest e

-- no cell of the statements is too far
pub far_none : (o : Outline) (p : PlainProgram) (line : ℕ) (left : List ℤ) (qs : List PlainParam) {ts : List PlainTensor} → AreTensors o p → AreOrdered ts →
    list_all (has_good_uses p) ts ≡ true → far_from o left (outline_of (declared_from p line qs ts)).sites ≡ None
unfolding outline_of outline_in
far_none o p line left [] h d u = far_tensors o p line left h d u
far_none o p line left (q ∷ qs) {ts} h d u =
    far_sizes o left (sizes_on line q.sizes) (outline_of (declared_from p (suc line) qs ts)).sites (far_none o p (suc line) left qs h d u)

-- a test finds no word of a type
abbrev pub PassesTypes : (Word → Bool) → Type 0
PassesTypes test = (line : ℕ) (t : IntType) → IsType t → test (word line (type_text t)) ≡ false

value_casts : (line i : ℕ) (r : Option PlainParam) → casts_in (written_value line i r) ≡ []
value_casts line i None = refl
value_casts line i (Some q) = refl

casts_none : (test : Word → Bool) (p : PlainProgram) (line : ℕ) (f : Formula) → PassesTypes test → IsSized f → find test (casts_in (written p line f)) ≡ None
casts_none test p line (number n) h s = refl
casts_none test p line (read k ds) h s = refl
casts_none test p line (value_of k i) h s = ap (find test) (value_casts line i (slice_get p.params k))
casts_none test p line (unary op a) h s = casts_none test p line a h s
casts_none test p line (binary op a b) h s =
    none_two test (casts_in (written p line a)) (casts_in (written p line b)) (casts_none test p line a h s.0) (casts_none test p line b h s.1)
casts_none test p line (choice c a b) h s =
    none_two test (casts_in (written p line c)) (casts_in (written p line a) ++ casts_in (written p line b)) (casts_none test p line c h s.0)
    (none_two test (casts_in (written p line a)) (casts_in (written p line b)) (casts_none test p line a h s.1) (casts_none test p line b h s.2))
casts_none test p line (cast t a) h s =
    none_first_of test (word line (type_text t)) (casts_in (written p line a)) (h line t s.0) (casts_none test p line a h s.1)

defined_types : (test : Word → Bool) (p : PlainProgram) (line : ℕ) {ts : List PlainTensor} → PassesTypes test → AreDefined ts → AreSizedTensors ts →
    find test (outline_of (tensors_from p line ts)).types ≡ None
unfolding outline_of outline_in
defined_types test p line h none_defined s = refl
defined_types test p line h (a_local {ts} n ty f more) s =
    none_first_of test (word line (type_text ty)) (casts_in (written p line f) ++ (outline_of (tensors_from p (suc line) ts)).types) (h line ty s.0.0)
    (none_two test (casts_in (written p line f)) (outline_of (tensors_from p (suc line) ts)).types (casts_none test p line f h s.0.1)
    (defined_types test p (suc line) h more s.1))
defined_types test p line h (an_output {ts} n ty f more) s =
    none_first_of test (word line (type_text ty)) (casts_in (written p line f) ++ (outline_of (tensors_from p (suc line) ts)).types) (h line ty s.0.0)
    (none_two test (casts_in (written p line f)) (outline_of (tensors_from p (suc line) ts)).types (casts_none test p line f h s.0.1)
    (defined_types test p (suc line) h more s.1))

tensor_types : (test : Word → Bool) (p : PlainProgram) (line : ℕ) {ts : List PlainTensor} → PassesTypes test → AreOrdered ts → AreSizedTensors ts →
    find test (outline_of (tensors_from p line ts)).types ≡ None
unfolding outline_of outline_in
tensor_types test p line h (no_input d) s = defined_types test p line h d s
tensor_types test p line h (an_input {ts} n ty more) s =
    none_first_of test (word line (type_text ty)) (outline_of (tensors_from p (suc line) ts)).types (h line ty s.0.0)
    (tensor_types test p (suc line) h more s.1)

-- no word of a type of the statements
pub types_none : (test : Word → Bool) (p : PlainProgram) (line : ℕ) (qs : List PlainParam) {ts : List PlainTensor} → PassesTypes test → AreOrdered ts →
    AreSizedParams qs → AreSizedTensors ts → find test (outline_of (declared_from p line qs ts)).types ≡ None
unfolding outline_of outline_in
types_none test p line [] h d r s = tensor_types test p line h d s
types_none test p line (q ∷ qs) {ts} h d r s =
    none_first_of test (word line (type_text q.ty)) (outline_of (declared_from p (suc line) qs ts)).types (h line q.ty r.0)
    (types_none test p (suc line) qs h d r.1 s)
