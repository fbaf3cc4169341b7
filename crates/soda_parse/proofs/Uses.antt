-- What the formulas of a text name, where the conditions on cells and values hold.
use Rattle.std.proofs.Common.{◌≡◌, ℕ, zero, suc, ◌+◌, ◌<◌, ◌≤◌, ◌==◌, Bool, true, false, not, List, [], ◌∷◌, ◌++◌, length, map, Some, None, Option, refl, sym, ap, ◌∙◌, arith, append_assoc, ℤ, get_or}
use Rattle.std.specs.Prelude.{find, option_map, position, nat_lt, nat_le, unsigned_abs}
use Rattle.std.specs.List.{list_any}
use Rattle.std.proofs.lemmas.Bool.{eqb-true, eq-eqb}
use Rattle.std.proofs.lemmas.Bool.Decides.{nat_tests}
use Rattle.std.proofs.lemmas.List.Quantifiers.{position-Some}
use Rattle.soda_checks.specs.Conditions.{has_wrong_dims, is_tensor}
use Rattle.soda_checks.specs.Outline.{is_same, uses_in}
use Rattle.soda_checks.specs.declared.outline.Outline.{Outline}
use Rattle.soda_checks.specs.declared.outline.Site.{Site}
use Rattle.soda_checks.specs.declared.outline.Site.TheVariants.{Cell}
use Rattle.soda_formula.specs.Terms.{Term, literal, cell, value, unary, binary, choice, cast}
use Rattle.soda_ir.specs.Formula.{every}
use Rattle.soda_ir.specs.Program.{PlainProgram}
use Rattle.soda_ir.specs.Uses.{is_good_cell, is_near}
use Rattle.soda_parse.specs.ProgramConditions.{far_from, first_past, site_magnitudes}
use Rattle.soda_parse.specs.Meaning.{cell_formula, formula_of, offset_or_none, shifted, tensor_number, value_formula}
use Rattle.soda_formula.specs.declared.statement.ParamLine.{ParamLine}
use Rattle.soda_parse.proofs.Kept.{none_first, none_second}
use Rattle.soda_parse.proofs.Tiling.{none_here, false_not}
use Rattle.soda_words.specs.Tokens.{or_else}
use Rattle.soda_words.specs.declared.token.Word.{Word}
use Rattle.std.proofs.Math.Bool.{or-true}
use Rattle.soda_parse.proofs.Offsets.{shifted_length}

-- the cells of a formula behind a left side are fine
pub record FineCells (o : Outline) (dims : ℕ) (left : List ℤ) (sites : List Site) : Type 0 where
  pub counted : find (has_wrong_dims o dims) sites ≡ None
  pub near : far_from o left sites ≡ None

-- nothing is found in two lists, where nothing is found in both together
pub none_in_both : {A : Type 0} (test : A → Bool) (xs ys : List A) → find test (xs ++ ys) ≡ None → (find test xs ≡ None) × (find test ys ≡ None)
none_in_both test [] ys e = (refl, e)
none_in_both test (x ∷ xs) ys e =
    let here = none_here test x (xs ++ ys) e in
    let rest = none_in_both test xs ys here.1 in
    (rw here.0 rest.0, rest.1)

or_assoc : {A : Type 0} (a b c : Option A) → or_else a (or_else b c) ≡ or_else (or_else a b) c
or_assoc None b c = refl
or_assoc (Some a) b c = refl

or_none : {A : Type 0} (a : Option A) → or_else a None ≡ a
or_none None = refl
or_none (Some a) = refl

-- the left side stays the same over these
abbrev Keeps : Outline → List ℤ → List Site → Type 0
Keeps o left xs = (ys : List Site) → far_from o left (xs ++ ys) ≡ or_else (far_from o left xs) (far_from o left ys)

keeps_both : (o : Outline) (left : List ℤ) (xs ys : List Site) → Keeps o left xs → Keeps o left ys → Keeps o left (xs ++ ys)
keeps_both o left xs ys h k zs =
    rw (append_assoc xs ys zs) (h (ys ++ zs) ∙ (ap (λ (f : Option ℕ). or_else (far_from o left xs) f) (k zs) ∙
    (or_assoc (far_from o left xs) (far_from o left ys) (far_from o left zs) ∙ ap (λ (f : Option ℕ). or_else f (far_from o left zs)) (sym (h ys)))))

-- the sites of a formula leave the left side as it is
pub far_uses : (o : Outline) (left : List ℤ) (t : Term) → Keeps o left (uses_in t)
far_uses o left (literal n) ys = refl
far_uses o left (cell t offsets) ys =
    ap (λ (a : Option ℕ). or_else a (far_from o left ys)) (sym (or_none (first_past 32768 (site_magnitudes o left (Cell t offsets)))))
far_uses o left (value p is) ys = refl
far_uses o left (unary op a) ys = far_uses o left a ys
far_uses o left (binary op a b) ys = keeps_both o left (uses_in a) (uses_in b) (far_uses o left a) (far_uses o left b) ys
far_uses o left (choice c a b) ys =
    keeps_both o left (uses_in c) (uses_in a ++ uses_in b) (far_uses o left c) (keeps_both o left (uses_in a) (uses_in b) (far_uses o left a)
    (far_uses o left b)) ys
far_uses o left (cast t a) ys = far_uses o left a ys

-- the cells of the first of two parts are fine where all are
pub fine_first : (o : Outline) (dims : ℕ) (left : List ℤ) (a : Term) (ys : List Site) → FineCells o dims left (uses_in a ++ ys) →
    FineCells o dims left (uses_in a)
fine_first o dims left a ys f = record {
  counted = (none_in_both (has_wrong_dims o dims) (uses_in a) ys f.counted).0;
  near = none_first (far_from o left (uses_in a)) (far_from o left ys) (sym (far_uses o left a ys) ∙ f.near);
}

-- the cells of the second of two parts are fine where all are
pub fine_second : (o : Outline) (dims : ℕ) (left : List ℤ) (a : Term) (ys : List Site) → FineCells o dims left (uses_in a ++ ys) → FineCells o dims left ys
fine_second o dims left a ys f = record {
  counted = (none_in_both (has_wrong_dims o dims) (uses_in a) ys f.counted).1;
  near = none_second (far_from o left (uses_in a)) (far_from o left ys) (sym (far_uses o left a ys) ∙ f.near);
}

-- the program has the tensors and the dimensions of the outline
pub record Fits (o : Outline) (p : PlainProgram) (dims : ℕ) : Type 0 where
  pub tensors : length p.tensors ≡ length o.inputs + length o.defined
  pub extents : dims ≡ suc (length p.extents)
  pub few : dims ≤ 4

no_cell : (test : ℕ → List ℤ → Bool) (k : Option ℕ) (q : Option ParamLine) (is : List ℕ) → every test (value_formula k q is) ≡ true
no_cell test None q is = refl
no_cell test (Some k) None is = refl
no_cell test (Some k) (Some q) is = refl

none_there : {A : Type 0} (test : A → Bool) (k : ℕ) → position test [] ≡ Some k → ⊥
none_there test k e = cc

any_at : {A : Type 0} (test : A → Bool) (xs : List A) (k : ℕ) (d : A) → k < length xs → test (get_or xs k d) ≡ true → list_any test xs ≡ true
any_at test [] k d lt e = absurd (omega arith)
any_at test (x ∷ xs) zero d lt e = rw e refl
any_at test (x ∷ xs) (suc k) d lt e = rw (any_at test xs k d (omega arith) e) (or-true (test x))

-- a name at a place of a list is one of the list
found_any : {A : Type 0} (test : A → Bool) (xs : List A) (k : ℕ) → position test xs ≡ Some k → (k < length xs) × (list_any test xs ≡ true)
found_any test [] k e = absurd (none_there test k e)
found_any test (x ∷ xs) k e =
    let h = position-Some test (x ∷ xs) k x e in
    (h.0, any_at test (x ∷ xs) k x h.0 h.1)

numbered : (o : Outline) (w : Word) (k : ℕ) (a b : Option ℕ) → position (λ i. is_same w i.name) o.inputs ≡ a →
    position (λ d. is_same w d.name) o.defined ≡ b → or_else a (option_map (λ n. length o.inputs + n) b) ≡ Some k →
    (k < length o.inputs + length o.defined) × (is_tensor o w ≡ true)
numbered o w k (Some i) b e f is =
    let h = found_any (λ i. is_same w i.name) o.inputs i e in
    let same : i ≡ k = cc in
    (omega (arith, h.0, same), rw h.1 refl)
numbered o w k None (Some n) e f is =
    let h = found_any (λ d. is_same w d.name) o.defined n f in
    let same : length o.inputs + n ≡ k = cc in
    (omega (arith, h.0, same), rw h.1 (or-true (list_any (λ i. is_same w i.name) o.inputs)))
numbered o w k None None e f is = cc

-- a number of a tensor is below their number, and the name is a tensor's
number_of_tensor : (o : Outline) (w : Word) (k : ℕ) → tensor_number o w ≡ Some k → (k < length o.inputs + length o.defined) × (is_tensor o w ≡ true)
number_of_tensor o w k e =
    numbered o w k (position (λ i. is_same w i.name) o.inputs) (position (λ d. is_same w d.name) o.defined) refl refl e

near_all : (ds : List ℤ) → first_past 32768 (map unsigned_abs ds) ≡ None → is_near ds ≡ true
near_all [] e = refl
near_all (d ∷ ds) e =
    let here = none_here (λ (n : ℕ). nat_lt 32768 n) (unsigned_abs d) (map unsigned_abs ds) e in
    let small : nat_le (unsigned_abs d) 32768 ≡ true = grind (arith, nat_tests, here.0) in
    rw (small, near_all ds here.1) refl

counted_by : (o : Outline) (dims : ℕ) (w : Word) (offsets : List ℤ) → is_tensor o w ≡ true → has_wrong_dims o dims (Cell w offsets) ≡ false →
    length offsets ≡ dims
counted_by o dims w offsets t e =
    let f : not (length offsets == dims) ≡ false = rw t at e in
    eqb-true (length offsets) dims (false_not (length offsets == dims) f)

far_by : (o : Outline) (left : List ℤ) (w : Word) (offsets : List ℤ) → is_tensor o w ≡ true →
    first_past 32768 (site_magnitudes o left (Cell w offsets)) ≡ None → first_past 32768 (map unsigned_abs (shifted offsets left)) ≡ None
far_by o left w offsets t e = rw t at e

-- a cell whose offsets are fine is good
pub good_read : (o : Outline) (p : PlainProgram) (dims : ℕ) (left : List ℤ) (w : Word) (offsets : List ℤ) (n : Option ℕ) → tensor_number o w ≡ n →
    Fits o p dims → FineCells o dims left (Cell w offsets ∷ []) → every (is_good_cell p) (cell_formula n (offset_or_none (shifted offsets left))) ≡ true
good_read o p dims left w offsets None is fits fine = refl
good_read o p dims left w offsets (Some k) is fits fine =
    let number = number_of_tensor o w k is in
    let here = none_here (has_wrong_dims o dims) (Cell w offsets) [] fine.counted in
    let count : length offsets ≡ dims = counted_by o dims w offsets number.1 here.0 in
    let far : first_past 32768 (map unsigned_abs (shifted offsets left)) ≡ None =
    far_by o left w offsets number.1 (none_first (first_past 32768 (site_magnitudes o left (Cell w offsets))) None fine.near) in
    let near = near_all (shifted offsets left) far in
    let many : length (shifted offsets left) ≡ dims = shifted_length offsets left ∙ count in
    let small : nat_le (length (shifted offsets left)) 4 ≡ true = grind (arith, nat_tests, many, fits.few) in
    let stays : offset_or_none (shifted offsets left) ≡ shifted offsets left = rw (small, near) refl in
    let within : nat_lt k (length p.tensors) ≡ true = grind (arith, nat_tests, number.0, fits.tensors) in
    let dimmed : (length (shifted offsets left) == suc (length p.extents)) ≡ true =
    eq-eqb (length (shifted offsets left)) (suc (length p.extents)) (many ∙ fits.extents) in
    rw (stays, within, dimmed, near) refl

-- the cells of a formula whose offsets are fine are good
pub good_cells : (o : Outline) (p : PlainProgram) (dims : ℕ) (left : List ℤ) (t : Term) → Fits o p dims → FineCells o dims left (uses_in t) →
    every (is_good_cell p) (formula_of o left t) ≡ true
good_cells o p dims left (literal n) fits fine = refl
good_cells o p dims left (cell w offsets) fits fine =
    good_read o p dims left w offsets (tensor_number o w) refl fits fine
good_cells o p dims left (value w is) fits fine =
    no_cell (is_good_cell p) (position (λ q. is_same w q.name) o.params) (find (λ q. is_same w q.name) o.params) is
good_cells o p dims left (unary op a) fits fine = good_cells o p dims left a fits fine
good_cells o p dims left (binary op a b) fits fine =
    rw (good_cells o p dims left a fits (fine_first o dims left a (uses_in b) fine))
    (good_cells o p dims left b fits (fine_second o dims left a (uses_in b) fine))
good_cells o p dims left (choice c a b) fits fine =
    let rest = fine_second o dims left c (uses_in a ++ uses_in b) fine in
    rw (
      good_cells o p dims left c fits (fine_first o dims left c (uses_in a ++ uses_in b) fine),
      good_cells o p dims left a fits (fine_first o dims left a (uses_in b) rest),
    ) (good_cells o p dims left b fits (fine_second o dims left a (uses_in b) rest))
good_cells o p dims left (cast t a) fits fine = good_cells o p dims left a fits fine
