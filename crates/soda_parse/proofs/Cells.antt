-- The cells of all formulas of a text, where the conditions on them hold.
use Rattle.std.proofs.Common.{◌≡◌, ℕ, true, List, [], ◌∷◌, ◌++◌, map, None, refl, sym, ◌∙◌, ℤ}
use Rattle.std.specs.Prelude.{find, flat_map}
use Rattle.std.specs.List.{list_all}
use Rattle.std.proofs.lemmas.List.Folds.{list_all-append}
use Rattle.soda_checks.specs.Conditions.{has_wrong_dims}
use Rattle.soda_checks.specs.Outline.{outline_in, outline_of, uses_in}
use Rattle.soda_checks.specs.declared.outline.Outline.{Outline}
use Rattle.soda_checks.specs.declared.outline.Site.{Site}
use Rattle.soda_checks.specs.declared.outline.Site.TheVariants.{Size as SiteSize, Left}
use Rattle.soda_ir.specs.Formula.{every}
use Rattle.soda_ir.specs.Program.{PlainProgram}
use Rattle.soda_ir.specs.Uses.{formula_is, is_good_cell}
use Rattle.soda_parse.specs.ProgramConditions.{far_from}
use Rattle.soda_parse.specs.Meaning.{input_of, tensors_in}
use Rattle.soda_parse.proofs.Kept.{none_first, none_second}
use Rattle.soda_parse.proofs.Tiling.{none_here}
use Rattle.soda_parse.proofs.Uses.{FineCells, Fits, far_uses, good_cells, none_in_both}
use Rattle.soda_formula.specs.Statements.{PlainStatement, PlainFormulaLine, kernel, burst_width, unroll_factor, iterate, border, cluster, param, input, local, output}
use Rattle.soda_formula.specs.declared.statement.InputLine.{InputLine}
use Rattle.soda_formula.specs.declared.statement.Size.{Size}

-- the cells of all formulas are fine
abbrev pub AllFine : Outline → ℕ → List PlainStatement → Type 0
AllFine o dims [] = Unit {0}
AllFine o dims (local f ∷ ss) = FineCells o dims f.left (uses_in f.formula) × AllFine o dims ss
AllFine o dims (output f ∷ ss) = FineCells o dims f.left (uses_in f.formula) × AllFine o dims ss
AllFine o dims (kernel l w ∷ ss) = AllFine o dims ss
AllFine o dims (burst_width l n ∷ ss) = AllFine o dims ss
AllFine o dims (unroll_factor l n ∷ ss) = AllFine o dims ss
AllFine o dims (iterate l n ∷ ss) = AllFine o dims ss
AllFine o dims (border l p ∷ ss) = AllFine o dims ss
AllFine o dims (cluster l ∷ ss) = AllFine o dims ss
AllFine o dims (param p ∷ ss) = AllFine o dims ss
AllFine o dims (input i ∷ ss) = AllFine o dims ss

past_sizes : (o : Outline) (dims : ℕ) (sizes : List Size) (ys : List Site) → find (has_wrong_dims o dims) (map (λ s. SiteSize s) sizes ++ ys) ≡ None →
    find (has_wrong_dims o dims) ys ≡ None
past_sizes o dims [] ys e = e
past_sizes o dims (s ∷ ss) ys e = past_sizes o dims ss ys e

far_past_sizes : (o : Outline) (left : List ℤ) (sizes : List Size) (ys : List Site) → far_from o left (map (λ s. SiteSize s) sizes ++ ys) ≡ None →
    far_from o left ys ≡ None
far_past_sizes o left [] ys e = e
far_past_sizes o left (s ∷ ss) ys e = far_past_sizes o left ss ys e

-- what holds of a formula and of what comes behind it
fine_line : (o : Outline) (dims : ℕ) (left : List ℤ) (f : PlainFormulaLine) (ys : List Site) →
    find (has_wrong_dims o dims) (Left f.name f.left ∷ (uses_in f.formula ++ ys)) ≡ None →
    far_from o left (Left f.name f.left ∷ (uses_in f.formula ++ ys)) ≡ None →
    FineCells o dims f.left (uses_in f.formula) × (find (has_wrong_dims o dims) ys ≡ None) × (far_from o f.left ys ≡ None)
fine_line o dims left f ys e g =
    let here = none_here (has_wrong_dims o dims) (Left f.name f.left) (uses_in f.formula ++ ys) e in
    let both = none_in_both (has_wrong_dims o dims) (uses_in f.formula) ys here.1 in
    let far = sym (far_uses o f.left f.formula ys) ∙ g in (
      record { counted = both.0; near = none_first (far_from o f.left (uses_in f.formula)) (far_from o f.left ys) far },
      both.1,
      none_second (far_from o f.left (uses_in f.formula)) (far_from o f.left ys) far,
    )

-- where no site has wrong offsets, the cells of each statement's formula are fine
pub all_fine : (o : Outline) (dims : ℕ) (left : List ℤ) (ss : List PlainStatement) → find (has_wrong_dims o dims) (outline_of ss).sites ≡ None →
    far_from o left (outline_of ss).sites ≡ None → AllFine o dims ss
unfolding outline_of outline_in
all_fine o dims left [] e g = tt
all_fine o dims left (kernel l w ∷ ss) e g = all_fine o dims left ss e g
all_fine o dims left (burst_width l n ∷ ss) e g = all_fine o dims left ss e g
all_fine o dims left (unroll_factor l n ∷ ss) e g = all_fine o dims left ss e g
all_fine o dims left (iterate l n ∷ ss) e g = all_fine o dims left ss e g
all_fine o dims left (border l p ∷ ss) e g = all_fine o dims left ss e g
all_fine o dims left (cluster l ∷ ss) e g = all_fine o dims left ss e g
all_fine o dims left (param p ∷ ss) e g =
    all_fine o dims left ss (past_sizes o dims p.sizes (outline_of ss).sites e) (far_past_sizes o left p.sizes (outline_of ss).sites g)
all_fine o dims left (input i ∷ ss) e g = all_fine o dims left ss e g
all_fine o dims left (local f ∷ ss) e g =
    let h = fine_line o dims left f (outline_of ss).sites e g in (h.0, all_fine o dims f.left ss h.1 h.2)
all_fine o dims left (output f ∷ ss) e g =
    let h = fine_line o dims left f (outline_of ss).sites e g in (h.0, all_fine o dims f.left ss h.1 h.2)

inputs_fine : (p : PlainProgram) (inputs : List InputLine) → list_all (formula_is (every (is_good_cell p))) (map input_of inputs) ≡ true
inputs_fine p [] = refl
inputs_fine p (i ∷ is) = inputs_fine p is

tensors_fine : (o : Outline) (p : PlainProgram) (dims : ℕ) (ss : List PlainStatement) → Fits o p dims → AllFine o dims ss →
    list_all (formula_is (every (is_good_cell p))) (flat_map (tensors_in o) ss) ≡ true
tensors_fine o p dims [] fits fine = refl
tensors_fine o p dims (kernel l w ∷ ss) fits fine = tensors_fine o p dims ss fits fine
tensors_fine o p dims (burst_width l n ∷ ss) fits fine = tensors_fine o p dims ss fits fine
tensors_fine o p dims (unroll_factor l n ∷ ss) fits fine = tensors_fine o p dims ss fits fine
tensors_fine o p dims (iterate l n ∷ ss) fits fine = tensors_fine o p dims ss fits fine
tensors_fine o p dims (border l b ∷ ss) fits fine = tensors_fine o p dims ss fits fine
tensors_fine o p dims (cluster l ∷ ss) fits fine = tensors_fine o p dims ss fits fine
tensors_fine o p dims (param q ∷ ss) fits fine = tensors_fine o p dims ss fits fine
tensors_fine o p dims (input i ∷ ss) fits fine = tensors_fine o p dims ss fits fine
tensors_fine o p dims (local f ∷ ss) fits fine =
    rw (good_cells o p dims f.left f.formula fits fine.0) (tensors_fine o p dims ss fits fine.1)
tensors_fine o p dims (output f ∷ ss) fits fine =
    rw (good_cells o p dims f.left f.formula fits fine.0) (tensors_fine o p dims ss fits fine.1)

-- all cells are of tensors that are there, at offsets that may be
pub cells_fine : (o : Outline) (p : PlainProgram) (dims : ℕ) (ss : List PlainStatement) → Fits o p dims → AllFine o dims ss →
    list_all (formula_is (every (is_good_cell p))) (map input_of o.inputs ++ flat_map (tensors_in o) ss) ≡ true
cells_fine o p dims ss fits fine =
    list_all-append (formula_is (every (is_good_cell p))) (map input_of o.inputs) (flat_map (tensors_in o) ss) ∙
    rw (inputs_fine p o.inputs) (tensors_fine o p dims ss fits fine)
