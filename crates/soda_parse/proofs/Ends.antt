-- The order of an accepted program's tensors, its ends, and what can be placed.
use Rattle.std.proofs.Common.{◌≡◌, ◌≢◌, ℕ, suc, ◌+◌, ◌<◌, ◌≤◌, ◌==◌, ◌&&◌, Bool, true, false, not, List, [], ◌∷◌, ◌++◌, length, map, Some, None, Option, refl, sym, ap, ◌∙◌, arith, cond}
use Rattle.std.specs.Prelude.{flat_map, nat_le}
use Rattle.std.specs.List.{list_all, list_any}
use Rattle.std.proofs.lemmas.Bool.Decides.{nat_tests}
use Rattle.std.proofs.lemmas.Bool.{eqb-true, not-true}
use Rattle.soda_checks.specs.Conditions.{has_output}
use Rattle.soda_checks.specs.Outline.{outline_in, outline_of}
use Rattle.soda_checks.specs.declared.outline.Defined.{Defined}
use Rattle.soda_checks.specs.declared.outline.Outline.{Outline}
use Rattle.soda_ir.specs.Counts.{can_be_placed, is_input_role, is_output_role}
use Rattle.soda_ir.specs.Program.{PlainProgram, PlainTensor, input_types, preserves}
use Rattle.soda_ir.specs.Valid.{FitsItself, fills_burst, has_formula_if_no_input, has_inputs_first, output_types}
use Rattle.soda_parse.specs.ProgramConditions.{bad_burst, circular_from, has_good_burst, iterate_mismatch, outputs_fit, preserve_mismatch}
use Rattle.soda_parse.specs.Meaning.{input_of, tensors_in}
use Rattle.soda_parse.proofs.SameTypes.{both_of, equal_lists}
use Rattle.soda_formula.specs.Statements.{PlainStatement, kernel, burst_width, unroll_factor, iterate, border, cluster, param, input, local, output}
use Rattle.soda_formula.specs.declared.statement.InputLine.{InputLine}

no_inputs : (o : Outline) (ss : List PlainStatement) → list_all (λ u. not (is_input_role u.role)) (flat_map (tensors_in o) ss) ≡ true
no_inputs o [] = refl
no_inputs o (kernel l w ∷ ss) = no_inputs o ss
no_inputs o (burst_width l n ∷ ss) = no_inputs o ss
no_inputs o (unroll_factor l n ∷ ss) = no_inputs o ss
no_inputs o (iterate l n ∷ ss) = no_inputs o ss
no_inputs o (border l p ∷ ss) = no_inputs o ss
no_inputs o (cluster l ∷ ss) = no_inputs o ss
no_inputs o (param p ∷ ss) = no_inputs o ss
no_inputs o (input i ∷ ss) = no_inputs o ss
no_inputs o (local f ∷ ss) = no_inputs o ss
no_inputs o (output f ∷ ss) = no_inputs o ss

none_first_input : (ts : List PlainTensor) → list_all (λ u. not (is_input_role u.role)) ts ≡ true → has_inputs_first ts ≡ true
none_first_input [] e = refl
none_first_input (t ∷ ts) e =
    let both = both_of (not (is_input_role t.role)) (list_all (λ u. not (is_input_role u.role)) ts) e in
    let no : is_input_role t.role ≡ false = not-true (is_input_role t.role) both.0 in
    rw no both.1

-- the inputs stand first
pub inputs_stand_first : (o : Outline) (is : List InputLine) (ss : List PlainStatement) →
    has_inputs_first (map input_of is ++ flat_map (tensors_in o) ss) ≡ true
inputs_stand_first o [] ss = none_first_input (flat_map (tensors_in o) ss) (no_inputs o ss)
inputs_stand_first o (i ∷ is) ss = inputs_stand_first o is ss

formulas_there : (o : Outline) (ss : List PlainStatement) → list_all has_formula_if_no_input (flat_map (tensors_in o) ss) ≡ true
formulas_there o [] = refl
formulas_there o (kernel l w ∷ ss) = formulas_there o ss
formulas_there o (burst_width l n ∷ ss) = formulas_there o ss
formulas_there o (unroll_factor l n ∷ ss) = formulas_there o ss
formulas_there o (iterate l n ∷ ss) = formulas_there o ss
formulas_there o (border l p ∷ ss) = formulas_there o ss
formulas_there o (cluster l ∷ ss) = formulas_there o ss
formulas_there o (param p ∷ ss) = formulas_there o ss
formulas_there o (input i ∷ ss) = formulas_there o ss
formulas_there o (local f ∷ ss) = formulas_there o ss
formulas_there o (output f ∷ ss) = formulas_there o ss

-- a tensor has a formula where it is no input
pub all_formulas : (o : Outline) (is : List InputLine) (ss : List PlainStatement) →
    list_all has_formula_if_no_input (map input_of is ++ flat_map (tensors_in o) ss) ≡ true
all_formulas o [] ss = formulas_there o ss
all_formulas o (i ∷ is) ss = all_formulas o is ss

-- an input is there
pub an_input : (o : Outline) (is : List InputLine) (ss : List PlainStatement) → 0 < length is →
    list_any (λ t. is_input_role t.role) (map input_of is ++ flat_map (tensors_in o) ss) ≡ true
an_input o [] ss lt = absurd (omega arith)
an_input o (i ∷ is) ss lt = refl

output_there : (o : Outline) (ss : List PlainStatement) → has_output (outline_of ss).defined ≡ true →
    list_any (λ t. is_output_role t.role) (flat_map (tensors_in o) ss) ≡ true
unfolding outline_of outline_in
output_there o [] e = e
output_there o (kernel l w ∷ ss) e = output_there o ss e
output_there o (burst_width l n ∷ ss) e = output_there o ss e
output_there o (unroll_factor l n ∷ ss) e = output_there o ss e
output_there o (iterate l n ∷ ss) e = output_there o ss e
output_there o (border l p ∷ ss) e = output_there o ss e
output_there o (cluster l ∷ ss) e = output_there o ss e
output_there o (param p ∷ ss) e = output_there o ss e
output_there o (input i ∷ ss) e = output_there o ss e
output_there o (local f ∷ ss) e = output_there o ss e
output_there o (output f ∷ ss) e = refl

-- an output is there
pub an_output : (o : Outline) (is : List InputLine) (ss : List PlainStatement) → has_output (outline_of ss).defined ≡ true →
    list_any (λ t. is_output_role t.role) (map input_of is ++ flat_map (tensors_in o) ss) ≡ true
an_output o [] ss e = output_there o ss e
an_output o (i ∷ is) ss e = an_output o is ss e

burst_by : (p : PlainProgram) (b : Bool) → has_good_burst p ≡ b → cond b None (Some p.burst) ≡ None → b ≡ true
burst_by p true is e = refl
burst_by p false is e = cc

-- the burst width is a good one
pub record HasBurst (p : PlainProgram) : Type 0 where
  pub least : 8 ≤ p.burst
  pub most : p.burst ≤ 8192
  pub filled : list_all (fills_burst p.burst) p.tensors ≡ true

-- a burst width that is not refused is within its bounds, and cells fill it
pub has_burst : (p : PlainProgram) → bad_burst p ≡ None → HasBurst p
has_burst p e =
    let good : has_good_burst p ≡ true = burst_by p (has_good_burst p) refl e in
    let a = both_of (nat_le 8 p.burst && nat_le p.burst 8192) (list_all (fills_burst p.burst) p.tensors) good in
    let b = both_of (nat_le 8 p.burst) (nat_le p.burst 8192) a.0 in
    record { least = grind (arith, nat_tests, b.0); most = grind (arith, nat_tests, b.1); filled = a.1 }

fit_by : (a b : Bool) → (not a && not b) ≡ false → a ≡ false → b ≡ true
fit_by a true e f = refl
fit_by a false e f = let h : (not false && true) ≡ false = rw f at e in cc

not_one : (n : ℕ) → n ≢ 1 → (n == 1) ≡ false
not_one n e = grind (arith, nat_tests, e)

fit_kept : (a b : Bool) → (a && not b) ≡ false → a ≡ true → b ≡ true
fit_kept a true e f = refl
fit_kept a false e f = let h : (true && true) ≡ false = rw f at e in cc

-- the outputs fit the inputs where the program iterates or preserves its border
pub fits_itself : (p : PlainProgram) → iterate_mismatch p ≡ false → preserve_mismatch p ≡ false → FitsItself p
fits_itself p e f = record {
  iterated = λ many. equal_lists (input_types p.tensors) (output_types p.tensors) (fit_by (p.iterate == 1) (outputs_fit p) e (not_one p.iterate many));
  preserved = λ kept. equal_lists (input_types p.tensors) (output_types p.tensors) (fit_kept (preserves p) (outputs_fit p) f kept);
}

placed_by : (p : PlainProgram) (n : ℕ) (d : Defined) (b : Bool) (rest : Option ℕ) → can_be_placed p n ≡ b → cond b rest (Some d.name.line) ≡ None →
    (b ≡ true) × (rest ≡ None)
placed_by p n d true rest is e = (refl, e)
placed_by p n d false rest is e = cc

later : (x n : ℕ) → n ≤ x → (x == n) ≡ false → suc n ≤ x
later x n le e = grind (arith, nat_tests, e)

-- each local and output can be placed
pub defined_placed : (p : PlainProgram) (n : ℕ) (ds : List Defined) → circular_from p n ds ≡ None → (x : ℕ) → n ≤ x → x < n + length ds →
    can_be_placed p x ≡ true
defined_placed p n [] e x le lt = absurd (omega arith)
defined_placed p n (d ∷ ds) e x le lt =
    let here = placed_by p n d (can_be_placed p n) (circular_from p (suc n) ds) refl e in
    elim (x == n) as (λ b. (b ≡ (x == n)) → can_be_placed p x ≡ true) [
      | true ↦ λ h. let same : x ≡ n = eqb-true x n (sym h) in ap (can_be_placed p) same ∙
          here.0
      | false ↦ λ h. defined_placed p (suc n) ds here.1 x (later x n le (sym h)) (omega arith)
    ] refl
