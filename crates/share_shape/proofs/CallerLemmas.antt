-- What crates above cite: what a step does to the result, and what shift-equal compounds have in common.
use Rattle.std.proofs.Common.{◌≡◌, ◌<◌, ◌==◌, Bool, true, false, Some, None, List, ◌++◌, [], ◌∷◌, ℕ, suc, length, nat_lt, sym, ◌∙◌, arith, if◌then◌else◌}
use Rattle.std.specs.List.{list_all}
use Rattle.std.proofs.lemmas.Bool.{and_parts}
use Rattle.soda_words.specs.Tokens.{or_else}
use Rattle.soda_ir.specs.Program.{PlainProgram, PlainTensor}
use Rattle.soda_ir.specs.Uses.{formula_is}
use Rattle.soda_ir.proofs.CallerLemmas.{every_weaker, levels}
use Rattle.share_shape.specs.Compounds.{Site, sites, sites_from}
use Rattle.share_shape.specs.Limits.{first_past}
use Rattle.share_shape.specs.Procedure.{first_shared, next_shared, shared}
use Rattle.share_shape.specs.Shifts.{has_cell}
use Rattle.share_shape.proofs.Decent.{formulas_pass}
use Rattle.share_shape.proofs.Ending.{enough, fewer, steps_off, steps_on}
use Rattle.share_shape.proofs.Exact.{has_dims}
use Rattle.share_shape.proofs.Fit.{IsFit, formula_there}
use Rattle.share_shape.proofs.Found.{IsSite, found, none_closed, sites_have}
use Rattle.share_shape.proofs.Sides.{is_there}
pub use Rattle.share_shape.proofs.Ending.{fewer}
pub use Rattle.share_shape.proofs.Fit.{IsFit}
pub use Rattle.share_shape.proofs.Inserted.{map_insert}
pub use Rattle.share_shape.proofs.Left.{nothing_left}
pub use Rattle.share_shape.proofs.Names.{below_used, unused, unused_within}
pub use Rattle.share_shape.proofs.Sound.{fit_next, fit_of, shared_like}
pub use Rattle.share_shape.proofs.Unequal.{no_hit, unequal}
pub use Rattle.share_shape.proofs.Valid.{shared_sound, shared_valid}

-- formulas that are not shift-equal, one level of a tree at a time
pub ruleset told_apart = (levels, no_hit, unequal)

-- the tensor of the compound that is found is there, and a cell stands in the compound
pub found_there : (ts : List PlainTensor) (s : Site) → first_shared (sites_from 0 ts) ≡ Some s → (s.tensor < length ts) × (has_cell s.compound ≡ true)
found_there ts s e =
    let all = sites_have (λ f. Unit {0}) none_closed 0 ts (λ i f h. tt) in
    let at : IsSite (λ f. Unit {0}) 0 ts s = found (IsSite (λ f. Unit {0}) 0 ts) s (sites_from 0 ts) all e in
    (omega (arith, at.is, formula_there ts at.place at.whole at.formula), at.compound.cell)

-- all offsets of a fit program have a component for each dimension
pub fit_dims : (q : PlainProgram) → IsFit q → list_all (formula_is (has_dims (suc (length q.extents)))) q.tensors ≡ true
fit_dims q fit =
    let n = length q.tensors in let d = suc (length q.extents) in
    formulas_pass (has_dims d) q.tensors (λ y f e. every_weaker (is_there n d) (λ t o. length o == d) (λ t o h. (and_parts (nat_lt t n) (length o == d) h).1) f (fit.reads y f e))

-- a step keeps the result, and a program with no step left is its own
pub shared_next : (p q : PlainProgram) → next_shared p ≡ Some q → shared p ≡ shared q
shared_next p q e =
    let n : ℕ = length (sites p) in
    sym (enough (suc n) p (omega arith)) ∙ steps_on n p q e ∙ enough n q (omega (arith, fewer p q e))

pub shared_same : (p : PlainProgram) → next_shared p ≡ None → shared p ≡ p
shared_same p e = sym (enough (length (sites p)) p (omega arith)) ∙ steps_off (length (sites p)) p e

past_by : (most n : ℕ) (xs ys : List ℕ) (b : Bool) → (first_past most (xs ++ ys) ≡ or_else (first_past most xs) (first_past most ys)) → (if b then Some n else first_past most (xs ++ ys)) ≡ or_else (if b then Some n else first_past most xs) (first_past most ys)
past_by most n xs ys true h = λ i. Some n
past_by most n xs ys false h = h

-- the first of two lists that passes
pub past_append : (most : ℕ) (xs ys : List ℕ) → first_past most (xs ++ ys) ≡ or_else (first_past most xs) (first_past most ys)
past_append most [] ys = λ i. first_past most ys
past_append most (x ∷ xs) ys = past_by most x xs ys (nat_lt most x) (past_append most xs ys)
