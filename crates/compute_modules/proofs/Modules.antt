-- What a module sends for a cell.
use Rattle.std.proofs.Common.{◌≡◌, ℕ, Bool, true, false, List, length, Some, None, Option, nat_lt, slice_get, get_or, refl, sym, ◌∙◌, ap, subst, ℤ, pos, negsuc, Result, Ok, Err, IfOk, if◌then◌else◌}
use Rattle.std.specs.List.{list_all}
use Rattle.std.proofs.lemmas.List.{get_or_default}
use Rattle.int_types.specs.Ranges.{wrapped}
use Rattle.soda_ir.specs.Formula.{Formula}
use Rattle.soda_ir.specs.Points.{size}
use Rattle.soda_ir.specs.Program.{PlainProgram, extents_at}
use Rattle.soda_eval.specs.Values.{Scope}
use Rattle.time_stages.specs.declared.staging.StagedTensor.{StagedTensor}
use Rattle.time_stages.specs.Staged.{staged_tensors}
use Rattle.time_stages.proofs.CallerLemmas.{place_in}
use Rattle.formula_code.specs.Codes.{IsCode, IsCodeOf}
use Rattle.formula_code.specs.declared.code.Code.{Code}
use Rattle.staged_cells.specs.Cells.{inner_cell, outer_cell, sent_cell}
use Rattle.staged_cells.specs.Sends.{computed, wrapped_ports}
use Rattle.compute_modules.specs.declared.module.ComputeModule.{ComputeModule}
use Rattle.compute_modules.specs.declared.side.Side.{Side}
use Rattle.compute_modules.specs.declared.side.Spot.{Spot}
use Rattle.compute_modules.specs.declared.side.Spot.TheVariants.{Inside, Nowhere, Outside}
use Rattle.compute_modules.specs.Modules.{by_spot, place_of, sent_for, value_of}
use Rattle.compute_modules.specs.pieces.Formulas.{code_value}
use Rattle.compute_modules.specs.pieces.Taps.{border_taken}
use Rattle.compute_modules.specs.pieces.Walks.{box, cells_of, keeps_side, placed, sides_of, spot_in}
use Rattle.compute_modules.proofs.Sides.{cells_by_extents, kept_at}

-- the code that was made of a formula
pub code_is : (s : Scope) (params : List ℤ) (o : Option Formula) (f : Formula) (code : Code) → o ≡ Some f → IsCodeOf s params o (Some code)
    → IsCode s params f code
code_is s params o f code e is = subst (λ (g : Option Formula). IsCodeOf s params g (Some code)) e is

pub code_there : (s : Scope) (params : List ℤ) (o : Option Formula) (f : Formula) → o ≡ Some f → IsCodeOf s params o None → ⊥
code_there s params o f e is = subst (λ (g : Option Formula). IsCodeOf s params g None) e is

-- what is sent, by where its cell stands
pub by_its_spot : (m : ComputeModule) (ports : List ℤ) (spot : Spot) → spot ≡ spot_in (box m.walk.sides.items) (place_of m)
    → by_spot spot (wrapped m.ty (code_value m.formula.code m.formula.taps.items ports)) (border_taken m.border ports)
    ≡ value_of m ports (place_of m)
unfolding value_of
by_its_spot m ports spot is =
    ap (λ (t : Spot). by_spot t (wrapped m.ty (code_value m.formula.code m.formula.taps.items ports)) (border_taken m.border ports)) is

-- modules that are made of the same parts send the same
pub same_value : (m n : ComputeModule) → n.ty ≡ m.ty → n.formula.code ≡ m.formula.code → n.formula.taps ≡ m.formula.taps → n.border ≡ m.border
    → box n.walk.sides.items ≡ box m.walk.sides.items → value_of n ≡ value_of m
unfolding value_of
same_value m n ty code taps border sides =
    ap (λ t. sent_for t n.formula.code n.formula.taps.items n.border (box n.walk.sides.items)) ty
    ∙ ap (λ (c : Code). sent_for m.ty c n.formula.taps.items n.border (box n.walk.sides.items)) code
    ∙ ap (λ ts. sent_for m.ty m.formula.code ts.items n.border (box n.walk.sides.items)) taps
    ∙ ap (λ b. sent_for m.ty m.formula.code m.formula.taps.items b (box n.walk.sides.items)) border
    ∙ ap (λ (ss : List Side). sent_for m.ty m.formula.code m.formula.taps.items m.border ss) sides

-- by tests
spotted : (b k : Bool) (inner outer : ℤ) → by_spot (if b then (if k then Inside else Outside) else Nowhere) inner outer
    ≡ (if b then (if k then inner else outer) else pos 0)
spotted false k inner outer = refl
spotted true false inner outer = refl
spotted true true inner outer = refl

-- the cells of a staged tensor
sent_is : (p : PlainProgram) (rows : ℕ) (params : List ℤ) (v : ℕ) (s : StagedTensor) (ports : List ℤ) (z : ℤ)
    → length s.low ≡ length (extents_at p rows) → length s.high ≡ length (extents_at p rows)
    → by_spot (spot_in (sides_of (extents_at p rows) s.low s.high) z) (inner_cell p params v s ports) (outer_cell p v s ports)
    ≡ sent_cell p rows params v s ports z
unfolding sent_cell
sent_is p rows params v s ports (pos i) low high =
    let ns = extents_at p rows in
    let ss = sides_of ns s.low s.high in
    let inner = inner_cell p params v s ports in
    let outer = outer_cell p v s ports in
    spotted (nat_lt i (cells_of ss)) (list_all keeps_side (placed ss i)) inner outer
    ∙ ap (λ m. if nat_lt i m then (if list_all keeps_side (placed ss i) then inner else outer) else pos 0) (cells_by_extents ns s.low s.high low high)
    ∙ ap (λ b. if nat_lt i (size ns) then (if b then inner else outer) else pos 0) (kept_at ns s.low s.high i low high)
sent_is p rows params v s ports (negsuc i) low high = refl

pub module_is : (p : PlainProgram) (rows : ℕ) (params : List ℤ) (v : ℕ) (s : StagedTensor) (m : ComputeModule)
    → slice_get (staged_tensors p) v ≡ Some s
    → (length s.low ≡ length (extents_at p rows)) × (length s.high ≡ length (extents_at p rows))
    → ((ports : List ℤ) → wrapped m.ty (code_value m.formula.code m.formula.taps.items ports) ≡ inner_cell p params v s (wrapped_ports p v ports))
    → ((ports : List ℤ) → border_taken m.border ports ≡ outer_cell p v s (wrapped_ports p v ports))
    → box m.walk.sides.items ≡ sides_of (extents_at p rows) s.low s.high
    → (ports : List ℤ) (z : ℤ) → value_of m ports z ≡ computed p rows params v ports z
unfolding value_of
module_is p rows params v s m there dims inner outer sides ports z =
    ap (λ (ss : List Side). sent_for m.ty m.formula.code m.formula.taps.items m.border ss ports z) sides
    ∙ ap (λ x. by_spot (spot_in (sides_of (extents_at p rows) s.low s.high) z) x (border_taken m.border ports)) (inner ports)
    ∙ ap (λ x. by_spot (spot_in (sides_of (extents_at p rows) s.low s.high) z) (inner_cell p params v s (wrapped_ports p v ports)) x) (outer ports)
    ∙ sent_is p rows params v s (wrapped_ports p v ports) z dims.0 dims.1
    ∙ sym (ap (λ (o : Option StagedTensor). elim o [ None ↦ pos 0 | Some t ↦ sent_cell p rows params v t (wrapped_ports p v ports) z ]) there)

-- facts of a result, where it is Ok
pub ok_more : {A E : Type 0} (P Q : A → Type 0) → ((x : A) → P x → Q x) → (r : Result A E) → IfOk r P → IfOk r Q
ok_more P Q h (Ok x) p = h x p
ok_more P Q h (Err e) p = tt

pub ok_both : {A E : Type 0} (P Q R : A → Type 0) → ((x : A) → P x → Q x → R x) → (r : Result A E) → IfOk r P → IfOk r Q → IfOk r R
ok_both P Q R h (Ok x) p q = h x p q
ok_both P Q R h (Err e) p q = tt

-- the staged tensor at a place
pub stage_there : (xs ys : List StagedTensor) (i : ℕ) (r s : StagedTensor) → xs ≡ ys → slice_get ys i ≡ Some s → r ≡ get_or xs i r → slice_get ys i ≡ Some r
stage_there xs ys i r s same there is =
    let at = place_in ys i s there in
    let e : r ≡ s = is ∙ ap (λ (zs : List StagedTensor). get_or zs i r) same ∙ get_or_default ys i r s at.0 ∙ at.1 in
    there ∙ ap Some (sym e)
