-- The marks and counts of one iteration, and of all.
use Rattle.std.proofs.Common.{◌≡◌, ℕ, suc, ◌+◌, ◌<◌, ◌≤◌, Bool, true, false, not, ◌&&◌, List, [], length, map, slice_index_or, refl, sym, ◌∙◌, ap, arith, add-one, ⊎_elim, if◌then◌else◌, ◌∷◌, ◌++◌, ◌==◌, None, pos}
use Rattle.std.specs.List.{list_any}
use Rattle.std.proofs.lemmas.Bool.{cases_lt}
use Rattle.std.proofs.lemmas.List.{get_or-map, get_or_past, length-map}
use Rattle.soda_ir.specs.declared.reads.Read.{Read}
use Rattle.soda_ir.specs.Counts.{border_reads, count_below, distinct_count, does_read, formula_in, formula_reads, is_input, is_live, is_live_statement, is_output, is_output_role, is_reached, is_wanted, output_number, reads_in, sum_below, tensor_reads}
use Rattle.soda_ir.specs.Points.{listed}
use Rattle.soda_ir.specs.Program.{PlainProgram, extents_at, preserves}
use Rattle.soda_ir.specs.Formula.{by_formula}
use Rattle.soda_ir.proofs.Lists.{ext, get-listed, get-listed-past, length-listed}
use Rattle.soda_ir.proofs.Passing.{few_below}
use Rattle.soda_ir.proofs.Reached.{count_below_same, sum_below_same}
use Rattle.soda_ir.proofs.Settled.{past_last}

pub wanted_last : (p : PlainProgram) (x : ℕ) → is_wanted p 0 x ≡ is_output p x
unfolding is_wanted
wanted_last p x = refl

pub wanted_step : (p : PlainProgram) (l x : ℕ) → is_wanted p (suc l) x ≡ (is_output p x && is_live p l (output_number p x))
unfolding is_wanted
wanted_step p l x = refl

pub no_output : (p : PlainProgram) (x : ℕ) → length p.tensors ≤ x → is_output p x ≡ false
no_output p x h = past_last (λ t. is_output_role t.role) p x h

-- the marks of the outputs are those of what the last iteration is wanted for
pub outputs_wanted : (p : PlainProgram) (marks : List Bool) → marks ≡ listed (is_output p) (length p.tensors) → (x : ℕ) → slice_index_or marks x false ≡ is_wanted p 0 x
outputs_wanted p marks e x =
    ap (λ xs. slice_index_or xs x false) e
    ∙ ⊎_elim (λ (l : x < length p.tensors). get-listed (is_output p) (length p.tensors) x false l) (λ (l : length p.tensors ≤ x). get-listed-past (is_output p) (length p.tensors) x false l ∙ sym (no_output p x l)) (cases_lt x (length p.tensors))
    ∙ sym (wanted_last p x)

-- and before it those of the outputs that the iteration behind it needs
pub needed_wanted : (p : PlainProgram) (l : ℕ) (needed marks : List Bool) → ((y : ℕ) → y < length p.tensors → slice_index_or needed y false ≡ is_live p l y) → marks ≡ listed (λ x. is_output p x && slice_index_or needed (output_number p x) false) (length p.tensors) → (x : ℕ) → slice_index_or marks x false ≡ is_wanted p (l + 1) x
needed_wanted p l needed marks h e x =
    let f : ℕ → Bool = λ y. is_output p y && slice_index_or needed (output_number p y) false in
    ap (λ xs. slice_index_or xs x false) e
    ∙ ⊎_elim (λ (b : x < length p.tensors). get-listed f (length p.tensors) x false b ∙ ap (λ c. is_output p x && c) (h (output_number p x) (omega (arith, few_below (is_output p) x)))) (λ (b : length p.tensors ≤ x). get-listed-past f (length p.tensors) x false b ∙ sym (ap (λ c. c && is_live p l (output_number p x)) (no_output p x b))) (cases_lt x (length p.tensors))
    ∙ sym (wanted_step p l x)
    ∙ sym (ap (λ j. is_wanted p j x) (add-one l))

and_no : (b : Bool) → (b && false) ≡ false
and_no true = refl
and_no false = refl

-- there are no reads past the last tensor
no_reads : (p : PlainProgram) (y : ℕ) → length p.tensors ≤ y → tensor_reads p y ≡ []
no_reads p y l =
    let none : formula_in p y ≡ None = get_or_past (map (λ t. t.formula) p.tensors) y None (rw length-map l) in
    let bare : border_reads p y ≡ [] = ap (λ c. if preserves p && c then record { of = output_number p y; offset = pos 0 } ∷ [] else []) (no_output p y l) ∙ ap (λ c. if c then record { of = output_number p y; offset = pos 0 } ∷ [] else []) (and_no (preserves p)) in
    ap (λ f. by_formula f [] (formula_reads (extents_at p 1)) ++ border_reads p y) none ∙ bare

-- the reads that the code has are those of the program
pub same_reads : (p : PlainProgram) (y : ℕ) → slice_index_or (listed (tensor_reads p) (length p.tensors)) y [] ≡ tensor_reads p y
same_reads p y =
    ⊎_elim (λ (l : y < length p.tensors). get-listed (tensor_reads p) (length p.tensors) y [] l) (λ (l : length p.tensors ≤ y). get-listed-past (tensor_reads p) (length p.tensors) y [] l ∙ sym (no_reads p y l)) (cases_lt y (length p.tensors))

-- what is reached by the reads that the code has is live
pub live_marks : (p : PlainProgram) (l : ℕ) (graph : List (List Read)) (wanted marks : List Bool) → graph ≡ listed (tensor_reads p) (length p.tensors) → ((x : ℕ) → slice_index_or wanted x false ≡ is_wanted p l x) → ((y : ℕ) → y < length graph → slice_index_or marks y false ≡ is_reached (reads_in graph) (length graph) (λ x. slice_index_or wanted x false) (length graph) y) → (y : ℕ) → y < length p.tensors → slice_index_or marks y false ≡ is_live p l y
live_marks p l graph wanted marks e w h y b =
    let n = length p.tensors in
    let long : length graph ≡ n = ap length e ∙ length-listed (tensor_reads p) n in
    let reads : reads_in graph ≡ does_read p = ap reads_in e ∙ ext _ _ (λ z. ext _ _ (λ x. ap (λ rs. list_any (λ r. r.of == x) rs) (same_reads p z))) in
    let want : (λ (x : ℕ). slice_index_or wanted x false) ≡ is_wanted p l = ext _ _ w in
    h y (omega arith)
    ∙ ap (λ r. is_reached r (length graph) (λ x. slice_index_or wanted x false) (length graph) y) reads
    ∙ ap (λ m. is_reached (does_read p) m (λ x. slice_index_or wanted x false) m y) long
    ∙ ap (λ v. is_reached (does_read p) n v n y) want

pub live_statements : (p : PlainProgram) (l : ℕ) (marks : List Bool) → ((y : ℕ) → y < length p.tensors → slice_index_or marks y false ≡ is_live p l y) → count_below (λ x. not (is_input p x) && slice_index_or marks x false) (length p.tensors) ≡ count_below (is_live_statement p l) (length p.tensors)
live_statements p l marks h =
    count_below_same (λ x. not (is_input p x) && slice_index_or marks x false) (is_live_statement p l) (length p.tensors) (λ x b. ap (λ c. not (is_input p x) && c) (h x b))

size_of : (p : PlainProgram) (graph : List (List Read)) (x : ℕ) → graph ≡ listed (tensor_reads p) (length p.tensors) → x < length p.tensors → slice_index_or (map distinct_count graph) x 0 ≡ distinct_count (tensor_reads p x)
size_of p graph x e b =
    let long : length graph ≡ length p.tensors = ap length e ∙ length-listed (tensor_reads p) (length p.tensors) in
    get_or-map distinct_count graph x [] 0 (omega arith) ∙ ap distinct_count (ap (λ g. slice_index_or g x []) e ∙ get-listed (tensor_reads p) (length p.tensors) x [] b)

pub live_reads : (p : PlainProgram) (l : ℕ) (graph : List (List Read)) (marks : List Bool) (sizes : List ℕ) → graph ≡ listed (tensor_reads p) (length p.tensors) → sizes ≡ map distinct_count graph → ((y : ℕ) → y < length p.tensors → slice_index_or marks y false ≡ is_live p l y) → sum_below (λ x. if not (is_input p x) && slice_index_or marks x false then slice_index_or sizes x 0 else 0) (length p.tensors) ≡ sum_below (λ x. if is_live_statement p l x then distinct_count (tensor_reads p x) else 0) (length p.tensors)
live_reads p l graph marks sizes e s h =
    sum_below_same (λ x. if not (is_input p x) && slice_index_or marks x false then slice_index_or sizes x 0 else 0) (λ x. if is_live_statement p l x then distinct_count (tensor_reads p x) else 0) (length p.tensors)
    (λ x b. ap (λ c. if not (is_input p x) && c then slice_index_or sizes x 0 else 0) (h x b) ∙ ap (λ k. if is_live_statement p l x then k else 0) (ap (λ xs. slice_index_or xs x 0) s ∙ size_of p graph x e b))
