-- The cells of staged tensors are in range; those of inputs are their arrays', and those of the last outputs the defined arrays'.
use Rattle.std.proofs.Common.{◌≡◌, ℕ, zero, suc, ◌+◌, ◌-◌, ◌<◌, ◌≤◌, Bool, true, false, List, [], ◌∷◌, length, map, get_or, Option, None, Some, slice_get, slice_index_or, nat_lt, refl, sym, ◌∙◌, ap, subst, arith, ⊎_elim, if◌then◌else◌, ℤ, pos, negsuc, unsigned_abs}
use Rattle.std.proofs.lemmas.Bool.{cases_lt, false≢true, le-ltb, lt-ltb}
use Rattle.std.proofs.lemmas.List.{get_or-map, get_or_past, length-map}
use Rattle.delay_net.specs.Shape.{IsWidth}
use Rattle.soda_words.specs.IntType.{IntType, int32}
use Rattle.int_types.specs.Ranges.{InRange, wrapped}
use Rattle.int_types.proofs.CallerLemmas.{own_wrap, wrapped_is, zero_in_range}
use Rattle.soda_ir.specs.Counts.{count_below, is_input, is_output, is_output_role, output_number}
use Rattle.soda_ir.specs.Points.{linear, listed}
use Rattle.soda_ir.specs.Program.{PlainProgram, PlainTensor, extents_at, input_types, outputs_from, outputs_of}
use Rattle.soda_ir.specs.Valid.{IsSound}
use Rattle.soda_ir.specs.declared.program.Role.{Role}
use Rattle.soda_ir.specs.declared.program.Role.TheVariants.{Input, Local, Output}
use Rattle.soda_ir.proofs.CallerLemmas.{IsInput, get-listed, input_there, listed_same, type_in, with_number}
use Rattle.soda_eval.specs.Arrays.{array_cell, cell}
use Rattle.soda_eval.specs.Points.{point}
use Rattle.soda_eval.specs.Runs.{HasArrays, cells_at, defined_arrays, run_of, stencil_of}
use Rattle.soda_eval.proofs.CallerLemmas.{cell_in_range, inputs_in_range, point_there}
use Rattle.time_stages.specs.declared.staging.StagedTensor.{StagedTensor}
use Rattle.time_stages.specs.Staged.{staged_tensors, staged_widths, type_of}
use Rattle.time_stages.proofs.CallerLemmas.{count_first, own_turn, place_in}
use Rattle.staged_cells.specs.Cells.{cell_at, defined_cell, type_at}
use Rattle.staged_cells.specs.Sends.{numbered}
use Rattle.staged_cells.specs.Streams.{stage_cell}
use Rattle.staged_cells.proofs.Designs.{input_turn}
use Rattle.staged_cells.proofs.Sent.{defined_there, input_cell}

pub either_in_range : (t : IntType) (b : Bool) (v : ℤ) → InRange t v → InRange t (if b then v else pos 0)
either_in_range t true v h = h
either_in_range t false v h = zero_in_range t

array_length : (n : ℕ) (types : List IntType) (arrays : List (List ℤ)) (j : ℕ) → HasArrays n types arrays → j < length types
    → length (slice_index_or arrays j []) ≡ n
array_length n [] arrays j h lt = absurd (omega arith)
array_length n (t ∷ ts) [] j h lt = absurd h
array_length n (t ∷ ts) (a ∷ rest) zero h lt = h.0.whole
array_length n (t ∷ ts) (a ∷ rest) (suc j) h lt = array_length n ts rest j h.1 (omega arith)

abbrev output_in : List PlainTensor → ℕ → Bool
output_in ts x = elim (slice_get ts x) [ None ↦ false | Some t ↦ is_output_role t.role ]

first_output : (r : Role) (k : ℕ) (xs : List ℕ) → is_output_role r ≡ true → (0 < length (with_number r k xs)) × (slice_index_or (with_number r k xs) 0 0 ≡ k)
first_output Input k xs e = absurd (false≢true e)
first_output Local k xs e = absurd (false≢true e)
first_output Output k xs e = (omega arith, refl)

next_output : (r : Role) (k : ℕ) (xs : List ℕ) (c : ℕ) → c < length xs
    → ((if is_output_role r then 1 else 0) + c < length (with_number r k xs)) ×
    (slice_index_or (with_number r k xs) ((if is_output_role r then 1 else 0) + c) 0 ≡ slice_index_or xs c 0)
next_output Input k xs c lt = (omega arith, ap (λ i. slice_index_or xs i 0) (let e : 0 + c ≡ c = omega arith in e))
next_output Local k xs c lt = (omega arith, ap (λ i. slice_index_or xs i 0) (let e : 0 + c ≡ c = omega arith in e))
next_output Output k xs c lt = (omega arith, ap (λ i. slice_index_or (k ∷ xs) i 0) (let e : 1 + c ≡ suc c = omega arith in e))

-- an output stands at its number among the outputs
output_place : (k : ℕ) (ts : List PlainTensor) (x : ℕ) → output_in ts x ≡ true
    → (count_below (output_in ts) x < length (outputs_from k ts)) × (slice_index_or (outputs_from k ts) (count_below (output_in ts) x) 0 ≡ k + x)
output_place k [] x e = absurd (false≢true e)
output_place k (t ∷ ts) zero e =
    let f = first_output t.role k (outputs_from (suc k) ts) e in (f.0, omega (arith, f.1))
output_place k (t ∷ ts) (suc x) e =
    let rest = output_place (suc k) ts x e in
    let n = next_output t.role k (outputs_from (suc k) ts) (count_below (output_in ts) x) rest.0 in
    let at : count_below (output_in (t ∷ ts)) (suc x) ≡ (if is_output_role t.role then 1 else 0) + count_below (output_in ts) x =
    count_first (output_in (t ∷ ts)) x in (
      subst (λ i. i < length (outputs_from k (t ∷ ts))) (sym at) n.0,
      ap (λ i. slice_index_or (outputs_from k (t ∷ ts)) i 0) at ∙ n.1 ∙ rest.1 ∙ (let e : suc k + x ≡ k + suc x = omega arith in e),
    )

module _ (p : PlainProgram) (sound : IsSound p) (rows : ℕ) (params : List ℤ) (inputs : List (List ℤ)) (v : ℕ) (s : StagedTensor)
    (e : slice_get (staged_tensors p) v ≡ Some s) where
  abbrev box : List ℕ
  box = extents_at p rows

  pub stage_is : (z : ℤ) → stage_cell p rows params inputs v z ≡ defined_cell p rows params inputs s z
  unfolding stage_cell
  stage_is z = ap (λ (o : Option StagedTensor). elim o [ None ↦ pos 0 | Some u ↦ defined_cell p rows params inputs u z ]) e

  pub type_is : type_at p v ≡ type_of p s.tensor
  type_is =
      let at = place_in (staged_tensors p) v s e in
      get_or-map (λ (u : StagedTensor). type_of p u.tensor) (staged_tensors p) v s int32 at.0 ∙ ap (λ (u : StagedTensor). type_of p u.tensor) at.1

  -- each defined cell is in the range of its tensor's type
  pub stage_in_range : HasArrays (cells_at p rows) (input_types p.tensors) inputs → (z : ℤ)
      → InRange (type_of p s.tensor) (defined_cell p rows params inputs s z)
  unfolding defined_cell
  stage_in_range arrays (pos i) =
      let turn = own_turn p v s sound e in
      let begun = inputs_in_range p sound rows params inputs arrays (s.turn - 1) (omega (arith, turn.0, turn.1)) in
      either_in_range (type_of p s.tensor) (nat_lt i (cells_at p rows)) (cell_at p rows params inputs s (point box i))
      (cell_in_range p sound rows params (run_of p rows params inputs (s.turn - 1)) begun s.tensor (point box i) turn.2)
  stage_in_range arrays (negsuc i) = zero_in_range (type_of p s.tensor)

  -- so wrapping changes none
  pub stage_wrapped : HasArrays (cells_at p rows) (input_types p.tensors) inputs → 0 < (type_of p s.tensor).bits → (z : ℤ)
      → wrapped (type_of p s.tensor) (defined_cell p rows params inputs s z) ≡ defined_cell p rows params inputs s z
  stage_wrapped arrays some z =
      let c = defined_cell p rows params inputs s z in
      sym (wrapped_is (type_of p s.tensor) c c some (own_wrap (type_of p s.tensor) c (stage_in_range arrays z)))

  pub width_some : ((k d : ℕ) → k < length (staged_widths p) → IsWidth (get_or (staged_widths p) k d)) → 0 < (type_of p s.tensor).bits
  unfolding staged_widths
  width_some widths =
      let at = place_in (staged_tensors p) v s e in
      let f : StagedTensor → ℕ = λ u. (type_of p u.tensor).bits in
      let w = widths v 0 (omega (arith, at.0, length-map (staged_tensors p) f)) in
      let is : get_or (map f (staged_tensors p)) v 0 ≡ f s = get_or-map f (staged_tensors p) v s 0 at.0 ∙ ap f at.1 in
      omega (arith, w.0, is)

  -- the cells of an input of the first iteration are those of its array
  pub source_is : HasArrays (cells_at p rows) (input_types p.tensors) inputs → is_input p s.tensor ≡ true → (z : ℤ)
      → numbered (slice_index_or inputs s.tensor []) z ≡ defined_cell p rows params inputs s z
  unfolding defined_cell
  source_is arrays i (negsuc k) = refl
  source_is arrays i (pos k) =
      let array = slice_index_or inputs s.tensor [] in
      let first : s.turn - 1 ≡ 0 = omega (arith, input_turn p sound v s e i) in
      let q = point box k in
      let there : IsInput (input_types p.tensors) s.tensor (type_in p.tensors s.tensor) = input_there p.tensors s.tensor sound.ends.inputs_first i in
      let whole : length array ≡ cells_at p rows = array_length (cells_at p rows) (input_types p.tensors) inputs s.tensor arrays there.there in
      ⊎_elim
      (λ (lt : k < cells_at p rows).
      let at = point_there box k lt in
      let cell : cell_at p rows params inputs s q ≡ array_cell box array q =
      input_cell p sound rows params inputs v s e (run_of p rows params inputs (s.turn - 1)) s.tensor q i
      ∙ ap (λ t. (run_of p rows params inputs t).cell s.tensor q) first in
      sym (ap (λ b. if b then cell_at p rows params inputs s q else pos 0) (lt-ltb k (cells_at p rows) lt)
      ∙ cell
      ∙ ap (λ b. if b then slice_index_or array (unsigned_abs (linear box q)) (pos 0) else pos 0) at.0
      ∙ ap (λ y. slice_index_or array (unsigned_abs y) (pos 0)) at.1))
      (λ (ge : cells_at p rows ≤ k).
      get_or_past array k (pos 0) (omega (arith, whole))
      ∙ sym (ap (λ b. if b then cell_at p rows params inputs s q else pos 0) (le-ltb k (cells_at p rows) ge)))
      (cases_lt k (cells_at p rows))

  -- the defined array of an output of the last iteration
  pub output_is : is_output p s.tensor ≡ true → s.turn ≡ p.iterate
      → slice_index_or (defined_arrays p rows params inputs) (output_number p s.tensor) [] ≡ listed (λ n. stage_cell p rows params inputs v (pos n))
      (cells_at p rows)
  output_is o last =
      let j = output_number p s.tensor in
      let place = output_place 0 p.tensors s.tensor o in
      let k = s.turn - 1 in
      let ends : p.iterate ≡ suc k = omega (arith, last, (own_turn p v s sound e).0) in
      let at : slice_index_or (outputs_of p) j 0 ≡ s.tensor = place.1 ∙ (let z : 0 + s.tensor ≡ s.tensor = omega arith in z) in
      let many : length (map (λ (u : PlainTensor). u.formula) p.tensors) ≡ length p.tensors = length-map p.tensors (λ (u : PlainTensor). u.formula) in
      get-listed (λ i. listed (λ n. (run_of p rows params inputs p.iterate).cell i (point box n)) (cells_at p rows)) (length (outputs_of p)) j [] place.0
      ∙ listed_same (λ n. (run_of p rows params inputs p.iterate).cell j (point box n)) (λ n. stage_cell p rows params inputs v (pos n)) (cells_at p rows)
      (λ n lt.
      ap (λ t. (run_of p rows params inputs t).cell j (point box n)) ends
      ∙ ap (λ x. cell (stencil_of p rows) (run_of p rows params inputs k) params (length (map (λ (u : PlainTensor). u.formula) p.tensors)) x (point box n)) at
      ∙ ap (λ m. cell (stencil_of p rows) (run_of p rows params inputs k) params m s.tensor (point box n)) many
      ∙ sym (stage_is (pos n) ∙ defined_there p sound rows params inputs v s e s n lt))
