-- How the iterations begin, and what the last one leaves.
use Rattle.std.proofs.Common.{◌≡◌, ℕ, zero, suc, ◌+◌, ◌-◌, ◌*◌, ◌^◌, ◌<◌, ◌≤◌, ◌≢◌, Bool, true, false, ◌||◌, List, [], ◌∷◌, ℤ, pos, unsigned_abs, Some, None, length, map, replicate, slice_get, slice_index_or, refl, sym, ◌∙◌, ap, subst, arith, ⊎_elim, if◌then◌else◌}
use Rattle.std.proofs.Math.Bool.{or-false}
use Rattle.std.proofs.lemmas.Bool.{cases_lt, false≢true}
use Rattle.std.proofs.lemmas.List.{ext_get_or, get_or_default, get_or-map, get_or_past, length-map, length-replicate}
use Rattle.soda_words.specs.IntType.{IntType}
use Rattle.int_types.specs.Ranges.{wrapped}
use Rattle.soda_ir.specs.Counts.{is_input, is_input_role}
use Rattle.soda_ir.specs.Formula.{by_formula}
use Rattle.soda_ir.specs.Points.{linear, listed, size}
use Rattle.soda_ir.specs.Program.{PlainProgram, PlainTensor, extents_at, input_types, outputs_of, preserves}
use Rattle.soda_ir.specs.Valid.{IsSound}
use Rattle.soda_ir.proofs.CallerLemmas.{IsInput, get-listed, input_bare, input_there, known_list, length-listed, listed_same, type_in}
use Rattle.soda_eval.specs.Arrays.{Given, array_cell, cell, in_region, outside_cell, type_at}
use Rattle.soda_eval.specs.Points.{moved, point}
use Rattle.soda_eval.specs.Runs.{HasArrays, cells_at, defined_arrays, run_of, stencil_of}
use Rattle.soda_eval.specs.Values.{valued}
use Rattle.soda_eval.proofs.CallerLemmas.{point_there}
use Rattle.time_stages.specs.Placing.{placing_order}
use Rattle.time_stages.proofs.CallerLemmas.{all_there, input_numbered, outputs_below}
use Rattle.soda_run.specs.pieces.Filled.{AreFilled, array_of}
use Rattle.soda_run.proofs.Cells.{array_of-is, means}

input_below : (ts : List PlainTensor) (x : ℕ) → elim (slice_get ts x) [ None ↦ false | Some t ↦ is_input_role t.role ] ≡ true → x < length ts
input_below [] x e = absurd (false≢true e)
input_below (t ∷ ts) zero e = omega arith
input_below (t ∷ ts) (suc x) e = omega (arith, input_below ts x e)

array_whole_at : (n : ℕ) (types : List IntType) (arrays : List (List ℤ)) (x : ℕ) (d : List ℤ) → HasArrays n types arrays → length d ≡ n → length (slice_index_or arrays x d) ≡ n
array_whole_at n [] [] x d h e = e
array_whole_at n [] (a ∷ rest) x d h e = absurd h
array_whole_at n (t ∷ ts) [] x d h e = absurd h
array_whole_at n (t ∷ ts) (a ∷ rest) zero d h e = h.0.whole
array_whole_at n (t ∷ ts) (a ∷ rest) (suc x) d h e = array_whole_at n ts rest x d h.1 e

as_many_arrays : (n : ℕ) (types : List IntType) (arrays : List (List ℤ)) → HasArrays n types arrays → length arrays ≡ length types
as_many_arrays n [] [] h = refl
as_many_arrays n [] (a ∷ rest) h = absurd h
as_many_arrays n (t ∷ ts) [] h = absurd h
as_many_arrays n (t ∷ ts) (a ∷ rest) h = omega (arith, as_many_arrays n ts rest h.1)

point_cell : (ns : List ℕ) (cells : List ℤ) (i : ℕ) → i < size ns → array_cell ns cells (point ns i) ≡ slice_index_or cells i (pos 0)
point_cell ns cells i h =
    let t = point_there ns i h in
    ap (λ b. if b then slice_index_or cells (unsigned_abs (linear ns (point ns i))) (pos 0) else pos 0) t.0
    ∙ ap (λ z. slice_index_or cells (unsigned_abs z) (pos 0)) t.1

-- a list by numbers
pub map_listed : {A : Type 0} → (f : ℕ → A) (xs : List ℕ) (d : A) → map f xs ≡ listed (λ j. f (slice_index_or xs j 0)) (length xs)
map_listed f xs d =
    let many = length-map xs f in
    ext_get_or d (map f xs) (listed (λ j. f (slice_index_or xs j 0)) (length xs)) (many ∙ sym (length-listed (λ j. f (slice_index_or xs j 0)) (length xs))) (λ i l. get_or-map f xs i 0 d (omega (arith, many)) ∙ sym (get-listed (λ j. f (slice_index_or xs j 0)) (length xs) i d (omega (arith, many))))

module _ (p : PlainProgram) (sound : IsSound p) (rows : ℕ) (params : List ℤ) (inputs : List (List ℤ)) where
  abbrev given : ℕ → Given
  given t = run_of p rows params inputs t

  -- the cells of an input are those that its iteration begins with
  input_cell : (g : Given) (j : ℕ) (q : List ℤ) → is_input p j ≡ true → cell (stencil_of p rows) g params (length p.tensors) j q ≡ g.cell j q
  input_cell g j q e =
      (means p sound rows g params).cells j q
      ∙ ap (λ h. by_formula h (g.cell j q) (λ f. if in_region (stencil_of p rows) g (length p.tensors) j q then wrapped (type_at (stencil_of p rows) j) (valued (stencil_of p rows).scope (λ y o. cell (stencil_of p rows) g params (length p.tensors) y (moved q o)) params f) else outside_cell (stencil_of p rows) g j q)) (input_bare p.tensors j sound.parts.formulas e)

  -- the first iteration
  first_input : HasArrays (cells_at p rows) (input_types p.tensors) inputs → (x : ℕ) → is_input p x ≡ true → slice_index_or inputs x [] ≡ array_of p rows (given 0) params x
  first_input h x e =
      let i : IsInput (input_types p.tensors) x (type_in p.tensors x) = input_there p.tensors x sound.ends.inputs_first e in
      let there : x < length inputs = omega (arith, i.there, as_many_arrays (cells_at p rows) (input_types p.tensors) inputs h) in
      let none : List ℤ = replicate (cells_at p rows) (pos 0) in
      let whole : length (slice_index_or inputs x []) ≡ cells_at p rows = ap length (get_or_default inputs x [] none there) ∙ array_whole_at (cells_at p rows) (input_types p.tensors) inputs x none h (length-replicate (cells_at p rows) (pos 0)) in
      known_list (λ i. cell (stencil_of p rows) (given 0) params (length p.tensors) x (point (extents_at p rows) i)) (cells_at p rows) (slice_index_or inputs x []) (pos 0) whole (λ i l. sym (input_cell (given 0) x (point (extents_at p rows) i) e ∙ point_cell (extents_at p rows) (slice_index_or inputs x []) i l))
      ∙ sym (array_of-is p rows (given 0) params x)

  pub first_begins : (arrays : List (List ℤ)) (n cells : ℕ) → HasArrays (cells_at p rows) (input_types p.tensors) inputs → n ≡ length p.tensors → cells ≡ cells_at p rows → arrays ≡ listed (λ x. slice_index_or inputs x (replicate cells (pos 0))) n → AreFilled p rows (given 0) params [] arrays
  first_begins arrays n cells h many full e =
      let f : ℕ → List ℤ = λ x. slice_index_or inputs x (replicate cells (pos 0)) in
      let at : (x : ℕ) → x < length p.tensors → slice_index_or arrays x [] ≡ f x = λ x l. ap (λ xs. slice_index_or xs x []) e ∙ get-listed f n x [] (omega arith) in
      record {
        many = ap length e ∙ length-listed f n ∙ many;
        whole = λ x l. ap length (at x l) ∙ array_whole_at (cells_at p rows) (input_types p.tensors) inputs x (replicate cells (pos 0)) h (length-replicate cells (pos 0) ∙ full);
        filled = λ x there.
            let input = sym (or-false (is_input p x)) ∙ there in
            let i : IsInput (input_types p.tensors) x (type_in p.tensors x) = input_there p.tensors x sound.ends.inputs_first input in
            at x (input_below p.tensors x input)
            ∙ get_or_default inputs x (replicate cells (pos 0)) [] (omega (arith, i.there, as_many_arrays (cells_at p rows) (input_types p.tensors) inputs h))
            ∙ first_input h x input;
      }

  -- the cells of an output are those that the next iteration begins with
  output_cell : (t j : ℕ) (q : List ℤ) → cell (stencil_of p rows) (given t) params (length p.tensors) (slice_index_or (outputs_of p) j 0) q ≡ (given (suc t)).cell j q
  output_cell t j q =
      ap (λ n. cell (stencil_of p rows) (given t) params n (slice_index_or (outputs_of p) j 0) q) (sym (length-map p.tensors (λ (u : PlainTensor). u.formula)))

  -- the next iteration, where the arrays of the outputs stand in the places of the inputs
  pub next_begins : (t : ℕ) (before arrays : List (List ℤ)) → suc t < p.iterate → AreFilled p rows (given t) params (placing_order p) before → length arrays ≡ length before
      → ((j : ℕ) → j < length (outputs_of p) → slice_index_or arrays j [] ≡ slice_index_or before (slice_index_or (outputs_of p) j 0) [])
      → ((x : ℕ) → x < length before → length (slice_index_or arrays x []) ≡ cells_at p rows) → AreFilled p rows (given (suc t)) params [] arrays
  next_begins t before arrays l a many moved whole =
      record {
        many = many ∙ a.many;
        whole = λ x h. whole x (omega (arith, a.many));
        filled = λ x there.
            let input = sym (or-false (is_input p x)) ∙ there in
            let numbered : x < length (outputs_of p) = input_numbered p sound (λ e. omega arith) x input in
            let y = slice_index_or (outputs_of p) x 0 in
            moved x numbered
            ∙ a.filled y (all_there p sound y (outputs_below p x numbered))
            ∙ array_of-is p rows (given t) params y
            ∙ listed_same (λ i. cell (stencil_of p rows) (given t) params (length p.tensors) y (point (extents_at p rows) i)) (λ i. cell (stencil_of p rows) (given (suc t)) params (length p.tensors) x (point (extents_at p rows) i)) (cells_at p rows) (λ i h. output_cell t x (point (extents_at p rows) i) ∙ sym (input_cell (given (suc t)) x (point (extents_at p rows) i) input))
            ∙ sym (array_of-is p rows (given (suc t)) params x);
      }

  -- the arrays of the outputs of the last iteration are the defined ones
  pub last_arrays : (arrays : List (List ℤ)) → AreFilled p rows (given (p.iterate - 1)) params (placing_order p) arrays → map (λ x. slice_index_or arrays x []) (outputs_of p) ≡ defined_arrays p rows params inputs
  last_arrays arrays a =
      let last : suc (p.iterate - 1) ≡ p.iterate = omega (arith, sound.limits.some_iterations) in
      let t = p.iterate - 1 in
      map_listed (λ x. slice_index_or arrays x []) (outputs_of p) []
      ∙ listed_same (λ j. slice_index_or arrays (slice_index_or (outputs_of p) j 0) []) (λ j. listed (λ i. (given (suc t)).cell j (point (extents_at p rows) i)) (cells_at p rows)) (length (outputs_of p)) (λ j l. a.filled (slice_index_or (outputs_of p) j 0) (all_there p sound (slice_index_or (outputs_of p) j 0) (outputs_below p j l)) ∙ array_of-is p rows (given t) params (slice_index_or (outputs_of p) j 0) ∙ listed_same (λ i. cell (stencil_of p rows) (given t) params (length p.tensors) (slice_index_or (outputs_of p) j 0) (point (extents_at p rows) i)) (λ i. (given (suc t)).cell j (point (extents_at p rows) i)) (cells_at p rows) (λ i h. output_cell t j (point (extents_at p rows) i)))
      ∙ ap (λ n. listed (λ j. listed (λ i. (given n).cell j (point (extents_at p rows) i)) (cells_at p rows)) (length (outputs_of p))) last
