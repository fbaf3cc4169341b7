-- A point is in the region of a tensor exactly where it keeps the tensor's margins.
use Rattle.std.proofs.Common.{◌≡◌, ℕ, zero, suc, ◌<◌, ◌≤◌, Bool, true, false, ◌&&◌, List, [], ◌∷◌, length, map, slice_index_or, ℤ, Option, Some, None, refl, sym, ◌∙◌, ap, arith, ⊎_elim, length-append, if◌then◌else◌}
use Rattle.std.proofs.lemmas.Bool.{and_parts, cases_lt, false≢true}
use Rattle.std.proofs.lemmas.List.{get_or_past, length-map}
use Rattle.soda_ir.specs.Counts.{formula_in, has_place}
use Rattle.soda_ir.specs.Formula.{Formula, number, read, param, unary, binary, choice, cast, by_formula, every}
use Rattle.soda_ir.specs.Program.{PlainProgram, PlainTensor, extents_at, outputs_of, preserves}
use Rattle.soda_ir.specs.Uses.{is_good_cell}
use Rattle.soda_ir.specs.Valid.{IsSound, output_types}
use Rattle.soda_ir.proofs.CallerLemmas.{IsOutput, as_many_outputs, countable, every_both, good_length, output_at, reads_good}
use Rattle.soda_eval.specs.Arrays.{Given, in_region}
use Rattle.soda_eval.specs.Points.{in_box, moved}
use Rattle.soda_eval.specs.Runs.{run_of, stencil_of}
use Rattle.soda_eval.proofs.CallerLemmas.{ranks_below}
use Rattle.time_stages.specs.declared.margins.Margins.{Margins}
use Rattle.time_stages.specs.Margins.{dims_of, formula_margins, input_margins, margins_of, margins_over, needed, no_margins, widest}
use Rattle.time_stages.proofs.CallerLemmas.{formula_passes}
use Rattle.region_margins.proofs.Away.{KeepsMargins, needed_kept, none_kept, same_kept, widest_kept}

-- a test beside two, or beside three
beside_two : (a b c : Bool) → ((a && b) && (a && c)) ≡ (a && (b && c))
beside_two true b c = refl
beside_two false b c = refl

beside_three : (a b c d : Bool) → ((a && b) && ((a && c) && (a && d))) ≡ (a && ((b && c) && d))
beside_three true true c d = refl
beside_three true false c d = refl
beside_three false b c d = refl

beside_none : (a : Bool) → a ≡ (a && true)
beside_none true = refl
beside_none false = refl

none_beside : (a : Bool) → false ≡ (a && false)
none_beside true = refl
none_beside false = refl

beside_itself : (a : Bool) → a ≡ (a && a)
beside_itself true = refl
beside_itself false = refl

twice : (a b : Bool) → (a && b) ≡ (a && (a && b))
twice true b = refl
twice false b = refl

-- a formula keeps what its reads need together, where each read keeps what it needs
module _ (ns : List ℕ) (dims : ℕ) (many : length ns ≡ dims) (q : List ℤ) (region : ℕ → List ℤ → Bool) (need : ℕ → List ℤ → Margins) (test : ℕ → List ℤ → Bool)
    (kept : (y : ℕ) (o : List ℤ) → test y o ≡ true → KeepsMargins ns q (need y o) (in_box ns q && region y o)) where
  abbrev IsFormulaKept : Formula → Type 0
  IsFormulaKept f = KeepsMargins ns q (formula_margins dims need f) (in_box ns q && every region f)

  bare : KeepsMargins ns q (no_margins dims) (in_box ns q && true)
  bare =
      same_kept ns q (no_margins dims) (in_box ns q) (in_box ns q && true) (beside_none (in_box ns q)) (none_kept ns dims q many)

  formula_kept : (f : Formula) → every test f ≡ true → IsFormulaKept f
  formula_kept (number n) e = bare
  formula_kept (read t o) e = kept t o e
  formula_kept (param p k) e = bare
  formula_kept (unary op x) e = formula_kept x e
  formula_kept (binary op x y) e =
      let both = and_parts (every test x) (every test y) e in
      let m = formula_margins dims need x in
      let n = formula_margins dims need y in
      let b = in_box ns q && every region x in
      let c = in_box ns q && every region y in
      same_kept ns q (widest m n) (b && c) (in_box ns q && (every region x && every region y)) (beside_two (in_box ns q) (every region x) (every region y)) (widest_kept ns q m n b c (formula_kept x both.0) (formula_kept y both.1))
  formula_kept (choice c x y) e =
      let both = and_parts (every test c && every test x) (every test y) e in
      let first = and_parts (every test c) (every test x) both.0 in
      let l = formula_margins dims need c in
      let m = formula_margins dims need x in
      let n = formula_margins dims need y in
      let a = in_box ns q && every region c in
      let b = in_box ns q && every region x in
      let d = in_box ns q && every region y in
      same_kept ns q (widest l (widest m n)) (a && (b && d)) (in_box ns q && ((every region c && every region x) && every region y)) (beside_three (in_box ns q) (every region c) (every region x) (every region y))
      (widest_kept ns q l (widest m n) a (b && d) (formula_kept c first.0) (widest_kept ns q m n b d (formula_kept x first.1) (formula_kept y both.1)))
  formula_kept (cast t x) e = formula_kept x e

module _ (p : PlainProgram) (sound : IsSound p) (rows : ℕ) where
  abbrev ns : List ℕ
  ns = extents_at p rows

  many : length ns ≡ dims_of p
  many = omega (arith, length-append p.extents (rows ∷ []))

  -- a tensor that has its place, where the inputs keep their margins
  module _ (g : Given) (inputs : ℕ → Margins) (given : (j : ℕ) (q : List ℤ) → KeepsMargins ns q (inputs j) (in_box ns q && g.region j q)) where
    abbrev region : (k x : ℕ) → List ℤ → Bool
    region k x q = in_region (stencil_of p rows) g k x q

    tensor_by : (k x : ℕ) (q : List ℤ) → ((y : ℕ) (r : List ℤ) → has_place p k y ≡ true → KeepsMargins ns r (margins_over p inputs k y) (region k y r)) → has_place p (suc k) x ≡ true → (o : Option Formula) → formula_in p x ≡ o
        → KeepsMargins ns q (by_formula o (inputs x) (formula_margins (dims_of p) (λ y w. needed (margins_over p inputs k y) w))) (in_box ns q && by_formula o (g.region x q) (every (λ y w. region k y (moved q w))))
    tensor_by k x q rest e None d = given x q
    tensor_by k x q rest e (Some f) d =
        formula_kept ns (dims_of p) many q (λ y w. region k y (moved q w)) (λ y w. needed (margins_over p inputs k y) w) (λ y w. is_good_cell p y w && has_place p k y)
        (λ y w h. let both = and_parts (is_good_cell p y w) (has_place p k y) h in needed_kept ns q w (margins_over p inputs k y) (region k y (moved q w)) (good_length p y w both.0 ∙ sym many) (rest y (moved q w) both.1))
        f (every_both (is_good_cell p) (λ y w. has_place p k y) f (reads_good p x f (countable p sound) d) (formula_passes (every (λ y w. has_place p k y)) p.tensors x f e d))

    region_kept : (k x : ℕ) (q : List ℤ) → has_place p k x ≡ true → KeepsMargins ns q (margins_over p inputs k x) (region k x q)
    unfolding in_region margins_over
    region_kept zero x q e = absurd (false≢true e)
    region_kept (suc k) x q e = tensor_by k x q (region_kept k) e (formula_in p x) refl

  -- a region is within the box
  region_in_box : (g : Given) (k x : ℕ) (q : List ℤ) → in_region (stencil_of p rows) g k x q ≡ (in_box ns q && in_region (stencil_of p rows) g k x q)
  unfolding in_region
  region_in_box g zero x q = none_beside (in_box ns q)
  region_in_box g (suc k) x q =
      twice (in_box ns q) (by_formula (formula_in p x) (g.region x q) (every (λ y w. in_region (stencil_of p rows) g k y (moved q w))))

  -- the number of an output, and the first number where there is no such output
  output_there : (j : ℕ) → slice_index_or (outputs_of p) j 0 < length p.tensors
  output_there j =
      ⊎_elim (λ (l : j < length (output_types p.tensors)). let o : IsOutput 0 p.tensors j (slice_index_or (outputs_of p) j 0) = output_at 0 p.tensors j l in omega (arith, o.is, o.there)) (λ (l : length (output_types p.tensors) ≤ j). omega (arith, get_or_past (outputs_of p) j 0 (omega (arith, as_many_outputs 0 p.tensors)), ranks_below p sound 0)) (cases_lt j (length (output_types p.tensors)))

  -- the inputs of an iteration keep their margins
  box_kept : (q : List ℤ) → KeepsMargins ns q (no_margins (dims_of p)) (in_box ns q && in_box ns q)
  box_kept q =
      same_kept ns q (no_margins (dims_of p)) (in_box ns q) (in_box ns q && in_box ns q) (beside_itself (in_box ns q)) (none_kept ns (dims_of p) q many)

  next_kept : (b c : Bool) (m : Margins) (q : List ℤ) → KeepsMargins ns q m (in_box ns q && c) → KeepsMargins ns q (if b then no_margins (dims_of p) else m) (in_box ns q && (if b then in_box ns q else c))
  next_kept true c m q h = box_kept q
  next_kept false c m q h = h

  module _ (params : List ℤ) (inputs : List (List ℤ)) where
    abbrev before : ℕ → Given
    before t = run_of p rows params inputs t

    inputs_kept : (t j : ℕ) (q : List ℤ) → KeepsMargins ns q (input_margins p t j) (in_box ns q && (before t).region j q)
    unfolding input_margins
    inputs_kept zero j q = box_kept q
    inputs_kept (suc t) j q =
        let x = slice_index_or (outputs_of p) j 0 in
        let n = length (map (λ (u : PlainTensor). u.formula) p.tensors) in
        let m = margins_over p (input_margins p t) (length p.tensors) x in
        let r : ℕ → Bool = λ k. in_region (stencil_of p rows) (before t) k x q in
        let same : r (length p.tensors) ≡ (in_box ns q && r n) = region_in_box (before t) (length p.tensors) x q ∙ ap (λ k. in_box ns q && r k) (sym (length-map p.tensors (λ (u : PlainTensor). u.formula))) in
        next_kept (preserves p) (r n) m q (same_kept ns q m (r (length p.tensors)) (in_box ns q && r n) same (region_kept (before t) (input_margins p t) (inputs_kept t) (length p.tensors) x q (sound.placed x (output_there j))))

    pub tensor_kept : (t x : ℕ) (q : List ℤ) → x < length p.tensors → KeepsMargins ns q (margins_of p t x) (in_region (stencil_of p rows) (before t) (length p.tensors) x q)
    tensor_kept t x q l =
        region_kept (before t) (input_margins p t) (inputs_kept t) (length p.tensors) x q (sound.placed x l)
