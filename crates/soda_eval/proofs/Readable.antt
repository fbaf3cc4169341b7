-- What evaluation asks of a formula, from what it names.
use Rattle.std.proofs.Common.{◌≡◌, ℕ, zero, suc, ◌+◌, ◌<◌, Bool, true, false, ◌&&◌, ◌==◌, List, [], ◌∷◌, ◌++◌, ℤ, pos, Option, Some, None, slice_get, slice_index_or, map, length, replicate, take, drop, nat_lt, refl, sym, ◌∙◌, ap, subst, arith}
use Rattle.std.specs.List.{list_all}
use Rattle.std.proofs.lemmas.Bool.{and_parts, false≢true, ltb-true}
use Rattle.std.proofs.lemmas.List.{get_or-drop, length-drop, length-map}
use Rattle.std.proofs.lemmas.List.Sums.{sum_by-cons}
use Rattle.arrayvec.specs.ArrayVec.{ArrayVec}
use Rattle.soda_words.specs.IntType.{IntType, int32}
use Rattle.int_types.specs.Ranges.{InRange}
use Rattle.soda_ir.specs.declared.expr.Expr.{Expr, Cell, Par}
use Rattle.soda_ir.specs.Formula.{Formula, number, read, param, unary, binary, choice, cast}
use Rattle.soda_ir.specs.Points.{size}
use Rattle.soda_ir.specs.Program.{PlainParam, PlainProgram, PlainTensor}
use Rattle.soda_ir.specs.Tree.{formula_of}
use Rattle.soda_ir.specs.Uses.{each_use, formula_is, is_good_cell, is_good_place, is_near}
use Rattle.soda_ir.specs.Valid.{value_count}
use Rattle.soda_ir.proofs.CallerLemmas.{formula_of-Cell, formula_of-Par, good_there}
use Rattle.soda_eval.specs.Arrays.{Each}
use Rattle.soda_eval.specs.Runs.{HasValues, place_types, scope_of, starts_from}
use Rattle.soda_eval.specs.Values.{IsReadable, Values}
use Rattle.soda_eval.proofs.Starts.{starts_at, take-suc-cons}

module _ (t : IntType) where
  -- one of the first n values
  first_value : (n : ℕ) (rest : List IntType) (vs : List ℤ) (i : ℕ) → HasValues (replicate n t ++ rest) vs → i < n → (i < length vs) × InRange t (slice_index_or vs i (pos 0))
  first_value zero rest vs i h l = absurd (omega arith)
  first_value (suc n) rest [] i h l = absurd h
  first_value (suc n) rest (v ∷ vs) zero h l = (omega arith, h.0)
  first_value (suc n) rest (v ∷ vs) (suc i) h l =
      let k = first_value n rest vs i h.1 (omega arith) in (omega (arith, k.0), k.1)

  -- what is behind them
  values_behind : (n : ℕ) (rest : List IntType) (vs : List ℤ) → HasValues (replicate n t ++ rest) vs → HasValues rest (drop n vs)
  values_behind zero rest vs h = h
  values_behind (suc n) rest [] h = absurd h
  values_behind (suc n) rest (v ∷ vs) h = values_behind n rest vs h.1

-- what passes a test is there
get_there : {A : Type 0} → (test : A → Bool) (xs : List A) (k : ℕ) → elim (slice_get xs k) [ None ↦ false | Some x ↦ test x ] ≡ true → k < length xs
get_there test [] k e = absurd (false≢true e)
get_there test (x ∷ xs) zero e = omega arith
get_there test (x ∷ xs) (suc k) e = omega (arith, get_there test xs k e)

-- a param's value is in the range of the param's type
place_there : (ps : List PlainParam) (vs : List ℤ) (k i at : ℕ) → HasValues (place_types ps) vs → elim (slice_get ps k) [ None ↦ false | Some q ↦ nat_lt i (size q.sizes) ] ≡ true → at ≡ value_count (take k ps) + i
    → (at < length vs) × InRange (slice_index_or (map (λ q. q.ty) ps) k int32) (slice_index_or vs at (pos 0))
place_there [] vs k i at h e is = absurd (false≢true e)
place_there (p ∷ ps) vs zero i at h e is =
    let l : i < size p.sizes = ltb-true i (size p.sizes) e in
    let v = first_value p.ty (size p.sizes) (place_types ps) vs at h (omega arith) in (v.0, v.1)
place_there (p ∷ ps) vs (suc k) i at h e is =
    let n = size p.sizes in
    let j = value_count (take k ps) + i in
    let rest = place_there ps (drop n vs) k i j (values_behind p.ty n (place_types ps) vs h) e refl in
    let count : value_count (take (suc k) (p ∷ ps)) ≡ n + value_count (take k ps) = ap value_count (take-suc-cons p ps k) ∙ sum_by-cons (λ (r : PlainParam). size r.sizes) p (take k ps) in
    let here : n + j ≡ at = omega arith in
    let same : slice_index_or (drop n vs) j (pos 0) ≡ slice_index_or vs at (pos 0) = get_or-drop n vs j (pos 0) ∙ ap (λ m. slice_index_or vs m (pos 0)) here in
    (omega (arith, rest.0, length-drop n vs), subst (λ (v : ℤ). InRange (slice_index_or (map (λ (q : PlainParam). q.ty) ps) k int32) v) same rest.1)

length-starts : (c : ℕ) (ps : List PlainParam) → length (starts_from c ps) ≡ length ps
length-starts c [] = refl
length-starts c (p ∷ ps) = omega (arith, length-starts (c + size p.sizes) ps)

module _ (p : PlainProgram) where
  abbrev good : Formula → Bool
  good f = each_use (is_good_cell p) (is_good_place p) f

  param_there : (k i : ℕ) → is_good_place p k i ≡ true → k < length p.params
  param_there k i e = get_there (λ (q : PlainParam). nat_lt i (size q.sizes)) p.params k e

  -- the tensor of a cell is there, and so is the param of a value
  pub cell_known : (e : Expr) (t : ℕ) (o : ArrayVec ℤ) → e ≡ Cell t o → good (formula_of e) ≡ true → t < length p.tensors
  cell_known e t o h g = good_there p t o.items (sym (ap good (ap formula_of h ∙ formula_of-Cell t o)) ∙ g)

  pub param_known : (e : Expr) (k i : ℕ) → e ≡ Par k i → good (formula_of e) ≡ true → k < length p.params
  param_known e k i h g = param_there k i (sym (ap good (ap formula_of h ∙ formula_of-Par k i)) ∙ g)

  module _ (cells : Values) where
    abbrev IsCellInRange : ℕ → List ℤ → Type 0
    IsCellInRange t o = InRange (slice_index_or (scope_of p).tensors t int32) (cells t o)

    -- what holds of every cell of a tensor that is there holds of each that is read
    pub each_in_range : ((y : ℕ) (o : List ℤ) → y < length p.tensors → IsCellInRange y o) → (f : Formula) → good f ≡ true → Each IsCellInRange f
    each_in_range h (number n) e = tt
    each_in_range h (read t o) e = h t o (good_there p t o e)
    each_in_range h (param k i) e = tt
    each_in_range h (unary op a) e = each_in_range h a e
    each_in_range h (binary op a b) e =
        let both = and_parts (good a) (good b) e in (each_in_range h a both.0, each_in_range h b both.1)
    each_in_range h (choice c a b) e =
        let both = and_parts (good c && good a) (good b) e in
        let left = and_parts (good c) (good a) both.0 in
        (each_in_range h c left.0, each_in_range h a left.1, each_in_range h b both.1)
    each_in_range h (cast t a) e = each_in_range h a e

    module _ (params : List ℤ) (values : HasValues (place_types p.params) params) where
      param_readable : (k i : ℕ) → is_good_place p k i ≡ true → IsReadable (scope_of p) cells params (param k i)
      param_readable k i e =
          let many = length-starts 0 p.params in
          let types = length-map p.params (λ (q : PlainParam). q.ty) in
          let at = slice_index_or (starts_from 0 p.params) k 0 + i in
          let here = param_there k i e in
          let there = place_there p.params params k i at values e (omega (arith, starts_at 0 p.params k here)) in
          (omega (arith, here, types), omega (arith, here, many), there.0, there.1)

      -- a formula can be evaluated where what it names is there and in range
      pub readable : (f : Formula) → good f ≡ true → Each IsCellInRange f → IsReadable (scope_of p) cells params f
      readable (number n) e h = tt
      readable (read t o) e h = (simp length-map (good_there p t o e), h)
      readable (param k i) e h = param_readable k i e
      readable (unary op a) e h = readable a e h
      readable (binary op a b) e h =
          let both = and_parts (good a) (good b) e in (readable a both.0 h.0, readable b both.1 h.1)
      readable (choice c a b) e h =
          let both = and_parts (good c && good a) (good b) e in
          let left = and_parts (good c) (good a) both.0 in
          (readable c left.0 h.0, readable a left.1 h.1, readable b both.1 h.2)
      readable (cast t a) e h = readable a e h
