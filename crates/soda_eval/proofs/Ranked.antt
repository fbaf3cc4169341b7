-- The rank of each tensor of a valid program: all that it reads is of smaller rank.
use Rattle.std.proofs.Common.{◌≡◌, ℕ, zero, suc, ◌-◌, ◌<◌, ◌≤◌, Bool, true, false, List, [], ◌∷◌, ℤ, Some, None, slice_get, slice_index_or, map, length, sym, ◌∙◌, ap, refl, nat_lt, arith, if◌then◌else◌}
use Rattle.std.specs.List.{list_any}
use Rattle.std.proofs.lemmas.Bool.{false≢true, lt-ltb}
use Rattle.soda_ir.specs.Counts.{has_place, is_input_role}
use Rattle.soda_ir.specs.Formula.{Formula, by_formula, every}
use Rattle.soda_ir.specs.Program.{PlainProgram, PlainTensor}
use Rattle.soda_ir.specs.Valid.{IsSound}
use Rattle.soda_eval.specs.Arrays.{IsPlaced}
use Rattle.soda_eval.specs.Runs.{stencil_of}
use Rattle.soda_eval.proofs.Touched.{every_same}

-- the least number that passes, and k where none below k does
first : (ℕ → Bool) → ℕ → ℕ
first test zero = zero
first test (suc k) = if test 0 then 0 else suc (first (λ m. test (suc m)) k)

passes_by : (test : ℕ → Bool) (r : ℕ) (b : Bool) → test 0 ≡ b → test (suc r) ≡ true → test (if b then 0 else suc r) ≡ true
passes_by test r true e h = e
passes_by test r false e h = h

first_passes : (test : ℕ → Bool) (k : ℕ) → test k ≡ true → test (first test k) ≡ true
unfolding first
first_passes test zero e = e
first_passes test (suc k) e =
    passes_by test (first (λ m. test (suc m)) k) (test 0) refl (first_passes (λ m. test (suc m)) k e)

least_by : (test : ℕ → Bool) (r m : ℕ) (b : Bool) → test 0 ≡ b → test m ≡ true → ((i : ℕ) → test (suc i) ≡ true → r ≤ i) → (if b then 0 else suc r) ≤ m
least_by test r m true e h least = omega arith
least_by test r zero false e h least = absurd (false≢true (sym e ∙ h))
least_by test r (suc m) false e h least = omega (arith, least m h)

first_least : (test : ℕ → Bool) (k m : ℕ) → test m ≡ true → first test k ≤ m
unfolding first
first_least test zero m e = omega arith
first_least test (suc k) m e =
    least_by test (first (λ i. test (suc i)) k) m (test 0) refl e (λ i h. first_least (λ j. test (suc j)) k i h)

within_by : (b : Bool) (r k : ℕ) → r ≤ k → (if b then 0 else suc r) ≤ suc k
within_by true r k h = omega arith
within_by false r k h = omega arith

first_within : (test : ℕ → Bool) (k : ℕ) → first test k ≤ k
unfolding first
first_within test zero = omega arith
first_within test (suc k) =
    within_by (test 0) (first (λ m. test (suc m)) k) k (first_within (λ m. test (suc m)) k)

-- how many rounds pass before the tensor is placed
pub rank : PlainProgram → ℕ → ℕ
rank p x = first (λ m. has_place p (suc m) x) (length p.tensors - 1)

-- what is placed within r rounds has a rank below r
rank_below : (p : PlainProgram) (r y : ℕ) → has_place p r y ≡ true → nat_lt (rank p y) r ≡ true
unfolding rank
rank_below p zero y e = absurd (false≢true e)
rank_below p (suc r) y e =
    lt-ltb _ (suc r) (omega (arith, first_least (λ m. has_place p (suc m) y) (length p.tensors - 1) r e))

some_there : (test : PlainTensor → Bool) (ts : List PlainTensor) → list_any test ts ≡ true → 0 < length ts
some_there test [] e = absurd (false≢true e)
some_there test (t ∷ ts) e = omega arith

-- the tensor that has a formula is there
formula_there : (ts : List PlainTensor) (x : ℕ) (f : Formula) → slice_index_or (map (λ t. t.formula) ts) x None ≡ Some f → x < length ts
formula_there [] x f e = cc
formula_there (t ∷ ts) zero f e = omega arith
formula_there (t ∷ ts) (suc x) f e = omega (arith, formula_there ts x f e)

-- a test that the tensor's formula passes
formula_passes : (test : Formula → Bool) (ts : List PlainTensor) (x : ℕ) (f : Formula) → slice_index_or (map (λ t. t.formula) ts) x None ≡ Some f → elim (slice_get ts x) [ None ↦ false | Some t ↦ by_formula t.formula true test ] ≡ true → test f ≡ true
formula_passes test [] x f e h = cc
formula_passes test (t ∷ ts) zero f e h = sym (ap (λ o. by_formula o true test) e) ∙ h
formula_passes test (t ∷ ts) (suc x) f e h = formula_passes test ts x f e h

module _ (p : PlainProgram) (sound : IsSound p) where
  pub ranks_below : (x : ℕ) → rank p x < length p.tensors
  unfolding rank
  ranks_below x =
      let some : 0 < length p.tensors = some_there (λ t. is_input_role t.role) p.tensors sound.ends.some_input in
      omega (arith, first_within (λ m. has_place p (suc m) x) (length p.tensors - 1))

  -- a tensor is placed in the round behind as many as its rank
  placed_next : (x : ℕ) → x < length p.tensors → has_place p (suc (rank p x)) x ≡ true
  unfolding rank
  placed_next x h =
      let last : length p.tensors ≡ suc (length p.tensors - 1) = omega arith in
      first_passes (λ m. has_place p (suc m) x) (length p.tensors - 1) (sym (ap (λ n. has_place p n x) last) ∙ sound.placed x h)

  pub ranks : (rows : ℕ) → IsPlaced (stencil_of p rows) (rank p)
  ranks rows x f e =
      let test : ℕ → List ℤ → Bool = λ y o. has_place p (rank p x) y in
      let reads : every test f ≡ true = formula_passes (every test) p.tensors x f e (placed_next x (formula_there p.tensors x f e)) in
      sym (every_same test test (λ y o. nat_lt (rank p y) (rank p x)) (λ y o h. h ∙ sym (rank_below p (rank p x) y h)) f reads) ∙ reads
