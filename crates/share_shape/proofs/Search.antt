-- The first compound that stands twice, found formula by formula.
use Rattle.std.proofs.Common.{◌≡◌, ℕ, zero, suc, ◌+◌, ◌<◌, ◌≤◌, Bool, true, false, ◌&&◌, List, [], ◌∷◌, ◌++◌, Some, map, take, length, min, refl, sym, ◌∙◌, ap, arith, if◌then◌else◌}
use Rattle.std.proofs.Common.{get_or}
use Rattle.std.proofs.lemmas.Bool.{le-leb}
use Rattle.std.proofs.lemmas.List.{map-append, take_more}
use Rattle.soda_words.specs.Tokens.{or_else}
use Rattle.soda_ir.specs.Formula.{Formula}
use Rattle.soda_ir.specs.declared.program.Tensor.{Tensor}
use Rattle.soda_ir.specs.Program.{PlainTensor, plain_tensor}
use Rattle.share_shape.specs.Counts.{tensor_hits, total}
use Rattle.share_shape.specs.Compounds.{counted_before}
use Rattle.share_shape.specs.Shifts.{has_cell}
use Rattle.share_shape.specs.machine.Search.{first_passing, is_twice}
pub use Rattle.soda_ir.proofs.CallerLemmas.{levels}

append_by : (test : Formula → Bool) (f : Formula) (xs ys : List Formula) (b : Bool) → first_passing test (xs ++ ys) ≡ or_else (first_passing test xs) (first_passing test ys) → (if b then Some f else first_passing test (xs ++ ys)) ≡ or_else (if b then Some f else first_passing test xs) (first_passing test ys)
append_by test f xs ys true h = refl
append_by test f xs ys false h = h

-- the first of two lists
pub append : (test : Formula → Bool) (xs ys : List Formula) → first_passing test (xs ++ ys) ≡ or_else (first_passing test xs) (first_passing test ys)
append test [] ys = refl
append test (x ∷ xs) ys = append_by test x xs ys (test x) (append test xs ys)

-- a formula itself, and then its parts
itself_by : (test : Formula → Bool) (f : Formula) (fs : List Formula) (b : Bool) → first_passing test (if b then f ∷ fs else fs) ≡ (if b && test f then Some f else first_passing test fs)
itself_by test f fs true = refl
itself_by test f fs false = refl

pub itself : (test : Formula → Bool) (f : Formula) (fs : List Formula) → first_passing test (counted_before f fs) ≡ (if has_cell f && test f then Some f else first_passing test fs)
itself test f fs = itself_by test f fs (has_cell f)

total_append : (h : PlainTensor → ℕ) (xs ys : List PlainTensor) → total h (xs ++ ys) ≡ total h xs + total h ys
total_append h [] ys = omega arith
total_append h (x ∷ xs) ys = omega (arith, total_append h xs ys)

-- one tensor more
pub total_step : (h : PlainTensor → ℕ) (ts : List Tensor) (i : ℕ) (t : Tensor) → i < length ts → t ≡ get_or ts i t → total h (map plain_tensor (take (i + 1) ts)) ≡ total h (map plain_tensor (take i ts)) + h (plain_tensor t)
total_step h ts i t l e =
    ap (λ us. total h (map plain_tensor us)) (take_more ts i t l)
    ∙ ap (total h) (map-append plain_tensor (take i ts) (get_or ts i t ∷ []))
    ∙ total_append h (map plain_tensor (take i ts)) (map plain_tensor (get_or ts i t ∷ []))
    ∙ ap (λ (u : Tensor). total h (map plain_tensor (take i ts)) + (h (plain_tensor u) + 0)) (sym e) ∙ omega arith

total_front : (h : PlainTensor → ℕ) (ts : List Tensor) (i : ℕ) → total h (map plain_tensor (take i ts)) ≤ total h (map plain_tensor ts)
total_front h ts zero = omega arith
total_front h [] (suc i) = omega arith
total_front h (t ∷ ts) (suc i) = omega (arith, total_front h ts i)

module _ (c : Formula) (ts : List Tensor) (i : ℕ) (t : Tensor) (l : i < length ts) (e : t ≡ get_or ts i t) (many here now : ℕ) (known : many ≡ total (tensor_hits c) (map plain_tensor (take i ts))) (here_is : here ≡ min 2 (tensor_hits c (plain_tensor t))) (now_is : now ≡ min 2 (many + here)) where
  -- two are there
  pub found_twice : now ≡ 2 → true ≡ is_twice (map plain_tensor ts) c
  found_twice two =
      let most : 2 ≤ total (tensor_hits c) (map plain_tensor ts) = omega (arith, total_step (tensor_hits c) ts i t l e, total_front (tensor_hits c) ts (i + 1)) in sym (le-leb 2 (total (tensor_hits c) (map plain_tensor ts)) most)

  -- fewer so far
  pub counted_on : (now ≡ 2 → ⊥) → (now ≡ total (tensor_hits c) (map plain_tensor (take (i + 1) ts))) × (now < 2)
  counted_on few =
      let less : now < 2 = omega arith in (omega (arith, total_step (tensor_hits c) ts i t l e), less)
