-- The numbers of the outputs: each is an output of its number, and where a program iterates there is one for each input.
use Rattle.std.proofs.Common.{◌≡◌, ℕ, zero, suc, ◌+◌, ◌<◌, ◌≤◌, ◌≢◌, Bool, true, false, not, List, [], ◌∷◌, ◌++◌, Some, None, length, map, slice_get, slice_index_or, take, refl, sym, ◌∙◌, ap, arith, ⊎_elim, if◌then◌else◌}
use Rattle.std.specs.List.{list_all}
use Rattle.std.proofs.lemmas.Bool.{and_parts, cases_lt, false≢true}
use Rattle.std.proofs.lemmas.List.{length-map, length-take-le, map-append, take_more}
use Rattle.soda_words.specs.IntType.{IntType}
use Rattle.soda_ir.specs.declared.program.Role.{Role}
use Rattle.soda_ir.specs.declared.program.Role.TheVariants.{Input, Local, Output}
use Rattle.soda_ir.specs.declared.program.Tensor.{Tensor}
use Rattle.soda_ir.specs.Counts.{count_below, is_input, is_input_role, is_output, is_output_role, output_number}
use Rattle.soda_ir.specs.Program.{PlainProgram, PlainTensor, input_types, outputs_from, outputs_of, plain_tensor, preserves}
use Rattle.soda_ir.specs.Valid.{IsSound}
use Rattle.soda_ir.proofs.CallerLemmas.{IsInput, as_many_outputs, input_known, input_there, type_in, with_number}

abbrev output_at : List PlainTensor → ℕ → Bool
output_at ts x = elim (slice_get ts x) [ None ↦ false | Some t ↦ is_output_role t.role ]

-- a count from the first number on
pub count_first : (f : ℕ → Bool) (n : ℕ) → count_below f (suc n) ≡ (if f 0 then 1 else 0) + count_below (λ x. f (suc x)) n
count_first f zero = omega arith
count_first f (suc n) = omega (arith, count_first f n)

-- x is the number of output j, where the first of these tensors has the number k
record IsOutput (k : ℕ) (ts : List PlainTensor) (j x : ℕ) : Type 0 where
  place : ℕ
  is : x ≡ k + place
  there : place < length ts
  role : output_at ts place ≡ true
  number : count_below (output_at ts) place ≡ j

further : (k i j : ℕ) (t : PlainTensor) (ts : List PlainTensor) (x : ℕ) → (if is_output_role t.role then 1 else 0) + i ≡ j → IsOutput (suc k) ts i x → IsOutput k (t ∷ ts) j x
further k i j t ts x e o =
    record {
      place = suc o.place;
      is = omega (arith, o.is);
      there = omega (arith, o.there);
      role = o.role;
      number = omega (arith, count_first (output_at (t ∷ ts)) o.place, o.number);
    }

output_by : (r : Role) (k j : ℕ) (t : PlainTensor) (ts : List PlainTensor) → t.role ≡ r → j < length (with_number r k (outputs_from (suc k) ts))
    → ((i : ℕ) → i < length (outputs_from (suc k) ts) → IsOutput (suc k) ts i (slice_index_or (outputs_from (suc k) ts) i 0)) → IsOutput k (t ∷ ts) j (slice_index_or (with_number r k (outputs_from (suc k) ts)) j 0)
output_by Input k j t ts e l rest =
    let none : ◌≡◌ {A = ℕ} (if is_output_role t.role then 1 else 0) 0 = ap (λ r. if is_output_role r then 1 else 0) e in
    further k j j t ts _ (omega arith) (rest j l)
output_by Local k j t ts e l rest =
    let none : ◌≡◌ {A = ℕ} (if is_output_role t.role then 1 else 0) 0 = ap (λ r. if is_output_role r then 1 else 0) e in
    further k j j t ts _ (omega arith) (rest j l)
output_by Output k zero t ts e l rest =
    record { place = 0; is = omega arith; there = omega arith; role = ap is_output_role e; number = refl }
output_by Output k (suc j) t ts e l rest =
    let one : ◌≡◌ {A = ℕ} (if is_output_role t.role then 1 else 0) 1 = ap (λ r. if is_output_role r then 1 else 0) e in
    further k j (suc j) t ts _ (omega arith) (rest j (omega arith))

outputs_are : (k : ℕ) (ts : List PlainTensor) (j : ℕ) → j < length (outputs_from k ts) → IsOutput k ts j (slice_index_or (outputs_from k ts) j 0)
outputs_are k [] j l = absurd (omega arith)
outputs_are k (t ∷ ts) j l = output_by t.role k j t ts refl l (λ i h. outputs_are (suc k) ts i h)

-- there are as many outputs as tensors that are one
many_by : (r : Role) (k n : ℕ) (xs : List ℕ) → length xs ≡ n → length (with_number r k xs) ≡ (if is_output_role r then 1 else 0) + n
many_by Input k n xs e = omega arith
many_by Local k n xs e = omega arith
many_by Output k n xs e = omega arith

many_outputs : (k : ℕ) (ts : List PlainTensor) → length (outputs_from k ts) ≡ count_below (output_at ts) (length ts)
many_outputs k [] = refl
many_outputs k (t ∷ ts) =
    many_by t.role k (count_below (output_at ts) (length ts)) (outputs_from (suc k) ts) (many_outputs (suc k) ts) ∙ sym (count_first (output_at (t ∷ ts)) (length ts))

count_up : (f : ℕ → Bool) (x n : ℕ) → x < n → f x ≡ true → count_below f x < count_below f n
count_up f x zero l e = absurd (omega arith)
count_up f x (suc n) l e =
    ⊎_elim (λ (m : x < n). omega (arith, count_up f x n m e)) (λ (m : n ≤ x).
    let i : x ≡ n = omega arith in
    let same : count_below f x ≡ count_below f n = ap (count_below f) i in
    let one : ◌≡◌ {A = ℕ} (if f n then 1 else 0) 1 = ap (λ b. if b then 1 else 0) (sym (ap f i) ∙ e) in
    omega arith) (cases_lt x n)

module _ (p : PlainProgram) where
  pub outputs_below : (j : ℕ) → j < length (outputs_of p) → slice_index_or (outputs_of p) j 0 < length p.tensors
  outputs_below j l = let o = outputs_are 0 p.tensors j l in omega (arith, o.is, o.there)

  -- each is an output of its number
  pub output_is : (j : ℕ) → j < length (outputs_of p) → (is_output p (slice_index_or (outputs_of p) j 0) ≡ true) × (output_number p (slice_index_or (outputs_of p) j 0) ≡ j)
  output_is j l =
      let o = outputs_are 0 p.tensors j l in
      let at : slice_index_or (outputs_of p) j 0 ≡ o.place = omega (arith, o.is) in
      (ap (is_output p) at ∙ o.role, ap (output_number p) at ∙ o.number)

  -- where the program iterates, each input has an output of its number
  pub input_numbered : IsSound p → p.iterate ≢ 1 → (j : ℕ) → is_input p j ≡ true → j < length (outputs_of p)
  input_numbered sound iterated j e =
      let i : IsInput (input_types p.tensors) j (type_in p.tensors j) = input_there p.tensors j sound.ends.inputs_first e in
      omega (arith, i.there, ap length (sound.fits.iterated iterated), as_many_outputs 0 p.tensors)

  -- under preserve the number of an output is that of an input
  pub border_is_input : IsSound p → preserves p ≡ true → (x : ℕ) → x < length p.tensors → is_output p x ≡ true → is_input p (output_number p x) ≡ true
  border_is_input sound e x l o =
      input_known p.tensors (output_number p x) sound.ends.inputs_first (omega (arith, count_up (is_output p) x (length p.tensors) l o, many_outputs 0 p.tensors, ap length (sound.fits.preserved e), as_many_outputs 0 p.tensors))

-- the numbers of the outputs of one tensor more
push_by : (r : Role) (k n : ℕ) → n ≡ k → with_number r k [] ≡ (if is_output_role r then n ∷ [] else [])
push_by Input k n e = refl
push_by Local k n e = refl
push_by Output k n e = ap (λ i. i ∷ []) (sym e)

with_push : (r : Role) (k : ℕ) (xs ys : List ℕ) → with_number r k (xs ++ ys) ≡ with_number r k xs ++ ys
with_push Input k xs ys = refl
with_push Local k xs ys = refl
with_push Output k xs ys = refl

outputs_push : (k n : ℕ) (ts : List PlainTensor) (t : PlainTensor) → n ≡ k + length ts → outputs_from k (ts ++ t ∷ []) ≡ outputs_from k ts ++ (if is_output_role t.role then n ∷ [] else [])
outputs_push k n [] t e = push_by t.role k n (omega arith)
outputs_push k n (u ∷ us) t e =
    ap (with_number u.role k) (outputs_push (suc k) n us t (omega arith))
    ∙ with_push u.role k (outputs_from (suc k) us) (if is_output_role t.role then n ∷ [] else [])

pub outputs_more : (ts : List Tensor) (i : ℕ) (t : Tensor) (before numbers : List ℕ) → i < length ts → t ≡ slice_index_or ts i t → before ≡ outputs_from 0 (map plain_tensor (take i ts))
    → numbers ≡ before ++ (if is_output_role t.role then i ∷ [] else []) → numbers ≡ outputs_from 0 (map plain_tensor (take (i + 1) ts))
outputs_more ts i t before numbers l is b e =
    let many : length (map plain_tensor (take i ts)) ≡ i = length-map (take i ts) plain_tensor ∙ length-take-le i ts (omega arith) in
    e ∙ ap (λ xs. xs ++ (if is_output_role t.role then i ∷ [] else [])) b
    ∙ sym (outputs_push 0 i (map plain_tensor (take i ts)) (plain_tensor t) (omega arith))
    ∙ sym (ap (λ us. outputs_from 0 (map plain_tensor us)) (take_more ts i t l ∙ ap (λ u. take i ts ++ u ∷ []) (sym is)) ∙ ap (outputs_from 0) (map-append plain_tensor (take i ts) (t ∷ [])))
