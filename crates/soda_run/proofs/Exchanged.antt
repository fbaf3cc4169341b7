-- Arrays that change places, and arrays that are taken out.
use Rattle.std.proofs.Common.{◌≡◌, ◌≢◌, ℕ, ◌+◌, ◌<◌, ◌≤◌, ◌==◌, Bool, true, false, List, [], ◌∷◌, ◌++◌, ℤ, length, map, set, slice_index_or, take, get_or-set_other, eq-eqb, refl, sym, ◌∙◌, ap, arith, ⊎_elim}
use Rattle.std.specs.List.{SwappedAt}
use Rattle.std.proofs.lemmas.Bool.{cases_lt, eqb-true, true≢false}
use Rattle.std.proofs.lemmas.List.{length-set, map-append, take_more}

-- so many arrays of outputs have changed places with those of inputs
pub record IsExchanged (outputs : List ℕ) (first : List (List ℤ)) (i : ℕ) (arrays : List (List ℤ)) : Type 0 where
  pub inputs : (j : ℕ) → j < i → slice_index_or arrays j [] ≡ slice_index_or first (slice_index_or outputs j 0) []
  pub left : (j : ℕ) → i ≤ j → j < length outputs → slice_index_or arrays (slice_index_or outputs j 0) [] ≡ slice_index_or first (slice_index_or outputs j 0) []
  pub whole : (n : ℕ) → ((x : ℕ) → x < length first → length (slice_index_or first x []) ≡ n) → (x : ℕ) → x < length first → length (slice_index_or arrays x []) ≡ n

module _ (outputs : List ℕ) (first before after : List (List ℤ)) (i : ℕ) (there : i < length outputs) (within : i < length first) (among : slice_index_or outputs i 0 < length first)
    (behind : (j : ℕ) → j < length outputs → length outputs ≤ slice_index_or outputs j 0)
    (apart : (j k : ℕ) → j < k → k < length outputs → slice_index_or outputs j 0 ≢ slice_index_or outputs k 0)
    (swapped : SwappedAt before after i (slice_index_or outputs i 0)) (h : IsExchanged outputs first i before) where
  abbrev other : ℕ
  other = slice_index_or outputs i 0

  input_by : (j : ℕ) → j < i + 1 → slice_index_or after j [] ≡ slice_index_or first (slice_index_or outputs j 0) []
  input_by j l =
      ⊎_elim (λ (b : j < i). swapped.2 j [] (λ e. omega arith) (λ e. omega (arith, behind i there)) ∙ h.inputs j b)
      (λ (b : i ≤ j). let e : i ≡ j = omega arith in ap (λ k. slice_index_or after k []) (sym e) ∙ swapped.0 [] ∙ h.left i (omega arith) there ∙ ap (λ k. slice_index_or first (slice_index_or outputs k 0) []) e)
      (cases_lt j i)

  whole_by : (n : ℕ) → ((x : ℕ) → x < length first → length (slice_index_or first x []) ≡ n) → (x : ℕ) → x < length first → (a b : Bool) → (i == x) ≡ a → (other == x) ≡ b → length (slice_index_or after x []) ≡ n
  whole_by n f x l true b e d =
      ap (λ k. length (slice_index_or after k [])) (sym (eqb-true i x e)) ∙ ap length (swapped.0 []) ∙ h.whole n f other among
  whole_by n f x l false true e d =
      ap (λ k. length (slice_index_or after k [])) (sym (eqb-true other x d)) ∙ ap length (swapped.1 []) ∙ h.whole n f i within
  whole_by n f x l false false e d =
      ap length (swapped.2 x [] (λ z. true≢false (sym (eq-eqb i x (sym z)) ∙ e)) (λ z. true≢false (sym (eq-eqb other x (sym z)) ∙ d))) ∙ h.whole n f x l

  pub exchanged_more : IsExchanged outputs first (i + 1) after
  exchanged_more = record {
    inputs = input_by;
    left = λ j l m. swapped.2 (slice_index_or outputs j 0) [] (λ e. omega (arith, behind j m)) (λ e. apart i j (omega arith) m (sym e)) ∙ h.left j (omega arith) m;
    whole = λ n f x l. whole_by n f x l (i == x) (other == x) refl refl;
  }

-- the first so many of these arrays are taken
pub record IsTaken (numbers : List ℕ) (first : List (List ℤ)) (i : ℕ) (taken arrays : List (List ℤ)) : Type 0 where
  pub many : length arrays ≡ length first
  pub are : taken ≡ map (λ x. slice_index_or first x []) (take i numbers)
  pub left : (j : ℕ) → i ≤ j → j < length numbers → slice_index_or arrays (slice_index_or numbers j 0) [] ≡ slice_index_or first (slice_index_or numbers j 0) []

pub taken_more : (numbers : List ℕ) (first taken arrays taken' arrays' : List (List ℤ)) (i : ℕ) (a : List ℤ) → i < length numbers
    → ((j k : ℕ) → j < k → k < length numbers → slice_index_or numbers j 0 ≢ slice_index_or numbers k 0) → IsTaken numbers first i taken arrays
    → a ≡ slice_index_or arrays (slice_index_or numbers i 0) [] → arrays' ≡ set arrays (slice_index_or numbers i 0) [] → taken' ≡ taken ++ a ∷ [] → IsTaken numbers first (i + 1) taken' arrays'
taken_more numbers first taken arrays taken' arrays' i a l apart h e f g =
    let at : List ℤ → List (List ℤ) = λ v. map (λ x. slice_index_or first x []) (take i numbers) ++ v ∷ [] in
    record {
      many = ap length f ∙ length-set arrays (slice_index_or numbers i 0) [] ∙ h.many;
      are = g ∙ ap (λ xs. xs ++ a ∷ []) h.are ∙ ap at (e ∙ h.left i (omega arith) l) ∙ sym (ap (map (λ x. slice_index_or first x [])) (take_more numbers i 0 l) ∙ map-append (λ x. slice_index_or first x []) (take i numbers) (slice_index_or numbers i 0 ∷ []));
      left = λ j b m. ap (λ xs. slice_index_or xs (slice_index_or numbers j 0) []) f ∙ get_or-set_other arrays (slice_index_or numbers i 0) (slice_index_or numbers j 0) [] [] (λ z. apart i j (omega arith) m (sym z)) ∙ h.left j (omega arith) m;
    }
