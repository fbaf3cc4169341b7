-- Arrays of given types.
use Rattle.std.proofs.Common.{◌≡◌, ℕ, zero, suc, ◌+◌, ◌<◌, ◌≤◌, List, [], ◌∷◌, ◌++◌, length, take, get_or, ℤ, refl, sym, ap, subst, arith, take_all}
use Rattle.std.proofs.lemmas.List.{take_more}
use Rattle.soda_words.specs.IntType.{IntType}
use Rattle.soda_eval.specs.Runs.{HasArrays, IsArray}

-- arrays of these types, one more
module _ (n : ℕ) where
  arrays_push : (ts : List IntType) (xs : List (List ℤ)) (t : IntType) (x : List ℤ) → HasArrays n ts xs → IsArray t n x → HasArrays n (ts ++ t ∷ []) (xs ++ x ∷ [])
  arrays_push [] [] t x all one = (one, tt)
  arrays_push [] (y ∷ ys) t x all one = absurd all
  arrays_push (u ∷ us) [] t x all one = absurd all
  arrays_push (u ∷ us) (y ∷ ys) t x all one = (all.0, arrays_push us ys t x all.1 one)

  pub arrays_more : (ts : List IntType) (xs : List (List ℤ)) (i : ℕ) (d : IntType) (x : List ℤ) → i < length ts → HasArrays n (take i ts) xs
      → IsArray (get_or ts i d) n x → HasArrays n (take (i + 1) ts) (xs ++ x ∷ [])
  arrays_more ts xs i d x lt all one =
      let P : List IntType → Type 0 = λ us. HasArrays n us (xs ++ x ∷ []) in
      subst P (sym (take_more ts i d lt)) (arrays_push (take i ts) xs (get_or ts i d) x all one)

  pub arrays_all : (ts : List IntType) (xs : List (List ℤ)) (i : ℕ) → length ts ≤ i → HasArrays n (take i ts) xs → HasArrays n ts xs
  arrays_all ts xs i le all = let P : List IntType → Type 0 = λ us. HasArrays n us xs in subst P (take_all i ts le) all

  pub array_at : (ts : List IntType) (xs : List (List ℤ)) (i : ℕ) (d : IntType) (e : List ℤ) → i < length ts → HasArrays n ts xs → IsArray (get_or ts i d) n (get_or xs i e)
  array_at [] xs i d e lt all = absurd (omega arith)
  array_at (t ∷ ts) [] i d e lt all = absurd all
  array_at (t ∷ ts) (x ∷ xs) zero d e lt all = all.0
  array_at (t ∷ ts) (x ∷ xs) (suc i) d e lt all = array_at ts xs i d e (omega arith) all.1

  pub as_many : (ts : List IntType) (xs : List (List ℤ)) → HasArrays n ts xs → length xs ≡ length ts
  as_many [] [] all = refl
  as_many [] (x ∷ xs) all = absurd all
  as_many (t ∷ ts) [] all = absurd all
  as_many (t ∷ ts) (x ∷ xs) all = ap suc (as_many ts xs all.1)
