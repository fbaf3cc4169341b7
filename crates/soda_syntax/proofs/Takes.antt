-- Fronts of a list by how long they are.
use Rattle.std.proofs.Common.{◌≡◌, ℕ, zero, suc, ◌+◌, ◌≤◌, List, [], ◌∷◌, ◌++◌, length, take, drop, Some, sym, ◌∙◌, ap, arith, length-append, length-take, append_assoc}
use Rattle.std.specs.Prelude.{slice_get}
use Rattle.std.proofs.Math.Seq.{take-append_seam, drop-nil}
use Rattle.std.proofs.lemmas.List.{take-append-drop}

pub get_of_drop : {A : Type 0} (n : ℕ) (xs : List A) (t : A) (r : List A) → drop n xs ≡ t ∷ r → slice_get xs n ≡ Some t
get_of_drop zero [] t r e = cc
get_of_drop zero (x ∷ xs) t r e = cc
get_of_drop (suc n) [] t r e = cc
get_of_drop (suc n) (x ∷ xs) t r e = get_of_drop n xs t r e

pub take_one_more : {A : Type 0} (n : ℕ) (xs : List A) (t : A) (r : List A) → drop n xs ≡ t ∷ r → take (suc n) xs ≡ take n xs ++ t ∷ []
take_one_more zero [] t r e = cc
take_one_more zero (x ∷ xs) t r e = let h : x ≡ t = cc in ap (λ v. v ∷ []) h
take_one_more (suc n) [] t r e = cc
take_one_more (suc n) (x ∷ xs) t r e = ap (λ v. x ∷ v) (take_one_more n xs t r e)

pub one_more_within : {A : Type 0} (n : ℕ) (xs : List A) (t : A) (r : List A) → drop n xs ≡ t ∷ r → suc n ≤ length xs
one_more_within zero [] t r e = cc
one_more_within zero (x ∷ xs) t r e = omega arith
one_more_within (suc n) [] t r e = cc
one_more_within (suc n) (x ∷ xs) t r e = let h : suc n ≤ length xs = one_more_within n xs t r e in omega arith

pub drop_add : {A : Type 0} (n m : ℕ) (xs : List A) → drop (n + m) xs ≡ drop m (drop n xs)
drop_add zero m xs = let z : 0 + m ≡ m = omega arith in ap (λ k. drop k xs) z
drop_add (suc n) m [] = drop-nil (suc n + m) ∙ sym (drop-nil m)
drop_add (suc n) m (x ∷ xs) = let z : suc n + m ≡ suc (n + m) = omega arith in ap (λ k. drop k (x ∷ xs)) z ∙ drop_add n m xs

-- a front of the first n is a front of all
pub front_taken : {A : Type 0} (n : ℕ) (xs p y : List A) → take n xs ≡ p ++ y → take (length p) xs ≡ p
front_taken n xs p y e =
    let whole : xs ≡ (p ++ y) ++ drop n xs = sym (take-append-drop n xs) ∙ ap (λ v. v ++ drop n xs) e in
    ap (take (length p)) (whole ∙ simp append_assoc) ∙ take-append_seam p (y ++ drop n xs)

pub front_short : {A : Type 0} (n : ℕ) (xs p y : List A) → take n xs ≡ p ++ y → length p ≤ n
front_short n xs p y e = omega (arith, length-append p y, length-take n xs, ap length e)

pub drop_none_short : {A : Type 0} (n : ℕ) (xs : List A) → drop n xs ≡ [] → length xs ≤ n
drop_none_short zero [] e = omega arith
drop_none_short zero (x ∷ xs) e = cc
drop_none_short (suc n) [] e = omega arith
drop_none_short (suc n) (x ∷ xs) e = let h : length xs ≤ n = drop_none_short n xs e in omega arith
