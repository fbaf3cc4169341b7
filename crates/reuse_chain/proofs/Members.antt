-- The elements of a list, of its image and of what a filter keeps.
use Rattle.std.proofs.Common.{◌≡◌, ℕ, ◌<◌, Bool, true, false, cond, List, [], ◌∷◌, map, arith, refl, sym, subst, ◌⊎◌, ⊎_elim, inl, inr}
use Rattle.std.specs.List.{Contains, filter, range_with_len}
use Rattle.std.proofs.lemmas.List.Elements.{Contains-append_right, Contains-append_cases, Contains-push_cases}
use Rattle.std.proofs.lemmas.List.FromFn.{length-range_with_len, get_or-range_with_len}

pub none : {P : Type 0} (x : ℕ) → Contains [] x → P
none x h = absurd (omega (arith, h.1))

pub head : (x : ℕ) (xs : List ℕ) → Contains (x ∷ xs) x
head x xs = (0, omega arith, refl)

pub tail : (y : ℕ) (xs : List ℕ) (x : ℕ) → Contains xs x → Contains (y ∷ xs) x
tail y xs x h = Contains-append_right (y ∷ []) xs x h

pub cases : (y : ℕ) (xs : List ℕ) (x : ℕ) → Contains (y ∷ xs) x → (y ≡ x) ⊎ Contains xs x
cases y xs x h =
    ⊎_elim
    (λ first. ⊎_elim (λ nothing. none x nothing) (λ e. inl e) (Contains-push_cases [] y x first))
    (λ later. inr later)
    (Contains-append_cases (y ∷ []) xs x h)

pub mapped : (f : ℕ → ℕ) (xs : List ℕ) (x : ℕ) → Contains xs x → Contains (map f xs) (f x)
mapped f [] x h = none x h
mapped f (y ∷ ys) x h =
    ⊎_elim
    (λ e. subst (λ (z : ℕ). Contains (f y ∷ map f ys) (f z)) e (head (f y) (map f ys)))
    (λ later. tail (f y) (map f ys) (f x) (mapped f ys x later))
    (cases y ys x h)

kept : (b : Bool) (y : ℕ) (xs : List ℕ) (x : ℕ) → Contains xs x → Contains (cond b (y ∷ xs) xs) x
kept true y xs x h = tail y xs x h
kept false y xs x h = h

-- a filter keeps each element that passes
pub filtered : (p : ℕ → Bool) (xs : List ℕ) (x : ℕ) → Contains xs x → p x ≡ true → Contains (filter p xs) x
filtered p [] x h e = none x h
filtered p (y ∷ ys) x h e =
    ⊎_elim
    (λ same. subst (λ (b : Bool). Contains (cond b (y ∷ filter p ys) (filter p ys)) x) (sym (subst (λ (z : ℕ). p z ≡ true) (sym same) e))
    (subst (λ (z : ℕ). Contains (y ∷ filter p ys) z) same (head y (filter p ys))))
    (λ later. kept (p y) y (filter p ys) x (filtered p ys x later e))
    (cases y ys x h)

-- the numbers below n are in the range of n numbers from 0
pub ranged : (n x : ℕ) → x < n → Contains (range_with_len 0 n) x
ranged n x h =
    (x, omega (arith, length-range_with_len 0 n), omega (arith, get_or-range_with_len 0 n x x h))
