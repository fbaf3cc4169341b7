-- Lists of numbers that rise strictly: each is known by its elements, and its gaps sum to its greatest element.
use Rattle.std.proofs.Common.{◌≡◌, ℕ, zero, suc, ◌+◌, ◌-◌, ◌<◌, ◌≤◌, List, [], ◌∷◌, ◌++◌, length, get_or, take, arith, refl, sym, ◌∙◌, ap, ⊎_elim}
use Rattle.std.specs.List.{All, AllPairs, Contains, sum, range_with_len}
use Rattle.std.specs.List.Sorted.{IsStrictlyIncreasing}
use Rattle.std.proofs.lemmas.List.{take_more}
use Rattle.std.proofs.lemmas.List.Elements.{All-contains}
use Rattle.std.proofs.lemmas.List.FromFn.{length-range_with_len, get_or-range_with_len}
use Rattle.std.proofs.lemmas.List.Kept.{AllPairs-from_increasing}
use Rattle.std.proofs.lemmas.List.Sums.{sum_by-cons}
use Rattle.reuse_chain.specs.Lanes.{greatest, differences, gaps_of}
use Rattle.reuse_chain.proofs.Members.{none, head, tail, cases}

-- each element is below all later ones
abbrev pub Rises : List ℕ → Type 0
Rises [] = Unit {0}
Rises (x ∷ xs) = All (λ y. x < y) xs × Rises xs

-- and so a list rises that does so by pairs
pub by_pairs : (xs : List ℕ) → AllPairs (λ x y. x < y) xs → Rises xs
by_pairs [] pairs = tt
by_pairs (x ∷ xs) pairs =
    (λ k d h. pairs 0 (suc k) d (omega arith) (omega arith), by_pairs xs (λ i j d p q. pairs (suc i) (suc j) d (omega arith) (omega arith)))

pub rises : (xs : List ℕ) → IsStrictlyIncreasing xs → Rises xs
rises xs up = by_pairs xs (AllPairs-from_increasing xs up)

pub range_rises : (n : ℕ) → IsStrictlyIncreasing (range_with_len 0 n)
range_rises n k h =
    let below : k + 1 < n = rw (length-range_with_len 0 n) at h in
    omega (arith, get_or-range_with_len 0 n k 0 (omega arith), get_or-range_with_len 0 n (k + 1) 0 below)

first_le : (y : ℕ) (ys : List ℕ) (x : ℕ) → All (λ z. y < z) ys → Contains (y ∷ ys) x → y ≤ x
first_le y ys x above h =
    ⊎_elim (λ e. omega arith) (λ later. omega (arith, All-contains (λ z. y < z) ys x above later)) (cases y ys x h)

-- an element of the rest is one of the other rest
rest_in : (x y : ℕ) (xs ys : List ℕ) → x ≡ y → All (λ z. x < z) xs → ((z : ℕ) → Contains (x ∷ xs) z → Contains (y ∷ ys) z) → (z : ℕ) → Contains xs z
    → Contains ys z
rest_in x y xs ys e above to z h =
    ⊎_elim
    (λ same. absurd (omega (arith, All-contains (λ v. x < v) xs z above h)))
    (λ later. later)
    (cases y ys z (to z (tail x xs z h)))

-- two lists that rise and have the same elements are one
pub same : (xs ys : List ℕ) → Rises xs → Rises ys → ((z : ℕ) → Contains xs z → Contains ys z) → ((z : ℕ) → Contains ys z → Contains xs z) → xs ≡ ys
same [] [] r s to back = refl
same [] (y ∷ ys) r s to back = none y (back y (head y ys))
same (x ∷ xs) [] r s to back = none x (to x (head x xs))
same (x ∷ xs) (y ∷ ys) r s to back =
    let down : y ≤ x = first_le y ys x s.0 (to x (head x xs)) in
    let up : x ≤ y = first_le x xs y r.0 (back y (head y ys)) in
    let first : x ≡ y = omega arith in
    let rest : xs ≡ ys = same xs ys r.1 s.1 (rest_in x y xs ys first r.0 to) (rest_in y x ys xs (sym first) s.0 back) in
    ap (λ z. z ∷ xs) first ∙ ap (λ zs. y ∷ zs) rest

span : (t : ℕ) (ts : List ℕ) → Rises (t ∷ ts) → t + sum (differences t ts) ≡ greatest (t ∷ ts)
span t [] r = omega arith
span t (u ∷ us) r =
    let below : t < u = r.0 0 0 (omega arith) in
    omega (arith, span u us r.1, sum_by-cons (λ x. x) (u - t) (differences u us))

-- the gaps sum to the greatest tap
pub sum-gaps_of : (ts : List ℕ) → Rises ts → sum (gaps_of ts) ≡ greatest ts
sum-gaps_of [] r = refl
sum-gaps_of (t ∷ ts) r = sum_by-cons (λ x. x) t (differences t ts) ∙ span t ts r

-- the last element, or what stands before the list
abbrev pub last_or : ℕ → List ℕ → ℕ
last_or before [] = before
last_or before (t ∷ ts) = last_or t ts

pub last_or-push : (before : ℕ) (ts : List ℕ) (y : ℕ) → last_or before (ts ++ y ∷ []) ≡ y
last_or-push before [] y = refl
last_or-push before (t ∷ ts) y = last_or-push t ts y

differences-push : (before : ℕ) (ts : List ℕ) (y : ℕ) → differences before (ts ++ y ∷ []) ≡ differences before ts ++ (y - last_or before ts) ∷ []
differences-push before [] y = refl
differences-push before (t ∷ ts) y = ap (λ ds. (t - before) ∷ ds) (differences-push t ts y)

pub gaps_of-push : (ts : List ℕ) (y : ℕ) → gaps_of (ts ++ y ∷ []) ≡ gaps_of ts ++ (y - last_or 0 ts) ∷ []
gaps_of-push [] y = let e : y ≡ y - 0 = omega arith in ap (λ n. n ∷ []) e
gaps_of-push (t ∷ ts) y = ap (λ ds. t ∷ ds) (differences-push t ts y)

-- the loop's step: one tap more
pub gaps_of_more : (ts : List ℕ) (i : ℕ) → i < length ts → gaps_of (take (i + 1) ts) ≡ gaps_of (take i ts) ++ (get_or ts i 0 - last_or 0 (take i ts)) ∷ []
gaps_of_more ts i h = ap gaps_of (take_more ts i 0 h) ∙ gaps_of-push (take i ts) (get_or ts i 0)

pub last_or_more : (ts : List ℕ) (i : ℕ) → i < length ts → last_or 0 (take (i + 1) ts) ≡ get_or ts i 0
last_or_more ts i h = ap (last_or 0) (take_more ts i 0 h) ∙ last_or-push 0 (take i ts) (get_or ts i 0)

-- the tap before is not above the next
pub last_or_le : (ts : List ℕ) (i : ℕ) → IsStrictlyIncreasing ts → i < length ts → last_or 0 (take i ts) ≤ get_or ts i 0
last_or_le ts zero up h = omega arith
last_or_le ts (suc i) up h =
    let n : suc i ≡ i + 1 = omega arith in
    let below : get_or ts i 0 < get_or ts (i + 1) 0 = up i (omega arith) in
    rw n (omega (arith, last_or_more ts i (omega arith)))
