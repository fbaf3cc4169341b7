-- Cell numbers and points.
use Rattle.std.proofs.Common.{◌≡◌, ℕ, zero, suc, ◌+◌, ◌*◌, ◌/◌, ◌%◌, ◌<◌, true, ◌&&◌, List, [], ◌∷◌, ◌++◌, slice_index_or, length-append, ℤ, pos, negsuc, ◌+ℤ◌, ◌*ℤ◌, unsigned_abs, length, refl, sym, ◌∙◌, ap, arith, rules, int_lt, int_le}
use Rattle.std.proofs.lemmas.Bool.{and_from, and_parts}
use Rattle.std.proofs.lemmas.Int.{ints}
use Rattle.std.proofs.lemmas.Nat.{div-add-mod', mod_below, div_below, div-mul-add, mod-mul-add, mul-add-lt}
use Rattle.std.proofs.Math.IntN.{suc_ℤ-*ℤ}
use borrow.Author.Tests.{ltb-true}
use Rattle.soda_ir.specs.Points.{size, linear}
use Rattle.soda_eval.specs.Points.{in_box, point, moved}

within : (r n : ℕ) → r < n → (int_le (pos 0) (pos r) && int_lt (pos r) (pos n)) ≡ true
within r n h = search (rules, ints)

-- a product of naturals, as whole numbers
times : (n m : ℕ) → pos n *ℤ pos m ≡ pos (n * m)
times n m = refl

positive : (i n s : ℕ) → i < n * s → 0 < n
positive i zero s h = absurd (omega arith)
positive i (suc n) s h = omega arith

-- the point of a cell number lies in the box, and its number is that one
pub point_there : (ns : List ℕ) (i : ℕ) → i < size ns → (in_box ns (point ns i) ≡ true) × (linear ns (point ns i) ≡ pos i)
point_there [] i h = (refl, omega (arith, ints))
point_there (n ∷ ns) i h =
    let z : 0 < n = positive i n (size ns) h in
    let r : i % n < n = mod_below i n z in
    let q : i / n < size ns = div_below i n (size ns) z (omega arith) in
    let rest = point_there ns (i / n) q in
    let l : pos n *ℤ linear ns (point ns (i / n)) ≡ pos (n * (i / n)) = ap (λ v. pos n *ℤ v) rest.1 in
    (and_from (int_le (pos 0) (pos (i % n)) && int_lt (pos (i % n)) (pos n)) (in_box ns (point ns (i / n))) (within (i % n) n r) rest.0, omega (arith, ints, l, div-add-mod' i n))

natural : (d : ℤ) (n : ℕ) → (int_le (pos 0) d && int_lt d (pos n)) ≡ true → (d ≡ pos (unsigned_abs d)) × (unsigned_abs d < n)
natural (pos a) n h = (refl, ltb-true a n (and_parts (int_le (pos 0) (pos a)) (int_lt (pos a) (pos n)) h).1)
natural (negsuc a) n h = cc

-- the number of a point of the box is that of a cell, whose point it is
pub number_back : (ns : List ℕ) (p : List ℤ) → in_box ns p ≡ true → (linear ns p ≡ pos (unsigned_abs (linear ns p))) × (unsigned_abs (linear ns p) < size ns) × (point ns (unsigned_abs (linear ns p)) ≡ p)
number_back [] [] h = (refl, omega arith, refl)
number_back [] (d ∷ ds) h = cc
number_back (n ∷ ns) [] h = cc
number_back (n ∷ ns) (d ∷ ds) h =
    let one = natural d n (and_parts (int_le (pos 0) d && int_lt d (pos n)) (in_box ns ds) h).0 in
    let rest = number_back ns ds (and_parts (int_le (pos 0) d && int_lt d (pos n)) (in_box ns ds) h).1 in
    let a : linear (n ∷ ns) (d ∷ ds) ≡ pos (unsigned_abs d) +ℤ (pos n *ℤ pos (unsigned_abs (linear ns ds))) = ap (λ v. v +ℤ (pos n *ℤ linear ns ds)) one.0 ∙ ap (λ v. pos (unsigned_abs d) +ℤ (pos n *ℤ v)) rest.0 in
    let b : linear (n ∷ ns) (d ∷ ds) ≡ pos (unsigned_abs d + n * unsigned_abs (linear ns ds)) = a in
    let e : unsigned_abs (linear (n ∷ ns) (d ∷ ds)) ≡ unsigned_abs (linear ns ds) * n + unsigned_abs d = ap unsigned_abs b ∙ omega arith in
    let f : unsigned_abs (linear ns ds) * n + unsigned_abs d < n * size ns = mul-add-lt (unsigned_abs (linear ns ds)) n (unsigned_abs d) (size ns) rest.1 one.1 in
    let i : (unsigned_abs (linear ns ds) * n + unsigned_abs d) % n ≡ unsigned_abs d = mod-mul-add (unsigned_abs (linear ns ds)) n (unsigned_abs d) one.1 in
    let j : (unsigned_abs (linear ns ds) * n + unsigned_abs d) / n ≡ unsigned_abs (linear ns ds) = div-mul-add (unsigned_abs (linear ns ds)) n (unsigned_abs d) one.1 in
    (b ∙ ap pos (sym (ap unsigned_abs b)), omega (arith, e, f), ap (point (n ∷ ns)) e ∙ ap (λ v. pos v ∷ point ns ((unsigned_abs (linear ns ds) * n + unsigned_abs d) / n)) i ∙ ap (λ v. pos (unsigned_abs d) ∷ point ns v) j ∙ ap (λ v. pos (unsigned_abs d) ∷ v) rest.2 ∙ ap (λ v. v ∷ ds) (sym one.0))

-- the inner ones of two sums change places
swap4 : (a b c d : ℤ) → (a +ℤ b) +ℤ (c +ℤ d) ≡ (a +ℤ c) +ℤ (b +ℤ d)
swap4 a b c d = omega (arith, ints)

scale_add : (n : ℕ) (x y : ℤ) → pos n *ℤ (x +ℤ y) ≡ (pos n *ℤ x) +ℤ (pos n *ℤ y)
scale_add zero x y = omega (arith, ints)
scale_add (suc n) x y =
    let a : pos (suc n) *ℤ (x +ℤ y) ≡ (pos n *ℤ (x +ℤ y)) +ℤ (x +ℤ y) = suc_ℤ-*ℤ (pos n) (x +ℤ y) in
    let b : pos (suc n) *ℤ x ≡ (pos n *ℤ x) +ℤ x = suc_ℤ-*ℤ (pos n) x in
    let c : pos (suc n) *ℤ y ≡ (pos n *ℤ y) +ℤ y = suc_ℤ-*ℤ (pos n) y in
    let h = scale_add n x y in
    a ∙ ap (λ v. v +ℤ (x +ℤ y)) h ∙ swap4 (pos n *ℤ x) (pos n *ℤ y) x y ∙ ap (λ v. v +ℤ ((pos n *ℤ y) +ℤ y)) (sym b) ∙ ap (λ v. (pos (suc n) *ℤ x) +ℤ v) (sym c)

-- the linear offset of a moved point
pub linear_moved : (ns : List ℕ) (p o : List ℤ) → length p ≡ length ns → length o ≡ length ns → linear ns (moved p o) ≡ linear ns p +ℤ linear ns o
linear_moved [] p o a b = refl
linear_moved (n ∷ ns) [] o a b = absurd (omega arith)
linear_moved (n ∷ ns) (d ∷ ds) [] a b = absurd (omega arith)
linear_moved (n ∷ ns) (d ∷ ds) (e ∷ es) a b =
    let h : linear ns (moved ds es) ≡ linear ns ds +ℤ linear ns es = linear_moved ns ds es (omega arith) (omega arith) in
    let k = scale_add n (linear ns ds) (linear ns es) in
    rw h (rw k (swap4 d e (pos n *ℤ linear ns ds) (pos n *ℤ linear ns es)))

-- the last extent is no matter for a distance
linear_last : (n : ℕ) (o : List ℤ) → linear (n ∷ []) o ≡ slice_index_or o 0 (pos 0)
linear_last n [] = refl
linear_last n (d ∷ ds) = omega (arith, ints)

linear_end : (ns : List ℕ) (a b : ℕ) (o : List ℤ) → linear (ns ++ a ∷ []) o ≡ linear (ns ++ b ∷ []) o
linear_end [] a b o = linear_last a o ∙ sym (linear_last b o)
linear_end (n ∷ ns) a b [] = refl
linear_end (n ∷ ns) a b (d ∷ ds) = ap (λ v. d +ℤ (pos n *ℤ v)) (linear_end ns a b ds)

length-point : (ns : List ℕ) (i : ℕ) → length (point ns i) ≡ length ns
length-point [] i = refl
length-point (n ∷ ns) i = omega (arith, length-point ns (i / n))

-- the number of the cell that a read means is found by its distance, where the cell lies in the box
module _ (ns : List ℕ) (rows i : ℕ) (o : List ℤ) where
  abbrev ext : List ℕ
  ext = ns ++ rows ∷ []

  abbrev target : List ℤ
  target = moved (point ext i) o

  pub read_number : i < size ext → length o ≡ suc (length ns) → in_box ext target ≡ true → pos i +ℤ linear (ns ++ 1 ∷ []) o ≡ pos (unsigned_abs (linear ext target))
  read_number h l e =
      let many : length ext ≡ suc (length ns) = omega (arith, length-append ns (rows ∷ [])) in
      let m : linear ext target ≡ linear ext (point ext i) +ℤ linear ext o = linear_moved ext (point ext i) o (length-point ext i) (l ∙ sym many) in
      ap (λ v. v +ℤ linear (ns ++ 1 ∷ []) o) (sym (point_there ext i h).1)
      ∙ ap (λ v. linear ext (point ext i) +ℤ v) (linear_end ns 1 rows o)
      ∙ sym m
      ∙ (number_back ext target e).0
