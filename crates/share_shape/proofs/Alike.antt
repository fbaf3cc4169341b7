-- Shift-equal formulas have one mark.
use Rattle.std.proofs.Common.{◌≡◌, ℕ, suc, ◌+◌, ◌<◌, true, ◌&&◌, List, [], ◌∷◌, ◌++◌, length, map, take, fold, ℤ, pos, ◌+ℤ◌, slice_index_or, Option, Some, None, option_map, refl, sym, ◌∙◌, ap, arith}
use Rattle.std.specs.Prelude.{neg_ℤ, ◌-ℤ◌}
use Rattle.std.proofs.lemmas.Bool.{and_parts, eqb-true}
use Rattle.std.proofs.lemmas.Int.{ints}
use Rattle.std.proofs.lemmas.List.{length-map}
use Rattle.soda_words.specs.Tokens.{or_else}
use Rattle.soda_ir.specs.Formula.{Formula, number, read, param, unary, binary, choice, cast}
use Rattle.soda_eval.specs.Points.{moved}
use Rattle.share_shape.specs.Shifts.{are_shift_equal, first_offset, has_cell, shifted, unary_number, binary_number}
use Rattle.share_shape.proofs.Counting.{same_cell}
use Rattle.share_shape.proofs.Exact.{first_long, has_dims}
use Rattle.share_shape.proofs.Same.{one_base}
use Rattle.share_shape.proofs.Offsets.{empty, moved_more}
use Rattle.share_shape.specs.machine.Marks.{apart, between, first_of, mark, mixed, pair_mark, part, type_number}

-- two vectors that are moved alike are as far apart as before
moved_alike : (v o w : List ℤ) → length o ≡ length v → length w ≡ length v → moved (moved w v) (map neg_ℤ (moved o v)) ≡ moved w (map neg_ℤ o)
moved_alike [] [] [] h k = refl
moved_alike [] (x ∷ xs) w h k = absurd (omega arith)
moved_alike [] [] (y ∷ ys) h k = absurd (omega arith)
moved_alike (z ∷ zs) [] w h k = absurd (omega arith)
moved_alike (z ∷ zs) (x ∷ xs) [] h k = absurd (omega arith)
moved_alike (z ∷ zs) (x ∷ xs) (y ∷ ys) h k =
    let first : (y +ℤ z) +ℤ neg_ℤ (x +ℤ z) ≡ y +ℤ neg_ℤ x = omega (arith, ints) in
    let rest : moved (moved ys zs) (map neg_ℤ (moved xs zs)) ≡ moved ys (map neg_ℤ xs) = moved_alike zs xs ys (omega arith) (omega arith) in
    cc

abbrev Long : ℕ → Option (List ℤ) → Type 0
Long d o = elim o [ None ↦ Unit {0} | Some w ↦ length w ≡ d ]

either_long : (d : ℕ) (x y : Option (List ℤ)) → Long d x → Long d y → Long d (or_else x y)
either_long d None y h k = k
either_long d (Some o) y h k = h

module _ (d : ℕ) where
  first_has : (f : Formula) → has_dims d f ≡ true → Long d (first_of f)
  first_has (number n) e = tt
  first_has (read t o) e = eqb-true _ _ e
  first_has (param p k) e = tt
  first_has (unary op a) e = first_has a e
  first_has (binary op a b) e =
      let parts = and_parts (has_dims d a) (has_dims d b) e in
      either_long d (first_of a) (first_of b) (first_has a parts.0) (first_has b parts.1)
  first_has (choice c a b) e =
      let parts = and_parts (has_dims d c && has_dims d a) (has_dims d b) e in
      let front = and_parts (has_dims d c) (has_dims d a) parts.0 in
      either_long d (first_of c) (or_else (first_of a) (first_of b)) (first_has c front.0) (either_long d (first_of a) (first_of b) (first_has a front.1) (first_has b parts.1))
  first_has (cast t a) e = first_has a e

  module _ (v : List ℤ) (long : length v ≡ d) where
    abbrev to : Option (List ℤ) → Option (List ℤ)
    to o = option_map (λ w. moved w v) o

    to_either : (x y : Option (List ℤ)) → or_else (to x) (to y) ≡ to (or_else x y)
    to_either None y = refl
    to_either (Some o) y = refl

    first_shifted : (f : Formula) → first_of (shifted v f) ≡ to (first_of f)
    first_shifted (number n) = refl
    first_shifted (read t o) = refl
    first_shifted (param p k) = refl
    first_shifted (unary op a) = first_shifted a
    first_shifted (binary op a b) =
        ap (λ x. or_else x (first_of (shifted v b))) (first_shifted a) ∙ ap (or_else (to (first_of a))) (first_shifted b) ∙ to_either (first_of a) (first_of b)
    first_shifted (choice c a b) =
        ap (λ x. or_else x (or_else (first_of (shifted v a)) (first_of (shifted v b)))) (first_shifted c)
        ∙ ap (λ x. or_else (to (first_of c)) (or_else x (first_of (shifted v b)))) (first_shifted a)
        ∙ ap (λ x. or_else (to (first_of c)) (or_else (to (first_of a)) x)) (first_shifted b)
        ∙ ap (or_else (to (first_of c))) (to_either (first_of a) (first_of b)) ∙ to_either (first_of c) (or_else (first_of a) (first_of b))
    first_shifted (cast t a) = first_shifted a

    apart_alike : (o w : List ℤ) → length o ≡ d → length w ≡ d → apart (moved o v) (moved w v) ≡ apart o w
    unfolding apart
    apart_alike o w h k =
        ap (λ ds. fold (λ n e. mixed n (part e)) 0 ds) (moved_alike v o w (h ∙ sym long) (k ∙ sym long))

    between_alike : (x y : Option (List ℤ)) → Long d x → Long d y → between (to x) (to y) ≡ between x y
    between_alike None y h k = refl
    between_alike (Some o) None h k = refl
    between_alike (Some o) (Some w) h k = apart_alike o w h k

    pair_shifted : (m n : ℕ) (x y x' y' : Option (List ℤ)) (m' n' : ℕ) → m' ≡ m → n' ≡ n → x' ≡ to x → y' ≡ to y → Long d x → Long d y → pair_mark m' n' x' y' ≡ pair_mark m n x y
    pair_shifted m n x y x' y' m' n' e f g h k l =
        ap (λ z. mixed (mixed z n') (between x' y')) e ∙ ap (λ z. mixed (mixed m z) (between x' y')) f
        ∙ ap (λ z. mixed (mixed m n) (between z y')) g ∙ ap (λ z. mixed (mixed m n) (between (to x) z)) h
        ∙ ap (mixed (mixed m n)) (between_alike x y k l)

    mark_shifted : (f : Formula) → has_dims d f ≡ true → mark (shifted v f) ≡ mark f
    mark_shifted (number n) e = refl
    mark_shifted (read t o) e = refl
    mark_shifted (param p k) e = refl
    mark_shifted (unary op a) e = ap (mixed (mixed 4 (unary_number op))) (mark_shifted a e)
    mark_shifted (binary op a b) e =
        let parts = and_parts (has_dims d a) (has_dims d b) e in
        ap (mixed (mixed 5 (binary_number op))) (pair_shifted (mark a) (mark b) (first_of a) (first_of b) _ _ _ _ (mark_shifted a parts.0) (mark_shifted b parts.1) (first_shifted a) (first_shifted b) (first_has a parts.0) (first_has b parts.1))
    mark_shifted (choice c a b) e =
        let parts = and_parts (has_dims d c && has_dims d a) (has_dims d b) e in
        let front = and_parts (has_dims d c) (has_dims d a) parts.0 in
        let inner = pair_shifted (mark a) (mark b) (first_of a) (first_of b) _ _ _ _ (mark_shifted a front.1) (mark_shifted b parts.1) (first_shifted a) (first_shifted b) (first_has a front.1) (first_has b parts.1) in
        let both : or_else (first_of (shifted v a)) (first_of (shifted v b)) ≡ to (or_else (first_of a) (first_of b)) = ap (λ x. or_else x (first_of (shifted v b))) (first_shifted a) ∙ ap (or_else (to (first_of a))) (first_shifted b) ∙ to_either (first_of a) (first_of b) in
        pair_shifted (mark c) (pair_mark (mark a) (mark b) (first_of a) (first_of b)) (first_of c) (or_else (first_of a) (first_of b)) _ _ _ _ (mark_shifted c front.0) inner (first_shifted c) both (first_has c front.0) (either_long d (first_of a) (first_of b) (first_has a front.1) (first_has b parts.1))
    mark_shifted (cast t a) e = ap (mixed (mixed 6 (type_number t))) (mark_shifted a e)

  -- shift-equal formulas have one mark
  pub same_mark : (f g : Formula) → has_cell f ≡ true → has_dims d f ≡ true → has_dims d g ≡ true → are_shift_equal f g ≡ true → mark f ≡ mark g
  same_mark f g cell h k e =
      let other : has_cell g ≡ true = sym (same_cell f g e) ∙ cell in
      let long_f : length (map neg_ℤ (first_offset f)) ≡ d = length-map (first_offset f) neg_ℤ ∙ first_long d f cell h in
      let long_g : length (map neg_ℤ (first_offset g)) ≡ d = length-map (first_offset g) neg_ℤ ∙ first_long d g other k in
      sym (mark_shifted (map neg_ℤ (first_offset f)) long_f f h) ∙ ap mark (one_base f g e) ∙ mark_shifted (map neg_ℤ (first_offset g)) long_g g k

-- one component more
fold_push : (f : ℕ → ℤ → ℕ) (xs : List ℤ) (z : ℕ) (x : ℤ) → fold f z (xs ++ x ∷ []) ≡ f (fold f z xs) x
fold_push f [] z x = refl
fold_push f (y ∷ ys) z x = fold_push f ys (f z y) x

pub apart_none : (w : List ℤ) → 0 ≡ apart [] w
unfolding apart
apart_none w = sym (ap (λ ds. fold (λ n e. mixed n (part e)) 0 ds) (empty w))

pub apart_next : (from to : List ℤ) (i m n : ℕ) (d : ℤ) → i < length from → m ≡ apart (take i from) to → d ≡ slice_index_or to i (pos 0) +ℤ neg_ℤ (slice_index_or from i (pos 0)) → n ≡ mixed m (part d) → n ≡ apart (take (i + 1) from) to
unfolding apart
apart_next from to i m n d l a b e =
    let s : suc i ≡ i + 1 = omega arith in
    let less : slice_index_or to i (pos 0) -ℤ slice_index_or from i (pos 0) ≡ d = omega (arith, ints, b) in
    e ∙ ap (λ k. mixed k (part d)) a ∙ ap (λ x. mixed (fold (λ k c. mixed k (part c)) 0 (moved to (map neg_ℤ (take i from)))) (part x)) (sym less)
    ∙ sym (fold_push (λ k c. mixed k (part c)) (moved to (map neg_ℤ (take i from))) 0 (slice_index_or to i (pos 0) -ℤ slice_index_or from i (pos 0)))
    ∙ ap (λ ds. fold (λ k c. mixed k (part c)) 0 ds) (sym (moved_more to from i l)) ∙ ap (λ k. fold (λ j c. mixed j (part c)) 0 (moved to (map neg_ℤ (take k from)))) s
