-- What a shift keeps of a formula, and what it does to its offsets.
use Rattle.std.proofs.Common.{◌≡◌, ℕ, Bool, true, false, not, ◌&&◌, List, [], ◌∷◌, ℤ, ◌+ℤ◌, map, length, refl, sym, ◌∙◌, ap, arith, if◌then◌else◌}
use Rattle.std.specs.Prelude.{neg_ℤ}
use Rattle.std.proofs.lemmas.Bool.{and_parts, false≢true}
use Rattle.std.proofs.lemmas.Int.{ints}
use Rattle.int_types.specs.Operators.{unary_type, binary_type, common_of, unary_value}
use Rattle.int_types.specs.Ranges.{wrapped}
use Rattle.soda_ir.specs.Formula.{Formula, number, read, param, unary, binary, choice, cast, every}
use Rattle.soda_eval.specs.Points.{moved}
use Rattle.soda_eval.specs.Values.{Scope, Values, typed, valued}
use Rattle.share_shape.specs.Shifts.{first_offset, has_cell, shifted}

-- vectors of one length add up like numbers
pub moved_moved : (a b c : List ℤ) → length a ≡ length b → length b ≡ length c → moved (moved a b) c ≡ moved a (moved b c)
moved_moved [] b c h k = refl
moved_moved (x ∷ xs) [] c h k = absurd (omega arith)
moved_moved (x ∷ xs) (y ∷ ys) [] h k = absurd (omega arith)
moved_moved (x ∷ xs) (y ∷ ys) (z ∷ zs) h k =
    let first : (x +ℤ y) +ℤ z ≡ x +ℤ (y +ℤ z) = omega (arith, ints) in
    let rest : moved (moved xs ys) zs ≡ moved xs (moved ys zs) = moved_moved xs ys zs (omega arith) (omega arith) in
    cc

pub length-moved : (a b : List ℤ) → length a ≡ length b → length (moved a b) ≡ length b
length-moved [] b h = refl
length-moved (x ∷ xs) [] h = absurd (omega arith)
length-moved (x ∷ xs) (y ∷ ys) h = omega (arith, length-moved xs ys (omega arith))

-- to a vector's end and back
pub back_again : (p w o : List ℤ) → length p ≡ length w → length w ≡ length o → moved (moved p w) (moved o (map neg_ℤ w)) ≡ moved p o
back_again [] [] [] h k = refl
back_again [] [] (z ∷ zs) h k = absurd (omega arith)
back_again [] (y ∷ ys) o h k = absurd (omega arith)
back_again (x ∷ xs) [] o h k = absurd (omega arith)
back_again (x ∷ xs) (y ∷ ys) [] h k = absurd (omega arith)
back_again (x ∷ xs) (y ∷ ys) (z ∷ zs) h k =
    let first : (x +ℤ y) +ℤ (z +ℤ neg_ℤ y) ≡ x +ℤ z = omega (arith, ints) in
    let rest : moved (moved xs ys) (moved zs (map neg_ℤ ys)) ≡ moved xs zs = back_again xs ys zs (omega arith) (omega arith) in
    cc

-- the same vector before and behind
pub no_more : (o v : List ℤ) → length o ≡ length v → moved v (map neg_ℤ (moved o v)) ≡ map neg_ℤ o
no_more [] [] h = refl
no_more [] (y ∷ ys) h = absurd (omega arith)
no_more (x ∷ xs) [] h = absurd (omega arith)
no_more (x ∷ xs) (y ∷ ys) h =
    let first : y +ℤ neg_ℤ (x +ℤ y) ≡ neg_ℤ x = omega (arith, ints) in
    let rest : moved ys (map neg_ℤ (moved xs ys)) ≡ map neg_ℤ xs = no_more xs ys (omega arith) in
    cc

-- a vector and its opposite
pub to_and_fro : (o v : List ℤ) → length o ≡ length v → moved o (moved (map neg_ℤ v) v) ≡ o
to_and_fro [] [] h = refl
to_and_fro [] (y ∷ ys) h = absurd (omega arith)
to_and_fro (x ∷ xs) [] h = absurd (omega arith)
to_and_fro (x ∷ xs) (y ∷ ys) h =
    let first : x +ℤ (neg_ℤ y +ℤ y) ≡ x = omega (arith, ints) in
    let rest : moved xs (moved (map neg_ℤ ys) ys) ≡ xs = to_and_fro xs ys (omega arith) in
    cc

module _ (v : List ℤ) where
  pub every_shifted : (test : ℕ → List ℤ → Bool) (f : Formula) → every test (shifted v f) ≡ every (λ t o. test t (moved o v)) f
  every_shifted test (number n) = refl
  every_shifted test (read t o) = refl
  every_shifted test (param p k) = refl
  every_shifted test (unary op a) = every_shifted test a
  every_shifted test (binary op a b) =
      let p = every_shifted test a in let q = every_shifted test b in
      ap (λ x. x && every test (shifted v b)) p ∙ ap (λ x. every (λ t o. test t (moved o v)) a && x) q
  every_shifted test (choice c a b) =
      let r = every_shifted test c in let p = every_shifted test a in let q = every_shifted test b in
      ap (λ x. x && every test (shifted v a) && every test (shifted v b)) r
      ∙ ap (λ x. every (λ t o. test t (moved o v)) c && x && every test (shifted v b)) p
      ∙ ap (λ x. every (λ t o. test t (moved o v)) c && every (λ t o. test t (moved o v)) a && x) q
  every_shifted test (cast t a) = every_shifted test a

  pub has_shifted : (f : Formula) → has_cell (shifted v f) ≡ has_cell f
  has_shifted f = ap not (every_shifted (λ t o. false) f)

  pub typed_shifted : (s : Scope) (f : Formula) → typed s (shifted v f) ≡ typed s f
  typed_shifted s (number n) = refl
  typed_shifted s (read t o) = refl
  typed_shifted s (param p k) = refl
  typed_shifted s (unary op a) = ap (unary_type op) (typed_shifted s a)
  typed_shifted s (binary op a b) =
      ap (λ t. binary_type op t (typed s (shifted v b))) (typed_shifted s a) ∙ ap (λ t. binary_type op (typed s a) t) (typed_shifted s b)
  typed_shifted s (choice c a b) =
      ap (λ t. common_of t (typed s (shifted v b))) (typed_shifted s a) ∙ ap (λ t. common_of (typed s a) t) (typed_shifted s b)
  typed_shifted s (cast t a) = refl

  pub valued_shifted : (s : Scope) (cells : Values) (params : List ℤ) (f : Formula) → valued s cells params (shifted v f) ≡ valued s (λ t o. cells t (moved o v)) params f
  valued_shifted s cells params (number n) = refl
  valued_shifted s cells params (read t o) = refl
  valued_shifted s cells params (param p k) = refl
  valued_shifted s cells params (unary op a) =
      let t = typed_shifted s a in let x = valued_shifted s cells params a in
      ap (λ u. unary_value op u (valued s cells params (shifted v a))) t ∙ ap (λ y. unary_value op (typed s a) y) x
  valued_shifted s cells params (binary op a b) =
      let t : typed s (shifted v a) ≡ typed s a = typed_shifted s a in
      let u : typed s (shifted v b) ≡ typed s b = typed_shifted s b in
      let x : valued s cells params (shifted v a) ≡ valued s (λ t o. cells t (moved o v)) params a = valued_shifted s cells params a in
      let y : valued s cells params (shifted v b) ≡ valued s (λ t o. cells t (moved o v)) params b = valued_shifted s cells params b in
      cc
  valued_shifted s cells params (choice c a b) =
      let t : typed s (shifted v a) ≡ typed s a = typed_shifted s a in
      let u : typed s (shifted v b) ≡ typed s b = typed_shifted s b in
      let z : valued s cells params (shifted v c) ≡ valued s (λ t o. cells t (moved o v)) params c = valued_shifted s cells params c in
      let x : valued s cells params (shifted v a) ≡ valued s (λ t o. cells t (moved o v)) params a = valued_shifted s cells params a in
      let y : valued s cells params (shifted v b) ≡ valued s (λ t o. cells t (moved o v)) params b = valued_shifted s cells params b in
      cc
  valued_shifted s cells params (cast t a) = ap (wrapped t) (valued_shifted s cells params a)

-- one of two formulas has the cell
pub has_either : (x y : Bool) → not (x && y) ≡ true → not x ≡ false → not y ≡ true
has_either true y e h = e
has_either false y e h = absurd (false≢true (sym h))

pub last_of : (x y z : Bool) → not (x && y && z) ≡ true → not x ≡ false → not y ≡ false → not z ≡ true
last_of true true z e h k = e
last_of true false z e h k = absurd (false≢true (sym k))
last_of false y z e h k = absurd (false≢true (sym h))

-- a property of the first cell that every cell of the formula has
module _ (test : List ℤ → Bool) where
  first_by : (b : Bool) (x y : List ℤ) → (b ≡ true → test x ≡ true) → (b ≡ false → test y ≡ true) → test (if b then x else y) ≡ true
  first_by true x y p q = p refl
  first_by false x y p q = q refl

  pub first_passes : (f : Formula) → has_cell f ≡ true → every (λ t o. test o) f ≡ true → test (first_offset f) ≡ true
  first_passes (number n) h e = absurd (false≢true h)
  first_passes (read t o) h e = e
  first_passes (param p k) h e = absurd (false≢true h)
  first_passes (unary op a) h e = first_passes a h e
  first_passes (binary op a b) h e =
      let parts = and_parts (every (λ t o. test o) a) (every (λ t o. test o) b) e in
      first_by (has_cell a) (first_offset a) (first_offset b) (λ k. first_passes a k parts.0)
      (λ k. first_passes b (has_either (every (λ t o. false) a) (every (λ t o. false) b) h k) parts.1)
  first_passes (choice c a b) h e =
      let parts = and_parts (every (λ t o. test o) c && every (λ t o. test o) a) (every (λ t o. test o) b) e in
      let front = and_parts (every (λ t o. test o) c) (every (λ t o. test o) a) parts.0 in
      first_by (has_cell c) (first_offset c) (if has_cell a then first_offset a else first_offset b) (λ k. first_passes c k front.0)
      (λ k. first_by (has_cell a) (first_offset a) (first_offset b) (λ l. first_passes a l front.1)
      (λ l. first_passes b (last_of (every (λ t o. false) c) (every (λ t o. false) a) (every (λ t o. false) b) h k l) parts.1))
  first_passes (cast t a) h e = first_passes a h e
