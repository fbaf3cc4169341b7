-- The test for shift-equality is exact, for formulas with a cell.
use Rattle.std.proofs.Common.{◌≡◌, ℕ, zero, suc, ◌<◌, Bool, true, false, ◌&&◌, ◌==◌, List, [], ◌∷◌, ℤ, Some, None, map, slice_index_or, length, refl, sym, ◌∙◌, ap, arith, if◌then◌else◌}
use Rattle.std.specs.Prelude.{neg_ℤ}
use Rattle.std.specs.List.{list_any}
use Rattle.std.proofs.lemmas.Bool.{and_parts, eqb-true, false≢true, or_parts}
use Rattle.std.proofs.lemmas.List.{length-map}
use Rattle.soda_ir.specs.Formula.{Formula, number, read, param, unary, binary, choice, cast, every}
use Rattle.soda_eval.specs.Points.{moved}
use Rattle.share_shape.specs.Compounds.{Site}
use Rattle.share_shape.specs.Procedure.{first_shared}
use Rattle.share_shape.specs.Shifts.{IsShiftEqual, are_shift_equal, based, first_offset, has_cell, shifted}
use Rattle.share_shape.proofs.Moves.{first_passes, has_either, has_shifted, last_of, length-moved, moved_moved, no_more, to_and_fro}
use Rattle.share_shape.proofs.Same.{base_one, one_base}

-- all offsets have so many components
abbrev pub has_dims : ℕ → Formula → Bool
has_dims d f = every (λ t o. length o == d) f

module _ (d : ℕ) where
  pub shifted_shifted : (v w : List ℤ) → length v ≡ d → length w ≡ d → (f : Formula) → has_dims d f ≡ true → shifted w (shifted v f) ≡ shifted (moved v w) f
  shifted_shifted v w h k (number n) e = refl
  shifted_shifted v w h k (read t o) e = ap (read t) (moved_moved o v w (eqb-true _ _ e ∙ sym h) (h ∙ sym k))
  shifted_shifted v w h k (param p i) e = refl
  shifted_shifted v w h k (unary op a) e = ap (unary op) (shifted_shifted v w h k a e)
  shifted_shifted v w h k (binary op a b) e =
      let parts = and_parts (has_dims d a) (has_dims d b) e in
      ap (λ x. binary op x (shifted w (shifted v b))) (shifted_shifted v w h k a parts.0) ∙ ap (λ x. binary op (shifted (moved v w) a) x) (shifted_shifted v w h k b parts.1)
  shifted_shifted v w h k (choice c a b) e =
      let parts = and_parts (has_dims d c && has_dims d a) (has_dims d b) e in
      let front = and_parts (has_dims d c) (has_dims d a) parts.0 in
      ap (λ x. choice x (shifted w (shifted v a)) (shifted w (shifted v b))) (shifted_shifted v w h k c front.0)
      ∙ ap (λ x. choice (shifted (moved v w) c) x (shifted w (shifted v b))) (shifted_shifted v w h k a front.1)
      ∙ ap (λ x. choice (shifted (moved v w) c) (shifted (moved v w) a) x) (shifted_shifted v w h k b parts.1)
  shifted_shifted v w h k (cast t a) e = ap (cast t) (shifted_shifted v w h k a e)

  pub first_long : (f : Formula) → has_cell f ≡ true → has_dims d f ≡ true → length (first_offset f) ≡ d
  first_long f h e = eqb-true _ _ (first_passes (λ o. length o == d) f h e)

-- the first cell is shifted like all others
module _ (v : List ℤ) where
  one_of : (b b' : Bool) (x x' y y' : List ℤ) → b ≡ b' → (b' ≡ true → x ≡ moved x' v) → (b' ≡ false → y ≡ moved y' v) → (if b then x else y) ≡ moved (if b' then x' else y') v
  one_of b true x x' y y' e p q = ap (λ a. if a then x else y) e ∙ p refl
  one_of b false x x' y y' e p q = ap (λ a. if a then x else y) e ∙ q refl

  pub first_shifted : (f : Formula) → has_cell f ≡ true → first_offset (shifted v f) ≡ moved (first_offset f) v
  first_shifted (number n) h = absurd (false≢true h)
  first_shifted (read t o) h = refl
  first_shifted (param p k) h = absurd (false≢true h)
  first_shifted (unary op a) h = first_shifted a h
  first_shifted (binary op a b) h =
      one_of (has_cell (shifted v a)) (has_cell a) _ _ _ _ (has_shifted v a) (λ k. first_shifted a k) (λ k. first_shifted b (has_either (every (λ t o. false) a) (every (λ t o. false) b) h k))
  first_shifted (choice c a b) h =
      one_of (has_cell (shifted v c)) (has_cell c) _ _ _ _ (has_shifted v c) (λ k. first_shifted c k)
      (λ k. one_of (has_cell (shifted v a)) (has_cell a) _ _ _ _ (has_shifted v a) (λ l. first_shifted a l) (λ l. first_shifted b (last_of (every (λ t o. false) c) (every (λ t o. false) a) (every (λ t o. false) b) h k l)))
  first_shifted (cast t a) h = first_shifted a h

-- adding nothing
unmoved : (d : ℕ) (v : List ℤ) → length v ≡ d → (f : Formula) → has_dims d f ≡ true → shifted (moved (map neg_ℤ v) v) f ≡ f
unmoved d v h (number n) e = refl
unmoved d v h (read t o) e = ap (read t) (to_and_fro o v (eqb-true _ _ e ∙ sym h))
unmoved d v h (param p i) e = refl
unmoved d v h (unary op a) e = ap (unary op) (unmoved d v h a e)
unmoved d v h (binary op a b) e =
    let parts = and_parts (has_dims d a) (has_dims d b) e in
    ap (λ x. binary op x (shifted (moved (map neg_ℤ v) v) b)) (unmoved d v h a parts.0) ∙ ap (λ x. binary op a x) (unmoved d v h b parts.1)
unmoved d v h (choice c a b) e =
    let parts = and_parts (has_dims d c && has_dims d a) (has_dims d b) e in
    let front = and_parts (has_dims d c) (has_dims d a) parts.0 in
    ap (λ x. choice x (shifted (moved (map neg_ℤ v) v) a) (shifted (moved (map neg_ℤ v) v) b)) (unmoved d v h c front.0)
    ∙ ap (λ x. choice c x (shifted (moved (map neg_ℤ v) v) b)) (unmoved d v h a front.1)
    ∙ ap (λ x. choice c a x) (unmoved d v h b parts.1)
unmoved d v h (cast t a) e = ap (cast t) (unmoved d v h a e)

length-neg : (v : List ℤ) → length (map neg_ℤ v) ≡ length v
length-neg v = length-map v neg_ℤ

module _ (d : ℕ) (f g : Formula) (cell : has_cell f ≡ true) (dims : has_dims d f ≡ true) where
  pub passes : IsShiftEqual d f g → are_shift_equal f g ≡ true
  passes e =
      let v : List ℤ = e.0 in
      let o : List ℤ = first_offset f in
      let ov : length o ≡ length v = first_long d f cell dims ∙ sym e.1 in
      let first : first_offset g ≡ moved o v = ap first_offset (sym e.2) ∙ first_shifted v f cell in
      let w : List ℤ = map neg_ℤ (moved o v) in
      let lw : length w ≡ d = length-neg (moved o v) ∙ length-moved o v ov ∙ e.1 in
      let b : based g ≡ based f = ap (λ u. shifted (map neg_ℤ u) g) first ∙ ap (shifted w) (sym e.2) ∙ shifted_shifted d v w e.1 lw f dims ∙ ap (λ u. shifted u f) (no_more o v ov) in
      base_one f g (sym b)

  pub is_equal : has_cell g ≡ true → has_dims d g ≡ true → are_shift_equal f g ≡ true → IsShiftEqual d f g
  is_equal gcell gdims e =
      let o : List ℤ = first_offset f in
      let w : List ℤ = first_offset g in
      let lo : length (map neg_ℤ o) ≡ d = length-neg o ∙ first_long d f cell dims in
      let lg : length w ≡ d = first_long d g gcell gdims in
      let lw : length (map neg_ℤ w) ≡ d = length-neg w ∙ lg in
      let v : List ℤ = moved (map neg_ℤ o) w in (
        v,
        length-moved (map neg_ℤ o) w (lo ∙ sym lg) ∙ lg,
        sym (shifted_shifted d (map neg_ℤ o) w lo lg f dims) ∙ ap (shifted w) (one_base f g e) ∙ shifted_shifted d (map neg_ℤ w) w lw lg g gdims ∙ unmoved d w lg g gdims,
      )

some_none : {s : Site} → Some s ≡ None → ⊥
some_none e = cc

-- where no first compound is found, no two are shift-equal
any_at : (c : Formula) (ss : List Site) (j : ℕ) (s : Site) → j < length ss → list_any (λ (r : Site). are_shift_equal c r.compound) ss ≡ false → are_shift_equal c (slice_index_or ss j s).compound ≡ false
any_at c [] j s h e = absurd (omega arith)
any_at c (r ∷ rs) zero s h e = (or_parts (are_shift_equal c r.compound) (list_any (λ (q : Site). are_shift_equal c q.compound) rs) e).0
any_at c (r ∷ rs) (suc j) s h e =
    any_at c rs j s (omega arith) (or_parts (are_shift_equal c r.compound) (list_any (λ (q : Site). are_shift_equal c q.compound) rs) e).1

pair_by : (r : Site) (rs : List Site) (i j : ℕ) (s : Site) (b : Bool) → list_any (λ (q : Site). are_shift_equal r.compound q.compound) rs ≡ b → (if b then Some r else first_shared rs) ≡ None → i < j → j < suc (length rs)
    → (first_shared rs ≡ None → (a c : ℕ) → a < c → c < length rs → are_shift_equal (slice_index_or rs a s).compound (slice_index_or rs c s).compound ≡ false) → are_shift_equal (slice_index_or (r ∷ rs) i s).compound (slice_index_or (r ∷ rs) j s).compound ≡ false
pair_by r rs i j s true e h l m rest = absurd (some_none h)
pair_by r rs i zero s false e h l m rest = absurd (omega arith)
pair_by r rs zero (suc j) s false e h l m rest = any_at r.compound rs j s (omega arith) e
pair_by r rs (suc i) (suc j) s false e h l m rest = rest h i j (omega arith) (omega arith)

pub no_pair : (ss : List Site) → first_shared ss ≡ None → (s : Site) (i j : ℕ) → i < j → j < length ss → are_shift_equal (slice_index_or ss i s).compound (slice_index_or ss j s).compound ≡ false
no_pair [] e s i j h l = absurd (omega arith)
no_pair (r ∷ rs) e s i j h l =
    pair_by r rs i j s (list_any (λ (q : Site). are_shift_equal r.compound q.compound) rs) refl e h l (λ f a c x y. no_pair rs f s a c x y)
