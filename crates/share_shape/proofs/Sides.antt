-- A stencil, and the one where shift-equal compounds are read from a local: the one has the meaning of the other.
use Rattle.std.proofs.Common.{◌≡◌, ℕ, ◌<◌, ◌≤◌, Bool, true, false, ◌&&◌, ◌==◌, List, [], ◌∷◌, ℤ, pos, Option, Some, None, option_map, map, slice_index_or, length, nat_lt, refl, sym, ◌∙◌, ap, arith, if◌then◌else◌}
use Rattle.std.specs.Prelude.{neg_ℤ, int_le, int_lt}
use Rattle.std.proofs.lemmas.Bool.{and_parts, eqb-true, false≢true, ltb-false, ltb-true}
use Rattle.soda_words.specs.IntType.{IntType, int32}
use Rattle.soda_words.specs.declared.operators.BinOp.{BinOp}
use Rattle.int_types.specs.Operators.{unary_type, binary_type, common_of, unary_value, binary_value, select_value}
use Rattle.int_types.specs.Ranges.{wrapped}
use Rattle.soda_ir.specs.Formula.{Formula, number, read, param, unary, binary, choice, cast, by_formula, every}
use Rattle.soda_eval.specs.Arrays.{Given, IsMeaning, Stencil, formula_at, outside_cell, type_at}
use Rattle.soda_eval.specs.Points.{in_box, moved}
use Rattle.soda_eval.specs.Values.{Values, typed, valued}
use Rattle.soda_eval.proofs.CallerLemmas.{every_same, valued_same}
use Rattle.share_shape.specs.Procedure.{further, renumbered, replaced}
use Rattle.share_shape.specs.Shifts.{are_shift_equal, based, first_offset, has_cell}
use Rattle.share_shape.proofs.Counting.{same_cell}
use Rattle.share_shape.proofs.Moves.{back_again, every_shifted, first_passes, typed_shifted, valued_shifted}
use Rattle.share_shape.proofs.Replaced.{IsKept, is_operation, kept}
use Rattle.share_shape.proofs.Same.{one_base}
use Rattle.share_shape.proofs.Settled.{settled}

-- a read of one of n tensors, at an offset of d components
abbrev pub is_there : (n d : ℕ) → ℕ → List ℤ → Bool
is_there n d t o = nat_lt t n && length o == d

-- what the one stencil is to the other, where the local of the compound c stands at number k
pub record Shares (s r : Stencil) (k n d : ℕ) (c : Formula) : Type 0 where
  pub extents : r.extents ≡ s.extents
  pub dims : length s.extents ≡ d
  pub params : r.scope.params ≡ s.scope.params
  pub starts : r.scope.starts ≡ s.scope.starts
  pub types : (t : ℕ) → type_at r (further k t) ≡ type_at s t
  pub type : type_at r k ≡ typed s.scope c
  pub formulas : (y : ℕ) → formula_at r (further k y) ≡ option_map (replaced k c) (formula_at s y)
  pub formula : formula_at r k ≡ Some (renumbered k (based c))
  pub outside : (y : ℕ) → slice_index_or r.outside (further k y) None ≡ slice_index_or s.outside y None
  pub bare : (y : ℕ) → formula_at s y ≡ None → y < n → further k y ≡ y
  pub past : (y : ℕ) → n ≤ y → formula_at s y ≡ None
  pub reads : (y : ℕ) (f : Formula) → formula_at s y ≡ Some f → every (is_there n d) f ≡ true
  pub cell : has_cell c ≡ true

box_length : (ns : List ℕ) (p : List ℤ) → in_box ns p ≡ true → length p ≡ length ns
box_length [] [] h = refl
box_length [] (x ∷ xs) h = absurd (false≢true h)
box_length (n ∷ ns) [] h = absurd (false≢true h)
box_length (n ∷ ns) (x ∷ xs) h =
    let rest = box_length ns xs (and_parts (int_le (pos 0) x && int_lt x (pos n)) (in_box ns xs) h).1 in omega arith

absorbed : (a b : Bool) → (b ≡ true → a ≡ true) → (a && b) ≡ b
absorbed true b h = refl
absorbed false true h = h refl
absorbed false false h = refl

-- values of equal parts
binary_same : (op : BinOp) (t t' u u' : IntType) (x x' y y' : ℤ) → t ≡ t' → u ≡ u' → x ≡ x' → y ≡ y' → binary_value op t x u y ≡ binary_value op t' x' u' y'
binary_same op t t' u u' x x' y y' a b p q = cc

choice_same : (c c' : ℤ) (t t' u u' : IntType) (x x' y y' : ℤ) → c ≡ c' → t ≡ t' → u ≡ u' → x ≡ x' → y ≡ y' → select_value c t x u y ≡ select_value c' t' x' u' y'
choice_same c c' t t' u u' x x' y y' e a b p q = cc

-- renumbering
module _ (k : ℕ) where
  pub every_renumbered : (test : ℕ → List ℤ → Bool) (f : Formula) → every test (renumbered k f) ≡ every (λ t o. test (further k t) o) f
  every_renumbered test (number n) = refl
  every_renumbered test (read t o) = refl
  every_renumbered test (param p i) = refl
  every_renumbered test (unary op a) = every_renumbered test a
  every_renumbered test (binary op a b) =
      ap (λ x. x && every test (renumbered k b)) (every_renumbered test a) ∙ ap (λ x. every (λ t o. test (further k t) o) a && x) (every_renumbered test b)
  every_renumbered test (choice c a b) =
      ap (λ x. x && every test (renumbered k a) && every test (renumbered k b)) (every_renumbered test c)
      ∙ ap (λ x. every (λ t o. test (further k t) o) c && x && every test (renumbered k b)) (every_renumbered test a)
      ∙ ap (λ x. every (λ t o. test (further k t) o) c && every (λ t o. test (further k t) o) a && x) (every_renumbered test b)
  every_renumbered test (cast t a) = every_renumbered test a

module _ (s r : Stencil) (k n d : ℕ) (c : Formula) (l : Shares s r k n d c) where
  typed_renumbered : (f : Formula) → typed r.scope (renumbered k f) ≡ typed s.scope f
  typed_renumbered (number m) = refl
  typed_renumbered (read t o) = l.types t
  typed_renumbered (param p i) = ap (λ (xs : List IntType). slice_index_or xs p int32) l.params
  typed_renumbered (unary op a) = ap (unary_type op) (typed_renumbered a)
  typed_renumbered (binary op a b) =
      ap (λ t. binary_type op t (typed r.scope (renumbered k b))) (typed_renumbered a) ∙ ap (λ t. binary_type op (typed s.scope a) t) (typed_renumbered b)
  typed_renumbered (choice e a b) =
      ap (λ t. common_of t (typed r.scope (renumbered k b))) (typed_renumbered a) ∙ ap (λ t. common_of (typed s.scope a) t) (typed_renumbered b)
  typed_renumbered (cast t a) = refl

  valued_renumbered : (cells : Values) (params : List ℤ) (f : Formula) → valued r.scope cells params (renumbered k f) ≡ valued s.scope (λ t o. cells (further k t) o) params f
  valued_renumbered cells params (number m) = refl
  valued_renumbered cells params (read t o) = refl
  valued_renumbered cells params (param p i) = ap (λ (xs : List ℕ). valued (record { tensors = []; params = []; starts = xs }) cells params (param p i)) l.starts
  valued_renumbered cells params (unary op a) =
      ap (λ u. unary_value op u (valued r.scope cells params (renumbered k a))) (typed_renumbered a) ∙ ap (λ y. unary_value op (typed s.scope a) y) (valued_renumbered cells params a)
  valued_renumbered cells params (binary op a b) =
      let t : typed r.scope (renumbered k a) ≡ typed s.scope a = typed_renumbered a in
      let u : typed r.scope (renumbered k b) ≡ typed s.scope b = typed_renumbered b in
      let x : valued r.scope cells params (renumbered k a) ≡ valued s.scope (λ t o. cells (further k t) o) params a = valued_renumbered cells params a in
      let y : valued r.scope cells params (renumbered k b) ≡ valued s.scope (λ t o. cells (further k t) o) params b = valued_renumbered cells params b in
      cc
  valued_renumbered cells params (choice e a b) =
      let t : typed r.scope (renumbered k a) ≡ typed s.scope a = typed_renumbered a in
      let u : typed r.scope (renumbered k b) ≡ typed s.scope b = typed_renumbered b in
      let z : valued r.scope cells params (renumbered k e) ≡ valued s.scope (λ t o. cells (further k t) o) params e = valued_renumbered cells params e in
      let x : valued r.scope cells params (renumbered k a) ≡ valued s.scope (λ t o. cells (further k t) o) params a = valued_renumbered cells params a in
      let y : valued r.scope cells params (renumbered k b) ≡ valued s.scope (λ t o. cells (further k t) o) params b = valued_renumbered cells params b in
      cc
  valued_renumbered cells params (cast t a) = ap (wrapped t) (valued_renumbered cells params a)

  -- the type of a compound is that of its local
  same_type : (f : Formula) → are_shift_equal c f ≡ true → typed s.scope c ≡ typed s.scope f
  same_type f e =
      sym (typed_shifted _ s.scope c) ∙ ap (typed s.scope) (one_base c f e) ∙ typed_shifted _ s.scope f

  module _ (g : Given) (params : List ℤ) (region : ℕ → List ℤ → Bool) (value : ℕ → List ℤ → ℤ) (m : IsMeaning r g params region value) where
    -- the regions and cells of the other, under the numbers of the one
    abbrev pub old_region : ℕ → List ℤ → Bool
    old_region y x = if nat_lt y n then region (further k y) x else (in_box s.extents x && g.region y x)

    abbrev pub old_value : ℕ → List ℤ → ℤ
    old_value y x = if nat_lt y n then value (further k y) x else g.cell y x

    region_known : (y : ℕ) (x : List ℤ) → nat_lt y n ≡ true → old_region y x ≡ region (further k y) x
    region_known y x h = ap (λ b. if b then region (further k y) x else (in_box s.extents x && g.region y x)) h

    value_known : (y : ℕ) (x : List ℤ) → nat_lt y n ≡ true → old_value y x ≡ value (further k y) x
    value_known y x h = ap (λ b. if b then value (further k y) x else g.cell y x) h

    same_box : (x : List ℤ) → in_box r.extents x ≡ in_box s.extents x
    same_box x = ap (λ (es : List ℕ). in_box es x) l.extents

    -- regions lie in the box
    region_box : (z : ℕ) (x : List ℤ) → region z x ≡ true → in_box s.extents x ≡ true
    region_box z x h =
        sym (same_box x) ∙ (and_parts (in_box r.extents x) (by_formula (formula_at r z) (g.region z x) (every (λ y o. region y (moved x o)))) (sym (m.regions z x) ∙ h)).0

    old_box_by : (y : ℕ) (x : List ℤ) (b : Bool) → (if b then region (further k y) x else (in_box s.extents x && g.region y x)) ≡ true → in_box s.extents x ≡ true
    old_box_by y x true h = region_box (further k y) x h
    old_box_by y x false h = (and_parts (in_box s.extents x) (g.region y x) h).0

    module _ (x : List ℤ) (long : length x ≡ d) where
      abbrev R : ℕ → List ℤ → Bool
      R t o = old_region t (moved x o)

      abbrev C : ℕ → List ℤ → ℤ
      C t o = old_value t (moved x o)

      module _ (f : Formula) (e : are_shift_equal c f ≡ true) (good : every (is_there n d) f ≡ true) where
        abbrev w : List ℤ
        w = moved x (first_offset f)

        has : has_cell f ≡ true
        has = sym (same_cell c f e) ∙ l.cell

        first_long : length (first_offset f) ≡ d
        first_long =
            let same = every_same (is_there n d) (is_there n d) (λ t o. length o == d) (λ t o h. h ∙ sym (and_parts (nat_lt t n) (length o == d) h).1) f good in
            eqb-true _ _ (first_passes (λ o. length o == d) f has (sym same ∙ good))

        there : (t : ℕ) (o : List ℤ) → is_there n d t o ≡ true → moved w (moved o (map neg_ℤ (first_offset f))) ≡ moved x o
        there t o h =
            let len : length o ≡ d = eqb-true _ _ (and_parts (nat_lt t n) (length o == d) h).1 in
            let one : length x ≡ length (first_offset f) = long ∙ sym first_long in
            let two : length (first_offset f) ≡ length o = first_long ∙ sym len in
            back_again x (first_offset f) o one two

        local_reads : every (λ z o. region z (moved w o)) (renumbered k (based c)) ≡ every R f
        local_reads =
            every_renumbered k (λ z o. region z (moved w o)) (based c)
            ∙ ap (every (λ t o. region (further k t) (moved w o))) (one_base c f e)
            ∙ every_shifted (map neg_ℤ (first_offset f)) (λ t o. region (further k t) (moved w o)) f
            ∙ every_same (is_there n d) (λ t o. region (further k t) (moved w (moved o (map neg_ℤ (first_offset f))))) R (λ t o h. ap (region (further k t)) (there t o h) ∙ sym (region_known t (moved x o) (and_parts (nat_lt t n) (length o == d) h).0)) f good

        in_first : every R f ≡ true → in_box s.extents w ≡ true
        in_first h =
            let boxes = every_same R R (λ t o. in_box s.extents (moved x o)) (λ t o z. z ∙ sym (old_box_by t (moved x o) (nat_lt t n) z)) f h in
            first_passes (λ o. in_box s.extents (moved x o)) f has (sym boxes ∙ h)

        -- the local is in its region where all that the compound reads is
        pub local_region : region k w ≡ every R f
        local_region =
            m.regions k w
            ∙ ap (λ b. b && by_formula (formula_at r k) (g.region k w) (every (λ z o. region z (moved w o)))) (same_box w)
            ∙ ap (λ (h : Option Formula). in_box s.extents w && by_formula h (g.region k w) (every (λ z o. region z (moved w o)))) l.formula
            ∙ ap (λ b. in_box s.extents w && b) local_reads
            ∙ absorbed (in_box s.extents w) (every R f) in_first

        local_values : valued r.scope (λ z o. value z (moved w o)) params (renumbered k (based c)) ≡ valued s.scope C params f
        local_values =
            valued_renumbered (λ z o. value z (moved w o)) params (based c)
            ∙ ap (valued s.scope (λ t o. value (further k t) (moved w o)) params) (one_base c f e)
            ∙ valued_shifted (map neg_ℤ (first_offset f)) s.scope (λ t o. value (further k t) (moved w o)) params f
            ∙ valued_same (is_there n d) s.scope params (λ t o. value (further k t) (moved w (moved o (map neg_ℤ (first_offset f))))) C (λ t o h. ap (value (further k t)) (there t o h) ∙ sym (value_known t (moved x o) (and_parts (nat_lt t n) (length o == d) h).0)) f good

        -- and its cell is the compound's value there
        pub local_value : is_operation f ≡ true → every R f ≡ true → value k w ≡ valued s.scope C params f
        local_value o h =
            let inside : region k w ≡ true = local_region ∙ h in
            m.cells k w
            ∙ ap (λ (b : Option Formula). by_formula b (g.cell k w) (λ f'. if region k w then wrapped (type_at r k) (valued r.scope (λ z o. value z (moved w o)) params f') else outside_cell r g k w)) l.formula
            ∙ ap (λ b. if b then wrapped (type_at r k) (valued r.scope (λ z o. value z (moved w o)) params (renumbered k (based c))) else outside_cell r g k w) inside
            ∙ ap (λ v. wrapped (type_at r k) v) local_values
            ∙ ap (λ (t : IntType). wrapped t (valued s.scope C params f)) (l.type ∙ same_type f e)
            ∙ settled s.scope C params f o

      abbrev S : ℕ → List ℤ → Bool
      S z o = region z (moved x o)

      abbrev V : ℕ → List ℤ → ℤ
      V z o = value z (moved x o)

      abbrev SameReads : Formula → Formula → Type 0
      SameReads f h = every (is_there n d) f ≡ true → every S h ≡ every R f

      reads_kept : IsKept k c SameReads
      reads_kept = record {
        on_number = λ m' good. refl;
        on_read = λ t o good. sym (region_known t (moved x o) (and_parts (nat_lt t n) (length o == d) good).0);
        on_param = λ p i good. refl;
        on_hit = λ f op e good. local_region f e good;
        on_unary = λ op a y e h good. h good;
        on_binary = λ op a b y z e h i good.
            let parts = and_parts (every (is_there n d) a) (every (is_there n d) b) good in
            ap (λ u. u && every S z) (h parts.0) ∙ ap (λ u. every R a && u) (i parts.1);
        on_choice = λ q a b y z w' e h i j good.
            let parts = and_parts (every (is_there n d) q && every (is_there n d) a) (every (is_there n d) b) good in
            let front = and_parts (every (is_there n d) q) (every (is_there n d) a) parts.0 in
            ap (λ u. u && every S z && every S w') (h front.0) ∙ ap (λ u. every R q && u && every S w') (i front.1) ∙ ap (λ u. every R q && every R a && u) (j parts.1);
        on_cast = λ t a y e h good. h good;
      }

      pub same_reads : (f : Formula) → every (is_there n d) f ≡ true → every S (replaced k c f) ≡ every R f
      same_reads f good = kept k c SameReads reads_kept f good

      record SameValue (f h : Formula) : Type 0 where
        pub ty : typed r.scope h ≡ typed s.scope f
        pub val : every (is_there n d) f ≡ true → every R f ≡ true → valued r.scope V params h ≡ valued s.scope C params f

      values_kept : IsKept k c SameValue
      values_kept = record {
        on_number = λ m'. record { ty = refl; val = λ good in_all. refl };
        on_read = λ t o. record {
          ty = l.types t;
          val = λ good in_all. sym (value_known t (moved x o) (and_parts (nat_lt t n) (length o == d) good).0);
        };
        on_param = λ p i. record {
          ty = ap (λ (xs : List IntType). slice_index_or xs p int32) l.params;
          val = λ good in_all. ap (λ (xs : List ℕ). valued (record { tensors = []; params = []; starts = xs }) V params (param p i)) l.starts;
        };
        on_hit = λ f op e. record {
          ty = l.type ∙ same_type f e;
          val = λ good in_all. local_value f e good op in_all;
        };
        on_unary = λ op a y e h. record {
          ty = ap (unary_type op) h.ty;
          val = λ good in_all. ap (λ u. unary_value op u (valued r.scope V params y)) h.ty ∙ ap (λ v. unary_value op (typed s.scope a) v) (h.val good in_all);
        };
        on_binary = λ op a b y z e h i. record {
          ty = ap (λ t. binary_type op t (typed r.scope z)) h.ty ∙ ap (λ t. binary_type op (typed s.scope a) t) i.ty;
          val = λ good in_all.
              let parts = and_parts (every (is_there n d) a) (every (is_there n d) b) good in
              let ins = and_parts (every R a) (every R b) in_all in
              binary_same op (typed r.scope y) (typed s.scope a) (typed r.scope z) (typed s.scope b) (valued r.scope V params y) (valued s.scope C params a) (valued r.scope V params z) (valued s.scope C params b) h.ty i.ty (h.val parts.0 ins.0) (i.val parts.1 ins.1);
        };
        on_choice = λ q a b y z w' e h i j. record {
          ty = ap (λ t. common_of t (typed r.scope w')) i.ty ∙ ap (λ t. common_of (typed s.scope a) t) j.ty;
          val = λ good in_all.
              let parts = and_parts (every (is_there n d) q && every (is_there n d) a) (every (is_there n d) b) good in
              let front = and_parts (every (is_there n d) q) (every (is_there n d) a) parts.0 in
              let ins = and_parts (every R q && every R a) (every R b) in_all in
              let infront = and_parts (every R q) (every R a) ins.0 in
              choice_same (valued r.scope V params y) (valued s.scope C params q) (typed r.scope z) (typed s.scope a) (typed r.scope w') (typed s.scope b) (valued r.scope V params z) (valued s.scope C params a) (valued r.scope V params w') (valued s.scope C params b) (h.val front.0 infront.0) i.ty j.ty (i.val front.1 infront.1) (j.val parts.1 ins.1);
        };
        on_cast = λ t a y e h. record { ty = refl; val = λ good in_all. ap (wrapped t) (h.val good in_all) };
      }

      pub same_value : (f : Formula) → every (is_there n d) f ≡ true → every R f ≡ true → valued r.scope V params (replaced k c f) ≡ valued s.scope C params f
      same_value f good in_all = (kept k c SameValue values_kept f).val good in_all

    -- the regions
    region_inside : (y : ℕ) (x : List ℤ) (f : Formula) → every (is_there n d) f ≡ true → (b : Bool) → in_box s.extents x ≡ b → (b && every (λ z o. region z (moved x o)) (replaced k c f)) ≡ (b && every (λ t o. old_region t (moved x o)) f)
    region_inside y x f good true e = same_reads x (box_length s.extents x e ∙ l.dims) f good
    region_inside y x f good false e = refl

    region_at : (y : ℕ) (x : List ℤ) → y < n → (o : Option Formula) → formula_at s y ≡ o → (in_box s.extents x && by_formula (option_map (replaced k c) o) (g.region (further k y) x) (every (λ z w. region z (moved x w)))) ≡ (in_box s.extents x && by_formula o (g.region y x) (every (λ t w. old_region t (moved x w))))
    region_at y x h None e = ap (λ i. in_box s.extents x && g.region i x) (l.bare y e h)
    region_at y x h (Some f) e = region_inside y x f (l.reads y f e) (in_box s.extents x) refl

    regions_known : (y : ℕ) (x : List ℤ) (b : Bool) → nat_lt y n ≡ b → (if b then region (further k y) x else (in_box s.extents x && g.region y x)) ≡ (in_box s.extents x && by_formula (formula_at s y) (g.region y x) (every (λ t o. old_region t (moved x o))))
    regions_known y x true h =
        m.regions (further k y) x
        ∙ ap (λ b. b && by_formula (formula_at r (further k y)) (g.region (further k y) x) (every (λ z o. region z (moved x o)))) (same_box x)
        ∙ ap (λ (o : Option Formula). in_box s.extents x && by_formula o (g.region (further k y) x) (every (λ z o'. region z (moved x o')))) (l.formulas y)
        ∙ region_at y x (ltb-true y n h) (formula_at s y) refl
    regions_known y x false h =
        ap (λ (o : Option Formula). in_box s.extents x && by_formula o (g.region y x) (every (λ t o'. old_region t (moved x o')))) (sym (l.past y (ltb-false y n h)))

    -- the cells
    outside_same : (y : ℕ) (x : List ℤ) → outside_cell r g (further k y) x ≡ outside_cell s g y x
    outside_same y x = ap (λ (o : Option ℕ). elim o [ None ↦ pos 0 | Some j ↦ g.cell j x ]) (l.outside y)

    cell_inside : (y : ℕ) (x : List ℤ) (f : Formula) → every (is_there n d) f ≡ true → (b : Bool) → (b ≡ true → (length x ≡ d) × (every (λ t o. old_region t (moved x o)) f ≡ true)) → (if b then wrapped (type_at r (further k y)) (valued r.scope (λ z o. value z (moved x o)) params (replaced k c f)) else outside_cell r g (further k y) x) ≡ (if b then wrapped (type_at s y) (valued s.scope (λ t o. old_value t (moved x o)) params f) else outside_cell s g y x)
    cell_inside y x f good true h =
        let k' = h refl in
        ap (λ (t : IntType). wrapped t (valued r.scope (λ z o. value z (moved x o)) params (replaced k c f))) (l.types y)
        ∙ ap (λ v. wrapped (type_at s y) v) (same_value x k'.0 f good k'.1)
    cell_inside y x f good false h = outside_same y x

    inside : (y : ℕ) (x : List ℤ) (f : Formula) → nat_lt y n ≡ true → formula_at s y ≡ Some f → old_region y x ≡ true → (length x ≡ d) × (every (λ t o. old_region t (moved x o)) f ≡ true)
    inside y x f h e i =
        let q : (in_box s.extents x && every (λ t o. old_region t (moved x o)) f) ≡ true = ap (λ (o : Option Formula). in_box s.extents x && by_formula o (g.region y x) (every (λ t o'. old_region t (moved x o')))) (sym e) ∙ sym (regions_known y x (nat_lt y n) refl) ∙ i in
        let parts = and_parts (in_box s.extents x) (every (λ t o. old_region t (moved x o)) f) q in
        (box_length s.extents x parts.0 ∙ l.dims, parts.1)

    cell_at : (y : ℕ) (x : List ℤ) → nat_lt y n ≡ true → (o : Option Formula) → formula_at s y ≡ o → by_formula (option_map (replaced k c) o) (g.cell (further k y) x) (λ f. if region (further k y) x then wrapped (type_at r (further k y)) (valued r.scope (λ z w. value z (moved x w)) params f) else outside_cell r g (further k y) x) ≡ by_formula o (g.cell y x) (λ f. if old_region y x then wrapped (type_at s y) (valued s.scope (λ t w. old_value t (moved x w)) params f) else outside_cell s g y x)
    cell_at y x h None e = ap (λ i. g.cell i x) (l.bare y e (ltb-true y n h))
    cell_at y x h (Some f) e =
        cell_inside y x f (l.reads y f e) (region (further k y) x) (λ i. inside y x f h e (region_known y x h ∙ i))
        ∙ ap (λ b. if b then wrapped (type_at s y) (valued s.scope (λ t w. old_value t (moved x w)) params f) else outside_cell s g y x) (sym (region_known y x h))

    cells_known : (y : ℕ) (x : List ℤ) (b : Bool) → nat_lt y n ≡ b → (if b then value (further k y) x else g.cell y x) ≡ by_formula (formula_at s y) (g.cell y x) (λ f. if old_region y x then wrapped (type_at s y) (valued s.scope (λ t o. old_value t (moved x o)) params f) else outside_cell s g y x)
    cells_known y x true h =
        m.cells (further k y) x
        ∙ ap (λ (o : Option Formula). by_formula o (g.cell (further k y) x) (λ f. if region (further k y) x then wrapped (type_at r (further k y)) (valued r.scope (λ z w. value z (moved x w)) params f) else outside_cell r g (further k y) x)) (l.formulas y)
        ∙ cell_at y x h (formula_at s y) refl
    cells_known y x false h =
        ap (λ (o : Option Formula). by_formula o (g.cell y x) (λ f. if old_region y x then wrapped (type_at s y) (valued s.scope (λ t w. old_value t (moved x w)) params f) else outside_cell s g y x)) (sym (l.past y (ltb-false y n h)))

    -- under the old numbers, the new regions and cells are as the old sentences say
    pub old_meaning : IsMeaning s g params old_region old_value
    old_meaning = record {
      regions = λ y x. regions_known y x (nat_lt y n) refl;
      cells = λ y x. cells_known y x (nat_lt y n) refl;
    }
