-- What each step keeps of a program: its inputs stand first, each formula reads tensors that are there, and they can be ranked.
use Rattle.std.proofs.Common.{◌≡◌, ℕ, zero, suc, ◌-◌, ◌<◌, ◌≤◌, true, false, not, ◌&&◌, ◌==◌, List, [], ◌∷◌, ℤ, Option, Some, None, option_map, map, slice_index_or, length, max, nat_lt, refl, sym, ◌∙◌, ap, subst, arith, ⊎_elim, length-append, if◌then◌else◌}
use Rattle.std.specs.Prelude.{neg_ℤ}
use Rattle.std.specs.List.{insert}
use Rattle.std.proofs.lemmas.Bool.{and_from, and_parts, cases_lt, eq-eqb, eqb-true, false≢true, le-ltb, lt-ltb, ltb-true, ne_eqb}
use Rattle.std.proofs.lemmas.Option.{none-some}
use Rattle.std.proofs.lemmas.List.{length-map}
use Rattle.std.proofs.lemmas.List.Edits.{length-insert}
use Rattle.std.proofs.Math.ListN.{get_or-map}
use Rattle.soda_words.specs.IntType.{IntType, int32}
use Rattle.soda_ir.specs.Formula.{Formula, number, read, param, unary, binary, choice, cast, every}
use Rattle.soda_ir.specs.Program.{PlainProgram, PlainTensor}
use Rattle.soda_ir.specs.declared.program.Border.{Border}
use Rattle.soda_ir.specs.declared.program.Border.TheVariants.{Ignore, Preserve}
use Rattle.soda_eval.specs.Points.{moved}
use Rattle.soda_eval.specs.Runs.{borders_from, scope_of, stencil_of}
use Rattle.soda_eval.specs.Values.{typed}
use Rattle.soda_ir.proofs.CallerLemmas.{every_weaker}
use Rattle.share_shape.specs.Compounds.{Site, sites}
use Rattle.share_shape.specs.Procedure.{first_shared, further, local_for, renumbered, replaced, replaced_in, shared_at}
use Rattle.share_shape.specs.Shifts.{are_shift_equal, based, first_offset, has_cell, shifted}
use Rattle.share_shape.proofs.Counting.{same_cell}
use Rattle.share_shape.proofs.Found.{IsSite, every_closed, formula_on, found, sites_have}
use Rattle.share_shape.proofs.Inserted.{borders_inserted, borders_replaced, further_less, further_more, get_new, get_other, length-borders, map_insert, map_map, other_or_new}
use Rattle.share_shape.proofs.Moves.{every_shifted, first_passes, length-moved}
use Rattle.share_shape.proofs.Replaced.{IsKept, kept}
use Rattle.share_shape.proofs.Same.{one_base}
use Rattle.share_shape.proofs.Sides.{Shares, every_renumbered, is_there}

abbrev pub dims_of : PlainProgram → ℕ
dims_of p = suc (length p.extents)

-- what each step keeps
pub record IsFit (p : PlainProgram) : Type 0 where
  -- so many tensors are inputs, and no others
  pub inputs : ℕ
  pub some : 0 < inputs
  pub bare : (y : ℕ) → y < inputs → formula_on p.tensors y ≡ None
  pub full : (y : ℕ) → inputs ≤ y → y < length p.tensors → (f : Formula) × (formula_on p.tensors y ≡ Some f)
  pub reads : (y : ℕ) (f : Formula) → formula_on p.tensors y ≡ Some f → every (is_there (length p.tensors) (dims_of p)) f ≡ true
  -- each tensor reads tensors of lower rank
  pub rank : ℕ → ℕ
  pub below : (y : ℕ) → rank y < length p.tensors
  pub ranked : (y : ℕ) (f : Formula) → formula_on p.tensors y ≡ Some f → every (λ z o. nat_lt (rank z) (rank y)) f ≡ true

pub formula_there : (ts : List PlainTensor) (x : ℕ) (f : Formula) → formula_on ts x ≡ Some f → x < length ts
formula_there [] x f e = cc
formula_there (t ∷ ts) zero f e = omega arith
formula_there (t ∷ ts) (suc x) f e = omega (arith, formula_there ts x f e)

some_formula : {f g : Formula} → Some f ≡ Some g → f ≡ g
some_formula e = cc

-- what is not none
mapped : (h : Formula → Formula) (o : Option Formula) (f : Formula) → option_map h o ≡ Some f → (g : Formula) × (o ≡ Some g) × (f ≡ h g)
mapped h None f e = absurd (none-some f e)
mapped h (Some g) f e = (g, refl, sym (some_formula e))

-- the greatest rank of what a formula reads
module _ (rank : ℕ → ℕ) where
  abbrev pub top : Formula → ℕ
  top (number n) = 0
  top (read t o) = rank t
  top (param p k) = 0
  top (unary op a) = top a
  top (binary op a b) = max (top a) (top b)
  top (choice c a b) = max (top c) (max (top a) (top b))
  top (cast t a) = top a

  top_shifted : (v : List ℤ) (f : Formula) → top (shifted v f) ≡ top f
  top_shifted v (number n) = refl
  top_shifted v (read t o) = refl
  top_shifted v (param p k) = refl
  top_shifted v (unary op a) = top_shifted v a
  top_shifted v (binary op a b) =
      ap (λ x. max x (top (shifted v b))) (top_shifted v a) ∙ ap (λ x. max (top a) x) (top_shifted v b)
  top_shifted v (choice c a b) =
      ap (λ x. max x (max (top (shifted v a)) (top (shifted v b)))) (top_shifted v c)
      ∙ ap (λ x. max (top c) (max x (top (shifted v b)))) (top_shifted v a)
      ∙ ap (λ x. max (top c) (max (top a) x)) (top_shifted v b)
  top_shifted v (cast t a) = top_shifted v a

  -- no read has a greater one
  under_top : (f : Formula) (m : ℕ) → top f ≤ m → every (λ t o. nat_lt (rank t) (suc m)) f ≡ true
  under_top (number n) m h = refl
  under_top (read t o) m h = lt-ltb (rank t) (suc m) (omega arith)
  under_top (param p k) m h = refl
  under_top (unary op a) m h = under_top a m h
  under_top (binary op a b) m h = and_from _ _ (under_top a m (omega arith)) (under_top b m (omega arith))
  under_top (choice c a b) m h =
      and_from _ _ (and_from _ _ (under_top c m (omega arith)) (under_top a m (omega arith))) (under_top b m (omega arith))
  under_top (cast t a) m h = under_top a m h

  top_under : (f : Formula) (r : ℕ) → every (λ t o. nat_lt (rank t) (suc r)) f ≡ true → top f ≤ r
  top_under (number n) r e = omega arith
  top_under (read t o) r e = omega (arith, ltb-true (rank t) (suc r) e)
  top_under (param p k) r e = omega arith
  top_under (unary op a) r e = top_under a r e
  top_under (binary op a b) r e =
      let parts = and_parts (every (λ t o. nat_lt (rank t) (suc r)) a) (every (λ t o. nat_lt (rank t) (suc r)) b) e in
      omega (arith, top_under a r parts.0, top_under b r parts.1)
  top_under (choice c a b) r e =
      let parts = and_parts (every (λ t o. nat_lt (rank t) (suc r)) c && every (λ t o. nat_lt (rank t) (suc r)) a) (every (λ t o. nat_lt (rank t) (suc r)) b) e in
      let front = and_parts (every (λ t o. nat_lt (rank t) (suc r)) c) (every (λ t o. nat_lt (rank t) (suc r)) a) parts.0 in
      omega (arith, top_under c r front.0, top_under a r front.1, top_under b r parts.1)
  top_under (cast t a) r e = top_under a r e

  -- a formula with a cell, whose reads are all below, is below too
  pub top_below : (f : Formula) (r : ℕ) → has_cell f ≡ true → every (λ t o. nat_lt (rank t) r) f ≡ true → top f < r
  top_below f zero h e =
      let none = every_weaker (λ t o. nat_lt (rank t) 0) (λ t o. false) (λ t o z. absurd (omega (arith, ltb-true (rank t) 0 z))) f e in
      absurd (false≢true (sym (ap not none) ∙ h))
  top_below f (suc r) h e = omega (arith, top_under f r e)

-- the number that stood here before another was inserted
abbrev before : (k z : ℕ) → ℕ
before k z = if nat_lt z k then z else z - 1

before_further : (k y : ℕ) → before k (further k y) ≡ y
before_further k y =
    ⊎_elim (λ (l : y < k). ap (before k) (further_less k y l) ∙ ap (λ b. if b then y else y - 1) (lt-ltb y k l))
    (λ (l : k ≤ y). ap (before k) (further_more k y l) ∙ ap (λ b. if b then suc y else suc y - 1) (le-ltb (suc y) k (omega arith)) ∙ omega arith) (cases_lt y k)

further_other : (k y : ℕ) → (further k y == k) ≡ false
further_other k y =
    ⊎_elim (λ (l : y < k). ap (λ z. z == k) (further_less k y l) ∙ ne_eqb y k (λ e. omega arith))
    (λ (l : k ≤ y). ap (λ z. z == k) (further_more k y l) ∙ ne_eqb (suc y) k (λ e. omega arith)) (cases_lt y k)

further_within : (k y n : ℕ) → y < n → further k y < suc n
further_within k y n h =
    ⊎_elim (λ (l : y < k). omega (arith, further_less k y l)) (λ (l : k ≤ y). omega (arith, further_more k y l)) (cases_lt y k)

further_rises : (k a b : ℕ) → a < b → further k a < further k b
further_rises k a b h =
    ⊎_elim (λ (l : a < k). ⊎_elim (λ (m : b < k). omega (arith, further_less k a l, further_less k b m)) (λ (m : k ≤ b). omega (arith, further_less k a l, further_more k b m)) (cases_lt b k))
    (λ (l : k ≤ a). omega (arith, further_more k a l, further_more k b (omega arith))) (cases_lt a k)

module _ (p : PlainProgram) (fit : IsFit p) (s : Site) (first : first_shared (sites p) ≡ Some s) where
  abbrev k : ℕ
  k = s.tensor

  abbrev c : Formula
  c = s.compound

  abbrev n : ℕ
  n = length p.tensors

  abbrev d : ℕ
  d = dims_of p

  abbrev IsGood : Formula → Type 0
  IsGood f = every (is_there n d) f ≡ true

  abbrev at : IsSite IsGood 0 p.tensors s
  at = found (IsSite IsGood 0 p.tensors) s (sites p) (sites_have IsGood (every_closed (is_there n d)) 0 p.tensors (λ i f e. fit.reads i f e)) first

  holds_at : formula_on p.tensors k ≡ Some at.whole
  holds_at = let e : k ≡ at.place = omega (arith, at.is) in ap (formula_on p.tensors) e ∙ at.formula

  pub within : k < n
  within = formula_there p.tensors k at.whole holds_at

  pub behind_inputs : fit.inputs ≤ k
  behind_inputs =
      ⊎_elim (λ (l : k < fit.inputs). absurd (none-some _ (sym (fit.bare k l) ∙ holds_at))) (λ (l : fit.inputs ≤ k). l) (cases_lt k fit.inputs)

  abbrev new : List PlainTensor
  new = insert (map (replaced_in k c) p.tensors) k (local_for p s)

  has_length : k ≤ length (map (replaced_in k c) p.tensors)
  has_length = omega (arith, length-map p.tensors (replaced_in k c), within)

  pub length-new : length new ≡ suc n
  length-new =
      length-insert (map (replaced_in k c) p.tensors) k (local_for p s) has_length ∙ omega (arith, length-map p.tensors (replaced_in k c))

  -- the formulas
  abbrev rest : List (Option Formula)
  rest = map (λ (t : PlainTensor). t.formula) (map (replaced_in k c) p.tensors)

  rest_is : rest ≡ map (option_map (replaced k c)) (map (λ (t : PlainTensor). t.formula) p.tensors)
  rest_is =
      map_map (λ (t : PlainTensor). t.formula) (replaced_in k c) p.tensors ∙ sym (map_map (option_map (replaced k c)) (λ (t : PlainTensor). t.formula) p.tensors)

  rest_long : k ≤ length rest
  rest_long = omega (arith, length-map (map (replaced_in k c) p.tensors) (λ (t : PlainTensor). t.formula), has_length)

  pub formulas_new : (y : ℕ) → formula_on new (further k y) ≡ option_map (replaced k c) (formula_on p.tensors y)
  formulas_new y =
      ap (λ (os : List (Option Formula)). slice_index_or os (further k y) None) (map_insert (λ (t : PlainTensor). t.formula) (map (replaced_in k c) p.tensors) k (local_for p s))
      ∙ get_other rest k (Some (renumbered k (based c))) None rest_long y
      ∙ ap (λ (os : List (Option Formula)). slice_index_or os y None) rest_is
      ∙ get_or-map (option_map (replaced k c)) (map (λ (t : PlainTensor). t.formula) p.tensors) y None

  pub formula_new : formula_on new k ≡ Some (renumbered k (based c))
  formula_new =
      ap (λ (os : List (Option Formula)). slice_index_or os k None) (map_insert (λ (t : PlainTensor). t.formula) (map (replaced_in k c) p.tensors) k (local_for p s))
      ∙ get_new rest k (Some (renumbered k (based c))) None rest_long

  -- the types
  abbrev type_rest : List IntType
  type_rest = map (λ (t : PlainTensor). t.ty) (map (replaced_in k c) p.tensors)

  types_long : k ≤ length type_rest
  types_long = omega (arith, length-map (map (replaced_in k c) p.tensors) (λ (t : PlainTensor). t.ty), has_length)

  pub types_new : (y : ℕ) → slice_index_or (map (λ (t : PlainTensor). t.ty) new) (further k y) int32 ≡ slice_index_or (map (λ (t : PlainTensor). t.ty) p.tensors) y int32
  types_new y =
      ap (λ (os : List IntType). slice_index_or os (further k y) int32) (map_insert (λ (t : PlainTensor). t.ty) (map (replaced_in k c) p.tensors) k (local_for p s))
      ∙ get_other type_rest k (typed (scope_of p) c) int32 types_long y
      ∙ ap (λ (os : List IntType). slice_index_or os y int32) (map_map (λ (t : PlainTensor). t.ty) (replaced_in k c) p.tensors)

  pub type_new : slice_index_or (map (λ (t : PlainTensor). t.ty) new) k int32 ≡ typed (scope_of p) c
  type_new =
      ap (λ (os : List IntType). slice_index_or os k int32) (map_insert (λ (t : PlainTensor). t.ty) (map (replaced_in k c) p.tensors) k (local_for p s))
      ∙ get_new type_rest k (typed (scope_of p) c) int32 types_long

  -- the borders
  borders_new : (y : ℕ) → slice_index_or (borders_from 0 new) (further k y) None ≡ slice_index_or (borders_from 0 p.tensors) y None
  borders_new y =
      ap (λ (os : List (Option ℕ)). slice_index_or os (further k y) None) (borders_inserted (local_for p s) refl 0 (map (replaced_in k c) p.tensors) k has_length)
      ∙ get_other (borders_from 0 (map (replaced_in k c) p.tensors)) k None None (omega (arith, length-borders 0 (map (replaced_in k c) p.tensors), has_length)) y
      ∙ ap (λ (os : List (Option ℕ)). slice_index_or os y None) (borders_replaced k c 0 p.tensors)

  outside_by : (b : Border) (y : ℕ) → slice_index_or {A = Option ℕ} (elim b [ Ignore ↦ [] | Preserve ↦ borders_from 0 new ]) (further k y) None ≡ slice_index_or {A = Option ℕ} (elim b [ Ignore ↦ [] | Preserve ↦ borders_from 0 p.tensors ]) y None
  outside_by Ignore y = refl
  outside_by Preserve y = borders_new y

  bare_new : (y : ℕ) → formula_on p.tensors y ≡ None → y < n → further k y ≡ y
  bare_new y e h =
      ⊎_elim (λ (l : y < fit.inputs). further_less k y (omega (arith, behind_inputs))) (λ (l : fit.inputs ≤ y). absurd (none-some _ (sym e ∙ (fit.full y l h).1))) (cases_lt y fit.inputs)

  past_none : (ts : List PlainTensor) (y : ℕ) → length ts ≤ y → formula_on ts y ≡ None
  past_none [] y h = refl
  past_none (t ∷ ts) zero h = absurd (omega arith)
  past_none (t ∷ ts) (suc y) h = past_none ts y (omega arith)

  pub shares : (rows : ℕ) → Shares (stencil_of p rows) (stencil_of (shared_at p s) rows) k n d c
  unfolding shared_at
  shares rows = record {
    extents = refl;
    dims = length-append p.extents (rows ∷ []) ∙ omega arith;
    params = refl;
    starts = refl;
    types = types_new;
    type = type_new;
    formulas = formulas_new;
    formula = formula_new;
    outside = outside_by p.border;
    bare = bare_new;
    past = past_none p.tensors;
    reads = fit.reads;
    cell = at.compound.cell;
  }

  -- the reads of the new formulas
  has : has_cell c ≡ true
  has = at.compound.cell

  long_test : (f : Formula) → IsGood f → every (λ t o. length o == d) f ≡ true
  long_test f good = every_weaker (is_there n d) (λ t o. length o == d) (λ t o h. (and_parts (nat_lt t n) (length o == d) h).1) f good

  first_long : (f : Formula) → has_cell f ≡ true → IsGood f → length (first_offset f) ≡ d
  first_long f h good = eqb-true _ _ (first_passes (λ o. length o == d) f h (long_test f good))

  there_new : (t : ℕ) (o w : List ℤ) → is_there n d t o ≡ true → length w ≡ length o → is_there (suc n) d (further k t) w ≡ true
  there_new t o w h e =
      let parts = and_parts (nat_lt t n) (length o == d) h in
      let len : length o ≡ d = eqb-true _ _ parts.1 in
      and_from _ _ (lt-ltb _ _ (further_within k t n (ltb-true t n parts.0))) (eq-eqb _ _ (e ∙ len))

  local_there : every (is_there (suc n) d) (renumbered k (based c)) ≡ true
  local_there =
      let v : List ℤ = map neg_ℤ (first_offset c) in
      let long : length v ≡ d = length-map (first_offset c) neg_ℤ ∙ first_long c has at.compound.has in
      every_renumbered k (is_there (suc n) d) (based c)
      ∙ every_shifted v (λ t o. is_there (suc n) d (further k t) o) c
      ∙ every_weaker (is_there n d) (λ t o. is_there (suc n) d (further k t) (moved o v)) (λ t o h. there_new t o (moved o v) h (let len : length o ≡ d = eqb-true _ _ (and_parts (nat_lt t n) (length o == d) h).1 in let same : length o ≡ length v = len ∙ sym long in length-moved o v same ∙ sym same)) c at.compound.has

  abbrev There : Formula → Formula → Type 0
  There f h = IsGood f → every (is_there (suc n) d) h ≡ true

  there_kept : IsKept k c There
  there_kept = record {
    on_number = λ m good. refl;
    on_read = λ t o good. there_new t o o good refl;
    on_param = λ q i good. refl;
    on_hit = λ f o e good. and_from _ _ (lt-ltb k (suc n) (omega (arith, within))) (eq-eqb _ _ (first_long f (sym (same_cell c f e) ∙ has) good));
    on_unary = λ op a x e h good. h good;
    on_binary = λ op a b x y e h i good.
        let parts = and_parts (every (is_there n d) a) (every (is_there n d) b) good in
        and_from _ _ (h parts.0) (i parts.1);
    on_choice = λ q a b x y z e h i j good.
        let parts = and_parts (every (is_there n d) q && every (is_there n d) a) (every (is_there n d) b) good in
        let front = and_parts (every (is_there n d) q) (every (is_there n d) a) parts.0 in
        and_from _ _ (and_from _ _ (h front.0) (i front.1)) (j parts.1);
    on_cast = λ t a x e h good. h good;
  }

  -- what a formula of the new program is
  pub old_or_local : (P : Formula → Type 0) → P (renumbered k (based c)) → ((y : ℕ) (f : Formula) → formula_on p.tensors y ≡ Some f → P (replaced k c f)) → (z : ℕ) (h : Formula) → formula_on new z ≡ Some h → P h
  old_or_local P l r z h e =
      ⊎_elim (λ (i : z ≡ k). subst P (some_formula (sym formula_new ∙ sym (ap (formula_on new) i) ∙ e)) l)
      (λ (o : (y : ℕ) × (z ≡ further k y) × (y ≤ z) × (z ≤ suc y)). let m = mapped (replaced k c) (formula_on p.tensors o.0) h (sym (formulas_new o.0) ∙ sym (ap (formula_on new) o.1) ∙ e) in subst P (sym m.2) (r o.0 m.0 m.1)) (other_or_new k z)

  -- ranks: the local stands above all that it reads, and below all that read it
  abbrev m : ℕ
  m = top fit.rank c

  abbrev new_rank : ℕ → ℕ
  new_rank z = if z == k then suc m else further (suc m) (fit.rank (before k z))

  rank_local : new_rank k ≡ suc m
  rank_local = ap (λ b. if b then suc m else further (suc m) (fit.rank (before k k))) (eq-eqb k k refl)

  rank_old : (y : ℕ) → new_rank (further k y) ≡ further (suc m) (fit.rank y)
  rank_old y =
      ap (λ b. if b then suc m else further (suc m) (fit.rank (before k (further k y)))) (further_other k y) ∙ ap (λ z. further (suc m) (fit.rank z)) (before_further k y)

  ranked_below : top fit.rank c < n
  ranked_below =
      let all = every_weaker (is_there n d) (λ t o. nat_lt (fit.rank t) n) (λ t o h. lt-ltb _ _ (fit.below t)) c at.compound.has in
      top_below fit.rank c n has all

  below_new : (z : ℕ) → new_rank z < suc n
  below_new z =
      ⊎_elim (λ (i : z ≡ k). omega (arith, ap new_rank i, rank_local, ranked_below))
      (λ (o : (y : ℕ) × (z ≡ further k y) × (y ≤ z) × (z ≤ suc y)). omega (arith, ap new_rank o.1, rank_old o.0, further_within (suc m) (fit.rank o.0) n (fit.below o.0))) (other_or_new k z)

  local_ranked : every (λ z o. nat_lt (new_rank z) (suc m)) (renumbered k (based c)) ≡ true
  local_ranked =
      let v : List ℤ = map neg_ℤ (first_offset c) in
      every_renumbered k (λ z o. nat_lt (new_rank z) (suc m)) (based c)
      ∙ every_shifted v (λ t o. nat_lt (new_rank (further k t)) (suc m)) c
      ∙ every_weaker (λ t o. nat_lt (fit.rank t) (suc m)) (λ t o. nat_lt (new_rank (further k t)) (suc m)) (λ t o h. let l : fit.rank t < suc m = ltb-true _ _ h in lt-ltb _ _ (omega (arith, rank_old t, further_less (suc m) (fit.rank t) l))) c (under_top fit.rank c m (omega arith))

  abbrev Ranked : ℕ → Formula → Formula → Type 0
  Ranked r f h = every (λ t o. nat_lt (fit.rank t) r) f ≡ true → every (λ z o. nat_lt (new_rank z) (further (suc m) r)) h ≡ true

  same_top : (f : Formula) → are_shift_equal c f ≡ true → m ≡ top fit.rank f
  same_top f e =
      sym (top_shifted fit.rank _ c) ∙ ap (top fit.rank) (one_base c f e) ∙ top_shifted fit.rank _ f

  ranked_kept : (r : ℕ) → IsKept k c (Ranked r)
  ranked_kept r = record {
    on_number = λ i low. refl;
    on_read = λ t o low. lt-ltb _ _ (omega (arith, rank_old t, further_rises (suc m) (fit.rank t) r (ltb-true _ _ low)));
    on_param = λ q i low. refl;
    on_hit = λ f o e low.
        let high : m < r = omega (arith, same_top f e, top_below fit.rank f r (sym (same_cell c f e) ∙ has) low) in
        lt-ltb _ _ (omega (arith, rank_local, further_more (suc m) r high));
    on_unary = λ op a x e h low. h low;
    on_binary = λ op a b x y e h i low.
        let parts = and_parts (every (λ t o. nat_lt (fit.rank t) r) a) (every (λ t o. nat_lt (fit.rank t) r) b) low in
        and_from _ _ (h parts.0) (i parts.1);
    on_choice = λ q a b x y z e h i j low.
        let parts = and_parts (every (λ t o. nat_lt (fit.rank t) r) q && every (λ t o. nat_lt (fit.rank t) r) a) (every (λ t o. nat_lt (fit.rank t) r) b) low in
        let front = and_parts (every (λ t o. nat_lt (fit.rank t) r) q) (every (λ t o. nat_lt (fit.rank t) r) a) parts.0 in
        and_from _ _ (and_from _ _ (h front.0) (i front.1)) (j parts.1);
    on_cast = λ t a x e h low. h low;
  }

  ranked_new : (z : ℕ) (h : Formula) → formula_on new z ≡ Some h → every (λ y o. nat_lt (new_rank y) (new_rank z)) h ≡ true
  ranked_new z h e =
      ⊎_elim (λ (i : z ≡ k).
      let is : renumbered k (based c) ≡ h = some_formula (sym formula_new ∙ sym (ap (formula_on new) i) ∙ e) in
      let r : suc m ≡ new_rank z = sym rank_local ∙ sym (ap new_rank i) in
      ap (λ f. every (λ y o. nat_lt (new_rank y) (new_rank z)) f) (sym is) ∙ ap (λ x. every (λ y o. nat_lt (new_rank y) x) (renumbered k (based c))) (sym r) ∙ local_ranked)
      (λ (o : (y : ℕ) × (z ≡ further k y) × (y ≤ z) × (z ≤ suc y)).
      let g = mapped (replaced k c) (formula_on p.tensors o.0) h (sym (formulas_new o.0) ∙ sym (ap (formula_on new) o.1) ∙ e) in
      let r : further (suc m) (fit.rank o.0) ≡ new_rank z = sym (rank_old o.0) ∙ sym (ap new_rank o.1) in
      ap (λ f. every (λ y w. nat_lt (new_rank y) (new_rank z)) f) g.2 ∙ ap (λ x. every (λ y w. nat_lt (new_rank y) x) (replaced k c g.0)) (sym r) ∙ kept k c (Ranked (fit.rank o.0)) (ranked_kept (fit.rank o.0)) g.0 (fit.ranked o.0 g.0 g.1)) (other_or_new k z)

  bare_still : (y : ℕ) → y < fit.inputs → formula_on new y ≡ None
  bare_still y h =
      let e : further k y ≡ y = further_less k y (omega (arith, behind_inputs)) in
      sym (ap (formula_on new) e) ∙ formulas_new y ∙ ap (option_map (replaced k c)) (fit.bare y h)

  full_still : (z : ℕ) → fit.inputs ≤ z → z < suc n → (f : Formula) × (formula_on new z ≡ Some f)
  full_still z h l =
      ⊎_elim (λ (i : z ≡ k). (renumbered k (based c), ap (formula_on new) i ∙ formula_new))
      (λ (o : (y : ℕ) × (z ≡ further k y) × (y ≤ z) × (z ≤ suc y)).
      let low : fit.inputs ≤ o.0 = ⊎_elim (λ (q : o.0 < k). omega (arith, o.1, further_less k o.0 q)) (λ (q : k ≤ o.0). omega (arith, behind_inputs)) (cases_lt o.0 k) in
      let high : o.0 < n = ⊎_elim (λ (q : o.0 < k). omega (arith, within)) (λ (q : k ≤ o.0). omega (arith, o.1, further_more k o.0 q)) (cases_lt o.0 k) in
      let f = fit.full o.0 low high in
      (replaced k c f.0, ap (formula_on new) o.1 ∙ formulas_new o.0 ∙ ap (option_map (replaced k c)) f.1)) (other_or_new k z)

  abbrev IsNew : ℕ → Type 0
  IsNew j = ((y : ℕ) → fit.inputs ≤ y → y < j → (f : Formula) × (formula_on new y ≡ Some f)) × ((y : ℕ) (f : Formula) → formula_on new y ≡ Some f → every (is_there j d) f ≡ true) × ((y : ℕ) → new_rank y < j)

  is_new : IsNew (length new)
  is_new = subst IsNew (sym length-new) (full_still, old_or_local (λ f. every (is_there (suc n) d) f ≡ true) local_there (λ y f e. kept k c There there_kept f (fit.reads y f e)), below_new)

  -- the new program is fit too
  pub still_fit : IsFit (shared_at p s)
  unfolding shared_at
  still_fit = record {
    inputs = fit.inputs;
    some = fit.some;
    bare = bare_still;
    full = is_new.0;
    reads = is_new.1;
    rank = new_rank;
    below = is_new.2;
    ranked = ranked_new;
  }
