-- Each step keeps a program decent, and a decent result that passes no limit is valid.
use Rattle.std.proofs.Common.{◌≡◌, ℕ, zero, suc, ◌+◌, ◌*◌, ◌^◌, ◌<◌, ◌≤◌, Bool, true, false, not, ◌&&◌, ◌==◌, List, [], ◌∷◌, ◌++◌, ℤ, Option, Some, None, map, slice_get, length, nat_lt, nat_le, unsigned_abs, refl, sym, ◌∙◌, ap, subst, arith, length-append, if◌then◌else◌}
use Rattle.std.specs.Prelude.{fold, neg_ℤ}
use Rattle.std.specs.List.{insert, list_all, list_any}
use Rattle.std.proofs.lemmas.Bool.{and_from, and_parts, false≢true, le-leb, leb-true, ltb-false, ltb-true}
use Rattle.std.proofs.lemmas.List.{length-map}
use Rattle.std.proofs.lemmas.List.Folds.{list_all-append}
use Rattle.share_shape.proofs.Counting.{total}
use Rattle.soda_words.specs.Limits.{most_brackets, most_live, most_offset, most_reads, most_tensors, most_tokens}
use Rattle.soda_words.specs.Names.{is_name, is_word}
use Rattle.soda_words.specs.Tokens.{or_else}
use Rattle.soda_ir.specs.declared.limit.LimitKind.{LimitKind}
use Rattle.soda_ir.specs.declared.limit.LimitKind.TheVariants.{Offset, Tensors, Live, Reads}
use Rattle.soda_ir.specs.declared.program.Border.{Border}
use Rattle.soda_ir.specs.declared.program.Border.TheVariants.{Ignore, Preserve}
use Rattle.soda_ir.specs.Counts.{can_be_placed, is_input_role, is_output_role, live_count, read_count}
use Rattle.soda_ir.specs.Formula.{Formula, number, read, param, unary, binary, choice, cast, by_formula, every}
use Rattle.soda_ir.specs.Points.{size}
use Rattle.soda_ir.specs.Program.{PlainParam, PlainProgram, PlainTensor}
use Rattle.soda_ir.specs.Uses.{each_use, is_good_cell, is_good_place, is_near}
use Rattle.soda_ir.specs.Valid.{IsSound, IsValid, are_free_names, fills_burst, has_formula_if_no_input, is_good_param, names_of, value_count}
use Rattle.soda_ir.specs.Written.{most_open, token_count}
use Rattle.soda_ir.proofs.CallerLemmas.{every_both, every_weaker, formula_good, ready_placed}
use Rattle.share_shape.specs.Compounds.{Site, sites}
use Rattle.share_shape.specs.Limits.{Passed, all_magnitudes, first_past, limit_passed, magnitudes, passed_by, past}
use Rattle.share_shape.specs.Procedure.{first_shared, local_for, next_shared, renumbered, replaced, replaced_in, share_name, share_number, shared, shared_at}
use Rattle.share_shape.specs.Shifts.{based, first_offset}
use Rattle.share_shape.proofs.Decent.{IsDecent, IsFine, all_insert, all_map, any_insert, any_map, fine_closed, first_inserted, formulas_pass, formulas_still, inputs_inserted, has_places, outputs_inserted, places_kept, places_local}
use Rattle.share_shape.proofs.Ending.{kept_in}
use Rattle.share_shape.proofs.Exact.{first_long, has_dims}
use Rattle.share_shape.proofs.Fit.{IsFit, dims_of, old_or_local, still_fit}
use Rattle.share_shape.proofs.Found.{IsSite, every_closed, formula_on, found, sites_have}
use Rattle.share_shape.proofs.Inserted.{map_insert, map_map}
use Rattle.share_shape.proofs.Names.{free_insert, share_free, unused, unused_within}
use Rattle.share_shape.proofs.Replaced.{kept}
use Rattle.share_shape.proofs.Sides.{is_there}
use Rattle.share_shape.proofs.Sizes.{IsSmall, same_open, same_tokens, written_local, written_replaced}
use Rattle.share_shape.proofs.Sound.{fit_of, step_of}

-- a list with one element more, behind others
append_insert : {X : Type 0} → (xs ys : List X) (i k : ℕ) (x : X) → i ≡ length xs + k → xs ++ insert ys k x ≡ insert (xs ++ ys) i x
append_insert [] ys i k x e = let f : k ≡ i = omega arith in ap (λ j. insert ys j x) f
append_insert (y ∷ xs) ys zero k x e = absurd (omega arith)
append_insert (y ∷ xs) ys (suc i) k x e = ap (λ zs. y ∷ zs) (append_insert xs ys i k x (omega arith))

length_more : {X : Type 0} → (xs : List X) (i : ℕ) (x : X) → length (insert xs i x) ≡ suc (length xs)
length_more [] zero x = refl
length_more [] (suc i) x = refl
length_more (y ∷ ys) zero x = refl
length_more (y ∷ ys) (suc i) x = ap suc (length_more ys i x)

module _ (p q : PlainProgram) (d : IsDecent p q) (s : Site) (first : first_shared (sites q) ≡ Some s) where
  abbrev k : ℕ
  k = s.tensor

  abbrev c : Formula
  c = s.compound

  abbrev dims : ℕ
  dims = dims_of q

  abbrev l : PlainTensor
  l = local_for q s

  abbrev old : List PlainTensor
  old = map (replaced_in k c) q.tensors

  abbrev IsGood : Formula → Type 0
  IsGood f = every (is_there (length q.tensors) dims) f ≡ true

  abbrev at : IsSite IsGood 0 q.tensors s
  at = found (IsSite IsGood 0 q.tensors) s (sites q) (sites_have IsGood (every_closed (is_there (length q.tensors) dims)) 0 q.tensors (λ i f e. d.fit.reads i f e)) first

  abbrev fine_at : IsSite (IsFine p) 0 q.tensors s
  fine_at = found (IsSite (IsFine p) 0 q.tensors) s (sites q) (sites_have (IsFine p) (fine_closed p) 0 q.tensors (λ i f e. d.fine i f e)) first

  dims_good : (f : Formula) → IsGood f → has_dims dims f ≡ true
  dims_good f good = every_weaker (is_there (length q.tensors) dims) (λ t o. length o == dims) (λ t o h. (and_parts (nat_lt t (length q.tensors)) (length o == dims) h).1) f good

  local_fine : IsFine p (renumbered k (based c))
  local_fine =
      let v : List ℤ = map neg_ℤ (first_offset c) in
      let good : has_dims dims c ≡ true = dims_good c at.compound.has in
      let long : length v ≡ dims = length-map (first_offset c) neg_ℤ ∙ first_long dims c at.compound.cell good in
      let w = written_local p dims k v long c good in
      let small = fine_at.compound.has.small in
      record { places = places_local p k v c ∙ fine_at.compound.has.places; small = record { tokens = omega (arith, w.tokens, small.tokens); brackets = omega (arith, w.brackets, small.brackets) } }

  fine_new : (y : ℕ) (f : Formula) → formula_on q.tensors y ≡ Some f → IsFine p (replaced k c f)
  fine_new y f e =
      let fine = d.fine y f e in
      let w = written_replaced p dims k c at.compound.cell f (dims_good f (d.fit.reads y f e)) in
      record { places = kept k c (λ g h. has_places p g ≡ true → has_places p h ≡ true) (places_kept p k c) f fine.places; small = record { tokens = omega (arith, w.tokens, fine.small.tokens); brackets = omega (arith, w.brackets, fine.small.brackets) } }

  abbrev words : List (List ℕ)
  words = names_of q.params q.tensors

  names_new : names_of q.params (insert old k l) ≡ insert words (length (map (λ (r : PlainParam). r.name) q.params) + k) (share_name (share_number q))
  names_new =
      ap (λ ns. map (λ (r : PlainParam). r.name) q.params ++ ns) (map_insert (λ (t : PlainTensor). t.name) old k l ∙ ap (λ ns. insert ns k (share_name (share_number q))) (map_map (λ (t : PlainTensor). t.name) (replaced_in k c) q.tensors))
      ∙ append_insert (map (λ (r : PlainParam). r.name) q.params) (map (λ (t : PlainTensor). t.name) q.tensors) (length (map (λ (r : PlainParam). r.name) q.params) + k) k (share_name (share_number q)) refl

  free_new : length (names_of q.params (insert old k l)) < 2 ^ 64 → are_free_names (names_of q.params (insert old k l)) ≡ true
  free_new h =
      let i = length (map (λ (r : PlainParam). r.name) q.params) + k in
      let long : length (names_of q.params (insert old k l)) ≡ suc (length words) = ap length names_new ∙ length_more words i (share_name (share_number q)) in
      let few : length words < 2 ^ 64 = omega arith in
      let n : share_number q < 2 ^ 64 = omega (arith, unused_within (λ m. list_any (is_word (share_name m)) words) 0 (length words)) in
      ap are_free_names names_new ∙ free_insert words i (share_name (share_number q)) (d.names few) (share_free (share_number q) n) (unused words few)

  holds_at : formula_on q.tensors k ≡ Some at.whole
  holds_at = let e : k ≡ at.place = omega (arith, at.is) in ap (formula_on q.tensors) e ∙ at.formula

  pub still_decent : IsDecent p (shared_at q s)
  unfolding shared_at
  still_decent = record {
    fit = still_fit q d.fit s first;
    kernel = d.kernel;
    burst = d.burst;
    unroll = d.unroll;
    iterate = d.iterate;
    border = d.border;
    params = d.params;
    extents = d.extents;
    names = free_new;
    formulas = all_insert has_formula_if_no_input old k l refl (formulas_still k c q.tensors d.formulas);
    fine = old_or_local q d.fit s first (IsFine p) local_fine fine_new;
    first = first_inserted l refl k c q.tensors k at.whole d.first d.formulas holds_at;
    some_input = any_insert (λ t. is_input_role t.role) old k l (any_map (λ t. is_input_role t.role) (replaced_in k c) q.tensors ∙ d.some_input);
    some_output = any_insert (λ t. is_output_role t.role) old k l (any_map (λ t. is_output_role t.role) (replaced_in k c) q.tensors ∙ d.some_output);
    bursts = all_insert (fills_burst p.burst) old k l refl (all_map (fills_burst p.burst) (replaced_in k c) q.tensors ∙ d.bursts);
    inputs = inputs_inserted l refl k c q.tensors k ∙ d.inputs;
    outputs = outputs_inserted l refl k c q.tensors k ∙ d.outputs;
  }

decent_next : (p q r : PlainProgram) → next_shared q ≡ Some r → IsDecent p q → IsDecent p r
decent_next p q r h d = let at = step_of q r h in subst (IsDecent p) at.2 (still_decent p q d at.0 at.1)

-- params' values where cells are no matter
places_of : (cells : ℕ → List ℤ → Bool) (values : ℕ → ℕ → Bool) (f : Formula) → each_use cells values f ≡ true → each_use (λ t o. true) values f ≡ true
places_of cells values (number n) e = refl
places_of cells values (read t o) e = refl
places_of cells values (param p k) e = e
places_of cells values (unary op a) e = places_of cells values a e
places_of cells values (binary op a b) e =
    let parts = and_parts (each_use cells values a) (each_use cells values b) e in
    and_from _ _ (places_of cells values a parts.0) (places_of cells values b parts.1)
places_of cells values (choice c a b) e =
    let parts = and_parts (each_use cells values c && each_use cells values a) (each_use cells values b) e in
    let front = and_parts (each_use cells values c) (each_use cells values a) parts.0 in
    and_from _ _ (and_from _ _ (places_of cells values c front.0) (places_of cells values a front.1)) (places_of cells values b parts.1)
places_of cells values (cast t a) e = places_of cells values a e

both_uses : (cells : ℕ → List ℤ → Bool) (values : ℕ → ℕ → Bool) (f : Formula) → every cells f ≡ true → each_use (λ t o. true) values f ≡ true → each_use cells values f ≡ true
both_uses cells values (number n) e h = refl
both_uses cells values (read t o) e h = e
both_uses cells values (param p k) e h = h
both_uses cells values (unary op a) e h = both_uses cells values a e h
both_uses cells values (binary op a b) e h =
    let x = and_parts (every cells a) (every cells b) e in
    let y = and_parts (each_use (λ t o. true) values a) (each_use (λ t o. true) values b) h in
    and_from _ _ (both_uses cells values a x.0 y.0) (both_uses cells values b x.1 y.1)
both_uses cells values (choice c a b) e h =
    let x = and_parts (every cells c && every cells a) (every cells b) e in
    let y = and_parts (each_use (λ t o. true) values c && each_use (λ t o. true) values a) (each_use (λ t o. true) values b) h in
    let u = and_parts (every cells c) (every cells a) x.0 in
    let v = and_parts (each_use (λ t o. true) values c) (each_use (λ t o. true) values a) y.0 in
    and_from _ _ (and_from _ _ (both_uses cells values c u.0 v.0) (both_uses cells values a u.1 v.1)) (both_uses cells values b x.1 y.1)
both_uses cells values (cast t a) e h = both_uses cells values a e h

small_parts : (p : PlainProgram) (f : Formula) → (nat_le (token_count p f) most_tokens && nat_le (most_open p f) most_brackets) ≡ true → IsSmall p most_tokens most_brackets f
small_parts p f e =
    let parts = and_parts (nat_le (token_count p f) most_tokens) (nat_le (most_open p f) most_brackets) e in
    record { tokens = leb-true _ _ parts.0; brackets = leb-true _ _ parts.1 }

-- a sound program is decent
decent_of : (p : PlainProgram) → IsSound p → IsDecent p p
decent_of p sound = record {
  fit = fit_of p sound;
  kernel = refl;
  burst = refl;
  unroll = refl;
  iterate = refl;
  border = refl;
  params = refl;
  extents = refl;
  names = λ h. sound.parts.names;
  formulas = sound.parts.formulas;
  fine = λ y f e. record {
    places = places_of (is_good_cell p) (is_good_place p) f (formula_good (each_use (is_good_cell p) (is_good_place p)) p.tensors y f sound.parts.uses e);
    small = small_parts p f (formula_good (λ g. nat_le (token_count p g) most_tokens && nat_le (most_open p g) most_brackets) p.tensors y f sound.parts.small e);
  };
  first = sound.ends.inputs_first;
  some_input = sound.ends.some_input;
  some_output = sound.ends.some_output;
  bursts = sound.ends.bursts;
  inputs = refl;
  outputs = refl;
}

pub shared_decent : (p : PlainProgram) → IsSound p → IsDecent p (shared p)
unfolding shared
shared_decent p sound =
    kept_in (IsDecent p) (λ q r h d. decent_next p q r h d) (length (sites p)) p (decent_of p sound)

-- ranked tensors can be placed
tensor_by : (test : PlainTensor → Bool) (ts : List PlainTensor) (x : ℕ) → x < length ts → ((t : PlainTensor) → slice_get ts x ≡ Some t → test t ≡ true) → (elim (slice_get ts x) [ None ↦ false | Some t ↦ test t ]) ≡ true
tensor_by test [] x h p = absurd (omega arith)
tensor_by test (t ∷ ts) zero h p = p t refl
tensor_by test (t ∷ ts) (suc x) h p = tensor_by test ts x (omega arith) p

formula_got : (ts : List PlainTensor) (x : ℕ) (t : PlainTensor) → slice_get ts x ≡ Some t → formula_on ts x ≡ t.formula
formula_got [] x t e = cc
formula_got (u ∷ us) zero t e = ap (λ (o : Option PlainTensor). elim o [ None ↦ None | Some v ↦ v.formula ]) e
formula_got (u ∷ us) (suc x) t e = formula_got us x t e

by_known : (o : Option Formula) (test : Formula → Bool) → ((f : Formula) → o ≡ Some f → test f ≡ true) → by_formula o true test ≡ true
by_known None test h = refl
by_known (Some f) test h = h f refl

module _ (q : PlainProgram) (fit : IsFit q) where
  placed_under : (r x : ℕ) → fit.rank x < r → x < length q.tensors → can_be_placed q x ≡ true
  placed_under zero x h l = absurd (omega arith)
  placed_under (suc r) x h l =
      ready_placed q (can_be_placed q) (λ y e. e) x (tensor_by (λ t. by_formula t.formula true (every (λ y o. can_be_placed q y))) q.tensors x l (λ t e. by_known t.formula (every (λ y o. can_be_placed q y)) (λ f g.
      let known : formula_on q.tensors x ≡ Some f = formula_got q.tensors x t e ∙ g in
      let both = every_both (is_there (length q.tensors) (dims_of q)) (λ y o. nat_lt (fit.rank y) (fit.rank x)) f (fit.reads x f known) (fit.ranked x f known) in
      every_weaker (λ y o. is_there (length q.tensors) (dims_of q) y o && nat_lt (fit.rank y) (fit.rank x)) (λ y o. can_be_placed q y) (λ y o z.
      let parts = and_parts (is_there (length q.tensors) (dims_of q) y o) (nat_lt (fit.rank y) (fit.rank x)) z in
      let there = and_parts (nat_lt y (length q.tensors)) (length o == dims_of q) parts.0 in
      let low : fit.rank y < fit.rank x = ltb-true _ _ parts.1 in
      placed_under r y (omega arith) (ltb-true _ _ there.0)) f both)))

  pub all_placed : (x : ℕ) → x < length q.tensors → can_be_placed q x ≡ true
  all_placed x l = placed_under (suc (fit.rank x)) x (omega arith) l

some_number : {n : ℕ} → Some n ≡ None → ⊥
some_number e = cc

-- what no limit refuses
none_by : (most n : ℕ) (ns : List ℕ) (b : Bool) → nat_lt most n ≡ b → (if b then Some n else first_past most ns) ≡ None → (first_past most ns ≡ None → list_all (λ m. nat_le m most) ns ≡ true) → (nat_le n most && list_all (λ m. nat_le m most) ns) ≡ true
none_by most n ns true e h rest = absurd (some_number h)
none_by most n ns false e h rest = and_from _ _ (le-leb n most (ltb-false most n e)) (rest h)

all_parts : (xs ys : List ℕ) → list_all (λ n. nat_le n most_offset) (xs ++ ys) ≡ true → (list_all (λ n. nat_le n most_offset) xs ≡ true) × (list_all (λ n. nat_le n most_offset) ys ≡ true)
all_parts xs ys e =
    and_parts (list_all (λ n. nat_le n most_offset) xs) (list_all (λ n. nat_le n most_offset) ys) (sym (list_all-append (λ n. nat_le n most_offset) xs ys) ∙ e)

product_pos : (n m : ℕ) → 1 ≤ m → 1 ≤ suc n * m
product_pos n (suc m) h = omega arith
product_pos n zero h = absurd (omega arith)

none_past : (most : ℕ) (ns : List ℕ) → first_past most ns ≡ None → list_all (λ n. nat_le n most) ns ≡ true
none_past most [] e = refl
none_past most (n ∷ ns) e = none_by most n ns (nat_lt most n) refl e (none_past most ns)

near_of : (f : Formula) → list_all (λ n. nat_le n most_offset) (magnitudes f) ≡ true → every (λ t o. is_near o) f ≡ true
near_of (number n) e = refl
near_of (read t o) e = sym (all_map (λ n. nat_le n most_offset) unsigned_abs o) ∙ e
near_of (param p k) e = refl
near_of (unary op a) e = near_of a e
near_of (binary op a b) e =
    let parts = all_parts (magnitudes a) (magnitudes b) e in and_from _ _ (near_of a parts.0) (near_of b parts.1)
near_of (choice c a b) e =
    let parts = all_parts (magnitudes c) (magnitudes a ++ magnitudes b) e in
    let rest = all_parts (magnitudes a) (magnitudes b) parts.1 in
    and_from _ _ (and_from _ _ (near_of c parts.0) (near_of a rest.0)) (near_of b rest.1)
near_of (cast t a) e = near_of a e

near_in : (ts : List PlainTensor) → list_all (λ n. nat_le n most_offset) (all_magnitudes ts) ≡ true → (y : ℕ) (f : Formula) → formula_on ts y ≡ Some f → every (λ t o. is_near o) f ≡ true
near_in [] e y f h = cc
near_in (t ∷ ts) e zero f h =
    near_of f (sym (ap (λ (o : Option Formula). list_all (λ n. nat_le n most_offset) (by_formula o [] magnitudes)) h) ∙ (all_parts (by_formula t.formula [] magnitudes) (all_magnitudes ts) e).0)
near_in (t ∷ ts) e (suc y) f h = near_in ts (all_parts (by_formula t.formula [] magnitudes) (all_magnitudes ts) e).1 y f h

no_zero_size : (ns : List ℕ) → list_all (λ n. not (n == 0)) ns ≡ true → 1 ≤ size ns
no_zero_size [] e = omega arith
no_zero_size (zero ∷ ns) e = absurd (false≢true e)
no_zero_size (suc n ∷ ns) e = product_pos n (size ns) (no_zero_size ns (and_parts (not (suc n == 0)) (list_all (λ m. not (m == 0)) ns) e).1)

abbrev value_total : List PlainParam → ℕ
value_total qs = total (λ (q : PlainParam). size q.sizes) qs

-- the sum, from the left
fold_total : (qs : List PlainParam) (n : ℕ) → fold (λ (a : ℕ) (q : PlainParam). a + size q.sizes) n qs ≡ n + value_total qs
fold_total [] n = omega arith
fold_total (q ∷ qs) n = fold_total qs (n + size q.sizes) ∙ omega arith

total_is : (qs : List PlainParam) → value_count qs ≡ value_total qs
total_is qs = fold_total qs 0 ∙ omega arith

few_params : (qs : List PlainParam) → list_all is_good_param qs ≡ true → length qs ≤ value_total qs
few_params [] e = omega arith
few_params (q ∷ qs) e =
    let parts = and_parts (is_good_param q) (list_all is_good_param qs) e in
    let s = no_zero_size q.sizes (and_parts (nat_le (length q.sizes) 2) (list_all (λ n. not (n == 0)) q.sizes) parts.0).1 in
    omega (arith, s, few_params qs parts.1)

module _ (p : PlainProgram) (sound : IsSound p) (d : IsDecent p (shared p)) (near : first_past most_offset (all_magnitudes (shared p).tensors) ≡ None) (few : length (shared p).tensors ≤ most_tensors) where
  abbrev r : PlainProgram
  r = shared p

  few_names : length (names_of r.params r.tensors) < 2 ^ 64
  few_names =
      let a : length (map (λ (q : PlainParam). q.name) r.params ++ map (λ (t : PlainTensor). t.name) r.tensors) ≡ length r.params + length r.tensors = length-append (map (λ (q : PlainParam). q.name) r.params) (map (λ (t : PlainTensor). t.name) r.tensors) ∙ omega (arith, length-map r.params (λ (q : PlainParam). q.name), length-map r.tensors (λ (t : PlainTensor). t.name)) in
      omega (arith, a, ap length d.params, few_params p.params sound.parts.params, total_is p.params, sound.limits.few_values)

  uses_at : (y : ℕ) (f : Formula) → formula_on r.tensors y ≡ Some f → each_use (is_good_cell r) (is_good_place r) f ≡ true
  uses_at y f e =
      let cells : every (is_good_cell r) f ≡ true = every_both (is_there (length r.tensors) (dims_of r)) (λ t o. is_near o) f (d.fit.reads y f e) (near_in r.tensors (none_past most_offset (all_magnitudes r.tensors) near) y f e) in
      let places : has_places r f ≡ true = ap (λ (ps : List PlainParam). each_use (λ t o. true) (λ k i. elim (slice_get ps k) [ None ↦ false | Some q ↦ nat_lt i (size q.sizes) ]) f) d.params ∙ (d.fine y f e).places in
      both_uses (is_good_cell r) (is_good_place r) f cells places

  small_at : (y : ℕ) (f : Formula) → formula_on r.tensors y ≡ Some f → (nat_le (token_count r f) most_tokens && nat_le (most_open r f) most_brackets) ≡ true
  small_at y f e =
      let small = (d.fine y f e).small in
      and_from _ _ (le-leb (token_count r f) most_tokens (omega (arith, same_tokens p r d.params f, small.tokens))) (le-leb (most_open r f) most_brackets (omega (arith, same_open p r d.params f, small.brackets)))

  preserved_by : (a b : Border) → a ≡ b → (elim a [ Ignore ↦ false | Preserve ↦ true ]) ≡ true → (elim b [ Ignore ↦ false | Preserve ↦ true ]) ≡ true
  preserved_by a b e h = sym (ap (λ (x : Border). elim x [ Ignore ↦ false | Preserve ↦ true ]) e) ∙ h

  result_sound : IsSound r
  result_sound = record {
    limits = record {
      some_lanes = omega (arith, d.unroll, sound.limits.some_lanes);
      few_lanes = omega (arith, d.unroll, sound.limits.few_lanes);
      some_iterations = omega (arith, d.iterate, sound.limits.some_iterations);
      few_iterations = omega (arith, d.iterate, sound.limits.few_iterations);
      few_dims = omega (arith, ap length d.extents, sound.limits.few_dims);
      extents = ap (λ ns. list_all (λ n. not (n == 0)) ns) d.extents ∙ sound.limits.extents;
      small_tile = omega (arith, ap size d.extents, sound.limits.small_tile);
      few_tensors = few;
      few_values = omega (arith, ap value_count d.params, sound.limits.few_values);
      least_burst = omega (arith, d.burst, sound.limits.least_burst);
      most_burst = omega (arith, d.burst, sound.limits.most_burst);
    };
    parts = record {
      kernel = ap is_name d.kernel ∙ sound.parts.kernel;
      params = ap (λ (qs : List PlainParam). list_all is_good_param qs) d.params ∙ sound.parts.params;
      names = d.names few_names;
      formulas = d.formulas;
      uses = formulas_pass (each_use (is_good_cell r) (is_good_place r)) r.tensors uses_at;
      small = formulas_pass (λ f. nat_le (token_count r f) most_tokens && nat_le (most_open r f) most_brackets) r.tensors small_at;
    };
    ends = record {
      inputs_first = d.first;
      some_input = d.some_input;
      some_output = d.some_output;
      bursts = ap (λ n. list_all (fills_burst n) r.tensors) d.burst ∙ d.bursts;
    };
    fits = record {
      iterated = λ h. d.inputs ∙ sound.fits.iterated (λ e. h (d.iterate ∙ e)) ∙ sym d.outputs;
      preserved = λ h. d.inputs ∙ sound.fits.preserved (preserved_by r.border p.border d.border h) ∙ sym d.outputs;
    };
    placed = all_placed r d.fit;
  }

-- what sharing a sound program gives is sound, where no offset and no number of tensors passes its limit
pub shared_sound : (p : PlainProgram) → IsSound p → first_past most_offset (all_magnitudes (shared p).tensors) ≡ None → length (shared p).tensors ≤ most_tensors
    → IsSound (shared p)
shared_sound p sound near few = result_sound p sound (shared_decent p sound) near few

or_none : (o : Option Passed) → o ≡ None → or_else o None ≡ None
or_none None e = refl
or_none (Some x) e = cc

-- the limits, one by one
none_first : (kind : LimitKind) (n : Option ℕ) (rest : Option Passed) → or_else (passed_by kind n) rest ≡ None → (n ≡ None) × (rest ≡ None)
none_first kind None rest e = (refl, e)
none_first kind (Some n) rest e = cc

within_most : (most n : ℕ) (b : Bool) → nat_lt most n ≡ b → (if b then Some n else None) ≡ None → n ≤ most
within_most most n true e h = absurd (some_number h)
within_most most n false e h = ltb-false most n e

-- what sharing a valid program gives is valid, where it passes no limit
pub shared_valid : (p : PlainProgram) → IsValid p → limit_passed (shared p) ≡ None → IsValid (shared p)
unfolding limit_passed
shared_valid p valid e =
    let r = shared p in
    let a = none_first Offset (first_past most_offset (all_magnitudes r.tensors)) _ e in
    let b = none_first Tensors (past most_tensors (length r.tensors)) _ a.1 in
    let c = none_first Live (past most_live (live_count r)) _ b.1 in
    let f = none_first Reads (past most_reads (read_count r)) None (or_none (passed_by Reads (past most_reads (read_count r))) c.1) in
    let few : length r.tensors ≤ most_tensors = within_most most_tensors (length r.tensors) (nat_lt most_tensors (length r.tensors)) refl b.0 in
    record {
      sound = result_sound p valid.sound (shared_decent p valid.sound) a.0 few;
      few_live = within_most most_live (live_count r) (nat_lt most_live (live_count r)) refl c.0;
      few_reads = within_most most_reads (read_count r) (nat_lt most_reads (read_count r)) refl f.0;
    }
