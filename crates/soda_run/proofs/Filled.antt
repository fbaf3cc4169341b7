-- One tensor more of an iteration is filled.
use Rattle.std.proofs.Common.{◌≡◌, ℕ, suc, ◌+◌, ◌<◌, ◌≢◌, Bool, true, false, ◌&&◌, ◌||◌, ◌==◌, List, [], ◌∷◌, ◌++◌, ℤ, Option, Some, None, length, set, slice_index_or, take, drop, get_or-set_other, get_or-set_same, eq-eqb, refl, sym, ◌∙◌, ap, subst, arith}
use Rattle.std.proofs.Math.Seq.{drop-cons, take-length}
use Rattle.std.proofs.Math.Bool.{or-false}
use Rattle.std.proofs.lemmas.Bool.{and_parts, eqb-true, false≢true, or_left, true≢false}
use Rattle.std.proofs.lemmas.List.{get_or_default, length-set, set-set, take-append-drop, take_more}
use Rattle.soda_words.specs.IntType.{int32}
use Rattle.int_types.specs.Ranges.{InRange}
use Rattle.soda_ir.specs.Counts.{formula_in, is_input}
use Rattle.soda_ir.specs.Formula.{Formula, every}
use Rattle.soda_ir.specs.Points.{listed}
use Rattle.soda_ir.specs.Program.{PlainProgram, extents_at}
use Rattle.soda_ir.specs.Uses.{is_good_cell}
use Rattle.soda_ir.specs.Valid.{IsSound}
use Rattle.soda_ir.proofs.CallerLemmas.{bare_input, countable, every_both, good_there, length-listed, listed_same, reads_good}
use Rattle.soda_eval.specs.Arrays.{Given, cell, in_region}
use Rattle.soda_eval.specs.Points.{point}
use Rattle.soda_eval.specs.Runs.{IsArray, cells_at, scope_of, stencil_of}
use Rattle.soda_eval.proofs.CallerLemmas.{all_listed, each_from}
use Rattle.time_stages.specs.declared.margins.Margins.{Margins}
use Rattle.time_stages.specs.Margins.{no_margins}
use Rattle.time_stages.specs.Placing.{is_there, placing_order}
use Rattle.time_stages.proofs.CallerLemmas.{next_at, next_parts, order_behind, order_below, there_push}
use Rattle.soda_run.specs.pieces.Filled.{AreFilled, Begins, CanFill, array_of, is_kept, made, outside_of}
use Rattle.soda_run.proofs.Cells.{array_of-is, made_is_cell, reads_boxed}

-- a list around one of its places
pub around : (xs : List ℕ) (i : ℕ) → i < length xs → xs ≡ take i xs ++ slice_index_or xs i 0 ∷ drop (suc i) xs
around xs i h =
    sym (take-append-drop i xs) ∙ ap (λ ys. take i xs ++ ys) (drop-cons xs i 0 h)

-- a tensor's array, taken out and put back filled
pub put_filled : (p : PlainProgram) (rows : ℕ) (params : List ℤ) (x : ℕ) (m : Margins) (arrays taken put : List (List ℤ)) (outside cells : List ℤ) → taken ≡ set arrays x [] → outside ≡ outside_of p taken x → cells ≡ listed (made p rows taken params x m outside) (cells_at p rows) → put ≡ set taken x cells
    → put ≡ set arrays x (listed (made p rows (set arrays x []) params x m (outside_of p (set arrays x []) x)) (cells_at p rows))
put_filled p rows params x m arrays taken put outside cells t o c e =
    e ∙ ap (λ xs. set xs x cells) t ∙ set-set arrays x [] cells
    ∙ ap (set arrays x) (c ∙ ap (λ os. listed (made p rows taken params x m os) (cells_at p rows)) o ∙ ap (λ xs. listed (made p rows xs params x m (outside_of p xs x)) (cells_at p rows)) t)

module _ (p : PlainProgram) (sound : IsSound p) (rows : ℕ) (g : Given) (params : List ℤ) (margins : List Margins) (b : Begins p rows g params margins) where
  abbrev margin : ℕ → Margins
  margin x = slice_index_or margins x (no_margins 0)

  module _ (before after : List ℕ) (x : ℕ) (split : placing_order p ≡ before ++ x ∷ after) (arrays : List (List ℤ)) (a : AreFilled p rows g params before arrays) where
    pub below : x < length p.tensors
    below = order_below p (length p.tensors) before after x split

    missing : is_there p before x ≡ false
    missing = (next_parts p before x (next_at p (length p.tensors) before after x split)).0

    others : (y : ℕ) → is_there p before y ≡ true → y ≢ x
    others y h e = true≢false (sym h ∙ ap (is_there p before) e ∙ missing)

    abbrev rest : List (List ℤ)
    rest = set arrays x []

    kept : (y : ℕ) → is_there p before y ≡ true → slice_index_or rest y [] ≡ array_of p rows g params y
    kept y h = get_or-set_other arrays x y [] [] (others y h) ∙ a.filled y h

    there : (f : Formula) → formula_in p x ≡ Some f → every (λ y o. is_there p before y) f ≡ true
    there f e = order_behind p (length p.tensors) before after x f split e

    array_in_range : (y : ℕ) → y < length p.tensors → IsArray (slice_index_or (scope_of p).tensors y int32) (cells_at p rows) (array_of p rows g params y)
    array_in_range y l =
        let f : ℕ → ℤ = λ i. cell (stencil_of p rows) g params (length p.tensors) y (point (extents_at p rows) i) in
        let n = cells_at p rows in
        let t = slice_index_or (scope_of p).tensors y int32 in
        subst (IsArray t n) (sym (array_of-is p rows g params y)) (record { whole = length-listed f n; in_range = all_listed (λ v. InRange t v) f n (λ i. b.in_range y (point (extents_at p rows) i) l) })

    region_kept : (i : ℕ) → is_kept p rows (margin x) i ≡ in_region (stencil_of p rows) g (length p.tensors) x (point (extents_at p rows) i)
    unfolding is_kept
    region_kept i = sym (b.regions x (point (extents_at p rows) i) below)

    pub can_fill : CanFill p rows rest x (margin x)
    can_fill = record {
      there = below;
      low_dims = b.low_dims x below;
      high_dims = b.high_dims x below;
      inside = λ f i e l k. reads_boxed p sound rows g params x f (point (extents_at p rows) i) e (sym (region_kept i) ∙ k);
      reads = λ f e. each_from (λ y o. is_there p before y && is_good_cell p y o) _ (λ y o h. let both = and_parts (is_there p before y) (is_good_cell p y o) h in subst (IsArray (slice_index_or (scope_of p).tensors y int32) (cells_at p rows)) (sym (kept y both.0)) (array_in_range y (good_there p y o both.1))) f (every_both (λ y o. is_there p before y) (is_good_cell p) f (there f e) (reads_good p x f (countable p sound) e));
    }

    pub array_whole : length (slice_index_or arrays x []) ≡ cells_at p rows
    array_whole = a.whole x below

    -- it has a formula
    some_formula : (o : Option Formula) → formula_in p x ≡ o → (f : Formula) × (formula_in p x ≡ Some f)
    some_formula None e =
        absurd (false≢true (sym missing ∙ or_left (is_input p x) _ (bare_input p.tensors x sound.parts.formulas below e)))
    some_formula (Some f) e = (f, e)

    abbrev written : List ℤ
    written = listed (made p rows rest params x (margin x) (outside_of p rest x)) (cells_at p rows)

    written_is : written ≡ array_of p rows g params x
    written_is =
        let s = some_formula (formula_in p x) refl in
        listed_same (made p rows rest params x (margin x) (outside_of p rest x)) (λ i. cell (stencil_of p rows) g params (length p.tensors) x (point (extents_at p rows) i)) (cells_at p rows) (λ i l. made_is_cell p sound rows g params before rest kept x s.0 (margin x) i s.1 (there s.0 s.1) l (region_kept i))
        ∙ sym (array_of-is p rows g params x)

    now_by : (y : ℕ) (same : Bool) → (x == y) ≡ same → (is_there p before y || same) ≡ true → slice_index_or (set arrays x written) y [] ≡ array_of p rows g params y
    now_by y true e h =
        let i : x ≡ y = eqb-true x y e in
        ap (λ z. slice_index_or (set arrays x written) z []) (sym i)
        ∙ get_or-set_same arrays x written [] (omega (arith, below, a.many))
        ∙ written_is
        ∙ ap (array_of p rows g params) i
    now_by y false e h =
        let known = sym (or-false (is_there p before y)) ∙ h in get_or-set_other arrays x y written [] (others y known) ∙ a.filled y known

    whole_by : (y : ℕ) (same : Bool) → (x == y) ≡ same → y < length p.tensors → length (slice_index_or (set arrays x written) y []) ≡ cells_at p rows
    whole_by y true e l =
        ap (λ z. length (slice_index_or (set arrays x written) z [])) (sym (eqb-true x y e))
        ∙ ap length (get_or-set_same arrays x written [] (omega (arith, below, a.many)))
        ∙ length-listed (made p rows rest params x (margin x) (outside_of p rest x)) (cells_at p rows)
    whole_by y false e l =
        ap length (get_or-set_other arrays x y written [] (λ i. true≢false (sym (eq-eqb x y (sym i)) ∙ e))) ∙ a.whole y l

    pub filled_more : AreFilled p rows g params (before ++ x ∷ []) (set arrays x written)
    filled_more = record {
      many = length-set arrays x written ∙ a.many;
      whole = λ y l. whole_by y (x == y) refl l;
      filled = λ y h. now_by y (x == y) refl (sym (there_push p before x y) ∙ h);
    }

-- the margins of a tensor, as they are found
pub margin_at : (margins : List Margins) (x : ℕ) (m : Margins) → m ≡ slice_index_or margins x m → x < length margins → m ≡ slice_index_or margins x (no_margins 0)
margin_at margins x m e l = e ∙ get_or_default margins x m (no_margins 0) l

-- the order around the place where the loop is
pub split_at : (p : PlainProgram) (order items : List ℕ) (i : ℕ) → order ≡ placing_order p → items ≡ order → i < length items → placing_order p ≡ take i order ++ slice_index_or items i 0 ∷ drop (suc i) order
split_at p order items i e same l =
    sym e ∙ around order i (omega (arith, ap length same, l)) ∙ ap (λ x. take i order ++ x ∷ drop (suc i) order) (sym (ap (λ xs. slice_index_or xs i 0) same))

pub filled_next : (p : PlainProgram) (sound : IsSound p) (rows : ℕ) (g : Given) (params : List ℤ) (margins : List Margins) (b : Begins p rows g params margins) (order items : List ℕ) (i : ℕ) → order ≡ placing_order p → items ≡ order → i < length items
    → (arrays after : List (List ℤ)) (m : Margins) → m ≡ slice_index_or margins (slice_index_or items i 0) m → AreFilled p rows g params (take i order) arrays
    → after ≡ set arrays (slice_index_or items i 0) (listed (made p rows (set arrays (slice_index_or items i 0) []) params (slice_index_or items i 0) m (outside_of p (set arrays (slice_index_or items i 0) []) (slice_index_or items i 0))) (cells_at p rows))
    → AreFilled p rows g params (take (i + 1) order) after
filled_next p sound rows g params margins b order items i e same l arrays after m found a is =
    let x = slice_index_or items i 0 in
    let rest = drop (suc i) order in
    let split = split_at p order items i e same l in
    let there : x < length p.tensors = below p sound rows g params margins b (take i order) rest x split arrays a in
    let known = margin_at margins x m found (omega (arith, b.many, there)) in
    let now = filled_more p sound rows g params margins b (take i order) rest x split arrays a in
    let done : take i order ++ x ∷ [] ≡ take (i + 1) order = ap (λ y. take i order ++ y ∷ []) (ap (λ xs. slice_index_or xs i 0) same) ∙ sym (take_more order i 0 (omega (arith, ap length same, l))) in
    subst (λ xs. AreFilled p rows g params xs after) done
    (subst (AreFilled p rows g params (take i order ++ x ∷ [])) (sym (is ∙ ap (λ w. set arrays x (listed (made p rows (set arrays x []) params x w (outside_of p (set arrays x []) x)) (cells_at p rows))) known)) now)

pub filled_last : (p : PlainProgram) (rows : ℕ) (g : Given) (params : List ℤ) (order items : List ℕ) (i : ℕ) → order ≡ placing_order p → items ≡ order → i ≡ length items → (arrays : List (List ℤ)) → AreFilled p rows g params (take i order) arrays → AreFilled p rows g params (placing_order p) arrays
filled_last p rows g params order items i e same end arrays a =
    subst (λ xs. AreFilled p rows g params xs arrays) (ap (λ k. take k order) (end ∙ ap length same) ∙ take-length order ∙ e) a
