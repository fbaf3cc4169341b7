-- The certificate to begin with, the residual graph's making, and a bound on values.
use Rattle.std.proofs.Common.{◌≡◌, ℕ, zero, suc, ◌+◌, ◌*◌, ◌^◌, ◌<◌, ◌≤◌, Bool, true, false, cond, eqb, ◌||◌, List, [], ◌∷◌, ◌++◌, length, slice_index, get_or, set, take, drop, refl, subst, sym, ◌∙◌, ap, arith, ⊎_elim, pos, negsuc, ℤ, ◌-ℤ◌, ◌≤ℤ◌, ◌<ℤ◌, get_or-set_same, get_or-set_other}
use Rattle.std.proofs.Math.Bool.{or-true, or-false}
use Rattle.std.proofs.lemmas.Int.{ints}
use Rattle.std.proofs.lemmas.Bool.{cases_eq, false≢true}
use Rattle.std.proofs.lemmas.Bool.Decides.{nat_tests}
use Rattle.std.proofs.lemmas.List.{drop_more, drop_all}
use Rattle.std.proofs.lemmas.List.Folds.{list_any_more}
use Rattle.delay_net.specs.Shape.{IsNet}
use Rattle.delay_net.specs.Windows.{MeetsWindows, at_least_0, total_storage}
use Rattle.delay_net.specs.Certificate.{sum_at, sum_read, is_read, width_if_read, IsBalanced, value_of}
use Rattle.delay_net.specs.declared.net.Read.{Read}
use Rattle.flow_solve.specs.machine.Residual.{residual, window_arc, storage_arc, window_back, storage_back}
use Rattle.delay_net.proofs.CallerLemmas.{value_and_slack}

pub residual_step : (n : ℕ) (reads : List Read) (hold need : List ℕ) (i : ℕ) (d : Read) → i < length reads → i < length hold → i < length need
    → residual n (drop i reads) (drop i hold) (drop i need)
    ≡ window_arc (get_or reads i d) ∷ storage_arc n (get_or reads i d) ∷ window_back (get_or reads i d) (get_or need i 0)
    ∷ storage_back n (get_or reads i d) (get_or hold i 0)
    ∷ residual n (drop (i + 1) reads) (drop (i + 1) hold) (drop (i + 1) need)
unfolding residual
residual_step n reads hold need i d lt lh ln =
    ap (λ rs. residual n rs (drop i hold) (drop i need)) (drop_more reads i d lt)
    ∙ ap (λ hs. residual n (get_or reads i d ∷ drop (i + 1) reads) hs (drop i need)) (drop_more hold i 0 lh)
    ∙ ap (λ ms. residual n (get_or reads i d ∷ drop (i + 1) reads) (get_or hold i 0 ∷ drop (i + 1) hold) ms) (drop_more need i 0 ln)

pub residual_none : (n : ℕ) (reads : List Read) (hold need : List ℕ) (i : ℕ) → length reads ≤ i → residual n (drop i reads) (drop i hold) (drop i need) ≡ []
unfolding residual
residual_none n reads hold need i past = ap (λ rs. residual n rs (drop i hold) (drop i need)) (drop_all i reads past)

-- one more amount
sum_at_push : (key : Read → ℕ) (t : ℕ) (reads : List Read) (amounts : List ℕ) (x : ℕ) (d : Read) → length amounts < length reads
    → sum_at key t (take (suc (length amounts)) reads) (amounts ++ x ∷ [])
    ≡ sum_at key t (take (length amounts) reads) amounts + cond (eqb (key (get_or reads (length amounts) d)) t) x 0
unfolding sum_at
sum_at_push key t [] amounts x d lt = absurd (omega arith)
sum_at_push key t (r ∷ reads) [] x d lt = omega arith
sum_at_push key t (r ∷ reads) (a ∷ amounts) x d lt = omega (arith, sum_at_push key t reads amounts x d (omega arith))

pub sum_at_none : (key : Read → ℕ) (t : ℕ) (reads : List Read) → sum_at key t (take 0 reads) [] ≡ 0
unfolding sum_at
sum_at_none key t reads = refl

choose : (before here : Bool) (s w x : ℕ) → s ≡ cond before w 0 → (here ≡ true → x ≡ cond before 0 w) → s + cond here x 0 ≡ cond (before || here) w 0
choose true true s w x e f = omega (arith, e, f refl)
choose true false s w x e f = omega (arith, e)
choose false true s w x e f = omega (arith, e, f refl)
choose false false s w x e f = omega (arith, e)

same_from_test : (a b : ℕ) → eqb a b ≡ true → a ≡ b
same_from_test a b e = grind (arith, nat_tests)

pub amounts_more : (weights : List ℕ) (reads : List Read) (amounts : List ℕ) (i x t : ℕ) (d : Read) → length amounts ≡ i → i < length reads
    → x ≡ cond (is_read (take i reads) (get_or reads i d).of) 0 (slice_index weights (get_or reads i d).of)
    → sum_read t (take i reads) amounts ≡ width_if_read weights (take i reads) t
    → sum_read t (take (i + 1) reads) (amounts ++ x ∷ []) ≡ width_if_read weights (take (i + 1) reads) t
amounts_more weights reads amounts i x t d size lt amount before =
    let of : ℕ = (get_or reads i d).of in
    let pushed : sum_at (λ r. r.of) t (take (suc i) reads) (amounts ++ x ∷ []) ≡ sum_at (λ r. r.of) t (take i reads) amounts + cond (eqb of t) x 0 =
    subst (λ n. sum_at (λ r. r.of) t (take (suc n) reads) (amounts ++ x ∷ [])
    ≡ sum_at (λ r. r.of) t (take n reads) amounts + cond (eqb (get_or reads n d).of t) x 0) size (sum_at_push (λ r. r.of) t reads amounts x d (omega arith)) in
    let chosen = choose (is_read (take i reads) t) (eqb of t) (sum_at (λ r. r.of) t (take i reads) amounts) (slice_index weights t) x before
    (λ here. subst (λ u. x ≡ cond (is_read (take i reads) u) 0 (slice_index weights u)) (same_from_test of t here) amount) in
    ap (λ n. sum_at (λ r. r.of) t (take n reads) (amounts ++ x ∷ [])) add-one-of
    ∙ pushed ∙ chosen ∙ sym (ap (λ b. cond b (slice_index weights t) 0) (list_any_more (λ r. eqb r.of t) reads i d lt))
  where
    add-one-of : i + 1 ≡ suc i
    add-one-of = omega arith

pub marks_more : (reads : List Read) (met : List Bool) (i t : ℕ) (d : Read) → i < length reads → (get_or reads i d).of < length met
    → get_or met t false ≡ is_read (take i reads) t → get_or (set met (get_or reads i d).of true) t false ≡ is_read (take (i + 1) reads) t
marks_more reads met i t d lt in_table before =
    let of : ℕ = (get_or reads i d).of in
    ⊎_elim
    (λ is.
    let here : eqb of t ≡ true = grind (arith, nat_tests) in
    ap (λ u. get_or (set met of true) u false) (sym is) ∙ get_or-set_same met of true false in_table ∙ sym (or-true (is_read (take i reads) t))
    ∙ sym (ap (λ b. is_read (take i reads) t || b) here) ∙ sym (list_any_more (λ r. eqb r.of t) reads i d lt))
    (λ ne.
    let other : eqb of t ≡ false = grind (arith, nat_tests) in
    get_or-set_other met of t true false (λ e. ne (sym e)) ∙ before ∙ sym (or-false (is_read (take i reads) t))
    ∙ sym (ap (λ b. is_read (take i reads) t || b) other) ∙ sym (list_any_more (λ r. eqb r.of t) reads i d lt))
    (cases_eq of t)

pub amounts_balanced : (weights : List ℕ) (reads : List Read) (amounts : List ℕ) → ((t : ℕ) → sum_read t reads amounts ≡ width_if_read weights reads t)
    → IsBalanced weights reads amounts amounts
amounts_balanced weights reads amounts told = record {
  held = λ t lt is. told t ∙ if_read (is_read reads t) (slice_index weights t) is;
  even = λ t lt. omega (arith, told t);
}
  where
    if_read : (b : Bool) (w : ℕ) → b ≡ true → cond b w 0 ≡ w
    if_read true w h = refl
    if_read false w h = absurd (false≢true h)

-- an assignment by steps of 2 ^ 42, which meets all windows
abbrev pub stairs : ℕ → ℕ → List ℕ
stairs k zero = []
stairs k (suc n) = k * 2 ^ 42 ∷ stairs (k + 1) n

stairs_at : (k n t : ℕ) → t < n → get_or (stairs k n) t 0 ≡ (k + t) * 2 ^ 42
stairs_at k zero t lt = absurd (omega arith)
stairs_at k (suc n) zero lt = omega arith
stairs_at k (suc n) (suc t) lt = omega (arith, stairs_at (k + 1) n t (omega arith))

stairs_meets : (weights : List ℕ) (reads : List Read) → IsNet weights reads → MeetsWindows reads (stairs 0 (length weights))
stairs_meets weights reads net = λ k d lt.
    let r = get_or reads k d in
    let order = net.order k d lt in
    let small = net.offsets k d lt in
    let of = stairs_at 0 (length weights) r.of (omega (arith, order.0, order.1)) in
    let reader = stairs_at 0 (length weights) r.reader order.1 in
    let below = order.0 in
    let top = small.1 in
    omega (arith, ints)

-- no value is greater than the stairs' storage
abbrev pub value_bound : List ℕ → List Read → ℕ
value_bound weights reads = total_storage weights reads (stairs 0 (length weights))

pub value_within : (weights : List ℕ) (reads : List Read) (hold need : List ℕ) → IsNet weights reads → IsBalanced weights reads hold need
    → value_of reads hold need ≤ℤ pos (value_bound weights reads)
value_within weights reads hold need net balanced =
    let sum = value_and_slack weights reads hold need (stairs 0 (length weights)) net.order balanced (stairs_meets weights reads net) in
    omega (arith, ints)

pub room_falls : (b : ℕ) (old new : ℤ) → old <ℤ new → new ≤ℤ pos b → at_least_0 (pos b -ℤ new) < at_least_0 (pos b -ℤ old)
room_falls b old new more within =
    let before : pos b -ℤ old ≡ pos (at_least_0 (pos b -ℤ old)) = is_pos (pos b -ℤ old) (omega (arith, ints)) in
    let after : pos b -ℤ new ≡ pos (at_least_0 (pos b -ℤ new)) = is_pos (pos b -ℤ new) (omega (arith, ints)) in
    omega (arith, ints)
  where
    is_pos : (z : ℤ) → pos 0 ≤ℤ z → z ≡ pos (at_least_0 z)
    is_pos (pos n) h = refl
    is_pos (negsuc n) h = absurd (omega (arith, ints))
