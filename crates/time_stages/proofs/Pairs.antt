-- Pairs of a number and an offset in order, as a sort and the dropping of repeats leave them.
use Rattle.std.proofs.Common.{◌≡◌, ℕ, ◌+◌, Bool, true, false, ◌&&◌, ◌==◌, List, [], ◌∷◌, map, refl, sym, ◌∙◌, ap, subst, ℤ, cond, nat_lt, arith, if◌then◌else◌}
use Rattle.std.specs.Cmp.{Equal-is, IsTotalOrder}
use Rattle.std.proofs.lemmas.Cmp.{eq_by_cmp_equiv, int_cmp_total, nat_cmp_total, on_total, then_total}
use Rattle.std.specs.List.{Contains, dedup, list_any}
use Rattle.std.specs.List.Sorted.{IsPermutation, IsSorted, IsStrictlySortedBy}
use Rattle.std.specs.declared.cmp.Ordering.{Ordering}
use Rattle.std.specs.declared.cmp.Ordering.TheVariants.{Less, Equal, Greater}
use Rattle.std.specs.Ordering.{eq_by_cmp, int_cmp, int_eq, is_eq, nat_cmp, ordering_then}
use Rattle.std.proofs.lemmas.Bool.{and_parts, eqb-true, false≢true}
use Rattle.std.proofs.lemmas.Bool.Decides.{Decides-int_eq}
use Rattle.std.proofs.lemmas.List.Folds.{Any-from_list_any, list_any_at}
use Rattle.std.proofs.lemmas.List.Kept.{Contains-dedup, Contains-from_dedup, IsStrictlySortedBy-dedup}
use Rattle.std.proofs.lemmas.List.Sorted.{list_any-IsPermutation}
use Rattle.soda_ir.specs.declared.reads.Read.{Read as Reading}
use Rattle.soda_ir.specs.Counts.{distinct_count, is_same_read}
use Rattle.soda_ir.proofs.CallerLemmas.{ext}
use Rattle.soda_words.proofs.CallerLemmas.{same_tests}
use Rattle.time_stages.specs.Staged.{in_order, read_order}
use Rattle.time_stages.specs.pieces.Stages.{reading_of}
use Rattle.time_stages.proofs.InOrder.{distinct, order_in, order_mapped, order_rising, rising_one}

-- the order of pairs
abbrev pub pair_order : ℕ × ℤ → ℕ × ℤ → Ordering
pair_order p q = ordering_then (nat_cmp p.0 q.0) (int_cmp p.1 q.1)

pub pair_total : IsTotalOrder pair_order
pair_total = then_total (on_total (λ (p : ℕ × ℤ). p.0) nat_cmp_total) (on_total (λ (p : ℕ × ℤ). p.1) int_cmp_total)

pub read_total : IsTotalOrder read_order
read_total = then_total (on_total (λ (r : Reading). r.of) nat_cmp_total) (on_total (λ (r : Reading). r.offset) int_cmp_total)

-- the order doesn't tell two reads apart exactly where they are one
bits : (l e : Bool) (o : Ordering) → (e ≡ true → l ≡ false) → is_eq (ordering_then (cond l Less (cond e Equal Greater)) o) ≡ (e && is_eq o)
bits true true o h = absurd (false≢true (sym (h refl)))
bits true false o h = refl
bits false true o h = refl
bits false false o h = refl

not_below : (a b : ℕ) → (a == b) ≡ true → nat_lt a b ≡ false
not_below a b e = grind arith

pub order_same : (a b : ℕ) (u v : ℤ) → is_eq (ordering_then (nat_cmp a b) (int_cmp u v)) ≡ (a == b && int_eq u v)
order_same a b u v = bits (nat_lt a b) (a == b) (int_cmp u v) (not_below a b)

pub same_reads_tie : (a b : Reading) → eq_by_cmp read_order a b ≡ is_same_read a b
same_reads_tie a b = order_same a.of b.of a.offset b.offset

pub pairs_exact : (p q : ℕ × ℤ) → pair_order p q ≡ Equal → p ≡ q
pairs_exact p q e =
    let both = and_parts (p.0 == q.0) (int_eq p.1 q.1) (sym (order_same p.0 q.0 p.1 q.1) ∙ ap is_eq e) in
    let first : ℕ → ℕ × ℤ = λ z. (z, p.1) in
    let second : ℤ → ℕ × ℤ = λ z. (q.0, z) in
    ap first (eqb-true p.0 q.0 both.0) ∙ ap second ((Decides-int_eq p.1 q.1).0 both.1)

abbrev tied : ℕ × ℤ → ℕ × ℤ → Bool
tied = eq_by_cmp pair_order

tied_same : (p q : ℕ × ℤ) → tied p q ≡ true → p ≡ q
tied_same p q e = pairs_exact p q ((Equal-is (pair_order p q)).0 e)

in_contains : (q : ℕ × ℤ) (xs : List (ℕ × ℤ)) → list_any (tied q) xs ≡ true → Contains xs q
in_contains q xs e =
    let some = Any-from_list_any (tied q) xs e in
    let same : q ≡ some.1 = tied_same q some.1 some.4 in
    subst (Contains xs) (sym same) (some.0, some.2, some.3)

contains_in : (q : ℕ × ℤ) (xs : List (ℕ × ℤ)) → Contains xs q → list_any (tied q) xs ≡ true
contains_in q xs h =
    list_any_at (tied q) xs h.0 q h.1 (ap (tied q) h.2 ∙ (eq_by_cmp_equiv pair_total).refl q)

kept_in : (xs : List (ℕ × ℤ)) (q : ℕ × ℤ) → list_any (tied q) (dedup tied xs) ≡ list_any (tied q) xs
kept_in xs q =
    same_tests (list_any (tied q) (dedup tied xs)) (list_any (tied q) xs)
    (λ e. contains_in q xs (Contains-from_dedup tied xs q (in_contains q (dedup tied xs) e)))
    (λ e. contains_in q (dedup tied xs) (Contains-dedup (eq_by_cmp_equiv pair_total) tied_same xs q (in_contains q xs e)))

-- what a sort and the dropping of repeats leave is the list in order
pub ordered_pairs : (xs sorted out : List (ℕ × ℤ)) (E : ℕ × ℤ → ℕ × ℤ → Bool) → ((p q : ℕ × ℤ) → E p q ≡ tied p q) → IsPermutation xs sorted → IsSorted pair_order sorted → out ≡ dedup E sorted
    → map reading_of out ≡ in_order read_order (map reading_of xs)
ordered_pairs xs sorted out E ties moved up left =
    let same : E ≡ tied = ext E tied (λ p. ext (E p) (tied p) (ties p)) in
    let is : out ≡ dedup tied sorted = left ∙ ap (λ F. dedup F sorted) same in
    let rising : IsStrictlySortedBy pair_order (dedup tied sorted) = IsStrictlySortedBy-dedup pair_total (λ p q. refl) sorted up in
    let one : dedup tied sorted ≡ in_order pair_order xs = rising_one pair_order pair_total pairs_exact (dedup tied sorted) (in_order pair_order xs) rising (order_rising pair_order pair_total xs)
    (λ q. kept_in sorted q ∙ sym (list_any-IsPermutation (tied q) xs sorted moved) ∙ sym (order_in pair_order pair_total q xs)) in
    ap (map reading_of) (is ∙ one) ∙ order_mapped reading_of pair_order read_order (λ p q. refl) xs

-- as many reads as are counted
pub same_distinct : (rs : List Reading) → distinct read_order read_total rs ≡ distinct_count rs
same_distinct [] = refl
same_distinct (r ∷ rs) =
    ap (λ (f : Reading → Bool). (if list_any f rs then 0 else 1) + distinct read_order read_total rs) (ext (eq_by_cmp read_order r) (is_same_read r) (same_reads_tie r))
    ∙ ap (λ n. (if list_any (is_same_read r) rs then 0 else 1) + n) (same_distinct rs)
