-- Storage and sums over the reads, one read on.
use Rattle.std.proofs.Common.{◌≡◌, ℕ, suc, ◌+◌, ◌<◌, ◌≤◌, false, cond, eqb, List, ◌∷◌, length, drop, get_or, set, max, sym, ◌∙◌, ap, arith, ⊎_elim, eq-eqb, pos, negsuc, ℤ, neg_ℤ, ◌≤ℤ◌, ◌+ℤ◌, ◌*ℤ◌, ◌^◌, get_or-set_same, get_or-set_other}
use Rattle.std.proofs.Math.Nat.{mul-le-mul}
use Rattle.std.proofs.lemmas.Int.{ints}
use Rattle.std.proofs.lemmas.Bool.{cases_eq}
use Rattle.std.proofs.lemmas.Bool.Decides.{nat_tests}
use Rattle.std.proofs.lemmas.List.{at_drop_more, drop_more, drop_all}
use Rattle.delay_net.specs.Limits.{most_offset}
use Rattle.delay_net.specs.Windows.{age, at_least_0, storage_of}
use Rattle.delay_net.specs.Certificate.{sum_at, sum_of_offsets}
use Rattle.delay_net.specs.declared.net.Read.{Read}

pub storage_step : (reads : List Read) (delays : List ℕ) (tensor i : ℕ) (d : Read) → i < length reads
    → storage_of (drop i reads) delays tensor
    ≡ cond (eqb (get_or reads i d).of tensor) (max (at_least_0 (age delays (get_or reads i d))) (storage_of (drop (i + 1) reads) delays tensor))
    (storage_of (drop (i + 1) reads) delays tensor)
unfolding storage_of
storage_step reads delays tensor i d lt = at_drop_more (λ rs. storage_of rs delays tensor) reads i d lt

taken_by_test : (of tensor a rest greatest whole step : ℕ) → of ≡ tensor → step ≡ cond (eqb of tensor) (max a rest) rest → max greatest step ≡ whole
    → max (max a greatest) rest ≡ whole
taken_by_test of tensor a rest greatest whole step is e h =
    let e' : step ≡ max a rest = rw (eq-eqb of tensor is) at e in omega arith

passed_by_test : (of tensor a rest greatest whole step : ℕ) → (of ≡ tensor → ⊥) → step ≡ cond (eqb of tensor) (max a rest) rest → max greatest step ≡ whole
    → max greatest rest ≡ whole
passed_by_test of tensor a rest greatest whole step other e h = grind (arith, nat_tests)

-- a read of the tensor is counted
pub storage_taken : (reads : List Read) (delays : List ℕ) (tensor i greatest whole a : ℕ) (d : Read) → i < length reads
    → (get_or reads i d).of ≡ tensor → age delays (get_or reads i d) ≡ pos a
    → max greatest (storage_of (drop i reads) delays tensor) ≡ whole → max (max a greatest) (storage_of (drop (i + 1) reads) delays tensor) ≡ whole
storage_taken reads delays tensor i greatest whole a d lt is old h =
    taken_by_test _ tensor a (storage_of (drop (i + 1) reads) delays tensor) greatest whole _ is
    (storage_step reads delays tensor i d lt ∙ ap (λ z. cond (eqb (get_or reads i d).of tensor)
    (max (at_least_0 z) (storage_of (drop (i + 1) reads) delays tensor)) (storage_of (drop (i + 1) reads) delays tensor)) old) h

-- a read of another tensor is passed over
pub storage_passed : (reads : List Read) (delays : List ℕ) (tensor i greatest whole : ℕ) (d : Read) → i < length reads
    → ((get_or reads i d).of ≡ tensor → ⊥)
    → max greatest (storage_of (drop i reads) delays tensor) ≡ whole → max greatest (storage_of (drop (i + 1) reads) delays tensor) ≡ whole
storage_passed reads delays tensor i greatest whole d lt other h =
    passed_by_test _ tensor (at_least_0 (age delays (get_or reads i d))) _ greatest whole _ other (storage_step reads delays tensor i d lt) h

-- the step in a table of all tensors
pub storage_each : (reads : List Read) (delays table : List ℕ) (i a tensor whole : ℕ) (d : Read) → i < length reads
    → (get_or reads i d).of < length table → age delays (get_or reads i d) ≡ pos a
    → max (get_or table tensor 0) (storage_of (drop i reads) delays tensor) ≡ whole
    → max (get_or (set table (get_or reads i d).of (max a (get_or table (get_or reads i d).of 0))) tensor 0) (storage_of (drop (i + 1) reads) delays tensor)
    ≡ whole
storage_each reads delays table i a tensor whole d lt in_table old h =
    let of = (get_or reads i d).of in
    let v = max a (get_or table of 0) in
    ⊎_elim
    (λ is. ap (λ x. max x (storage_of (drop (i + 1) reads) delays tensor))
    (ap (λ t. get_or (set table of v) t 0) (sym is) ∙ get_or-set_same table of v 0 in_table ∙ ap (λ t. max a (get_or table t 0)) is)
    ∙ storage_taken reads delays tensor i (get_or table tensor 0) whole a d lt is old h)
    (λ other. ap (λ x. max x (storage_of (drop (i + 1) reads) delays tensor)) (get_or-set_other table of tensor v 0 (λ e. other (sym e)))
    ∙ storage_passed reads delays tensor i (get_or table tensor 0) whole d lt other h)
    (cases_eq of tensor)

pub storage_done : (reads : List Read) (delays : List ℕ) (tensor i greatest whole : ℕ) → length reads ≤ i
    → max greatest (storage_of (drop i reads) delays tensor) ≡ whole → greatest ≡ whole
unfolding storage_of
storage_done reads delays tensor i greatest whole past h =
    let left : storage_of (drop i reads) delays tensor ≡ 0 = ap (λ rs. storage_of rs delays tensor) (drop_all i reads past) in omega arith

pub sum_at_step : (key : Read → ℕ) (tensor : ℕ) (reads : List Read) (numbers : List ℕ) (i : ℕ) (d : Read) → i < length reads → i < length numbers
    → sum_at key tensor (drop i reads) (drop i numbers) ≡ cond (eqb (key (get_or reads i d)) tensor) (get_or numbers i 0) 0
    + sum_at key tensor (drop (i + 1) reads) (drop (i + 1) numbers)
unfolding sum_at
sum_at_step key tensor reads numbers i d lt lt' =
    ap (λ rs. sum_at key tensor rs (drop i numbers)) (drop_more reads i d lt)
    ∙ ap (λ ns. sum_at key tensor (get_or reads i d ∷ drop (i + 1) reads) ns) (drop_more numbers i 0 lt')

-- the step in a table of all tensors
pub sum_each : (key : Read → ℕ) (reads : List Read) (numbers table : List ℕ) (i tensor whole : ℕ) (d : Read) → i < length reads → i < length numbers
    → key (get_or reads i d) < length table
    → get_or table tensor 0 + sum_at key tensor (drop i reads) (drop i numbers) ≡ whole
    → get_or (set table (key (get_or reads i d)) (get_or table (key (get_or reads i d)) 0 + get_or numbers i 0)) tensor 0
    + sum_at key tensor (drop (i + 1) reads) (drop (i + 1) numbers) ≡ whole
sum_each key reads numbers table i tensor whole d lt lt' in_table h =
    let at = key (get_or reads i d) in
    let v = get_or table at 0 + get_or numbers i 0 in
    let step = sum_at_step key tensor reads numbers i d lt lt' in
    ⊎_elim
    (λ is.
    let there : get_or (set table at v) tensor 0 ≡ get_or table tensor 0 + get_or numbers i 0 =
    ap (λ t. get_or (set table at v) t 0) (sym is) ∙ get_or-set_same table at v 0 in_table ∙ ap (λ t. get_or table t 0 + get_or numbers i 0) is in
    let step' = rw (eq-eqb at tensor is) at step in omega arith)
    (λ other.
    let there : get_or (set table at v) tensor 0 ≡ get_or table tensor 0 = get_or-set_other table at tensor v 0 (λ e. other (sym e)) in
    let none : eqb at tensor ≡ false = grind (arith, nat_tests) in
    let step' = rw none at step in omega arith)
    (cases_eq at tensor)

-- no entry of the table grows by more than the number
pub sum_each_small : (table : List ℕ) (at n tensor most : ℕ) → at < length table → get_or table at 0 ≤ most → get_or table tensor 0 ≤ most
    → get_or (set table at (get_or table at 0 + n)) tensor 0 ≤ most + n
sum_each_small table at n tensor most in_table h h' =
    ⊎_elim
    (λ is. let there : get_or (set table at (get_or table at 0 + n)) tensor 0
    ≡ get_or table at 0 + n = ap (λ t. get_or (set table at (get_or table at 0 + n)) t 0) (sym is) ∙ get_or-set_same table at _ 0 in_table in omega arith)
    (λ other. let there : get_or (set table at (get_or table at 0 + n)) tensor 0
    ≡ get_or table tensor 0 = get_or-set_other table at tensor _ 0 (λ e. other (sym e)) in omega arith)
    (cases_eq at tensor)

pub sum_at_done : (key : Read → ℕ) (tensor : ℕ) (reads : List Read) (numbers : List ℕ) (i have whole : ℕ) → length reads ≤ i
    → have + sum_at key tensor (drop i reads) (drop i numbers) ≡ whole → have ≡ whole
unfolding sum_at
sum_at_done key tensor reads numbers i have whole past h =
    let left : sum_at key tensor (drop i reads) (drop i numbers) ≡ 0 = ap (λ rs. sum_at key tensor rs (drop i numbers)) (drop_all i reads past) in omega arith

pub sum_of_offsets_step : (reads : List Read) (numbers : List ℕ) (i : ℕ) (d : Read) → i < length reads → i < length numbers
    → sum_of_offsets (drop i reads) (drop i numbers) ≡ (pos (get_or numbers i 0) *ℤ (get_or reads i d).offset)
    +ℤ sum_of_offsets (drop (i + 1) reads) (drop (i + 1) numbers)
unfolding sum_of_offsets
sum_of_offsets_step reads numbers i d lt lt' =
    ap (λ rs. sum_of_offsets rs (drop i numbers)) (drop_more reads i d lt)
    ∙ ap (λ ns. sum_of_offsets (get_or reads i d ∷ drop (i + 1) reads) ns) (drop_more numbers i 0 lt')

pub sum_of_offsets_done : (reads : List Read) (numbers : List ℕ) (i : ℕ) → length reads ≤ i → sum_of_offsets (drop i reads) (drop i numbers) ≡ pos 0
unfolding sum_of_offsets
sum_of_offsets_done reads numbers i past = ap (λ rs. sum_of_offsets rs (drop i numbers)) (drop_all i reads past)

-- a number times a small offset is small
pub product_within : (n : ℕ) (z : ℤ) → n < 2 ^ 32 → neg_ℤ (pos most_offset) ≤ℤ z → z ≤ℤ pos most_offset
    → (neg_ℤ (pos (2 ^ 74)) ≤ℤ (pos n *ℤ z)) × ((pos n *ℤ z) ≤ℤ pos (2 ^ 74))
product_within n (pos k) small from to =
    let factor : n ≤ 2 ^ 32 = omega arith in
    let offset : k ≤ most_offset = omega (arith, ints) in
    let product = mul-le-mul factor offset in
    (omega (arith, ints), omega (arith, ints))
product_within n (negsuc k) small from to =
    let factor : n ≤ 2 ^ 32 = omega arith in
    let offset : suc k ≤ most_offset = omega (arith, ints) in
    let product = mul-le-mul factor offset in
    (omega (arith, ints), omega (arith, ints))
