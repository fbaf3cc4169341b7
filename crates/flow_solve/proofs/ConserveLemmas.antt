-- Balance as conservation, and what a change of one number does.
use Rattle.std.proofs.Common.{◌≡◌, ℕ, zero, suc, ◌+◌, ◌*◌, ◌^◌, ◌-◌, ◌<◌, ◌≤◌, Bool, true, false, cond, eqb, ltb, List, [], ◌∷◌, length, slice_index, get_or, set, refl, ◌∙◌, ap, arith, ⊎_elim, pos, negsuc, ℤ, ◌+ℤ◌, ◌*ℤ◌}
use Rattle.std.specs.List.{All, AllByRecursion}
use Rattle.std.proofs.lemmas.Int.{ints}
use Rattle.std.proofs.lemmas.Bool.{cases_eq, false≢true}
use Rattle.std.proofs.lemmas.Bool.Decides.{nat_tests}
use Rattle.std.proofs.lemmas.List.Elements.{recursion_from_All, All-weaker}
use Rattle.std.proofs.Math.Nat.{mul-le-mul, le_refl}
use Rattle.delay_net.specs.Sums.{sum_below}
use Rattle.delay_net.specs.Shape.{IsInOrder, IsNet}
use Rattle.delay_net.specs.Certificate.{sum_at, sum_read, sum_reading, is_read, width_if_read, IsBalanced, sum_of_offsets}
use Rattle.delay_net.specs.declared.net.Read.{Read}
use Rattle.delay_net.proofs.CallerLemmas.{sum_below_up_to, sum_below_same, sum_below_weighed, sum_below_sum_at, sum_below_one, sum_read_is}
use Rattle.delay_net.specs.pieces.Weighed.{weighed}
use Rattle.flow_solve.specs.machine.Conserve.{supplied, comes_in, goes_out}

-- a number raised, and a number lowered
pub weighed_raised : (f : Read → ℕ) (reads : List Read) (numbers : List ℕ) (i : ℕ) (d : Read) → i < length reads → i < length numbers
    → weighed f reads (set numbers i (get_or numbers i 0 + 1)) ≡ weighed f reads numbers + f (get_or reads i d)
unfolding weighed
weighed_raised f [] numbers i d lt lt' = absurd (omega arith)
weighed_raised f (r ∷ reads) [] i d lt lt' = absurd (omega arith)
weighed_raised f (r ∷ reads) (n ∷ numbers) zero d lt lt' = omega arith
weighed_raised f (r ∷ reads) (n ∷ numbers) (suc i) d lt lt' = omega (arith, weighed_raised f reads numbers i d (omega arith) (omega arith))

pub weighed_lowered : (f : Read → ℕ) (reads : List Read) (numbers : List ℕ) (i : ℕ) (d : Read) → i < length reads → i < length numbers → 0 < get_or numbers i 0
    → weighed f reads (set numbers i (get_or numbers i 0 - 1)) + f (get_or reads i d) ≡ weighed f reads numbers
unfolding weighed
weighed_lowered f [] numbers i d lt lt' some = absurd (omega arith)
weighed_lowered f (r ∷ reads) [] i d lt lt' some = absurd (omega arith)
weighed_lowered f (r ∷ reads) (zero ∷ numbers) zero d lt lt' some = absurd (omega arith)
weighed_lowered f (r ∷ reads) (suc n ∷ numbers) zero d lt lt' some =
    let less : (suc n - 1) * f r ≡ n * f r = ap (λ x. x * f r) (omega arith) in omega arith
weighed_lowered f (r ∷ reads) (n ∷ numbers) (suc i) d lt lt' some = omega (arith, weighed_lowered f reads numbers i d (omega arith) (omega arith) some)

times_more : (n : ℕ) (z : ℤ) → pos (n + 1) *ℤ z ≡ (pos n *ℤ z) +ℤ z
times_more n (pos k) = omega (arith, ints)
times_more n (negsuc k) = omega (arith, ints)

pub offsets_raised : (reads : List Read) (numbers : List ℕ) (i : ℕ) (d : Read) → i < length reads → i < length numbers
    → sum_of_offsets reads (set numbers i (get_or numbers i 0 + 1)) ≡ sum_of_offsets reads numbers +ℤ (get_or reads i d).offset
unfolding sum_of_offsets
offsets_raised [] numbers i d lt lt' = absurd (omega arith)
offsets_raised (r ∷ reads) [] i d lt lt' = absurd (omega arith)
offsets_raised (r ∷ reads) (n ∷ numbers) zero d lt lt' = omega (arith, ints, times_more n r.offset)
offsets_raised (r ∷ reads) (n ∷ numbers) (suc i) d lt lt' = omega (arith, ints, offsets_raised reads numbers i d (omega arith) (omega arith))

pub offsets_lowered : (reads : List Read) (numbers : List ℕ) (i : ℕ) (d : Read) → i < length reads → i < length numbers → 0 < get_or numbers i 0
    → sum_of_offsets reads (set numbers i (get_or numbers i 0 - 1)) +ℤ (get_or reads i d).offset ≡ sum_of_offsets reads numbers
unfolding sum_of_offsets
offsets_lowered [] numbers i d lt lt' some = absurd (omega arith)
offsets_lowered (r ∷ reads) [] i d lt lt' some = absurd (omega arith)
offsets_lowered (r ∷ reads) (zero ∷ numbers) zero d lt lt' some = absurd (omega arith)
offsets_lowered (r ∷ reads) (suc n ∷ numbers) zero d lt lt' some =
    let more : pos (suc n) *ℤ r.offset ≡ (pos n *ℤ r.offset) +ℤ r.offset = ap (λ x. pos x *ℤ r.offset) (omega arith) ∙ times_more n r.offset in
    let less : pos (suc n - 1) *ℤ r.offset ≡ pos n *ℤ r.offset = ap (λ x. pos x *ℤ r.offset) (omega arith) in
    omega (arith, ints, more, less)
offsets_lowered (r ∷ reads) (n ∷ numbers) (suc i) d lt lt' some = omega (arith, ints, offsets_lowered reads numbers i d (omega arith) (omega arith) some)

-- balance is conservation
pub conserves : (weights : List ℕ) (reads : List Read) (hold need : List ℕ) → All (IsInOrder weights) reads → IsBalanced weights reads hold need
    → (e s : ℕ → ℕ) → comes_in weights reads hold need e s ≡ goes_out weights reads hold need e s
conserves weights reads hold need order balanced = λ e s.
    let n = length weights in
    let of_in : AllByRecursion (λ r. r.of < n) reads = recursion_from_All _ reads
    (All-weaker (IsInOrder weights) (λ r. r.of < n) (λ r h. omega (arith, h.0, h.1)) reads order) in
    let reader_in : AllByRecursion (λ r. r.reader < n) reads = recursion_from_All _ reads
    (All-weaker (IsInOrder weights) (λ r. r.reader < n) (λ r h. h.1) reads order) in
    let held : (t : ℕ) → t < n → sum_read t reads hold ≡ width_if_read weights reads t = λ t lt. sum_read_is weights reads hold t (balanced.held t lt) in
    let swapped = sum_below_weighed n e (λ t. sum_reading t reads hold) (λ t. sum_read t reads need) (λ t. sum_reading t reads need)
    (λ t. width_if_read weights reads t) balanced.even in
    let filled = sum_below_same n (λ t. s t * sum_read t reads hold) (λ t. s t * width_if_read weights reads t) (λ t lt. ap (λ x. s t * x) (held t lt)) in
    let a = sum_below_sum_at n e (λ r. r.reader) reads hold reader_in in
    let b = sum_below_sum_at n e (λ r. r.reader) reads need reader_in in
    let c = sum_below_sum_at n e (λ r. r.of) reads need of_in in
    let f = sum_below_sum_at n s (λ r. r.of) reads hold of_in in
    omega arith

-- 1 at one tensor
abbrev one_at : ℕ → ℕ → ℕ
one_at t u = cond (eqb u t) 1 0

counted : (key t n rest : ℕ) → n * cond (eqb key t) 1 0 + rest ≡ cond (eqb key t) n 0 + rest
counted key t n rest = by_test (eqb key t)
  where
    by_test : (b : Bool) → n * cond b 1 0 + rest ≡ cond b n 0 + rest
    by_test true = omega arith
    by_test false = omega arith

weighed_one : (key : Read → ℕ) (t : ℕ) (reads : List Read) (numbers : List ℕ) → weighed (λ r. one_at t (key r)) reads numbers ≡ sum_at key t reads numbers
unfolding weighed sum_at
weighed_one key t [] numbers = refl
weighed_one key t (r ∷ reads) [] = refl
weighed_one key t (r ∷ reads) (n ∷ numbers) = counted (key r) t n _ ∙ ap (λ x. cond (eqb (key r) t) n 0 + x) (weighed_one key t reads numbers)

weighed_zero : (reads : List Read) (numbers : List ℕ) → weighed (λ r. 0) reads numbers ≡ 0
unfolding weighed
weighed_zero [] numbers = refl
weighed_zero (r ∷ reads) [] = refl
weighed_zero (r ∷ reads) (n ∷ numbers) = omega (arith, weighed_zero reads numbers)

sum_below_0 : (n : ℕ) (w : ℕ → ℕ) → sum_below n (λ t. 0 * w t) ≡ 0
unfolding sum_below
sum_below_0 zero w = refl
sum_below_0 (suc n) w = omega (arith, sum_below_0 n w)

turned : (t u w : ℕ) → cond (eqb u t) 1 0 * w ≡ w * cond (eqb t u) 1 0
turned t u w = ⊎_elim
    (λ e. let a : eqb u t ≡ true = grind (arith, nat_tests) in let b : eqb t u ≡ true = grind (arith, nat_tests) in rw (a, b) (omega arith))
    (λ ne. let a : eqb u t ≡ false = grind (arith, nat_tests) in let b : eqb t u ≡ false = grind (arith, nat_tests) in rw (a, b) (omega arith))
    (cases_eq u t)

supplied_one : (weights : List ℕ) (reads : List Read) (t : ℕ) → t < length weights → supplied weights reads (one_at t) ≡ width_if_read weights reads t
supplied_one weights reads t lt =
    let w : ℕ → ℕ = width_if_read weights reads in
    sum_below_same (length weights) (λ u. one_at t u * w u) (λ u. w u * cond (eqb t u) 1 0) (λ u below. turned t u (w u))
    ∙ sum_below_one (length weights) t 1 w lt ∙ omega arith

if_read : (read : Bool) (w : ℕ) → read ≡ true → cond read w 0 ≡ w
if_read true w h = refl
if_read false w h = absurd (false≢true h)

-- conservation is balance
pub balanced_from : (weights : List ℕ) (reads : List Read) (hold need : List ℕ)
    → ((e s : ℕ → ℕ) → comes_in weights reads hold need e s ≡ goes_out weights reads hold need e s) → IsBalanced weights reads hold need
balanced_from weights reads hold need keeps = record {
  held = λ t lt is.
      let here = keeps (λ u. 0) (one_at t) in
      omega (
        arith,
        here,
        weighed_zero reads need,
        weighed_zero reads hold,
        weighed_one (λ r. r.of) t reads hold,
        sum_below_0 (length weights)
            (width_if_read weights reads),
        supplied_one weights reads t lt,
        if_read (is_read reads t) (slice_index weights t) is,
      );
  even = λ t lt.
      let here = keeps (one_at t) (λ u. 0) in
      omega (
        arith,
        here,
        weighed_zero reads hold,
        weighed_one (λ r. r.reader) t reads need,
        weighed_one (λ r. r.of) t reads need,
        weighed_one
            (λ r. r.reader) t reads hold,
        sum_below_0 (length weights) (width_if_read weights reads),
        supplied_one weights reads t lt,
      );
}

-- a number is within the weighed sum, where its weight is 1
weighed_member : (f : Read → ℕ) (reads : List Read) (numbers : List ℕ) (i : ℕ) (d : Read) → i < length reads → i < length numbers → f (get_or reads i d) ≡ 1
    → get_or numbers i 0 ≤ weighed f reads numbers
unfolding weighed
weighed_member f [] numbers i d lt lt' one = absurd (omega arith)
weighed_member f (r ∷ reads) [] i d lt lt' one = absurd (omega arith)
weighed_member f (r ∷ reads) (n ∷ numbers) zero d lt lt' one = omega (arith, ap (λ x. n * x) one)
weighed_member f (r ∷ reads) (n ∷ numbers) (suc i) d lt lt' one = omega (arith, weighed_member f reads numbers i d (omega arith) (omega arith) one)

-- 1 up to a tensor
abbrev up_to : ℕ → ℕ → ℕ
up_to k u = cond (ltb k u) 0 1

up_to_falls : (k a b : ℕ) → a ≤ b → up_to k b ≤ up_to k a
up_to_falls k a b h = grind (arith, nat_tests)

falls : (k : ℕ) (weights : List ℕ) (reads : List Read) (numbers : List ℕ) → AllByRecursion (IsInOrder weights) reads
    → weighed (λ r. up_to k r.reader) reads numbers ≤ weighed (λ r. up_to k r.of) reads numbers
unfolding weighed
falls k weights [] numbers order = omega arith
falls k weights (r ∷ reads) [] order = omega arith
falls k weights (r ∷ reads) (n ∷ numbers) order =
    omega (arith, mul-le-mul (le_refl n) (up_to_falls k r.of r.reader (omega (arith, order.0.0))), falls k weights reads numbers order.1)

-- what crosses a cut is at least each number that crosses it
crossing : (k : ℕ) (weights : List ℕ) (reads : List Read) (numbers : List ℕ) (i : ℕ) (d : Read) → AllByRecursion (IsInOrder weights) reads → i < length reads
    → i < length numbers
    → (get_or reads i d).of ≤ k → k < (get_or reads i d).reader
    → get_or numbers i 0 + weighed (λ r. up_to k r.reader) reads numbers ≤ weighed (λ r. up_to k r.of) reads numbers
unfolding weighed
crossing k weights [] numbers i d order lt lt' of reader = absurd (omega arith)
crossing k weights (r ∷ reads) [] i d order lt lt' of reader = absurd (omega arith)
crossing k weights (r ∷ reads) (n ∷ numbers) zero d order lt lt' of reader =
    let one : up_to k r.of ≡ 1 = grind (arith, nat_tests) in
    let none : up_to k r.reader ≡ 0 = grind (arith, nat_tests) in
    omega (arith, ap (λ x. n * x) one, ap (λ x. n * x) none, falls k weights reads numbers order.1)
crossing k weights (r ∷ reads) (n ∷ numbers) (suc i) d order lt lt' of reader =
    omega (
      arith,
      mul-le-mul (le_refl n) (up_to_falls k r.of r.reader (omega (arith, order.0.0))),
      crossing k weights reads numbers i d order.1 (omega arith)
          (omega arith) of reader,
    )

width_small : (weights : List ℕ) (reads : List Read) (t : ℕ) → IsNet weights reads → t < length weights → width_if_read weights reads t ≤ 64
width_small weights reads t net lt = by_test (is_read reads t) (slice_index weights t) (net.widths t 0 lt).1
  where
    by_test : (b : Bool) (w : ℕ) → w ≤ 64 → cond b w 0 ≤ 64
    by_test true w h = h
    by_test false w h = omega arith

constant_sum : (n c : ℕ) → sum_below n (λ t. c) ≡ n * c
unfolding sum_below
constant_sum zero c = omega arith
constant_sum (suc n) c = omega (arith, constant_sum n c)

supply_small : (k : ℕ) (weights : List ℕ) (reads : List Read) → IsNet weights reads → supplied weights reads (up_to k) ≤ 2 ^ 15
supply_small k weights reads net =
    let each : sum_below (length weights) (λ t. up_to k t * width_if_read weights reads t) ≤ sum_below (length weights) (λ t. 64)
    = sum_below_up_to (length weights) _ _ (λ t lt. term (ltb k t) _ (width_small weights reads t net lt)) in
    omega (arith, constant_sum (length weights) 64, net.few_tensors)
  where
    term : (b : Bool) (w : ℕ) → w ≤ 64 → cond b 0 1 * w ≤ 64
    term true w h = omega arith
    term false w h = omega arith

-- no number of a balanced certificate is large
pub need_small : (weights : List ℕ) (reads : List Read) (hold need : List ℕ) (i : ℕ) → IsNet weights reads → IsBalanced weights reads hold need
    → i < length reads → i < length need → get_or need i 0 ≤ 2 ^ 15
need_small weights reads hold need i net balanced lt lt' =
    let d : Read = record { reader = 0; of = 0; offset = pos 0 } in
    let r = get_or reads i d in
    let order = net.order i d lt in
    let cut = conserves weights reads hold need net.order balanced (up_to r.of) (λ u. 0) in
    let cross = crossing r.of weights reads need i d (recursion_from_All (IsInOrder weights) reads net.order) lt lt' (omega arith) (omega (arith, order.0)) in
    omega (arith, cut, cross, weighed_zero reads hold, sum_below_0 (length weights) (width_if_read weights reads), supply_small r.of weights reads net)

pub hold_small : (weights : List ℕ) (reads : List Read) (hold need : List ℕ) (i : ℕ) → IsNet weights reads → IsBalanced weights reads hold need
    → i < length reads → i < length hold → get_or hold i 0 ≤ 2 ^ 15
hold_small weights reads hold need i net balanced lt lt' =
    let d : Read = record { reader = 0; of = 0; offset = pos 0 } in
    let r = get_or reads i d in
    let order = net.order i d lt in
    let in_range : r.of < length weights = omega (arith, order.0, order.1) in
    let one : one_at r.of r.of ≡ 1 = grind (arith, nat_tests) in
    let member = weighed_member (λ q. one_at r.of q.of) reads hold i d lt lt' one in
    omega (
      arith,
      member,
      weighed_one (λ q. q.of) r.of reads hold,
      sum_read_is weights reads hold r.of
          (balanced.held r.of in_range),
      width_small weights reads r.of net in_range,
    )
