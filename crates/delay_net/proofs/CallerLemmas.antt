-- What the crates above cite: sums below a number and over reads, storage as a greatest age, and what a balanced
-- certificate's value lacks of the storage of an assignment that meets the windows.
use Rattle.std.proofs.Common.{◌≡◌, ◌⊎◌, ℕ, zero, suc, ◌+◌, ◌-◌, ◌*◌, ◌<◌, ◌≤◌, ◌||◌, Bool, true, false, cond, eqb, max, List, [], ◌∷◌, length, slice_index, get_or, refl, sym, subst, ◌∙◌, ap, inl, inr, arith, ⊎_elim, eq-eqb, add-one, pos, negsuc, ℤ, ◌+ℤ◌, ◌*ℤ◌, ◌≤ℤ◌}
use borrow.Author.Differences.{up, down}
use Rattle.std.specs.List.{All, AllByRecursion}
use Rattle.std.proofs.lemmas.Int.{ints}
use Rattle.std.proofs.lemmas.Bool.{cases_eq, cases_lt, false≢true}
use Rattle.std.proofs.lemmas.Bool.Decides.{nat_tests}
use Rattle.std.proofs.lemmas.List.Elements.{recursion_from_All, All-nil, All-cons, All-weaker}
use Rattle.delay_net.specs.Sums.{sum_below}
use Rattle.delay_net.specs.Shape.{IsInOrder}
use Rattle.delay_net.specs.Windows.{MeetsWindow, MeetsWindows, age, at_least_0, storage_of, total_storage, IsAgeOfRead, IsGreatestAge, IsLeastStorage}
use Rattle.delay_net.specs.Certificate.{sum_at, sum_read, sum_reading, is_read, width_if_read, IsBalanced, sum_of_offsets, value_of, Fits}
use Rattle.delay_net.specs.pieces.Weighed.{weighed}
use Rattle.delay_net.specs.declared.net.Read.{Read}

-- a sum of nothing
pub sum_below_none : (f : ℕ → ℕ) → sum_below 0 f ≡ 0
unfolding sum_below
sum_below_none f = refl

-- one number more
pub sum_below_more : (n : ℕ) (f : ℕ → ℕ) → sum_below (n + 1) f ≡ sum_below n f + f n
unfolding sum_below
sum_below_more n f = rw add-one refl

-- of two sums the one whose parts are at most the other's is at most the other
pub sum_below_up_to : (n : ℕ) (f g : ℕ → ℕ) → ((t : ℕ) → t < n → f t ≤ g t) → sum_below n f ≤ sum_below n g
unfolding sum_below
sum_below_up_to zero f g h = omega arith
sum_below_up_to (suc n) f g h =
    let before : sum_below n f ≤ sum_below n g = sum_below_up_to n f g (λ t lt. h t (omega arith)) in
    let last : f n ≤ g n = h n (omega arith) in omega arith

-- equal parts have equal sums
pub sum_below_same : (n : ℕ) (f g : ℕ → ℕ) → ((t : ℕ) → t < n → f t ≡ g t) → sum_below n f ≡ sum_below n g
unfolding sum_below
sum_below_same zero f g h = refl
sum_below_same (suc n) f g h =
    let before : sum_below n f ≡ sum_below n g = sum_below_same n f g (λ t lt. h t (omega arith)) in
    let last : f n ≡ g n = h n (omega arith) in omega arith

-- a sum of sums
pub sum_below-add : (n : ℕ) (f g : ℕ → ℕ) → sum_below n (λ t. f t + g t) ≡ sum_below n f + sum_below n g
unfolding sum_below
sum_below-add zero f g = refl
sum_below-add (suc n) f g = omega (arith, sum_below-add n f g)

-- what is equal at each number stays so under weights
pub sum_below_weighed : (n : ℕ) (e a b c d : ℕ → ℕ) → ((t : ℕ) → t < n → a t + b t ≡ c t + d t)
    → sum_below n (λ t. e t * a t) + sum_below n (λ t. e t * b t) ≡ sum_below n (λ t. e t * c t) + sum_below n (λ t. e t * d t)
unfolding sum_below
sum_below_weighed zero e a b c d h = refl
sum_below_weighed (suc n) e a b c d h =
    omega (arith, sum_below_weighed n e a b c d (λ t lt. h t (omega arith)), ap (λ x. e n * x) (h n (omega arith)))

pub sum_below_nothing : (n k m : ℕ) (e : ℕ → ℕ) → n ≤ k → sum_below n (λ t. e t * cond (eqb k t) m 0) ≡ 0
unfolding sum_below
sum_below_nothing zero k m e h = refl
sum_below_nothing (suc n) k m e h =
    let before : sum_below n (λ t. e t * cond (eqb k t) m 0) ≡ 0 = sum_below_nothing n k m e (omega arith) in
    grind (arith, nat_tests)

last_here : (n k m rest : ℕ) (e : ℕ → ℕ) → k ≡ n → rest ≡ 0 → rest + e n * cond (eqb k n) m 0 ≡ m * e k
last_here n k m rest e here none =
    rw (eq-eqb k n here) (omega (arith, ap (λ x. m * e x) here))

last_elsewhere : (n k m rest : ℕ) (e : ℕ → ℕ) → (k ≡ n → ⊥) → rest ≡ m * e k → rest + e n * cond (eqb k n) m 0 ≡ m * e k
last_elsewhere n k m rest e elsewhere all = grind (arith, nat_tests)

-- a number at one place
pub sum_below_one : (n k m : ℕ) (e : ℕ → ℕ) → k < n → sum_below n (λ t. e t * cond (eqb k t) m 0) ≡ m * e k
unfolding sum_below
sum_below_one zero k m e h = omega arith
sum_below_one (suc n) k m e h =
    ⊎_elim (λ here. last_here n k m _ e here (sum_below_nothing n k m e (omega arith)))
    (λ elsewhere. last_elsewhere n k m _ e elsewhere (sum_below_one n k m e (omega arith))) (cases_eq k n)

sum_below_zeros : (n : ℕ) (e : ℕ → ℕ) → sum_below n (λ t. e t * 0) ≡ 0
unfolding sum_below
sum_below_zeros zero e = refl
sum_below_zeros (suc n) e = omega (arith, sum_below_zeros n e)

-- weights of tensors, taken read by read or tensor by tensor
pub sum_below_sum_at : (n : ℕ) (e : ℕ → ℕ) (key : Read → ℕ) (reads : List Read) (numbers : List ℕ) → AllByRecursion (λ r. key r < n) reads
    → sum_below n (λ t. e t * sum_at key t reads numbers) ≡ weighed (λ r. e (key r)) reads numbers
unfolding sum_at weighed
sum_below_sum_at n e key [] numbers h = sum_below_zeros n e
sum_below_sum_at n e key (r ∷ reads) [] h = sum_below_zeros n e
sum_below_sum_at n e key (r ∷ reads) (m ∷ numbers) h =
    let first : ℕ → ℕ = λ t. e t * cond (eqb (key r) t) m 0 in
    let others : ℕ → ℕ = λ t. e t * sum_at key t reads numbers in
    sum_below_same n (λ t. e t * (cond (eqb (key r) t) m 0 + sum_at key t reads numbers)) (λ t. first t + others t) (λ t lt. omega arith)
    ∙ sum_below-add n first others
    ∙ ap (λ x. x + sum_below n others) (sum_below_one n (key r) m e h.0)
    ∙ ap (λ x. m * e (key r) + x) (sum_below_sum_at n e key reads numbers h.1)

-- what is equal at each read stays so under numbers of reads
pub weighed_equal : (f g h p q : Read → ℕ) (reads : List Read) (numbers : List ℕ)
    → AllByRecursion (λ r. f r + g r + h r ≡ p r + q r) reads
    → weighed f reads numbers + weighed g reads numbers + weighed h reads numbers ≡ weighed p reads numbers + weighed q reads numbers
unfolding weighed
weighed_equal f g h p q [] numbers all = refl
weighed_equal f g h p q (r ∷ reads) [] all = refl
weighed_equal f g h p q (r ∷ reads) (n ∷ numbers) all =
    omega (arith, weighed_equal f g h p q reads numbers all.1, ap (λ x. n * x) all.0)

older : (z : ℤ) (n : ℕ) → at_least_0 z ≤ n → z ≤ℤ pos n
older (pos m) n h = omega (arith, ints)
older (negsuc m) n h = omega (arith, ints)

some_age : (z : ℤ) (n : ℕ) → at_least_0 z ≡ n → (n ≡ 0 → ⊥) → z ≡ pos n
some_age (pos m) n h not_0 = ap pos h
some_age (negsuc m) n h not_0 = absurd (not_0 (sym h))

abbrev OlderThan : List ℕ → ℕ → ℕ → Read → Type 0
OlderThan delays tensor cells read = read.of ≡ tensor → age delays read ≤ℤ pos cells

up_to_more : (delays : List ℕ) (tensor less more : ℕ) (reads : List Read) → less ≤ more → All (OlderThan delays tensor less) reads
    → All (OlderThan delays tensor more) reads
up_to_more delays tensor less more reads h all =
    All-weaker (OlderThan delays tensor less) (OlderThan delays tensor more) (λ r old of. let bound = old of in omega (arith, ints)) reads all

age_later : (r : Read) (reads : List Read) (delays : List ℕ) (tensor cells : ℕ) → (cells ≡ 0) ⊎ IsAgeOfRead reads delays tensor cells
    → (cells ≡ 0) ⊎ IsAgeOfRead (r ∷ reads) delays tensor cells
age_later r reads delays tensor cells (inl none) = inl none
age_later r reads delays tensor cells (inr some) = inr (some.0, (suc some.1.0, omega (arith, some.1.1), some.1.2), some.2, some.3)

age_first : (r : Read) (reads : List Read) (delays : List ℕ) (tensor cells : ℕ) → r.of ≡ tensor → at_least_0 (age delays r) ≡ cells
    → (cells ≡ 0) ⊎ IsAgeOfRead (r ∷ reads) delays tensor cells
age_first r reads delays tensor cells of old =
    ⊎_elim (λ none. inl none) (λ some. inr (r, (0, omega arith, refl), of, some_age (age delays r) cells old some)) (cases_eq cells 0)

greatest_more : (r : Read) (reads : List Read) (delays : List ℕ) (tensor rest : ℕ) → IsGreatestAge reads delays tensor rest
    → IsGreatestAge (r ∷ reads) delays tensor (cond (eqb r.of tensor) (max (at_least_0 (age delays r)) rest) rest)
greatest_more r reads delays tensor rest later =
    ⊎_elim
    (λ of. subst (IsGreatestAge (r ∷ reads) delays tensor) (sym (here of)) (record {
      bound = All-cons (OlderThan delays tensor (max a rest)) r reads (λ _. older (age delays r) (max a rest) (omega arith))
          (up_to_more delays tensor rest (max a rest) reads (omega arith) later.bound);
      reached = ⊎_elim
          (λ lt. subst (λ n. (n ≡ 0) ⊎ IsAgeOfRead (r ∷ reads) delays tensor n) (greater lt) (age_later r reads delays tensor rest later.reached))
          (λ le. age_first r reads delays tensor (max a rest) of (omega arith))
          (cases_lt a rest);
    }))
    (λ other. subst (IsGreatestAge (r ∷ reads) delays tensor) (sym (elsewhere other)) (record {
      bound = All-cons (OlderThan delays tensor rest) r reads (λ of. absurd (other of)) later.bound;
      reached = age_later r reads delays tensor rest later.reached;
    }))
    (cases_eq r.of tensor)
  where
    a : ℕ
    a = at_least_0 (age delays r)

    here : r.of ≡ tensor → cond (eqb r.of tensor) (max a rest) rest ≡ max a rest
    here of = rw (eq-eqb r.of tensor of) refl

    elsewhere : (r.of ≡ tensor → ⊥) → cond (eqb r.of tensor) (max a rest) rest ≡ rest
    elsewhere other = grind (arith, nat_tests)

    greater : a < rest → rest ≡ max a rest
    greater lt = omega arith

-- the storage is a greatest age
pub storage_of_is : (reads : List Read) (delays : List ℕ) (tensor : ℕ) → IsGreatestAge reads delays tensor (storage_of reads delays tensor)
unfolding storage_of
storage_of_is [] delays tensor = record { bound = All-nil (OlderThan delays tensor 0); reached = inl refl }
storage_of_is (r ∷ reads) delays tensor = greatest_more r reads delays tensor _ (storage_of_is reads delays tensor)

-- an offset's product by its two parts
product_parts : (n : ℕ) (z : ℤ) → up (pos n *ℤ z) + n * down z ≡ down (pos n *ℤ z) + n * up z
product_parts n (pos k) = omega arith
product_parts n (negsuc k) = omega (arith, ints)

-- a sum of offsets by the offsets' parts above and below 0
pub sum_of_offsets_parts : (reads : List Read) (numbers : List ℕ)
    → up (sum_of_offsets reads numbers) + weighed (λ r. down r.offset) reads numbers
    ≡ down (sum_of_offsets reads numbers) + weighed (λ r. up r.offset) reads numbers
unfolding sum_of_offsets weighed
sum_of_offsets_parts [] numbers = refl
sum_of_offsets_parts (r ∷ reads) [] = refl
sum_of_offsets_parts (r ∷ reads) (n ∷ numbers) = omega (arith, ints, sum_of_offsets_parts reads numbers, product_parts n r.offset)

at_least_0_is : (z : ℤ) → pos 0 ≤ℤ z → z ≡ pos (at_least_0 z)
at_least_0_is (pos n) h = refl
at_least_0_is (negsuc n) h = absurd (omega (arith, ints))

-- the age of a read whose window is met, in natural numbers
pub age_parts : (delays : List ℕ) (r : Read) → MeetsWindow delays r
    → slice_index delays r.of + up r.offset + at_least_0 (age delays r) ≡ slice_index delays r.reader + down r.offset
age_parts delays r h =
    let is : age delays r ≡ pos (at_least_0 (age delays r)) = at_least_0_is (age delays r) (omega (arith, ints)) in
    omega (arith, ints)

pub at_least_0_within : (z : ℤ) (n : ℕ) → z ≤ℤ pos n → at_least_0 z ≤ n
at_least_0_within (pos m) n h = omega (arith, ints)
at_least_0_within (negsuc m) n h = omega arith

-- no read of a tensor is older than its storage
pub age_within : (delays : List ℕ) (reads : List Read) → All (λ r. at_least_0 (age delays r) ≤ storage_of reads delays r.of) reads
age_within delays reads = λ k d lt.
    at_least_0_within (age delays (get_or reads k d)) _ ((storage_of_is reads delays (get_or reads k d).of).bound k d lt refl)

none_by_test : (here : Bool) (n rest : ℕ) (later : Bool) → (here || later) ≡ false → (later ≡ false → rest ≡ 0) → cond here n 0 + rest ≡ 0
none_by_test true n rest later h none = absurd (false≢true (sym h))
none_by_test false n rest later h none = omega (arith, none h)

-- a tensor that isn't read has no holds, so its holds are at most its width
sum_read_none : (reads : List Read) (tensor : ℕ) (numbers : List ℕ) → is_read reads tensor ≡ false → sum_read tensor reads numbers ≡ 0
unfolding sum_at
sum_read_none [] tensor numbers h = refl
sum_read_none (r ∷ reads) tensor [] h = refl
sum_read_none (r ∷ reads) tensor (n ∷ numbers) h = none_by_test (eqb r.of tensor) n _ (is_read reads tensor) h (sum_read_none reads tensor numbers)

-- where the widths are filled, the holds of a tensor's reads are its width, if it is read
pub sum_read_is : (weights : List ℕ) (reads : List Read) (hold : List ℕ) (tensor : ℕ)
    → (is_read reads tensor ≡ true → sum_read tensor reads hold ≡ slice_index weights tensor)
    → sum_read tensor reads hold ≡ width_if_read weights reads tensor
sum_read_is weights reads hold tensor held =
    by_reading (is_read reads tensor) _ _ held (sum_read_none reads tensor hold)
  where
    by_reading : (b : Bool) (s w : ℕ) → (b ≡ true → s ≡ w) → (b ≡ false → s ≡ 0) → s ≡ cond b w 0
    by_reading true s w here none = here refl
    by_reading false s w here none = none refl

none_read : (here later : Bool) (a rest : ℕ) → (here || later) ≡ false → (later ≡ false → rest ≡ 0) → cond here (max a rest) rest ≡ 0
none_read true later a rest h none = absurd (false≢true (sym h))
none_read false later a rest h none = none h

-- a tensor that isn't read has no storage
pub storage_none : (reads : List Read) (delays : List ℕ) (tensor : ℕ) → is_read reads tensor ≡ false → storage_of reads delays tensor ≡ 0
unfolding storage_of
storage_none [] delays tensor h = refl
storage_none (r ∷ reads) delays tensor h =
    none_read (eqb r.of tensor) (is_read reads tensor) (at_least_0 (age delays r)) (storage_of reads delays tensor) h (storage_none reads delays tensor)

-- how much less old a read is than the storage of what it reads
abbrev pub gap : List Read → List ℕ → Read → ℕ
gap reads delays r = storage_of reads delays r.of - at_least_0 (age delays r)

-- holds of reads that aren't the oldest, and needs of reads with room in their windows
abbrev pub slack : List Read → List ℕ → List ℕ → List ℕ → ℕ
slack reads delays hold need = weighed (gap reads delays) reads hold + weighed (λ r. at_least_0 (age delays r)) reads need

filled_storage : (width held storage : ℕ) (read : Bool) → held ≡ cond read width 0 → (read ≡ false → storage ≡ 0) → storage * held ≡ width * storage
filled_storage width held storage true h none = omega (arith, ap (λ x. storage * x) h)
filled_storage width held storage false h none = omega (arith, ap (λ x. storage * x) h, ap (λ x. width * x) (none refl))

-- the value of a balanced certificate and its slack are the storage
pub value_and_slack : (weights : List ℕ) (reads : List Read) (hold need delays : List ℕ)
    → All (IsInOrder weights) reads → IsBalanced weights reads hold need → MeetsWindows reads delays
    → value_of reads hold need +ℤ pos (slack reads delays hold need) ≡ pos (total_storage weights reads delays)
unfolding total_storage
value_and_slack weights reads hold need delays order balanced meets =
    let n = length weights in
    let delay : ℕ → ℕ = slice_index delays in
    let storage : ℕ → ℕ = storage_of reads delays in
    let old : Read → ℕ = λ r. at_least_0 (age delays r) in
    let of_in : AllByRecursion (λ r. r.of < n) reads = recursion_from_All _ reads
    (All-weaker (IsInOrder weights) (λ r. r.of < n) (λ r h. omega (arith, h.0, h.1)) reads order) in
    let reader_in : AllByRecursion (λ r. r.reader < n) reads = recursion_from_All _ reads
    (All-weaker (IsInOrder weights) (λ r. r.reader < n) (λ r h. h.1) reads order) in
    let ages : AllByRecursion (λ r. delay r.of + up r.offset + old r ≡ delay r.reader + down r.offset) reads = recursion_from_All _ reads
    (All-weaker (MeetsWindow delays) (λ r. delay r.of + up r.offset + old r ≡ delay r.reader + down r.offset) (age_parts delays) reads meets) in
    let holds = weighed_equal (λ r. delay r.of) (λ r. up r.offset) old (λ r. delay r.reader) (λ r. down r.offset) reads hold ages in
    let needs = weighed_equal (λ r. delay r.of) (λ r. up r.offset) old (λ r. delay r.reader) (λ r. down r.offset) reads need ages in
    let held : (t : ℕ) → t < n → sum_read t reads hold ≡ width_if_read weights reads t = λ t lt. sum_read_is weights reads hold t (balanced.held t lt) in
    let even : (t : ℕ) → t < n → sum_reading t reads hold + sum_read t reads need
    ≡ sum_reading t reads need + sum_read t reads hold = λ t lt. rw (held t lt) (balanced.even t lt) in
    let swapped = sum_below_weighed n delay (λ t. sum_reading t reads hold) (λ t. sum_read t reads need) (λ t. sum_reading t reads need)
    (λ t. sum_read t reads hold) even in
    let by_reader_hold = sum_below_sum_at n delay (λ r. r.reader) reads hold reader_in in
    let by_reader_need = sum_below_sum_at n delay (λ r. r.reader) reads need reader_in in
    let by_of_hold = sum_below_sum_at n delay (λ r. r.of) reads hold of_in in
    let by_of_need = sum_below_sum_at n delay (λ r. r.of) reads need of_in in
    let by_storage = sum_below_sum_at n storage (λ r. r.of) reads hold of_in in
    let gaps : AllByRecursion (λ r. old r + gap reads delays r + 0 ≡ storage r.of + 0) reads = recursion_from_All _ reads
    (All-weaker (λ r. old r ≤ storage r.of) (λ r. old r + gap reads delays r + 0 ≡ storage r.of + 0) (λ r h. omega arith) reads (age_within delays reads)) in
    let parts = weighed_equal old (gap reads delays) (λ r. 0) (λ r. storage r.of) (λ r. 0) reads hold gaps in
    let full : sum_below n (λ t. storage t * sum_read t reads hold) ≡ sum_below n (λ t. slice_index weights t * storage t)
    = sum_below_same n _ _ (λ t lt. filled_storage (slice_index weights t) (sum_read t reads hold) (storage t) (is_read reads t) (held t lt)
    (storage_none reads delays t)) in
    let offsets_hold = sum_of_offsets_parts reads hold in
    let offsets_need = sum_of_offsets_parts reads need in
    omega (arith, ints)

-- a fitting certificate proves least storage
pub fitting_is_least : (weights : List ℕ) (reads : List Read) (delays hold need : List ℕ) → All (IsInOrder weights) reads
    → Fits weights reads delays hold need → IsLeastStorage weights reads (total_storage weights reads delays)
fitting_is_least weights reads delays hold need order fits = λ others one_each meets.
    omega (arith, ints, value_and_slack weights reads hold need others order fits.balanced meets, fits.value)
