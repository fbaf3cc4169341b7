-- The bytes of a raw cell.
use Rattle.std.proofs.Common.{◌≡◌, ℕ, zero, suc, ◌+◌, ◌-◌, ◌*◌, ◌^◌, ◌≤◌, ◌<◌, Bool, true, false, nat_le, List, [], ◌∷◌, length, get_or, Contains, if◌then◌else◌, ◌⊎◌, inl, inr, ℤ, pos, negsuc, neg_ℤ, ◌+ℤ◌, ◌≤ℤ◌, ◌<ℤ◌, refl, sym, subst, ◌∙◌, ap, arith, lit<, lit≤}
use Rattle.std.specs.Fmt.{signed_decimal}
use Rattle.std.proofs.lemmas.Fmt.{decimal_nonempty}
use Rattle.std.proofs.lemmas.Int.{ints}
use Rattle.std.proofs.Math.Nat.{pow-le-pow_right}
use Rattle.std.proofs.lemmas.Bool.{cases_lt, le-leb, lt-leb}
use Rattle.std.specs.Int.{bytes_low_first}
use Rattle.byteorder.specs.Endian.{little_bytes}
use Rattle.soda_words.specs.IntType.{IntType, IsCellSize, IsType, cell_sizes}
use Rattle.int_types.specs.Ranges.{InRange, least, past}
use Rattle.array_bytes.specs.Written.{complement}
use Rattle.array_bytes.specs.Sizes.{cell_size}

abbrev IsSize : ℕ → Type 0
IsSize s = (s ≡ 1) ⊎ ((s ≡ 2) ⊎ ((s ≡ 4) ⊎ (s ≡ 8)))

at_place : (s k : ℕ) → k < 4 → get_or cell_sizes k s ≡ s → IsSize s
at_place s zero lt e = inl (sym e)
at_place s (suc zero) lt e = inr (inl (sym e))
at_place s (suc (suc zero)) lt e = inr (inr (inl (sym e)))
at_place s (suc (suc (suc zero))) lt e = inr (inr (inr (sym e)))
at_place s (suc (suc (suc (suc k)))) lt e = absurd (omega arith)

-- a size is one of these
pub size_one : (s : ℕ) → Contains cell_sizes s → IsSize s
size_one s c = at_place s c.0 c.1 c.2

is_one : Contains cell_sizes 1
is_one = (0, omega arith, refl)

is_two : Contains cell_sizes 2
is_two = (1, omega arith, refl)

is_four : Contains cell_sizes 4
is_four = (2, omega arith, refl)

abbrev size_by : Bool → Bool → Bool → ℕ
size_by a b c = if a then 1 else (if b then 2 else (if c then 4 else 8))

tests : (n : ℕ) (a b c : Bool) → nat_le n 8 ≡ a → nat_le n 16 ≡ b → nat_le n 32 ≡ c → size_by (nat_le n 8) (nat_le n 16) (nat_le n 32) ≡ size_by a b c
tests n a b c p q r = ap (λ x. size_by x (nat_le n 16) (nat_le n 32)) p ∙ ap (λ y. size_by a y (nat_le n 32)) q ∙ ap (λ z. size_by a b z) r

between : (s low high : ℕ) → IsSize s → low < s → s ≤ high → high ≡ low + low → IsSize high → s ≡ high
between s low high (inl e) lt le d h = omega arith
between s low high (inr (inl e)) lt le d (inl f) = omega arith
between s low high (inr (inl e)) lt le d (inr (inl f)) = omega arith
between s low high (inr (inl e)) lt le d (inr (inr (inl f))) = omega arith
between s low high (inr (inl e)) lt le d (inr (inr (inr f))) = omega arith
between s low high (inr (inr (inl e))) lt le d (inl f) = omega arith
between s low high (inr (inr (inl e))) lt le d (inr (inl f)) = omega arith
between s low high (inr (inr (inl e))) lt le d (inr (inr (inl f))) = omega arith
between s low high (inr (inr (inl e))) lt le d (inr (inr (inr f))) = omega arith
between s low high (inr (inr (inr e))) lt le d (inl f) = omega arith
between s low high (inr (inr (inr e))) lt le d (inr (inl f)) = omega arith
between s low high (inr (inr (inr e))) lt le d (inr (inr (inl f))) = omega arith
between s low high (inr (inr (inr e))) lt le d (inr (inr (inr f))) = omega arith

at_most : (s : ℕ) → IsSize s → (0 < s) × (s ≤ 8)
at_most s (inl e) = (omega arith, omega arith)
at_most s (inr (inl e)) = (omega arith, omega arith)
at_most s (inr (inr (inl e))) = (omega arith, omega arith)
at_most s (inr (inr (inr e))) = (omega arith, omega arith)

-- the least size that holds the width is the cell's
pub size_is : (t : IntType) (s : ℕ) → IsCellSize t s → s ≡ cell_size t
unfolding cell_size
size_is t s h = by (cases_lt 8 t.bits) (cases_lt 16 t.bits) (cases_lt 32 t.bits)
  where
    one : IsSize s
    one = size_one s h.one

    by : (8 < t.bits) ⊎ (t.bits ≤ 8) → (16 < t.bits) ⊎ (t.bits ≤ 16) → (32 < t.bits) ⊎ (t.bits ≤ 32) → s ≡ size_by (nat_le t.bits 8) (nat_le t.bits 16) (nat_le t.bits 32)
    by (inr le) q r =
        let few : s ≤ 1 = h.smallest 1 is_one (omega arith) in
        let some = (at_most s one).0 in
        let e : s ≡ 1 = omega arith in
        e ∙ sym (tests t.bits true (nat_le t.bits 16) (nat_le t.bits 32) (le-leb t.bits 8 le) refl refl)
    by (inl lt) (inr le) r =
        let few : s ≤ 2 = h.smallest 2 is_two (omega arith) in
        let more : 1 < s = omega (arith, h.fits) in
        let e : s ≡ 2 = omega arith in
        e ∙ sym (tests t.bits false true (nat_le t.bits 32) (lt-leb t.bits 8 lt) (le-leb t.bits 16 le) refl)
    by (inl lt) (inl mt) (inr le) =
        let few : s ≤ 4 = h.smallest 4 is_four (omega arith) in
        let more : 2 < s = omega (arith, h.fits) in
        between s 2 4 one more few refl (inr (inr (inl refl))) ∙ sym (tests t.bits false false true (lt-leb t.bits 8 lt) (lt-leb t.bits 16 mt) (le-leb t.bits 32 le))
    by (inl lt) (inl mt) (inl nt) =
        let few : s ≤ 8 = (at_most s one).1 in
        let more : 4 < s = omega (arith, h.fits) in
        between s 4 8 one more few refl (inr (inr (inr refl))) ∙ sym (tests t.bits false false false (lt-leb t.bits 8 lt) (lt-leb t.bits 16 mt) (lt-leb t.bits 32 nt))

-- what a size is between
pub size_bounds : (s : ℕ) → Contains cell_sizes s → (0 < s) × (s ≤ 8)
size_bounds s c = at_most s (size_one s c)

-- the numbers of so many bytes
powers : (s : ℕ) → IsSize s → (256 ^ s ≡ 2 ^ (8 * s)) × (2 ^ (8 * s) ≤ 2 ^ 64)
powers s (inl e) = let P : ℕ → Type 0 = λ n. (256 ^ n ≡ 2 ^ (8 * n)) × (2 ^ (8 * n) ≤ 2 ^ 64) in subst P (sym e) (refl, lit≤ tt)
powers s (inr (inl e)) = let P : ℕ → Type 0 = λ n. (256 ^ n ≡ 2 ^ (8 * n)) × (2 ^ (8 * n) ≤ 2 ^ 64) in subst P (sym e) (refl, lit≤ tt)
powers s (inr (inr (inl e))) = let P : ℕ → Type 0 = λ n. (256 ^ n ≡ 2 ^ (8 * n)) × (2 ^ (8 * n) ≤ 2 ^ 64) in subst P (sym e) (refl, lit≤ tt)
powers s (inr (inr (inr e))) = let P : ℕ → Type 0 = λ n. (256 ^ n ≡ 2 ^ (8 * n)) × (2 ^ (8 * n) ≤ 2 ^ 64) in subst P (sym e) (refl, lit≤ tt)

pub size_power : (s : ℕ) → Contains cell_sizes s → 256 ^ s ≡ 2 ^ (8 * s)
size_power s c = (powers s (size_one s c)).0

pub size_few : (s : ℕ) → Contains cell_sizes s → 2 ^ (8 * s) ≤ 2 ^ 64
size_few s c = (powers s (size_one s c)).1

-- the width of a type is no more than that of its cell's bytes
width : (n : ℕ) → n ≤ 64 → n ≤ 8 * size_by (nat_le n 8) (nat_le n 16) (nat_le n 32)
width n le = by (cases_lt 8 n) (cases_lt 16 n) (cases_lt 32 n)
  where
    by : (8 < n) ⊎ (n ≤ 8) → (16 < n) ⊎ (n ≤ 16) → (32 < n) ⊎ (n ≤ 32) → n ≤ 8 * size_by (nat_le n 8) (nat_le n 16) (nat_le n 32)
    by (inr h) q r = let e : size_by (nat_le n 8) (nat_le n 16) (nat_le n 32) ≡ 1 = tests n true (nat_le n 16) (nat_le n 32) (le-leb n 8 h) refl refl in omega arith
    by (inl g) (inr h) r = let e : size_by (nat_le n 8) (nat_le n 16) (nat_le n 32) ≡ 2 = tests n false true (nat_le n 32) (lt-leb n 8 g) (le-leb n 16 h) refl in omega arith
    by (inl g) (inl h) (inr i) = let e : size_by (nat_le n 8) (nat_le n 16) (nat_le n 32) ≡ 4 = tests n false false true (lt-leb n 8 g) (lt-leb n 16 h) (le-leb n 32 i) in omega arith
    by (inl g) (inl h) (inl i) = let e : size_by (nat_le n 8) (nat_le n 16) (nat_le n 32) ≡ 8 = tests n false false false (lt-leb n 8 g) (lt-leb n 16 h) (lt-leb n 32 i) in omega arith

pub cell_width : (t : IntType) → IsType t → t.bits ≤ 8 * cell_size t
unfolding cell_size
cell_width t h = width t.bits h.most

within : (s : Bool) (n m : ℕ) (v : ℤ) → n ≤ m → InRange (record { signed = s; bits = n }) v → (neg_ℤ (pos (2 ^ m)) ≤ℤ v) × (v <ℤ pos (2 ^ m))
within true n m v le r =
    let e : 2 ^ (n - 1) ≤ 2 ^ m = pow-le-pow_right {n = 2} (lit< tt) {i = n - 1} {j = m} (omega arith) in
    (omega (arith, ints, r.from), omega (arith, ints, r.below))
within false n m v le r =
    let e : 2 ^ n ≤ 2 ^ m = pow-le-pow_right {n = 2} (lit< tt) {i = n} {j = m} le in
    (omega (arith, ints, r.from), omega (arith, ints, r.below))

-- a number of a type is one that its cell's bytes have
pub in_bytes : (t : IntType) (v : ℤ) → IsType t → InRange t v → (neg_ℤ (pos (2 ^ (8 * cell_size t))) ≤ℤ v) × (v <ℤ pos (2 ^ (8 * cell_size t)))
in_bytes t v h r = within t.signed t.bits (8 * cell_size t) v (cell_width t h) r

-- and of at most 64 bits
pub in_word : (t : IntType) (v : ℤ) → IsType t → InRange t v → (neg_ℤ (pos (2 ^ 64)) ≤ℤ v) × (v <ℤ pos (2 ^ 64))
in_word t v h r = within t.signed t.bits 64 v h.most r

-- the two's complement, by the sign
pub complement_is : (size : ℕ) (c : ℤ) (r : ℕ) → (c <ℤ pos 0 → pos r ≡ c +ℤ pos (2 ^ (8 * size))) → (pos 0 ≤ℤ c → pos r ≡ c) → r ≡ complement size c
complement_is size (pos v) r below above = let e : pos r ≡ pos v = above (omega (arith, ints)) in cc
complement_is size (negsuc v) r below above = let e : pos r ≡ negsuc v +ℤ pos (2 ^ (8 * size)) = below (omega (arith, ints)) in omega (arith, ints)

pub some_decimal : (c : ℤ) → c <ℤ pos (2 ^ 64) → 0 < length (signed_decimal c)
some_decimal (pos n) h = decimal_nonempty n (omega (arith, ints))
some_decimal (negsuc n) h = omega arith

low_count : (i n x : ℕ) → length (bytes_low_first i n x) ≡ n
low_count i zero x = refl
low_count i (suc n) x = ap suc (low_count (suc i) n x)

-- how many bytes a number is written as
pub length_little : (n x : ℕ) → length (little_bytes n x) ≡ n
length_little n x = low_count 0 n x
