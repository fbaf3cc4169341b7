-- The two's complement of a number, bit by bit.
use Rattle.std.proofs.Common.{◌≡◌, ℕ, ◌+◌, ◌%◌, ◌^◌, ◌<◌, min, max, ℤ, pos, ◌-ℤ◌, unsigned_abs, arith, ◌∙◌, ap}
use Rattle.std.specs.Int.{bit_at}
use Rattle.std.specs.Int.RustNames.{bit_and, bit_or, bit_xor}
use Rattle.std.proofs.lemmas.Int.{ints}
use Rattle.std.proofs.lemmas.Nat.{pow_pos, and_le_l, or_lt, xor_lt}
use Rattle.std.proofs.lemmas.Nat.Bits.{bit_at_and, bit_at_or, bit_at_xor}
use Rattle.soda_words.specs.IntType.{IntType, IsType}
use Rattle.int_types.specs.Ranges.{IsWrapOf, wrapped}
use Rattle.int_types.specs.Operators.{word, bit, operated}
use Rattle.soda_words.specs.declared.operators.BinOp.TheVariants.{BitOr, BitXor, BitAnd}
use Rattle.int_types.proofs.Place.{rem_of, rem_from, rem_below_size}
use Rattle.int_types.proofs.Wrapped.{wrapped_wraps}

distance : (a b : ℤ) → unsigned_abs (a -ℤ b) ≡ unsigned_abs (b -ℤ a)
distance a b = omega (arith, ints)

-- the number that a two's complement stands for has that two's complement
word-wrapped : (t : IntType) (n : ℕ) → IsType t → n < 2 ^ t.bits → word t (wrapped t (pos n)) ≡ n
word-wrapped t n h below =
    let w : IsWrapOf t (pos n) (wrapped t (pos n)) = wrapped_wraps t (pos n) h in
    let e : unsigned_abs (wrapped t (pos n) -ℤ pos n) % 2 ^ t.bits ≡ 0 = rw (distance (wrapped t (pos n)) (pos n)) w.apart in
    ap unsigned_abs (rem_of (wrapped t (pos n)) n (2 ^ t.bits) below e)

word_below : (t : IntType) (v : ℤ) → word t v < 2 ^ t.bits
word_below t v =
    omega (arith, ints, rem_from v (2 ^ t.bits) (pow_pos t.bits), rem_below_size v (2 ^ t.bits) (pow_pos t.bits))

pub and_bits : (t : IntType) (x y : ℤ) (k : ℕ) → IsType t → k < t.bits → bit t (operated BitAnd t x y) k ≡ min (bit t x k) (bit t y k)
and_bits t x y k h _ =
    let below : bit_and (word t x) (word t y) < 2 ^ t.bits = omega (arith, and_le_l (word t x) (word t y), word_below t x) in
    ap (λ n. bit_at n k) (word-wrapped t (bit_and (word t x) (word t y)) h below) ∙ bit_at_and (word t x) (word t y) k

pub or_bits : (t : IntType) (x y : ℤ) (k : ℕ) → IsType t → k < t.bits → bit t (operated BitOr t x y) k ≡ max (bit t x k) (bit t y k)
or_bits t x y k h _ =
    ap (λ n. bit_at n k) (word-wrapped t (bit_or (word t x) (word t y)) h (or_lt t.bits (word t x) (word t y) (word_below t x) (word_below t y))) ∙ bit_at_or (word t x) (word t y) k

pub xor_bits : (t : IntType) (x y : ℤ) (k : ℕ) → IsType t → k < t.bits → bit t (operated BitXor t x y) k ≡ (bit t x k + bit t y k) % 2
xor_bits t x y k h _ =
    ap (λ n. bit_at n k) (word-wrapped t (bit_xor (word t x) (word t y)) h (xor_lt t.bits (word t x) (word t y) (word_below t x) (word_below t y))) ∙ bit_at_xor (word t x) (word t y) k
