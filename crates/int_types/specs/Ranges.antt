-- The ranges of integer types, and the number of a range that stands for any number.
use Rattle.std.specs.Prelude.{◌≡◌, ◌-◌, ◌%◌, ◌^◌, if◌then◌else◌, ℤ, pos, neg_ℤ, ◌+ℤ◌, ◌-ℤ◌, ◌≤ℤ◌, ◌<ℤ◌, unsigned_abs}
use Rattle.std.specs.Int.{int_rem_euclid}
use Rattle.soda_words.specs.IntType.{IntType}

-- the least number of the type
abbrev pub least : IntType → ℤ
least t = if t.signed then neg_ℤ (pos (2 ^ (t.bits - 1))) else pos 0

-- one more than the greatest number of the type
abbrev pub past : IntType → ℤ
past t = if t.signed then pos (2 ^ (t.bits - 1)) else pos (2 ^ t.bits)

-- the number is one of the type's
pub record InRange (t : IntType) (v : ℤ) : Type 0 where
  pub from : least t ≤ℤ v
  pub below : v <ℤ past t

-- r is in the type's range and differs from v by a multiple of 2 ^ bits
pub record IsWrapOf (t : IntType) (v r : ℤ) : Type 0 where
  pub in_range : InRange t r
  pub apart : unsigned_abs (v -ℤ r) % 2 ^ t.bits ≡ 0

-- the one number that is a wrap of v
unfoldable pub wrapped : IntType → ℤ → ℤ
wrapped t v = least t +ℤ int_rem_euclid (v -ℤ least t) (pos (2 ^ t.bits))
