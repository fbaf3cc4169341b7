-- The integer types, and the bytes of their cells.
use Rattle.std.specs.Prelude.{ℕ, ◌*◌, ◌≤◌, ◌<◌, ◌==◌, Bool, ◌&&◌, IsTrue, true, false, List, [], ◌∷◌, Contains}
use Rattle.std.specs.Bool.{beq}

-- a sign and a width in bits
pub record IntType : Type 0 where
  pub signed : Bool
  pub bits : ℕ

-- intN with N from 2 to 64, or uintN with N from 1 to 64
pub record IsType (t : IntType) : Type 0 where
  pub some : 0 < t.bits
  pub most : t.bits ≤ 64
  pub sign : IsTrue t.signed → 2 ≤ t.bits

-- two types are one
abbrev pub is_same_type : IntType → IntType → Bool
is_same_type t u = beq t.signed u.signed && t.bits == u.bits

-- the signed type of 32 bits
abbrev pub int32 : IntType
int32 = record { signed = true; bits = 32 }

-- the signed type of 64 bits
abbrev pub int64 : IntType
int64 = record { signed = true; bits = 64 }

-- the unsigned type of 64 bits
abbrev pub uint64 : IntType
uint64 = record { signed = false; bits = 64 }

-- the sizes of a cell in bytes
abbrev pub cell_sizes : List ℕ
cell_sizes = 1 ∷ 2 ∷ 4 ∷ 8 ∷ []

-- the least of these sizes that holds the width
pub record IsCellSize (t : IntType) (size : ℕ) : Type 0 where
  pub one : Contains cell_sizes size
  pub fits : t.bits ≤ 8 * size
  pub smallest : (other : ℕ) → Contains cell_sizes other → t.bits ≤ 8 * other → size ≤ other
