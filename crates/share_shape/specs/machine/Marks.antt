-- A number for each formula that shift-equal formulas have in common: a search looks closely only where two numbers are
-- one.
use Rattle.std.specs.Prelude.{ℕ, ◌+◌, ◌*◌, ◌%◌, ◌^◌, Bool, ◌&&◌, ◌==◌, nat_le, List, map, fold, ℤ, neg_ℤ, Option, Some, None, is_some, if◌then◌else◌}
use Rattle.std.specs.Int.{cast_unsigned, w128}
use Rattle.soda_words.specs.IntType.{IntType}
use Rattle.soda_words.specs.Tokens.{or_else}
use Rattle.soda_ir.specs.Formula.{Formula, number, read, param, unary, binary, choice, cast, by_formula}
use Rattle.soda_ir.specs.Program.{PlainTensor}
use Rattle.soda_eval.specs.Points.{moved}
use Rattle.share_shape.specs.Shifts.{binary_number, unary_number}

-- a number below 2 ^ 64, squared with itself
abbrev pub twisted : ℕ → ℕ
twisted s = (s * (((s + s) % 2 ^ 64 + 1) % 2 ^ 64)) % 2 ^ 64

-- a number below 2 ^ 64 made of two
unfoldable pub mixed : ℕ → ℕ → ℕ
mixed a b = twisted (((a * 11400714819323198485) % 2 ^ 64 + b) % 2 ^ 64)

-- a component as a number below 2 ^ 64
unfoldable pub part : ℤ → ℕ
part d = cast_unsigned w128 d % 2 ^ 64

-- how far one offset is from another
unfoldable pub apart : List ℤ → List ℤ → ℕ
apart o w = fold (λ n d. mixed n (part d)) 0 (moved w (map neg_ℤ o))

-- the same of the first cells of two formulas, where each has one
abbrev pub between : Option (List ℤ) → Option (List ℤ) → ℕ
between None y = 0
between (Some o) None = 0
between (Some o) (Some w) = apart o w

-- the offset of a formula's first cell, if it has one
abbrev pub first_of : Formula → Option (List ℤ)
first_of (number n) = None
first_of (read t o) = Some o
first_of (param p k) = None
first_of (unary op a) = first_of a
first_of (binary op a b) = or_else (first_of a) (first_of b)
first_of (choice c a b) = or_else (first_of c) (or_else (first_of a) (first_of b))
first_of (cast t a) = first_of a

-- a type as a number
abbrev pub type_number : IntType → ℕ
type_number t = t.bits + (if t.signed then 64 else 0)

-- two marks, and how far the first cells are apart
abbrev pub pair_mark : (a b : ℕ) → Option (List ℤ) → Option (List ℤ) → ℕ
pair_mark a b x y = mixed (mixed a b) (between x y)

-- the number of a formula
abbrev pub mark : Formula → ℕ
mark (number n) = mixed 1 n
mark (read t o) = mixed 2 t
mark (param p k) = mixed (mixed 3 p) k
mark (unary op a) = mixed (mixed 4 (unary_number op)) (mark a)
mark (binary op a b) = mixed (mixed 5 (binary_number op)) (pair_mark (mark a) (mark b) (first_of a) (first_of b))
mark (choice c a b) =
    pair_mark (mark c) (pair_mark (mark a) (mark b) (first_of a) (first_of b)) (first_of c)
    (or_else (first_of a) (first_of b))
mark (cast t a) = mixed (mixed 6 (type_number t)) (mark a)

-- 1 for a formula with a cell and this mark, else 0
abbrev pub mark_hit : ℕ → Formula → ℕ
mark_hit q f = if is_some (first_of f) && mark f == q then 1 else 0

-- how many operators, calls and casts with a cell have this mark
abbrev pub mark_hits : ℕ → Formula → ℕ
mark_hits q (number n) = 0
mark_hits q (read t o) = 0
mark_hits q (param p k) = 0
mark_hits q (unary op a) = mark_hit q (unary op a) + mark_hits q a
mark_hits q (binary op a b) = mark_hit q (binary op a b) + (mark_hits q a + mark_hits q b)
mark_hits q (choice c a b) = mark_hit q (choice c a b) + (mark_hits q c + (mark_hits q a + mark_hits q b))
mark_hits q (cast t a) = mark_hit q (cast t a) + mark_hits q a

-- the same of a tensor's formula, if it has one
abbrev pub tensor_marks : ℕ → PlainTensor → ℕ
tensor_marks q t = by_formula t.formula 0 (mark_hits q)

-- a formula's mark was counted twice, at least
abbrev pub is_repeated : (count : ℕ → ℕ) → Formula → Bool
is_repeated count f = nat_le 2 (count (mark f))
