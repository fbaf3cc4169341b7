-- The size of a formula, which shift-equal formulas have in common.
use Rattle.std.specs.Prelude.{ℕ, ◌+◌, ◌%◌, ◌^◌}
use Rattle.soda_ir.specs.Formula.{Formula, number, read, param, unary, binary, choice, cast}

-- two sizes, and one more
unfoldable pub joined : ℕ → ℕ → ℕ
joined a b = ((a + b) % 2 ^ 64 + 1) % 2 ^ 64

-- how many literals, cells, params, operators, casts and calls a formula has, of which a choice counts twice, modulo
-- 2 ^ 64
abbrev pub size : Formula → ℕ
size (number n) = 1
size (read t o) = 1
size (param p k) = 1
size (unary op a) = joined 0 (size a)
size (binary op a b) = joined (size a) (size b)
size (choice c a b) = joined (size c) (joined (size a) (size b))
size (cast t a) = joined 0 (size a)
