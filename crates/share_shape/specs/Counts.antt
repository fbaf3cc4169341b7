-- How often a compound stands in a program, up to a shift: what a search counts.
use Rattle.std.specs.Prelude.{ℕ, ◌+◌, Bool, List, [], ◌∷◌, if◌then◌else◌}
use Rattle.soda_ir.specs.Formula.{Formula, number, read, param, unary, binary, choice, cast, by_formula}
use Rattle.soda_ir.specs.Program.{PlainTensor}
use Rattle.share_shape.specs.Shifts.{are_shift_equal}

-- 1 for a test that passes, else 0
abbrev pub one : Bool → ℕ
one b = if b then 1 else 0

-- the sum over a list
abbrev pub total : {X : Type 0} → (X → ℕ) → List X → ℕ
total f [] = 0
total f (x ∷ xs) = f x + total f xs

-- how many operators, calls and casts are shift-equal to c
abbrev pub hits : Formula → Formula → ℕ
hits c (number n) = 0
hits c (read t o) = 0
hits c (param p k) = 0
hits c (unary op a) = one (are_shift_equal c (unary op a)) + hits c a
hits c (binary op a b) = one (are_shift_equal c (binary op a b)) + (hits c a + hits c b)
hits c (choice d a b) = one (are_shift_equal c (choice d a b)) + (hits c d + (hits c a + hits c b))
hits c (cast t a) = one (are_shift_equal c (cast t a)) + hits c a

-- the same of a tensor's formula, if it has one
abbrev pub tensor_hits : Formula → PlainTensor → ℕ
tensor_hits c t = by_formula t.formula 0 (hits c)
