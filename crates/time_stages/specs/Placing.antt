-- The placing order of a program: repeatedly the first local or output, in the program's order, that isn't placed and
-- all of whose reads are of inputs or placed.
use Rattle.std.specs.Prelude.{ℕ, zero, suc, Bool, not, ◌&&◌, ◌||◌, ◌==◌, List, [], ◌∷◌, ◌++◌, length, Option, Some, None, if◌then◌else◌, true}
use Rattle.std.specs.List.{list_any}
use Rattle.soda_ir.specs.Counts.{is_input, is_input_role, tensor_is}
use Rattle.soda_ir.specs.Formula.{by_formula, every}
use Rattle.soda_ir.specs.Program.{PlainProgram}

-- the tensor is one of these
abbrev pub is_among : ℕ → List ℕ → Bool
is_among x placed = list_any (λ y. y == x) placed

-- the tensor is an input, or one of those that are placed
abbrev pub is_there : PlainProgram → List ℕ → ℕ → Bool
is_there p placed y = is_input p y || is_among y placed

-- the tensor is a local or output that isn't placed, and all that it reads is there
abbrev pub is_next : PlainProgram → List ℕ → ℕ → Bool
is_next p placed x = not (is_among x placed)
    && tensor_is (λ t. not (is_input_role t.role) && by_formula t.formula true (every (λ y o. is_there p placed y))) p x

-- the first number below n that passes
abbrev pub first_below : (ℕ → Bool) → ℕ → Option ℕ
first_below test zero = None
first_below test (suc n) = elim (first_below test n) [ None ↦ if test n then Some n else None | Some x ↦ Some x ]

-- what is placed after so many steps
unfoldable pub placed_in : PlainProgram → ℕ → List ℕ
placed_in p zero = []
placed_in p (suc k) = elim (first_below (is_next p (placed_in p k)) (length p.tensors)) [
  | None ↦ placed_in p k
  | Some x ↦ placed_in p k ++ x ∷ []
]

-- the placing order: there are no more steps than tensors
abbrev pub placing_order : PlainProgram → List ℕ
placing_order p = placed_in p (length p.tensors)
