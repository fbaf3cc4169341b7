-- What stands round the operands of an operator, piece by piece.
use Rattle.std.specs.Prelude.{ℕ, List, ◌++◌, codes, if◌then◌else◌}
use Rattle.soda_words.specs.OperatorTable.{binary_row, unary_row}
use Rattle.soda_words.specs.declared.operators.UnOp.{UnOp}
use Rattle.soda_words.specs.declared.operators.BinOp.{BinOp}
use Rattle.soda_print.specs.Canonical.{binary_word, closing, is_call, opening, unary_word}

-- in front of the operand of an operator of one
unfoldable pub unary_begin : UnOp → (pairs : ℕ) → List ℕ
unary_begin op pairs = unary_word op ++ (if is_call (unary_row op) then codes "(" else opening pairs)

-- behind the operand of an operator of one
unfoldable pub unary_end : UnOp → (pairs : ℕ) → List ℕ
unary_end op pairs = if is_call (unary_row op) then codes ")" else closing pairs

-- in front of the left operand
unfoldable pub binary_begin : BinOp → (left : ℕ) → List ℕ
binary_begin op left = if is_call (binary_row op) then binary_word op ++ codes "(" else opening left

-- between the two operands
unfoldable pub binary_middle : BinOp → (left right : ℕ) → List ℕ
binary_middle op left right =
    if is_call (binary_row op) then codes ", "
    else closing left ++ (codes " " ++ (binary_word op ++ (codes " " ++ opening right)))

-- behind the right operand
unfoldable pub binary_end : BinOp → (right : ℕ) → List ℕ
binary_end op right = if is_call (binary_row op) then codes ")" else closing right
