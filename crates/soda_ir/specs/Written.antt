-- How large a formula is as it is written in the canonical text: its tokens, and the brackets open at once.
use Rattle.std.specs.Prelude.{ℕ, suc, ◌+◌, ◌*◌, ◌==◌, nat_lt, length, max, Some, None, slice_get, if◌then◌else◌}
use Rattle.soda_words.specs.declared.operators.BinOp.{BinOp}
use Rattle.soda_words.specs.declared.operators.UnOp.{UnOp}
use Rattle.soda_words.specs.OperatorTable.{binary_row, operand_level, prefix_level, unary_row}
use Rattle.soda_ir.specs.Formula.{Formula, number, read, param, unary, binary, choice, cast}
use Rattle.soda_ir.specs.Program.{PlainProgram}

-- the level of a formula as it is written
abbrev pub level_of : Formula → ℕ
level_of (number n) = operand_level
level_of (read t o) = operand_level
level_of (param p k) = operand_level
level_of (unary op a) = (unary_row op).level
level_of (binary op a b) = (binary_row op).level
level_of (choice c a b) = operand_level
level_of (cast t a) = operand_level

-- the least level that an operand may have without brackets, where an operator asks for this one: what stands in a
-- call needs none
abbrev pub least_bare : (operator asked : ℕ) → ℕ
least_bare operator asked = if operator == operand_level then 0 else asked

-- how many pairs of brackets stand round an operand: one where its level is below the least
abbrev pub pairs_round : (least : ℕ) → Formula → ℕ
pairs_round least a = if nat_lt (level_of a) least then 1 else 0

-- round the operand of an operator of one operand: one that is an operator of two
abbrev pub operand_pairs : UnOp → Formula → ℕ
operand_pairs op a = pairs_round (least_bare (unary_row op).level prefix_level) a

-- round a left operand: one that binds looser
abbrev pub left_pairs : BinOp → Formula → ℕ
left_pairs op a = pairs_round (least_bare (binary_row op).level (binary_row op).level) a

-- round a right operand: one that binds looser, or as tightly
abbrev pub right_pairs : BinOp → Formula → ℕ
right_pairs op a = pairs_round (least_bare (binary_row op).level (suc (binary_row op).level)) a

-- the tokens of an operator alone: those of a call are its name, its brackets and its commas
abbrev pub operator_tokens : (level call : ℕ) → ℕ
operator_tokens level call = if level == operand_level then call else 1

-- the brackets that an operator opens round all its operands: those of a call
abbrev pub call_pairs : (level : ℕ) → ℕ
call_pairs level = if level == operand_level then 1 else 0

-- how many indexes a param has
abbrev pub index_count : PlainProgram → ℕ → ℕ
index_count p k = elim (slice_get p.params k) [ None ↦ 0 | Some q ↦ length q.sizes ]

-- how many tokens a formula has as it is written, without the minus signs of offsets
abbrev pub token_count : PlainProgram → Formula → ℕ
token_count p (number n) = 1
token_count p (read t o) = 2 + 2 * length o
token_count p (param k i) = 1 + 3 * index_count p k
token_count p (unary op a) = operator_tokens (unary_row op).level 3 + 2 * operand_pairs op a + token_count p a
token_count p (binary op a b) =
    operator_tokens (binary_row op).level 4 + (2 * left_pairs op a + token_count p a) +
    (2 * right_pairs op b + token_count p b)
token_count p (choice c a b) = 5 + token_count p c + token_count p a + token_count p b
token_count p (cast t a) = 3 + token_count p a

-- how many brackets are open at once in a formula as it is written
abbrev pub most_open : PlainProgram → Formula → ℕ
most_open p (number n) = 0
most_open p (read t o) = 1
most_open p (param k i) = if index_count p k == 0 then 0 else 1
most_open p (unary op a) = call_pairs (unary_row op).level + operand_pairs op a + most_open p a
most_open p (binary op a b) =
    call_pairs (binary_row op).level + max (left_pairs op a + most_open p a) (right_pairs op b + most_open p b)
most_open p (choice c a b) = 1 + max (most_open p c) (max (most_open p a) (most_open p b))
most_open p (cast t a) = 1 + most_open p a
