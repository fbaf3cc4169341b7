-- A formula as plain data, as it is written: names stand in place of tensors and params.
use Rattle.std.specs.Prelude.{ℕ, List, ℤ}
use Rattle.soda_words.specs.declared.operators.UnOp.{UnOp}
use Rattle.soda_words.specs.declared.operators.BinOp.{BinOp}
use Rattle.soda_words.specs.declared.token.Word.{Word}

-- a formula as it is written, with names in place of tensors and params
pub data Term : Type 0 where
  literal : ℕ → Term
  cell : (tensor : Word) (offsets : List ℤ) → Term
  value : (param : Word) (indexes : List ℕ) → Term
  unary : UnOp → Term → Term
  binary : BinOp → Term → Term → Term
  choice : Term → Term → Term → Term
  cast : (type : Word) → Term → Term
