-- The statements of a text as plain data.
use Rattle.std.specs.Prelude.{ℕ, Bool, List, ℤ}
use Rattle.soda_words.specs.declared.token.Word.{Word}
use Rattle.soda_formula.specs.Terms.{Term}
use Rattle.soda_formula.specs.Tree.{term_of}
use Rattle.soda_formula.specs.declared.statement.FormulaLine.{FormulaLine}
use Rattle.soda_formula.specs.declared.statement.InputLine.{InputLine}
use Rattle.soda_formula.specs.declared.statement.ParamLine.{ParamLine}
use Rattle.soda_formula.specs.declared.statement.Statement.{Statement}
use Rattle.soda_formula.specs.declared.statement.Statement.TheVariants.{Kernel, BurstWidth, UnrollFactor, Iterate, Border, Cluster, Param, Input, Local, Output}

-- a local or an output: its type and name, the offsets of its left side, and its formula
pub record PlainFormulaLine : Type 0 where
  pub ty : Word
  pub name : Word
  pub left : List ℤ
  pub formula : Term

-- a statement. A setting has the line of its first word
pub data PlainStatement : Type 0 where
  kernel : (line : ℕ) (text : List ℕ) → PlainStatement
  burst_width : (line width : ℕ) → PlainStatement
  unroll_factor : (line factor : ℕ) → PlainStatement
  iterate : (line times : ℕ) → PlainStatement
  border : (line : ℕ) (preserve : Bool) → PlainStatement
  cluster : (line : ℕ) → PlainStatement
  param : ParamLine → PlainStatement
  input : InputLine → PlainStatement
  local : PlainFormulaLine → PlainStatement
  output : PlainFormulaLine → PlainStatement

abbrev pub plain_line : FormulaLine → PlainFormulaLine
plain_line f = record { ty = f.ty; name = f.name; left = f.left; formula = term_of f.formula }

abbrev pub plain_statement : Statement → PlainStatement
plain_statement (Kernel l w) = kernel l w
plain_statement (BurstWidth l n) = burst_width l n
plain_statement (UnrollFactor l n) = unroll_factor l n
plain_statement (Iterate l n) = iterate l n
plain_statement (Border l p) = border l p
plain_statement (Cluster l) = cluster l
plain_statement (Param p) = param p
plain_statement (Input i) = input i
plain_statement (Local f) = local (plain_line f)
plain_statement (Output f) = output (plain_line f)
