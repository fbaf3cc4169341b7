-- What reading one statement from the front of tokens says.
use Rattle.std.specs.Prelude.{◌≡◌, ◌⊎◌, ℕ, ◌+◌, ◌≤◌, List, length, take, drop, slice_get, Option, Some, None}
use Rattle.soda_words.specs.declared.token.Placed.{Placed}
use Rattle.soda_formula.specs.Terms.{Term}
use Rattle.soda_formula.specs.Reading.{ReadsFormula, StopsFormula}
use Rattle.soda_syntax.specs.declared.stage.LeftSide.{LeftSide}
use Rattle.soda_syntax.specs.declared.stage.Stage.{Stage}
use Rattle.soda_syntax.specs.declared.stage.Stage.TheVariants.{Start, Formula}
use Rattle.soda_formula.specs.declared.statement.Statement.{Statement}
use Rattle.soda_formula.specs.Statements.{PlainStatement, plain_statement}
use Rattle.soda_syntax.specs.machine.Lines.{line_of}
use Rattle.soda_syntax.specs.machine.Steps.{step, steps, stage_of, finish}

-- the left side before a formula
abbrev pub left_of : Stage → Option LeftSide
left_of (Formula l) = Some l
left_of _ = None

-- behind n tokens the steps are at this stage, and refuse the next one
pub record IsAt (ts : List Placed) (n : ℕ) (stage : Stage) : Type 0 where
  pub within : n ≤ length ts
  pub read : steps (Some Start) (take n ts) ≡ Some stage
  pub refuses : (t : Placed) → slice_get ts n ≡ Some t → stage_of (step stage t) ≡ None

-- n tokens are a statement without a formula, and it ends there
pub record ReadsPlain (ts : List Placed) (n : ℕ) (s : PlainStatement) : Type 0 where
  pub stage : Stage
  pub end : Statement
  pub at : IsAt ts n stage
  pub ended : finish stage ≡ Some end
  pub is : plain_statement end ≡ s

-- n tokens are a left side and a formula, and it ends there
pub record ReadsLine (ts : List Placed) (n : ℕ) (s : PlainStatement) : Type 0 where
  pub at : ℕ
  pub size : ℕ
  pub left : LeftSide
  pub formula : Term
  pub within : at ≤ length ts
  pub read : steps (Some Start) (take at ts) ≡ Some (Formula left)
  pub whole : ReadsFormula (drop at ts) size formula
  pub all : n ≡ at + size
  pub is : line_of left formula ≡ s

-- a statement of n tokens stands at the front, and it ends there
abbrev pub ReadsStatement : List Placed → ℕ → PlainStatement → Type 0
ReadsStatement ts n s = ReadsPlain ts n s ⊎ ReadsLine ts n s

-- n tokens begin a statement without its formula, and no statement ends or goes on there
pub record StopsPlain (ts : List Placed) (n : ℕ) : Type 0 where
  pub stage : Stage
  pub at : IsAt ts n stage
  pub open_ : finish stage ≡ None
  pub no_formula : left_of stage ≡ None

-- a left side stands at the front, and behind n tokens the formula stops
pub record StopsLine (ts : List Placed) (n : ℕ) : Type 0 where
  pub at : ℕ
  pub size : ℕ
  pub left : LeftSide
  pub within : at ≤ length ts
  pub read : steps (Some Start) (take at ts) ≡ Some (Formula left)
  pub stops : StopsFormula (drop at ts) size
  pub all : n ≡ at + size

-- behind n tokens no statement goes on
abbrev pub StopsStatement : List Placed → ℕ → Type 0
StopsStatement ts n = StopsPlain ts n ⊎ StopsLine ts n
