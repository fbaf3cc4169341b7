-- The statement that a left side and a formula are.
use Rattle.soda_formula.specs.Terms.{Term}
use Rattle.soda_syntax.specs.declared.stage.LeftSide.{LeftSide}
use Rattle.soda_syntax.specs.declared.stage.Role.{Role}
use Rattle.soda_syntax.specs.declared.stage.Role.TheVariants.{Target}
use Rattle.soda_formula.specs.Statements.{PlainFormulaLine, PlainStatement, local, output}

abbrev pub lined : LeftSide → Term → PlainFormulaLine
lined l a = record { ty = l.ty; name = l.name; left = l.offsets; formula = a }

abbrev pub line_as : Role → PlainFormulaLine → PlainStatement
line_as Target f = output f
line_as _ f = local f

-- a local or an output, as its left side says
abbrev pub line_of : LeftSide → Term → PlainStatement
line_of l a = line_as l.role (lined l a)
