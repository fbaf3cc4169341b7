-- The formula that a tree holds.
use Rattle.soda_ir.specs.Formula.{Formula, number, read, param, unary, binary, choice, cast}
use Rattle.soda_ir.specs.declared.expr.Expr.{Expr, Row_of-Expr, end_of-Expr, more_of-Expr}
use Rattle.soda_ir.specs.declared.expr.Expr.TheVariants.{Num, Cell, Par, Un', Bin', Select', Cast'}

unfoldable mutual
  pub formula_of : Expr → Formula
  formula_of (Num n) = number n
  formula_of (Cell t o) = read t o.items
  formula_of (Par p k) = param p k
  formula_of (Un' op f a) = unary op (part_of a)
  formula_of (Bin' op f a g b) = binary op (part_of a) (part_of b)
  formula_of (Select' f c g a h b) = choice (part_of c) (part_of a) (part_of b)
  formula_of (Cast' t f a) = cast t (part_of a)

  -- the one part of a row
  pub part_of : {m : _} → Row_of-Expr m → Formula
  part_of end_of-Expr = number 0
  part_of (more_of-Expr e rest) = formula_of e
