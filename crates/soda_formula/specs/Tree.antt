-- The formula that a tree holds.
use Rattle.soda_formula.specs.Terms.{Term, literal, cell, value, unary, binary, choice, cast}
use Rattle.soda_formula.specs.declared.written.Written.{Written, Row_of-Written, end_of-Written, more_of-Written}
use Rattle.soda_formula.specs.declared.written.Written.TheVariants.{Number, Cell, Value, Unary', Binary', Choice', Cast'}

unfoldable mutual
  pub term_of : Written → Term
  term_of (Number n) = literal n
  term_of (Cell t o) = cell t o
  term_of (Value p i) = value p i
  term_of (Unary' op f a) = unary op (part_of a)
  term_of (Binary' op f a g b) = binary op (part_of a) (part_of b)
  term_of (Choice' f c g a h b) = choice (part_of c) (part_of a) (part_of b)
  term_of (Cast' t f a) = cast t (part_of a)

  -- the one part of a row
  pub part_of : {m : _} → Row_of-Written m → Term
  part_of end_of-Written = literal 0
  part_of (more_of-Written e rest) = term_of e
