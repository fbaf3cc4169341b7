use Rattle.soda_formula.proofs.Frames.{lone-some, lone-none}
use Rattle.soda_formula.proofs.stack.lone.Goals as goal

pub returns-then-is_empty : goal.returns-then-is_empty
returns-then-is_empty c = lone-some _ _ (c.is_empty.ensures.0 c.if-is_empty.true)

pub returns-else-is_empty : goal.returns-else-is_empty
returns-else-is_empty c =
    lone-none _ _ (λ e. let full = c.is_empty.ensures.1 e in let empty = c.if-is_empty.false in cc)
