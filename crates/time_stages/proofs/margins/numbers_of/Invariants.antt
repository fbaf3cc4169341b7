use Rattle.std.proofs.Common.{◌≡◌}
use Rattle.soda_ir.specs.Tree.{formula_of}
use Rattle.time_stages.specs.pieces.Numbers.{numbers_of}
use Rattle.time_stages.proofs.margins.numbers_of.Given as goal

abbrev pub invariant-loop-dim : goal.invariant-loop-dim
invariant-loop-dim l = l.numbers.items ≡ numbers_of l.made l.side l.dim (formula_of l.expr)
