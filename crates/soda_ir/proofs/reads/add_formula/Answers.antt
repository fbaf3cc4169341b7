use Rattle.std.proofs.Common.{sym}
use Rattle.soda_ir.specs.Program.{plain}
use Rattle.soda_ir.specs.Tree.{formula_of}
use Rattle.soda_ir.proofs.Distances.{reach_of}
use Rattle.soda_ir.proofs.GoodReads.{near_at}
use Rattle.soda_ir.proofs.reads.add_formula.Goals as goal

pub collect-requires-clause-near : goal.collect-requires-clause-near
collect-requires-clause-near c =
    near_at (plain c.args.parts.now) c.args.tensor (formula_of c.in-Some.formula.now) c.requires (sym c.in-Some.ensures)

pub collect-requires-clause-small : goal.collect-requires-clause-small
collect-requires-clause-small c = rw c.as_slice.ensures (reach_of (plain c.args.parts.now) c.requires)
