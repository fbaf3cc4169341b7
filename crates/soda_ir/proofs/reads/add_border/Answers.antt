use Rattle.soda_ir.specs.Program.{plain}
use Rattle.soda_ir.proofs.Distances.{border_not_there, border_there, on_ok}
use Rattle.soda_ir.proofs.reads.add_border.Goals as goal

pub returns-else-has_border : goal.returns-else-has_border
returns-else-has_border c =
    border_not_there (plain c.args.parts.now) c.args.tensor c.has_border.result c.args.reads.now.items c.has_border.ensures c.if-has_border.false

pub returns-then-has_border : goal.returns-then-has_border
returns-then-has_border c =
    on_ok c.add.result c.add.ensures (λ e. border_there (plain c.args.parts.now) c.args.tensor c.args.number c.has_border.result c.args.reads.now.items c.add.new.reads.items c.has_border.ensures c.if-has_border.true c.requires e)
