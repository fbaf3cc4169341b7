use Rattle.soda_ir.proofs.Sizes.{cell_size_is}
use Rattle.soda_ir.proofs.valid.cell_size.Goals as goal

pub returns-clause-value : goal.returns-clause-value
returns-clause-value c = cell_size_is c.args.ty c.cell_bytes.result c.bits-bits.ensures.valid c.cell_bytes.ensures
