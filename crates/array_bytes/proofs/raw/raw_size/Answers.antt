use Rattle.array_bytes.proofs.SizeLaws.{size_is}
use Rattle.array_bytes.proofs.raw.raw_size.Goals as goal

pub returns-clause-size : goal.returns-clause-size
returns-clause-size c = size_is c.args.ty c.cell_bytes.result c.cell_bytes.ensures
