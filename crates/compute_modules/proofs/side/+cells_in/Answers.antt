use Rattle.std.proofs.Common.{refl}
use Rattle.compute_modules.proofs.Sides.{all_cells}
use Rattle.compute_modules.proofs.side.+cells_in.Goals as goal

pub returns-in-len1-up : goal.returns-in-len1-up
returns-in-len1-up t c =
    all_cells c.args.extents.now _ c.cells_in.result c.saturating_mul.result c.in-len1-up.len_at_least refl c.cells_in.ensures c.saturating_mul.ensures
