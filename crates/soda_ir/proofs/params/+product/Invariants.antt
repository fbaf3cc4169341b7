use Rattle.std.proofs.Common.{length}
use Rattle.soda_ir.proofs.params.+product.Given as goal

abbrev pub decreases-product : goal.decreases-product
decreases-product l = length l.sizes.now
