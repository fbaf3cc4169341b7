use Rattle.region_margins.proofs.Regions.{tensor_kept}
use Rattle.region_margins.proofs.regions_keep_margins.Goals as goal

pub returns : goal.returns
returns c = λ p rows params inputs t x q sound l. (tensor_kept p sound rows params inputs t x q l).is
