use Rattle.share_shape.proofs.Valid.{shared_valid}
use Rattle.share_shape.proofs.laws.results_are_valid.Goals as goal

pub returns : goal.returns
returns c = shared_valid
