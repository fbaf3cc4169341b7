use Rattle.share_shape.proofs.Left.{nothing_left}
use Rattle.share_shape.proofs.laws.nothing_is_left_to_share.Goals as goal

pub returns : goal.returns
returns c = nothing_left
