use Rattle.share_shape.proofs.Ending.{ends, enough, fewer}
use Rattle.share_shape.proofs.laws.sharing_ends.Goals as goal

pub returns : goal.returns
returns c = record { fewer = fewer; last = ends; enough = λ p n h. enough n p h }
