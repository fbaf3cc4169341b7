use Rattle.time_stages.proofs.StagedReads.{net_is}
use Rattle.time_stages.proofs.laws.staging_makes_a_net.Goals as goal

pub returns : goal.returns
returns c = λ p valid widths. net_is p valid.sound valid widths
