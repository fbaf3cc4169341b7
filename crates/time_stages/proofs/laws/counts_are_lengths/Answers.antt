use Rattle.time_stages.proofs.StagedCounts.{tensors_counted}
use Rattle.time_stages.proofs.StagedReads.{reads_counted}
use Rattle.time_stages.proofs.laws.counts_are_lengths.Goals as goal

pub returns : goal.returns
returns c = record { live = tensors_counted; reads = reads_counted }
