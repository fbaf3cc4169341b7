use Rattle.time_stages.proofs.Sources.{each_staged, reads_by_it, source_staged}
use Rattle.time_stages.proofs.laws.reads_are_staged.Goals as goal

pub returns : goal.returns
returns c = record { sources = source_staged; reads = reads_by_it; each = each_staged }
