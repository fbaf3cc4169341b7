use Rattle.design_reader.proofs.ManyQueues.{few_queues}
use Rattle.design_reader.proofs.laws.queues_of_designs_are_few.Goals as goal

pub returns : goal.returns
returns c = few_queues
