use Rattle.std.proofs.Common.{◌+◌, ◌-◌, ◌*◌, length, min}
use Rattle.net_ir.specs.Firings.{firings_at}
use Rattle.net_ir.specs.Nets.{entrances, queue_at}
use Rattle.net_build.specs.Planned.{net_under}
use Rattle.soda_eval.specs.Runs.{cells_at}
use Rattle.soda_ir.proofs.CallerLemmas.{length-listed}
use Rattle.staged_cells.specs.Sends.{firings_given, handed_list, item_taken, items_given, items_of, port_items, sent_item, sent_list}
use Rattle.staged_cells.specs.Streams.{sender_of}
use Rattle.staged_cells.proofs.Lists.{least_is}
use Rattle.staged_cells.proofs.laws.lists_go_as_far.Goals as goal

pub returns-clause-length : goal.returns-clause-length
unfolding sent_list
returns-clause-length c = λ p rows params delays array firings taken queue.
    length-listed (λ k. sent_item p rows params delays array queue k
    (port_items (net_under p delays) (items_of taken) (sender_of (net_under p delays) queue) k))
    (firings_given (net_under p delays) firings taken (sender_of (net_under p delays) queue))

pub returns-clause-sent : goal.returns-clause-sent
unfolding firings_given
returns-clause-sent c = λ net firings taken m n.
    least_is (firings_at net firings m) (λ queue. length (taken queue) + (queue_at net.queues queue).lead) (entrances net m) n

pub returns-clause-handed_length : goal.returns-clause-handed_length
unfolding handed_list
returns-clause-handed_length c = λ p rows delays firings taken m delay.
    length-listed (λ n. item_taken (net_under p delays) p.unroll taken m (n + delay))
    (min (cells_at p rows) (items_given (net_under p delays) p.unroll firings taken m - delay))

pub returns-clause-handed : goal.returns-clause-handed
unfolding items_given
returns-clause-handed c = λ net unroll firings taken m n.
    least_is (unroll * firings_at net firings m) (λ queue. unroll * length (taken queue) + (queue_at net.queues queue).port) (entrances net m) n
