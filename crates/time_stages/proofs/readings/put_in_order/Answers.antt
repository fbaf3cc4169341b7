use Rattle.std.proofs.Common.{sym}
use Rattle.std.proofs.lemmas.List.Filters.{dedup_is}
use Rattle.time_stages.proofs.Pairs.{order_same, ordered_pairs}
use Rattle.time_stages.proofs.readings.put_in_order.Goals as goal

pub returns : goal.returns
returns c =
    ordered_pairs _ _ _ _ (λ p q. sym (order_same p.0 q.0 p.1 q.1)) c.sort_unstable.ensures.permutation c.sort_unstable.ensures.sorted (dedup_is _ _ _ c.dedup.ensures.filtered)
