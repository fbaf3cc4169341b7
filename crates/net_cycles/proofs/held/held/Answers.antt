use Rattle.std.proofs.Common.{◌≡◌, ◌<◌, ◌+◌, ◌∙◌, ℕ, List, length, map, sum, ap, arith}
use Rattle.net_ir.specs.declared.network.Queue.{Queue}
use Rattle.net_cycles.specs.Holdings.{held_below}
use Rattle.net_cycles.proofs.Places.{sizes_are}
use Rattle.net_cycles.proofs.Storage.{held_few, storage_few, sum_few, held_one}
use Rattle.net_cycles.proofs.held.held.Goals as goal

pub overflow_add-total : goal.overflow_add-total
overflow_add-total c =
    let net = c.args.net.now in
    let q : ℕ = c.loop-queue.queue in
    let fired = c.args.fired.now in
    let rings = c.args.rings.now in
    let marked = c.args.marked.now in
    let counts = c.requires.counts in
    let few = c.region-region.ensures.few in
    let sizes : List ℕ = map (λ (x : Queue). x.capacity) net.queues in
    let less : q < length net.queues = omega (arith, c.loop-queue-test.true, ap length c.queues.ensures.value, c.queues.ensures.small) in
    let room : length c.region-region.result.now ≡ sum sizes =
    c.region-region.ensures.filled ∙ ap sum (sizes_are net fired rings counts) in
    omega (
      arith,
      c.loop-queue.invariant,
      c.held-total.ensures.held,
      counts.held q less,
      held_one net fired marked q c.if-marked-queue.true,
      held_few net fired rings marked counts few (q + 1) (omega arith),
      storage_few net fired rings marked counts few (q + 1) (omega arith),
      sum_few sizes (q + 1),
      room,
      c.region-region.ensures.small,
    )

pub returns-clause-within : goal.returns-clause-within
returns-clause-within c =
    let net = c.args.net.now in
    let all : c.loop-queue.queue ≡ length net.queues =
    omega (arith, c.loop-queue-test.false, c.loop-queue.auto.queue-end, c.queues.ensures.small, ap length c.queues.ensures.value) in
    omega (
      arith,
      c.loop-queue.invariant,
      ap (held_below net c.args.fired.now c.args.marked.now) all,
      held_few net c.args.fired.now c.args.rings.now c.args.marked.now c.requires.counts c.region-region.ensures.few
          (length net.queues) (omega arith),
    )
