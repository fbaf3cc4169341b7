-- What the queues hold is no more than their capacities.
use Rattle.std.proofs.Common.{◌≡◌, ◌<◌, ◌≤◌, ◌+◌, ◌-◌, cond, ℕ, zero, suc, Bool, true, false, List, [], ◌∷◌, ◌++◌, length, get_or, map, sum, take, sym, ap, ◌∙◌, add-one, arith}
use Rattle.std.proofs.lemmas.Grind.{common_steps}
use Rattle.std.proofs.lemmas.List.{get_or-map, length-map, take_more}
use Rattle.net_ir.specs.declared.network.Queue.{Queue}
use Rattle.net_ir.specs.Nets.{Net, queue_at}
use Rattle.ring_region.specs.Fifos.{Fifo, fifo_at}
use Rattle.ring_region.proofs.CallerLemmas.{sum_one_more}
use Rattle.net_cycles.specs.Between.{sends, takes}
use Rattle.net_cycles.specs.Streams.{HoldCounts}
use Rattle.net_cycles.specs.Holdings.{held_below, storage_below}

choose_le : (b : Bool) (x y : ℕ) → x ≤ y → cond b x 0 ≤ cond b y 0
choose_le true x y h = h
choose_le false x y h = omega arith

-- a number, or 0, is at most the number
pub choose_at_most : (b : Bool) (y : ℕ) → cond b y 0 ≤ y
choose_at_most true y = omega arith
choose_at_most false y = omega arith

module _ (net : Net) (fired : List ℕ) (fifos : List Fifo) (marked : List Bool) (counts : HoldCounts net fired fifos)
    (few : (q : ℕ) → q < length fifos → length (fifo_at fifos q).items ≤ (fifo_at fifos q).capacity) where
  pub held_few : (n : ℕ) → n ≤ length net.queues → held_below net fired marked n ≤ storage_below net marked n
  held_few zero h = omega arith
  held_few (suc n) h =
      let within : sends net fired n - takes net fired n ≤ (queue_at net.queues n).capacity =
      omega (arith, counts.held n (omega arith), few n (omega (arith, counts.count)), counts.capacity n (omega arith)) in
      omega (
        arith,
        held_few n (omega arith),
        choose_le (get_or marked n false) (sends net fired n - takes net fired n) (queue_at net.queues n).capacity within,
      )

  pub storage_few : (n : ℕ) → n ≤ length net.queues → storage_below net marked n ≤ sum (take n (map (λ (q : Queue). q.capacity) net.queues))
  storage_few zero h = omega arith
  storage_few (suc n) h =
      let sizes : List ℕ = map (λ (q : Queue). q.capacity) net.queues in
      let size : get_or sizes n 0 ≡ (queue_at net.queues n).capacity =
      get_or-map (λ (q : Queue). q.capacity) net.queues n (record { from = 0; to = 0; port = 0; capacity = 0; lead = 0 }) 0 (omega arith) in
      let step : sum (take (suc n) sizes) ≡ sum (take n sizes) + get_or sizes n 0 =
      ap (λ k. sum (take k sizes)) (sym (add-one n))
      ∙ ap sum (take_more sizes n 0 (omega (arith, length-map net.queues (λ (q : Queue). q.capacity))))
      ∙ sum_one_more (take n sizes) (get_or sizes n 0) in
      omega (arith, step, size, storage_few n (omega arith), choose_at_most (get_or marked n false) (queue_at net.queues n).capacity)

pub sum_few : (sizes : List ℕ) (n : ℕ) → sum (take n sizes) ≤ sum sizes
sum_few sizes n = grind (arith, common_steps)

-- one queue more
pub held_one : (net : Net) (fired : List ℕ) (marked : List Bool) (n : ℕ) → get_or marked n false ≡ true
    → held_below net fired marked (n + 1) ≡ held_below net fired marked n + (sends net fired n - takes net fired n)
held_one net fired marked n is =
    ap (held_below net fired marked) (add-one n)
    ∙ ap (λ b. held_below net fired marked n + cond b (sends net fired n - takes net fired n) 0) is
