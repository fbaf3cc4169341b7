-- Where the items of the streams lie.
use Rattle.std.proofs.Common.{◌≡◌, ◌<◌, ◌+◌, ◌-◌, ◌%◌, ℕ, ℤ, pos, List, length, get_or, map, sum, take, sym, ap, ◌∙◌, arith}
use Rattle.std.proofs.lemmas.List.{ext_get_or, get_or-map, length-map}
use native.Mathlib.Nat.{mod-add-mod}
use Rattle.net_ir.specs.declared.network.Queue.{Queue}
use Rattle.net_ir.specs.Nets.{Net, queue_at}
use Rattle.ring_region.specs.Fifos.{Fifo, emptied, fifo_at, begin_of, place_of}
use Rattle.net_cycles.specs.Between.{takes}
use Rattle.net_cycles.specs.Streams.{Streams, HoldCounts, HoldStreams, ItemsLie}

module _ (net : Net) (fired : List ℕ) (fifos : List Fifo) (counts : HoldCounts net fired fifos) where
  -- the capacities of the queues are the network's
  pub sizes_are : map (λ (f : Fifo). f.capacity) fifos ≡ map (λ (q : Queue). q.capacity) net.queues
  sizes_are =
      ext_get_or 0 (map (λ (f : Fifo). f.capacity) fifos) (map (λ (q : Queue). q.capacity) net.queues)
      (length-map fifos (λ (f : Fifo). f.capacity) ∙ counts.count ∙ sym (length-map net.queues (λ (q : Queue). q.capacity)))
      (λ i h. let less : i < length net.queues = omega (arith, length-map fifos (λ (f : Fifo). f.capacity), counts.count) in
      get_or-map (λ (f : Fifo). f.capacity) fifos i (emptied 0) 0 (omega (arith, counts.count)) ∙ counts.capacity i less
      ∙ sym (get_or-map (λ (q : Queue). q.capacity) net.queues i (record { from = 0; to = 0; port = 0; capacity = 0; lead = 0 }) 0 less))

  pub items_lie : (region : List ℤ)
      → ((q i : ℕ) → q < length fifos → i < length (fifo_at fifos q).items
      → get_or region (place_of fifos q i) (pos 0) ≡ get_or (fifo_at fifos q).items i (pos 0))
      → (stream : Streams) → HoldStreams net fired fifos stream → ItemsLie net fired region stream
  items_lie region lie stream hold q n h taken sent =
      let c : ℕ = (queue_at net.queues q).capacity in
      let i : ℕ = n - takes net fired q in
      let there : q < length fifos = omega (arith, counts.count) in
      let held : i < length (fifo_at fifos q).items = omega (arith, counts.held q h) in
      let number : takes net fired q + i ≡ n = omega arith in
      let place : ((fifo_at fifos q).first + i) % (fifo_at fifos q).capacity ≡ n % c =
      ap (λ x. ((fifo_at fifos q).first + i) % x) (counts.capacity q h) ∙ ap (λ x. (x + i) % c) (counts.first q h)
      ∙ mod-add-mod (takes net fired q) c i ∙ ap (λ x. x % c) number in
      ap (λ xs. get_or region (sum (take q xs) + n % c) (pos 0)) (sym sizes_are)
      ∙ ap (λ x. get_or region (begin_of fifos q + x) (pos 0)) (sym place)
      ∙ lie q i there held ∙ hold q i h held ∙ ap (stream q) number
