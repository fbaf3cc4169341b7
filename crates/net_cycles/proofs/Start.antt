-- The state of zeros.
use Rattle.std.proofs.Common.{◌≡◌, ◌<◌, ◌%◌, ℕ, zero, suc, List, [], ◌∷◌, length, get_or, map, replicate, refl, sym, ap, ◌∙◌, arith}
use native.Mathlib.Nat.{mod-eq_of_lt}
use Rattle.std.proofs.Math.ListN.{get_or-map}
use Rattle.std.proofs.lemmas.List.{length-map}
use Rattle.net_ir.specs.declared.network.Module.{Module}
use Rattle.net_ir.specs.declared.network.Queue.{Queue}
use Rattle.net_ir.specs.Nets.{Net, queue_at}
use Rattle.net_ir.specs.States.{unmoved, zeros}
use Rattle.ring_region.specs.Fifos.{Fifo, emptied, fifo_at}
use Rattle.net_cycles.specs.Between.{whole, between, takes}
use Rattle.net_cycles.specs.Streams.{Streams, HoldCounts, HoldStreams}

pub get_or-zeros : (n x : ℕ) → get_or (replicate {A = ℕ} n 0) x 0 ≡ 0
get_or-zeros zero x = refl
get_or-zeros (suc n) zero = refl
get_or-zeros (suc n) (suc x) = get_or-zeros n x

pub zeros_between : (net : Net) → between (replicate {A = ℕ} (length net.modules) 0) ≡ zeros net
zeros_between net = along net.modules
  where
    along : (modules : List Module) → map whole (replicate {A = ℕ} (length modules) 0) ≡ map (λ _. unmoved) modules
    along [] = refl
    along (x ∷ xs) = ap (λ ts. unmoved ∷ ts) (along xs)

module _ (net : Net) (n : ℕ) (fifos : List Fifo) (are : fifos ≡ map emptied (map (λ (q : Queue). q.capacity) net.queues)) where
  each : (q : ℕ) → fifo_at fifos q ≡ emptied (queue_at net.queues q).capacity
  each q =
      ap (λ fs. fifo_at fs q) are
      ∙ get_or-map emptied (map (λ (x : Queue). x.capacity) net.queues) q 0
      ∙ ap emptied (get_or-map (λ (x : Queue). x.capacity) net.queues q (record { from = 0; to = 0; port = 0; capacity = 0; lead = 0 }))

  pub counts_at_start : ((q : ℕ) → q < length net.queues → 0 < (queue_at net.queues q).capacity)
      → HoldCounts net (replicate {A = ℕ} n 0) fifos
  counts_at_start positive = record {
    count = ap length are ∙ length-map (map (λ (q : Queue). q.capacity) net.queues) emptied ∙ length-map net.queues (λ (q : Queue). q.capacity);
    capacity = λ q h. ap (λ (f : Fifo). f.capacity) (each q);
    positive = positive;
    first = λ q h. let none : takes net (replicate {A = ℕ} n 0) q ≡ 0 = omega (arith, get_or-zeros n (queue_at net.queues q).to) in
        ap (λ (f : Fifo). f.first) (each q) ∙ sym (ap (λ k. k % (queue_at net.queues q).capacity) none ∙ mod-eq_of_lt (positive q h));
    held = λ q h. omega (
      arith,
      ap (λ (f : Fifo). length f.items) (each q),
      get_or-zeros n (queue_at net.queues q).to,
      get_or-zeros n (queue_at net.queues q).from,
    );
  }

  pub streams_at_start : (fired : List ℕ) (stream : Streams) → HoldStreams net fired fifos stream
  streams_at_start fired stream q i h less = absurd (omega (arith, ap (λ (f : Fifo). length f.items) (each q)))
