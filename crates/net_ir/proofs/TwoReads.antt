-- The example network is one, and fits its firing order by its capacity.
use Rattle.std.proofs.Common.{◌≡◌, ◌≢◌, ◌<◌, ◌≤◌, ◌+◌, ℕ, zero, suc, arith}
use Rattle.net_ir.specs.Nets.{queue_at, IsOrderly, IsNetwork}
use Rattle.net_ir.specs.Worked.{two_reads}

pub two_reads_orderly : IsOrderly (two_reads 4)
two_reads_orderly zero h = record { onward = λ k. (omega arith, omega arith); back = λ k. absurd (omega arith) }
two_reads_orderly (suc zero) h = record { onward = λ k. (omega arith, omega arith); back = λ k. absurd (omega arith) }
two_reads_orderly (suc (suc zero)) h = record { onward = λ k. absurd (omega arith); back = λ k. (omega arith, omega arith) }
two_reads_orderly (suc (suc (suc zero))) h = record { onward = λ k. (omega arith, omega arith); back = λ k. absurd (omega arith) }
two_reads_orderly (suc (suc (suc (suc zero)))) h = record { onward = λ k. (omega arith, omega arith); back = λ k. absurd (omega arith) }
two_reads_orderly (suc (suc (suc (suc (suc n))))) h = absurd (omega arith)

pub two_reads_not_orderly : IsOrderly (two_reads 1) → ⊥
two_reads_not_orderly o = let r : 4 + 0 ≤ 0 + 1 = ((o 2 (omega arith)).back (omega arith)).1 in omega arith

at_five : (P : ℕ → Type 0) → P 0 → P 1 → P 2 → P 3 → P 4 → (n : ℕ) → n < 5 → P n
at_five P a b c d e zero h = a
at_five P a b c d e (suc zero) h = b
at_five P a b c d e (suc (suc zero)) h = c
at_five P a b c d e (suc (suc (suc zero))) h = d
at_five P a b c d e (suc (suc (suc (suc zero)))) h = e
at_five P a b c d e (suc (suc (suc (suc (suc n))))) h = absurd (omega arith)

pub two_reads_network : (capacity : ℕ) → IsNetwork (two_reads capacity)
two_reads_network capacity = record {
  from = at_five (λ n. (queue_at (two_reads capacity).queues n).from < 5) (omega arith) (omega arith) (omega arith) (omega arith) (omega arith);
  to = at_five (λ n. (queue_at (two_reads capacity).queues n).to < 5) (omega arith) (omega arith) (omega arith) (omega arith) (omega arith);
  ends = at_five (λ n. (queue_at (two_reads capacity).queues n).from ≢ (queue_at (two_reads capacity).queues n).to) (λ e. omega arith) (λ e. omega arith)
      (λ e. omega arith) (λ e. omega arith) (λ e. omega arith);
  ports = λ i j h k. at_five (λ y. (x : ℕ) → x < y → (queue_at (two_reads capacity).queues x).to ≡ (queue_at (two_reads capacity).queues y).to
      → (queue_at (two_reads capacity).queues x).port ≢ (queue_at (two_reads capacity).queues y).port)
      (λ x l. absurd (omega arith))
      (λ x l. at_five (λ z. z < 1 → (queue_at (two_reads capacity).queues z).to ≡ 2 → (queue_at (two_reads capacity).queues z).port ≢ 0) (λ _ t p. omega arith)
      (λ m t p. omega arith) (λ m t p. omega arith) (λ m t p. omega arith) (λ m t p. omega arith) x (omega arith) l)
      (λ x l. at_five (λ z. z < 2 → (queue_at (two_reads capacity).queues z).to ≡ 0 → (queue_at (two_reads capacity).queues z).port ≢ 0) (λ _ t p. omega arith)
      (λ _ t p. omega arith) (λ m t p. omega arith) (λ m t p. omega arith) (λ m t p. omega arith) x (omega arith) l)
      (λ x l. at_five (λ z. z < 3 → (queue_at (two_reads capacity).queues z).to ≡ 3 → (queue_at (two_reads capacity).queues z).port ≢ 1) (λ _ t p. omega arith)
      (λ _ t p. omega arith) (λ _ t p. omega arith) (λ m t p. omega arith) (λ m t p. omega arith) x (omega arith) l)
      (λ x l. at_five (λ z. z < 4 → (queue_at (two_reads capacity).queues z).to ≡ 4 → (queue_at (two_reads capacity).queues z).port ≢ 0) (λ _ t p. omega arith)
      (λ _ t p. omega arith) (λ _ t p. omega arith) (λ _ t p. omega arith) (λ m t p. omega arith) x (omega arith) l)
      j k i h;
}
