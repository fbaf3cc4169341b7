use Rattle.std.proofs.Common.{◌≡◌, ◌^◌, ◌*◌, pos, neg_ℤ, ◌+ℤ◌, ◌≤ℤ◌, drop}
use Rattle.delay_net.specs.Certificate.{sum_of_offsets}
use Rattle.delay_net.proofs.certificate.sum_of_offsets.Given as goal

-- the sum so far and the sum over the reads that are left give the sum, and each product is within 2 ^ 74
abbrev pub invariant-loop-i : goal.invariant-loop-i
invariant-loop-i l = record {
  told : l.sum +ℤ sum_of_offsets (drop l.i l.reads) (drop l.i l.numbers) ≡ sum_of_offsets l.reads l.numbers;
  low : neg_ℤ (pos (l.i * 2 ^ 74)) ≤ℤ l.sum;
  high : l.sum ≤ℤ pos (l.i * 2 ^ 74);
}
