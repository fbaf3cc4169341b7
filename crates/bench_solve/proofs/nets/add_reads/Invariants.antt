use Rattle.std.proofs.Common.{◌≡◌, ℕ, ◌+◌, ◌<◌, ◌^◌, length}
use Rattle.std.specs.List.{All}
use Rattle.bench_solve.specs.Made.{IsReadBelow}
use Rattle.bench_solve.proofs.nets.add_reads.Given as goal

-- reads alone so far
abbrev pub invariant-loop-place : goal.invariant-loop-place
invariant-loop-place l = record {
  seed : l.seed < 2 ^ 31;
  count : length l.reads.items ≡ length l.fn.reads.items + l.place;
  reads : (tensors : ℕ) → l.reader < tensors → All (IsReadBelow tensors) l.fn.reads.items → All (IsReadBelow tensors) l.reads.items;
}
