use Rattle.std.proofs.Common.{◌<◌, ◌≤◌, ◌*◌, ◌^◌, length}
use Rattle.std.specs.List.{All}
use Rattle.delay_net.specs.Limits.{most_tensors}
use Rattle.bench_solve.specs.Limits.{most_each}
use Rattle.bench_solve.specs.Made.{IsReadBelow}
use Rattle.bench_solve.proofs.nets.reads.Given as goal

-- reads alone so far, at most 32 a tensor
abbrev pub invariant-loop-reader : goal.invariant-loop-reader
invariant-loop-reader l = record {
  top : l.reader ≤ most_tensors;
  seed : l.seed < 2 ^ 31;
  few : length l.reads.items ≤ most_each * l.reader;
  reads : All (IsReadBelow l.tensors) l.reads.items;
}
