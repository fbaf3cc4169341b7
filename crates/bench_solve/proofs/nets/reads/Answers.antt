use Rattle.std.proofs.Common.{arith}
use Rattle.bench_solve.proofs.nets.reads.Goals as goal

pub loop-reader-preserved : goal.loop-reader-preserved
loop-reader-preserved c = record {
  top = omega arith;
  seed = omega (arith, c.in_ok-seed.ensures.next);
  few = omega (arith, c.in_ok-seed.ensures.count, c.loop-reader.invariant.few);
  reads = c.in_ok-seed.ensures.reads c.args.tensors c.loop-reader-test.true c.loop-reader.invariant.reads;
}
