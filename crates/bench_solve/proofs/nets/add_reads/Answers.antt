use Rattle.std.proofs.Common.{List, length, length-append, ap, subst, sym, arith}
use Rattle.std.specs.List.{All}
use Rattle.std.proofs.lemmas.List.Elements.{All-push}
use Rattle.delay_net.specs.declared.net.Read.{Read}
use Rattle.bench_solve.specs.Made.{IsReadBelow}
use Rattle.bench_solve.proofs.nets.add_reads.Goals as goal

pub loop-place-preserved : goal.loop-place-preserved
loop-place-preserved c = record {
  seed = omega (arith, c.next-seed.ensures);
  count = omega (arith, ap length c.in_ok-push.ensures.items, length-append {A = Read}, c.loop-place.invariant.count);
  reads = λ tensors lt before.
      subst (λ (l : List Read). All (IsReadBelow tensors) l) (sym c.in_ok-push.ensures.items)
      (All-push (IsReadBelow tensors) c.loop-place.reads.items _ (c.loop-place.invariant.reads tensors lt before) (c.read.ensures tensors lt));
}
