use Rattle.std.proofs.Common.{ap, length, arith}
use Rattle.flow_solve.proofs.steps.unordered.Goals as goal

pub loop-number-preserved : goal.loop-number-preserved
loop-number-preserved c =
    let reads = length c.args.net.now.reads in record {
      steps = c.in_ok-add_steps.ensures.steps reads c.loop-number.invariant.steps
          (c.steps_of.ensures.steps reads (omega (arith, ap length c.reads-read-items.ensures.value, c.loop-number-test.true)));
      few = omega (arith, c.in_ok-add_steps.ensures.count, c.steps_of.ensures.four, c.loop-number.invariant.few);
    }
