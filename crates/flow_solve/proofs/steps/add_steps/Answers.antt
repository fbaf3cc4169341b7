use Rattle.std.proofs.Common.{length, length-append, ap, arith}
use Rattle.flow_solve.specs.declared.steps.Step.{Step}
use Rattle.flow_solve.proofs.StepLemmas.{steps_push}
use Rattle.flow_solve.proofs.steps.add_steps.Goals as goal

pub loop-step-preserved : goal.loop-step-preserved
loop-step-preserved c = record {
  steps = λ reads before four.
      steps_push reads c.loop-step.steps.items c.push.new.self.items _ c.in_ok-push.ensures.items (c.loop-step.invariant.steps reads before four)
      (four c.loop-step.step-index _ c.loop-step-test.true);
  count = omega (arith, ap length c.in_ok-push.ensures.items, length-append {A = Step}, c.loop-step.invariant.count);
}
