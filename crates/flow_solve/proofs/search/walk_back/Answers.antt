use Rattle.flow_solve.proofs.StepLemmas.{step_at, steps_push}
use Rattle.flow_solve.proofs.search.walk_back.Goals as goal

pub loop-preserved : goal.loop-preserved
loop-preserved c = record {
  node = (step_at c.requires.marks.0 c.args.marks.now c.loop.node _ c.in-Some.step c.requires.marks.1 c.loop.invariant.node c.in-Some.is).from;
  steps = λ reads are.
      steps_push reads c.loop.walk.items c.push.new.self.items c.in-Some.step c.in_ok-push.ensures.items (c.loop.invariant.steps reads are)
      (step_at reads c.args.marks.now c.loop.node _ c.in-Some.step are c.loop.invariant.node c.in-Some.is);
}
