use Rattle.std.proofs.Common.{length, arith}
use Rattle.std.proofs.lemmas.List.Sorted.{All-permutation}
use Rattle.flow_solve.specs.machine.Steps.{IsStep}
use Rattle.flow_solve.proofs.steps.ordered.Goals as goal

pub returns : goal.returns
returns c = record {
  each = All-permutation
      (IsStep (length c.args.net.now.reads)) c.in_ok-steps.steps.items c.sort_by_key.new.self.items c.sort_by_key.ensures.permutation c.in_ok-steps.ensures.steps;
  nodes = omega (arith, c.loop-node.invariant.nodes);
  begins = c.loop-node.invariant.within;
}
