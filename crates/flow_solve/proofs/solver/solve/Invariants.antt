use Rattle.std.proofs.Common.{◌≡◌, length, pos, ◌-ℤ◌}
use Rattle.delay_net.specs.Windows.{at_least_0}
use Rattle.delay_net.specs.Certificate.{IsBalanced, value_of}
use Rattle.flow_solve.proofs.StartLemmas.{value_bound}
use Rattle.flow_solve.proofs.solver.solve.Given as goal

-- the certificate is balanced
abbrev pub invariant-loop-need : goal.invariant-loop-need
invariant-loop-need l = record {
  holds : length l.hold.items ≡ length l.net.reads;
  needs : length l.need.items ≡ length l.net.reads;
  balanced : IsBalanced l.net.weights l.net.reads l.hold.items l.need.items;
}

-- how far its value is below a bound
abbrev pub decreases-loop-need : goal.decreases-loop-need
decreases-loop-need l = at_least_0 (pos (value_bound l.net.weights l.net.reads) -ℤ value_of l.net.reads l.hold.items l.need.items)
