use Rattle.std.proofs.Common.{◌≡◌, ◌≤◌, true, length}
use Rattle.crossbeam_queue.specs.Passes.{view, IsPassOf, ruled_capacity}
use Rattle.ruled_fifo.specs.rule.Steps.{LeavesWithin}
use Rattle.ruled_fifo.proofs.settling.take_out.Given as goal

abbrev pub invariant-loop : goal.invariant-loop
invariant-loop g l = IsPassOf l.line l.pass × ((view l.pass).sends ≡ true) × ((view l.pass).takes ≡ true)
    × ((view l.pass).sent ≡ (view l.fn.pass).sent) × ((view l.pass).taken ≡ (view l.fn.pass).taken)
    × (l.held ≡ length (view l.pass).drained) × LeavesWithin l.most (view l.pass) × (l.most ≤ ruled_capacity l.line)
