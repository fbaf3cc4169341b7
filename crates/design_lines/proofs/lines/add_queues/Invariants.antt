use Rattle.std.proofs.Common.{◌≡◌, ◌++◌, take}
use Rattle.soda_print.specs.Canonical.{ended}
use Rattle.design_lines.specs.PlanLines.{numbered}
use Rattle.design_lines.specs.Lines.{queue_line}
use Rattle.design_lines.proofs.lines.add_queues.Given as goal

-- the lines of the queues so far
abbrev pub invariant-loop-number : goal.invariant-loop-number
invariant-loop-number l = l.text.items ≡ l.initial.text.items ++ ended (numbered queue_line 0 (take l.number l.queues))
