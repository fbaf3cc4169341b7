use Rattle.std.proofs.Common.{◌≡◌, ◌++◌, take}
use Rattle.design_lines.specs.PlanLines.{numbered}
use Rattle.soda_print.specs.Canonical.{ended}
use Rattle.design_lines.specs.Lines.{queue_line}
use Rattle.design_reader.proofs.networks.queues_behind.Given as goal

-- the lines so far
abbrev pub invariant-loop-number : goal.invariant-loop-number
invariant-loop-number l = l.text ≡ ended (numbered queue_line 0 (take l.number l.queues)) ++ l.rest
