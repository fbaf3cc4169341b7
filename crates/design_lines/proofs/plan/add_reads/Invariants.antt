use Rattle.std.proofs.Common.{◌≡◌, ◌++◌, slice_index, take}
use Rattle.delay_net.specs.Windows.{age, at_least_0}
use Rattle.soda_print.specs.Canonical.{ended}
use Rattle.design_lines.specs.PlanLines.{numbered, read_line}
use Rattle.design_lines.proofs.plan.add_reads.Given as goal

-- the lines of the reads so far
abbrev pub invariant-loop-number : goal.invariant-loop-number
invariant-loop-number l = l.text.items ≡ l.initial.text.items
    ++ ended (numbered (λ n r. read_line n r (at_least_0 (age l.delays r)) (slice_index l.hold n) (slice_index l.need n)) 0 (take l.number l.reads))
