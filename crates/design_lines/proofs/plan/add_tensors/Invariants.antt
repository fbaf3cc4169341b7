use Rattle.std.proofs.Common.{◌≡◌, ◌++◌, slice_index, take}
use Rattle.delay_net.specs.Windows.{storage_of}
use Rattle.soda_ir.specs.Program.{plain}
use Rattle.soda_print.specs.Canonical.{ended}
use Rattle.design_lines.specs.PlanLines.{numbered, tensor_line}
use Rattle.design_lines.proofs.plan.add_tensors.Given as goal

-- the lines of the tensors so far
abbrev pub invariant-loop-number : goal.invariant-loop-number
invariant-loop-number l = l.text.items ≡ l.initial.text.items
    ++ ended (numbered (λ n s. tensor_line (plain l.parts) n s (slice_index l.delays n) (storage_of l.net.reads l.delays n)) 0 (take l.number l.tensors))
