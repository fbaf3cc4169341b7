use Rattle.std.proofs.Common.{slice_index_or, take}
use Rattle.soda_ir.specs.Program.{plain}
use Rattle.time_stages.specs.Margins.{dims_of, no_margins}
use Rattle.time_stages.proofs.Made.{IsMade}
use Rattle.time_stages.proofs.margins.margins_over.Given as goal

abbrev pub invariant-loop-tensor : goal.invariant-loop-tensor
invariant-loop-tensor l =
    IsMade (plain l.program) (λ j. slice_index_or l.inputs j (no_margins (dims_of (plain l.program)))) (take l.tensor-index l.order) l.made.items
