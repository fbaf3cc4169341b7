use Rattle.std.proofs.Common.{◌≡◌, slice_index_or}
use Rattle.soda_ir.specs.Points.{listed}
use Rattle.time_stages.specs.Margins.{no_margins}
use Rattle.time_stages.proofs.margins.starting_margins.Given as goal

abbrev pub invariant-loop-tensor : goal.invariant-loop-tensor
invariant-loop-tensor l = l.made.items ≡ listed (λ x. slice_index_or l.inputs x (no_margins l.dims)) l.tensor
