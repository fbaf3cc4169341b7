use Rattle.std.proofs.Common.{◌≡◌, slice_index, take}
use Rattle.std.specs.List.{All}
use Rattle.delay_net.proofs.certificate.fills_widths.Given as goal

-- what the reads so far read is filled
abbrev pub invariant-loop-read : goal.invariant-loop-read
invariant-loop-read l = All (λ read. slice_index l.held read.of ≡ slice_index l.weights read.of) (take l.read-index l.read-items)
