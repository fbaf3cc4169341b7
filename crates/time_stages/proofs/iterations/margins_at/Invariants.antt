use Rattle.std.proofs.Common.{◌≡◌, map, slice_index_or, take}
use Rattle.time_stages.specs.Margins.{no_margins}
use Rattle.time_stages.proofs.iterations.margins_at.Given as goal

abbrev pub invariant-loop-number : goal.invariant-loop-number
invariant-loop-number l =
    l.found.items ≡ map (λ x. slice_index_or l.margins x (no_margins 0)) (take l.number-index l.numbers)
