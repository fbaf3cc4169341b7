use Rattle.std.proofs.Common.{◌≡◌, ◌++◌, false, map, slice_index_or, take}
use Rattle.std.specs.List.{filter}
use Rattle.time_stages.specs.pieces.Stages.{stage_at}
use Rattle.time_stages.proofs.staging.add_marked.Given as goal

abbrev pub invariant-loop-number : goal.invariant-loop-number
invariant-loop-number l =
    l.tensors.items ≡ l.initial.tensors.items ++ map (stage_at l.turn l.margins) (filter (λ x. slice_index_or l.marks x false) (take l.number-index l.numbers))
