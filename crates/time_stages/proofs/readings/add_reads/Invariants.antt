use Rattle.std.proofs.Common.{◌≡◌, ◌++◌, map, take}
use Rattle.time_stages.specs.Staged.{read_by}
use Rattle.time_stages.specs.pieces.Stages.{reading_of}
use Rattle.time_stages.proofs.readings.add_reads.Given as goal

abbrev pub invariant-loop-pair : goal.invariant-loop-pair
invariant-loop-pair l =
    l.reads.items ≡ l.initial.reads.items ++ map (λ q. read_by l.reader (reading_of q)) (take l.pair-index l.pairs)
