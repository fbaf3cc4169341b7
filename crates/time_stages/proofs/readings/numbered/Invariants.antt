use Rattle.std.proofs.Common.{◌≡◌, map, take}
use Rattle.soda_ir.specs.Program.{plain}
use Rattle.time_stages.specs.pieces.Stages.{pair_read}
use Rattle.time_stages.proofs.readings.numbered.Given as goal

abbrev pub invariant-loop-reading : goal.invariant-loop-reading
invariant-loop-reading l =
    l.pairs.items ≡ map (pair_read (plain l.parts) l.tensors l.turn) (take l.reading-index l.readings)
