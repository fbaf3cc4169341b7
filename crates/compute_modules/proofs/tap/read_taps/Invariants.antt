use Rattle.std.proofs.Common.{◌≡◌, map, take}
use Rattle.soda_ir.specs.Program.{plain}
use Rattle.lane_code.specs.declared.code.CellRead.{CellRead}
use Rattle.lane_code.specs.Reads.{plain_read}
use Rattle.compute_modules.specs.pieces.Taps.{read_tap}
use Rattle.compute_modules.proofs.tap.read_taps.Given as goal

abbrev pub invariant-loop-read : goal.invariant-loop-read
invariant-loop-read l =
    l.taps.items ≡ map (λ (r : CellRead). read_tap (plain l.program) l.number l.turn (plain_read r)) (take l.read-index l.reads)
