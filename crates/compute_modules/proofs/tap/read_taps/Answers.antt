use Rattle.lane_code.specs.declared.code.CellRead.{CellRead}
use Rattle.lane_code.specs.Reads.{plain_read}
use Rattle.soda_ir.specs.Program.{plain}
use Rattle.compute_modules.specs.pieces.Taps.{read_tap}
use Rattle.compute_modules.proofs.Taps.{taps_more}
use Rattle.compute_modules.proofs.tap.read_taps.Goals as goal

pub loop-read-preserved : goal.loop-read-preserved
loop-read-preserved c =
    taps_more (λ (r : CellRead). read_tap (plain c.args.program.now) c.args.number c.args.turn (plain_read r)) c.args.reads.now c.loop-read.read-index
    c.read-item.result c.read_tap.result c.loop-read.taps.items c.push.new.self.items c.loop-read-test.true c.read-item.is c.read_tap.ensures
    c.loop-read.invariant c.in_ok-push.ensures.items
