use Rattle.std.proofs.Common.{arith}
use Rattle.soda_run.proofs.fill.Target.fill_line.Goals as goal

pub set-requires : goal.set-requires
set-requires c = omega (arith, c.loop-number.invariant.whole, c.requires.room, c.loop-number-test.true)
