use Rattle.std.proofs.Common.{take}
use Rattle.delay_net.specs.Windows.{MeetsWindows}
use Rattle.delay_net.proofs.timing.meets.Given as goal

-- the windows of the reads so far are met
abbrev pub invariant-loop-read : goal.invariant-loop-read
invariant-loop-read l = MeetsWindows (take l.read-index l.read-items) l.delays
