use Rattle.std.proofs.Common.{◌-◌, length}
use Rattle.param_lines.proofs.Fronts.{IsBeforeSpace}
use Rattle.param_lines.proofs.splitting.run_len.Given as goal

abbrev pub invariant-loop-count : goal.invariant-loop-count
invariant-loop-count l = IsBeforeSpace l.count l.bytes

abbrev pub decreases-loop-count : goal.decreases-loop-count
decreases-loop-count l = length l.bytes - l.count
