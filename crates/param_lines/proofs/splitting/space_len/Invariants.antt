use Rattle.std.proofs.Common.{◌-◌, length}
use Rattle.param_lines.proofs.Fronts.{IsSpace}
use Rattle.param_lines.proofs.splitting.space_len.Given as goal

abbrev pub invariant-loop-count : goal.invariant-loop-count
invariant-loop-count l = IsSpace l.count l.bytes

abbrev pub decreases-loop-count : goal.decreases-loop-count
decreases-loop-count l = length l.bytes - l.count
