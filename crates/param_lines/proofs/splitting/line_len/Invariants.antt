use Rattle.std.proofs.Common.{◌-◌, length}
use Rattle.param_lines.proofs.Fronts.{IsBeforeFeed}
use Rattle.param_lines.proofs.splitting.line_len.Given as goal

abbrev pub invariant-loop-count : goal.invariant-loop-count
invariant-loop-count l = IsBeforeFeed l.count l.bytes

abbrev pub decreases-loop-count : goal.decreases-loop-count
decreases-loop-count l = length l.bytes - l.count
