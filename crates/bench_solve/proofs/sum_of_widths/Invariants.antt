use Rattle.std.proofs.Common.{◌≤◌, ◌*◌}
use Rattle.bench_solve.proofs.sum_of_widths.Given as goal

-- at most 255 a tensor
abbrev pub invariant-loop-width : goal.invariant-loop-width
invariant-loop-width l = l.sum ≤ 255 * l.width-index
