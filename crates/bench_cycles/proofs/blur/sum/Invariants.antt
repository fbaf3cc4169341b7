use Rattle.std.proofs.Common.{◌≡◌, pos, take}
use Rattle.std.specs.List.{fold}
use Rattle.std.specs.Int.{int_wrapping_add}
use mir.Syntax.{w128}
use Rattle.bench_cycles.proofs.blur.sum.Given as goal

abbrev pub invariant-loop-value : goal.invariant-loop-value
invariant-loop-value l = l.total ≡ fold (int_wrapping_add w128) (pos 0) (take l.value-index l.ports)
