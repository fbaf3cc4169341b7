use Rattle.std.proofs.Common.{◌≡◌, map, take}
use Rattle.soda_ir.specs.Program.{plain}
use Rattle.net_build.specs.Planned.{kind_of}
use Rattle.net_build.proofs.kinds.kinds_of.Given as goal

abbrev pub invariant-loop-staged : goal.invariant-loop-staged
invariant-loop-staged l = l.kinds.items ≡ map (kind_of (plain l.parts)) (take l.staged-index l.tensors)
