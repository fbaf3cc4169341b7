use Rattle.std.proofs.Common.{◌≡◌, ◌^◌, map, min, take}
use Rattle.soda_ir.specs.Program.{plain_param}
use Rattle.soda_ir.specs.Valid.{value_count}
use Rattle.soda_ir.proofs.params.value_count.Given as goal

abbrev pub invariant-loop-param : goal.invariant-loop-param
invariant-loop-param l = l.count ≡ min (value_count (map plain_param (take l.param-index l.params))) (2 ^ 64)
