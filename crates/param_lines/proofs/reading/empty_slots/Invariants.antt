use Rattle.std.proofs.Common.{◌≡◌, [], map, take}
use Rattle.soda_ir.specs.Program.{plain_param}
use Rattle.param_lines.specs.Params.{values_at}
use Rattle.param_lines.proofs.reading.empty_slots.Given as goal

abbrev pub invariant-loop-param : goal.invariant-loop-param
invariant-loop-param l = l.slots.items ≡ map (values_at []) (map plain_param (take l._param-index l.params))
