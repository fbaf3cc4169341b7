use Rattle.std.proofs.Common.{◌≡◌, ◌≤◌, map, drop}
use Rattle.soda_ir.specs.Program.{plain_param}
use Rattle.soda_parse.specs.ProgramConditions.{values_past}
use Rattle.soda_parse.proofs.conditions.params_past.Given as goal

abbrev pub invariant-loop-param : goal.invariant-loop-param
invariant-loop-param l = (l.before ≤ 65536) × (values_past l.before (map plain_param (drop l.param-index l.params)) ≡ values_past 0 (map plain_param l.params))
