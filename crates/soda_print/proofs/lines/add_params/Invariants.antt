use Rattle.std.proofs.Common.{◌≡◌, ◌++◌, map, take}
use Rattle.soda_ir.specs.Program.{plain_param}
use Rattle.soda_print.specs.Canonical.{ended, param_line}
use Rattle.soda_print.specs.Sized.{AreSizedParams}
use Rattle.soda_print.proofs.lines.add_params.Given as goal

abbrev pub invariant-loop-param : goal.invariant-loop-param
invariant-loop-param l = record {
  adds : l.text.items ≡ l.initial.text.items ++ ended (map param_line (map plain_param (take l.param-index l.params)));
  sized : AreSizedParams (map plain_param (take l.param-index l.params));
}
