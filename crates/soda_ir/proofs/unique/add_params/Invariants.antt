use Rattle.std.proofs.Common.{◌≡◌, ◌++◌, true, map, take}
use Rattle.soda_ir.specs.Program.{plain_param}
use Rattle.soda_ir.specs.Valid.{are_free_names}
use Rattle.soda_ir.proofs.unique.add_params.Given as goal

abbrev pub invariant-loop-param : goal.invariant-loop-param
invariant-loop-param l = record {
  free : are_free_names l.table ≡ true;
  named : l.table ≡ l.initial.table ++ map (λ q. q.name) (map plain_param (take l.param-index l.params));
}
