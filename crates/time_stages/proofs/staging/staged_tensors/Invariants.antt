use Rattle.std.proofs.Common.{◌≡◌, ◌++◌, map, suc}
use Rattle.soda_ir.specs.Program.{plain}
use Rattle.time_stages.specs.Margins.{AreMade}
use Rattle.time_stages.specs.Staged.{inputs_of, staged_statements, staged_tensor}
use Rattle.time_stages.proofs.staging.staged_tensors.Given as goal

abbrev pub invariant-loop-earlier : goal.invariant-loop-earlier
invariant-loop-earlier l =
    let p = plain l.program in
    record {
      made : AreMade p l.earlier l.margins.items;
      tensors : l.tensors.items ≡ map (staged_tensor p 0) (inputs_of p) ++ staged_statements p (suc l.earlier);
    }
