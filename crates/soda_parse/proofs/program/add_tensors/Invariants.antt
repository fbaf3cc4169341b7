use Rattle.std.proofs.Common.{◌≡◌, ◌++◌, map, drop}
use Rattle.std.specs.Prelude.{flat_map}
use Rattle.soda_ir.specs.Program.{plain_tensor}
use Rattle.soda_parse.specs.Meaning.{tensors_in}
use Rattle.soda_formula.specs.Statements.{plain_statement}
use Rattle.soda_parse.proofs.program.add_tensors.Given as goal

abbrev pub invariant-loop-statement : goal.invariant-loop-statement
invariant-loop-statement l =
    map plain_tensor l.tensors ++ flat_map (tensors_in l.outline) (map plain_statement (drop l.statement-index l.statements)) ≡
    map plain_tensor l.initial.tensors ++ flat_map (tensors_in l.outline) (map plain_statement l.statements)
