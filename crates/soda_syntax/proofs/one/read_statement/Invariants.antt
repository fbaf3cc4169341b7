use Rattle.std.proofs.Common.{◌≡◌, take, Some, None}
use Rattle.soda_syntax.specs.declared.stage.Stage.TheVariants.{Start}
use Rattle.soda_syntax.specs.machine.Steps.{steps}
use Rattle.soda_syntax.specs.machine.Pieces.{left_of}
use Rattle.soda_syntax.proofs.one.read_statement.Given as goal

abbrev pub invariant-loop-at : goal.invariant-loop-at
invariant-loop-at l = record {
  read : steps (Some Start) (take l.at l.tokens) ≡ Some l.stage;
  no_formula : left_of l.stage ≡ None;
}
