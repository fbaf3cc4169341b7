use Rattle.std.proofs.Common.{◌≡◌, length}
use Rattle.soda_ir.specs.Program.{plain}
use Rattle.staged_cells.specs.Cells.{port_types}
use Rattle.compute_modules.specs.Modules.{count_of, place_of, step_of}
use Rattle.stage_rows.proofs.tests.modules.agrees.Given as goal

abbrev pub invariant-loop : goal.invariant-loop
invariant-loop l = record {
  place : place_of l.module ≡ l.index;
  step : step_of l.module ≡ l.step;
  count : count_of l.module ≡ length (port_types (plain l.program) l.number);
}
