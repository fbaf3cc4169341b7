use Rattle.std.proofs.Common.{◌≡◌, ℕ, List, ℤ, take}
use Rattle.soda_io.specs.Store.{Store}
use Rattle.soda_ir.specs.Program.{PlainProgram}
use Rattle.soda_eval.specs.Runs.{HasArrays}
use Rattle.command_words.specs.Orders.{Asked}
use Rattle.sodac_cli.specs.Machine.Steps.{IsGathering, ReadsInputs}
use Rattle.sodac_cli.proofs.gathering.read_inputs.Given as goal

-- the inputs before this number were read
abbrev pub invariant-loop-number : goal.invariant-loop-number
invariant-loop-number g l = record {
  arrays : HasArrays l.layout.cells (take l.number l.types) l.arrays.items;
  given : g.F.Files.given l.files ≡ g.F.Files.given l.initial.files;
  faults : g.F.Files.faults l.files ≡ g.F.Files.faults l.initial.files;
  goes : g.F.Files.tells → (first : ℕ) (begun : Store) (a : Asked) (p : PlainProgram) (values : List ℤ)
      → ReadsInputs first begun a p (g.F.Files.given l.initial.files) (g.F.Files.store l.initial.files) values l.ids l.types l.layout
      → IsGathering first begun a p (g.F.Files.given l.files) (g.F.Files.store l.files) values l.arrays.items l.number;
}
