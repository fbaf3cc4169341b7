use Rattle.std.proofs.Common.{◌≡◌, ℕ, List, ℤ}
use Rattle.soda_io.specs.Store.{Store}
use Rattle.soda_ir.specs.Program.{PlainProgram}
use Rattle.command_words.specs.Orders.{Asked}
use Rattle.sodac_cli.specs.Machine.Steps.{IsWriting, WritesOutputs}
use Rattle.sodac_cli.proofs.delivering.write_outputs.Given as goal

-- the outputs before this number were written
abbrev pub invariant-loop-number : goal.invariant-loop-number
invariant-loop-number g l = record {
  given : g.F.Files.given l.files ≡ g.F.Files.given l.initial.files;
  faults : g.F.Files.faults l.files ≡ g.F.Files.faults l.initial.files;
  goes : g.F.Files.tells → (first : ℕ) (begun : Store) (a : Asked) (p : PlainProgram) (values : List ℤ) (inputs : List (List ℤ))
      → WritesOutputs first begun a p (g.F.Files.given l.initial.files) (g.F.Files.store l.initial.files) values inputs l.ids l.types l.layout l.arrays
      → IsWriting first begun a p (g.F.Files.given l.files) (g.F.Files.store l.files) values inputs l.number;
}
