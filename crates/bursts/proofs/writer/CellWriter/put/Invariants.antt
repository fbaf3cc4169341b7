use Rattle.std.proofs.Common.{◌≡◌, List, ℕ, ℤ, take, Some, Ok}
use Rattle.bursts.specs.Blocks.{WritesOn}
use Rattle.bursts.specs.Writers.{HasPut, Puts, output}
use Rattle.bursts.proofs.writer.CellWriter.put.Given as goal

abbrev pub invariant-loop-cell : goal.invariant-loop-cell
invariant-loop-cell g l = record {
  output : output l.self ≡ output l.initial.self;
  given : g.F.Files.given l.files ≡ g.F.Files.given l.initial.files;
  faults : g.F.Files.faults l.files ≡ g.F.Files.faults l.initial.files;
  put : g.F.Files.tells → (before : List ℤ) → (bytes : List ℕ)
      → (g.F.Files.store l.initial.files).bytes ((g.F.Files.store l.initial.files).name l.initial.self.id) ≡ Some bytes
      → HasPut l.initial.self before bytes
      → Puts l.self before (take l.cell-index l.cells) ((g.F.Files.store l.files).bytes ((g.F.Files.store l.files).name l.initial.self.id)) (Ok tt);
  store : g.F.Files.tells → WritesOn (g.F.Files.given l.initial.files) (g.F.Files.store l.initial.files) (g.F.Files.store l.files) l.initial.self.id (Ok tt);
}
