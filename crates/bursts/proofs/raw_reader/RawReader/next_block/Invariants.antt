use Rattle.std.proofs.Common.{◌≡◌, ◌<◌, ◌+◌, ◌++◌, ℕ, List, ℤ, All, length, take, true}
use Rattle.int_types.specs.Ranges.{InRange}
use Rattle.soda_io.specs.Store.{content}
use Rattle.bursts.specs.Blocks.{IsWanted, ReadsOn}
use Rattle.bursts.specs.Machine.Sources.{KeepsRaw, RawAt, raw_kind}
use Rattle.bursts.proofs.raw_reader.RawReader.next_block.Given as goal

abbrev pub invariant-loop-place : goal.invariant-loop-place
invariant-loop-place g l = record {
  given : g.F.Files.given l.files ≡ g.F.Files.given l.initial.files;
  faults : g.F.Files.faults l.files ≡ g.F.Files.faults l.initial.files;
  still : g.F.Files.tells → (g.F.Files.store l.files).opened l.id ≡ true;
  kept : KeepsRaw l.initial.self l.self;
  number : l.self.number ≡ l.initial.self.number + l.place-index;
  range : All (λ v. InRange l.initial.self.ty v) (take l.place-index l.out);
  at : g.F.Files.tells → (cells : List ℤ) → RawAt l.initial.self (content (g.F.Files.store l.initial.files) l.id) ((g.F.Files.store l.initial.files).place l.id) cells → RawAt l.self (content (g.F.Files.store l.initial.files) l.id) ((g.F.Files.store l.files).place l.id) (cells ++ take l.place-index l.out);
  reads : g.F.Files.tells → (cells : List ℤ) → RawAt l.initial.self (content (g.F.Files.store l.initial.files) l.id) ((g.F.Files.store l.initial.files).place l.id) cells
      → ReadsOn (g.F.Files.given l.initial.files) (g.F.Files.store l.initial.files) (g.F.Files.store l.files) l.id l.initial.self.feed.ended l.self.feed.ended ⊥ (IsWanted (raw_kind l.initial.self l.id) (content (g.F.Files.store l.initial.files) l.id) (length cells + length l.initial.out));
}
