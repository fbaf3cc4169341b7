use Rattle.std.proofs.Common.{◌≡◌, ◌≤◌, ◌+◌, ◌++◌, ℕ, false, List, map, take, vec_len}
use Rattle.soda_io.specs.Limits.{most_ids}
use Rattle.soda_io.specs.Store.{Store}
use Rattle.job_files.specs.Contents.{AreApart, Empties, Holding, Holds, emptied}
use Rattle.job_files.specs.Files.{JobFile, asking, ids_from, names_of}
use Rattle.job_files.specs.Progress.{Progress}
use Rattle.job_files.proofs.creating.create_all.Given as goal

abbrev pub invariant-loop-name : goal.invariant-loop-name
invariant-loop-name g l = record {
  ids : l.ids.items ≡ ids_from (g.F.Files.given l.initial.files) l.name-index;
  few : vec_len l.ids ≤ most_ids;
  count : vec_len l.ids ≡ l.name-index;
  given : g.F.Files.given l.files ≡ g.F.Files.given l.initial.files + l.name-index;
  faults : g.F.Files.faults l.files ≡ g.F.Files.faults l.initial.files;
  journal : g.F.Files.tells → (first : ℕ) → (begun : Store) → (asked : List JobFile) → (ended : ℕ) → (places : ℕ → ℕ) → (more : List JobFile)
      → map asking more ≡ map (λ name. (false, name)) (names_of l.names)
      → Progress first begun asked ended places (g.F.Files.given l.initial.files) (g.F.Files.store l.initial.files)
      → Progress first begun (asked ++ take l.name-index more) ended places (g.F.Files.given l.files) (g.F.Files.store l.files);
  emptied : g.F.Files.tells → (before : Holding) → (outputs : List (List ℕ × List ℕ)) → Holds before (g.F.Files.store l.initial.files).bytes outputs
      → AreApart (outputs ++ map emptied (names_of l.names))
      → Empties before (g.F.Files.store l.files).bytes outputs (names_of l.names) l.name-index;
}
