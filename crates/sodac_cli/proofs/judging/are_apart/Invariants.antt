use Rattle.std.proofs.Common.{◌≡◌, ◌++◌, drop, take}
use Rattle.job_files.specs.Files.{names_of}
use Rattle.command_words.specs.Orders.{asked}
use Rattle.sodac_cli.specs.Due.{are_apart}
use Rattle.sodac_cli.specs.Work.{text_names}
use Rattle.sodac_cli.proofs.judging.are_apart.Given as goal

-- the names that were looked at stand apart
abbrev pub invariant-loop-at : goal.invariant-loop-at
invariant-loop-at l = are_apart (text_names (asked l.order) ++ take l.inputs (names_of l.names)) (drop l.inputs (names_of l.names)) ≡ are_apart (text_names (asked l.order) ++ take l.at (names_of l.names)) (drop l.at (names_of l.names))
