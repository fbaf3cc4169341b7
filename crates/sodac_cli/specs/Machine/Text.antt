-- What reading the texts of a job comes to, and an input.
use Rattle.std.specs.Prelude.{◌≡◌, ℕ, List, [], ◌∷◌, Some}
use Rattle.soda_io.specs.Store.{KeepsBytes, Store}
use Rattle.soda_io.specs.declared.role.FileRole.TheVariants.{Program, Params, Input}
use Rattle.soda_ir.specs.Program.{PlainProgram}
use Rattle.soda_parse.specs.declared.refusal.Refusal.TheVariants.{TextTooLong}
use Rattle.array_bytes.specs.declared.fault.CellFault.{CellFault}
use Rattle.array_bytes.specs.declared.fault.CellFault.TheVariants as cell
use Rattle.whole_files.specs.declared.reading.ReadFail.{ReadFail}
use Rattle.whole_files.specs.declared.reading.ReadFail.TheVariants.{TooLong, Failed, Memory}
use Rattle.job_files.specs.Progress.{Progress}
use Rattle.command_words.specs.Orders.{Asked}
use Rattle.job_status.specs.declared.status.ArrayFault.TheVariants as of
use Rattle.job_status.specs.declared.status.Status.{Status}
use Rattle.job_status.specs.declared.status.Status.TheVariants as is
use Rattle.sodac_cli.specs.Journal.{ReadsFew}
use Rattle.sodac_cli.specs.Machine.Steps.{HasAsked, IsJudged}
use Rattle.sodac_cli.specs.Work.{program_file, program_of, text_count, texts_of}

-- the program's file holds this text, and was asked for and read to its end
pub record HasText (first : ℕ) (begun : Store) (a : Asked) (given : ℕ) (now : Store) (text : List ℕ) : Type 0 where
  pub there : begun.bytes (program_of a) ≡ Some text
  pub places : ℕ → ℕ
  pub few : ReadsFew a places
  pub progress : Progress first begun (program_file a ∷ []) 1 places given now
  pub keeps : KeepsBytes begun now

-- the params file, of this name, holds this text, and was asked for behind the program's and read to its end
pub record HasLines (first : ℕ) (begun : Store) (a : Asked) (p : PlainProgram) (given : ℕ) (now : Store)
    (name text : List ℕ) : Type 0 where
  pub judged : IsJudged begun.bytes a p
  pub named : a.params ≡ Some name
  pub there : begun.bytes name ≡ Some text
  pub asked : HasAsked first begun a p given now (texts_of a) (text_count a)
  pub keeps : KeepsBytes begun now

-- the status with which a text that wasn't read ends the job
abbrev pub unread_status : ReadFail → Status
unread_status TooLong = is.Program TextTooLong
unread_status Failed = is.FileFault Program
unread_status Memory = is.Memory

-- the status with which a params file that wasn't read ends it
abbrev pub unread_lines : ReadFail → Status
unread_lines TooLong = is.Array (of.Params 0)
unread_lines Failed = is.FileFault Params
unread_lines Memory = is.Memory

-- the status with which an input that wasn't read ends it
abbrev pub unread_input : ℕ → CellFault → Status
unread_input number (cell.BadCell i) = is.Array (of.Cell number (cell.BadCell i))
unread_input number (cell.CellRange i) = is.Array (of.Cell number (cell.CellRange i))
unread_input number (cell.TooFew n) = is.Array (of.Cell number (cell.TooFew n))
unread_input number cell.TooMany = is.Array (of.Cell number cell.TooMany)
unread_input number cell.TooLong = is.Array (of.Cell number cell.TooLong)
unread_input number cell.Failed = is.FileFault (Input number)
unread_input number cell.Memory = is.Memory

-- a status with which the program's file or its text ends a job
abbrev pub IsOfText : Status → Type 0
IsOfText is.Ok = ⊥
IsOfText is.Usage = ⊥
IsOfText (is.Program r) = Unit {0}
IsOfText (is.Array fault) = ⊥
IsOfText (is.FileFault role) = role ≡ Program
IsOfText is.OutFault = ⊥
IsOfText is.Memory = Unit {0}
IsOfText is.NotYetBuilt = ⊥
