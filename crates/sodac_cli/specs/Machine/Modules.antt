-- Where a job stands that writes a module text.
use Rattle.std.specs.Prelude.{◌≡◌, ℕ, List, [], ◌∷◌, None, true}
use Rattle.soda_io.specs.declared.role.FileRole.TheVariants.{Modules}
use Rattle.soda_io.specs.Store.{KeepsBytes, Store}
use Rattle.soda_ir.specs.Program.{PlainProgram}
use Rattle.job_files.specs.Contents.{Holds}
use Rattle.command_words.specs.declared.mode.Mode.TheVariants.{Compile}
use Rattle.command_words.specs.Orders.{Asked}
use Rattle.job_status.specs.declared.status.Status.{Status}
use Rattle.job_status.specs.declared.status.Status.TheVariants as is
use Rattle.sodac_cli.specs.Due.{RefusalOf}
use Rattle.sodac_cli.specs.Machine.Steps.{HasAsked}
use Rattle.sodac_cli.specs.Work.{HasProgram, is_built, modules_file, program_file, target_of}

-- a job that writes a module text
pub record WritesModules (a : Asked) : Type 0 where
  pub mode : a.mode ≡ Compile
  pub built : is_built a ≡ true

-- a fault of the file of the text, or want of memory
abbrev pub IsOfModules : Status → Type 0
IsOfModules is.Ok = ⊥
IsOfModules is.Usage = ⊥
IsOfModules (is.Program r) = ⊥
IsOfModules (is.Array fault) = ⊥
IsOfModules (is.FileFault role) = role ≡ Modules
IsOfModules is.OutFault = ⊥
IsOfModules is.Memory = Unit {0}
IsOfModules is.NotYetBuilt = ⊥

-- a call that was handed files of which `first` ids were given and that stood so, on its way
module _ (first : ℕ) (begun : Store) (a : Asked) (p : PlainProgram) (given : ℕ) (now : Store) where
  -- its program was read, and no step refuses it
  pub record IsDesigned : Type 0 where
    pub writes : WritesModules a
    pub program : HasProgram begun.bytes a p
    pub pass : RefusalOf a p None
    pub asked : HasAsked first begun a p given now (program_file a ∷ []) 1
    pub keeps : KeepsBytes begun now

  -- its file was created, and holds this
  pub record IsMade (held : List ℕ) : Type 0 where
    pub writes : WritesModules a
    pub program : HasProgram begun.bytes a p
    pub pass : RefusalOf a p None
    pub asked : HasAsked first begun a p given now (program_file a ∷ modules_file a ∷ []) 1
    pub holds : Holds begun.bytes now.bytes ((target_of a, held) ∷ [])
