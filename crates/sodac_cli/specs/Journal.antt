-- What a run asked of the files until it ended, as the journal of calls shows it, by how it ended.
use Rattle.std.specs.Prelude.{◌≡◌, ◌≢◌, ◌⊎◌, ℕ, ◌+◌, ◌<◌, ◌≤◌, min, All, Bool, true, false, List, [], ◌∷◌, ◌++◌, length, Option, Some, None, if◌then◌else◌}
use Rattle.soda_io.specs.declared.call.FileCall.{FileCall}
use Rattle.soda_io.specs.Store.{Store}
use Rattle.soda_io.specs.declared.role.FileRole.{FileRole}
use Rattle.soda_io.specs.declared.role.FileRole.TheVariants.{Program, Modules, Params, Stall, Input, Output}
use Rattle.soda_words.specs.Limits.{most_text}
use Rattle.whole_files.specs.Journal.{gots}
use Rattle.param_lines.specs.Params.{most_params}
use Rattle.sim_lines.specs.Limits.{most_stall_bytes}
use Rattle.sim_course.specs.Uses.{EndWithFault, EndsMet, NoneFailed, Uses}
use Rattle.soda_parse.specs.declared.refusal.Refusal.TheVariants.{TextTooLong}
use Rattle.job_files.specs.Files.{HasRole, JobFile}
use Rattle.job_files.specs.Progress.{Progress, Stuck}
use Rattle.command_words.specs.Orders.{Asked}
use Rattle.job_status.specs.declared.status.ArrayFault.TheVariants as of
use Rattle.job_status.specs.declared.status.Status.{Status}
use Rattle.job_status.specs.declared.status.Status.TheVariants as is
use Rattle.job_status.specs.Endings.{Ending, ending_of, due, file_fault, memory, out_fault}
use Rattle.sodac_cli.specs.Due.{DueFor, MayAskFor, MayRun}
use Rattle.sodac_cli.specs.Work.{is_built, makes, streamed_files, text_count}

-- how many of the files are opened
abbrev pub opened_count : List JobFile → ℕ
opened_count [] = 0
opened_count (f ∷ fs) = (if f.opened then 1 else 0) + opened_count fs

-- whether a file has a text of the job: its program, its params or its stalls
abbrev pub is_text : FileRole → Bool
is_text Program = true
is_text Modules = false
is_text Params = true
is_text Stall = true
is_text (Input number) = false
is_text (Output number) = false

-- how many of the files have
abbrev pub texts_among : List JobFile → ℕ
texts_among [] = 0
texts_among (f ∷ fs) = (if is_text f.role then 1 else 0) + texts_among fs

-- the ids of the inputs among files of which the first has this one, and those of the outputs
abbrev pub id_if : Bool → ℕ → List ℕ
id_if b id = if b then id ∷ [] else []

abbrev pub is_input_file : FileRole → Bool
is_input_file Program = false
is_input_file Modules = false
is_input_file Params = false
is_input_file Stall = false
is_input_file (Input number) = true
is_input_file (Output number) = false

abbrev pub is_output_file : FileRole → Bool
is_output_file Program = false
is_output_file Modules = false
is_output_file Params = false
is_output_file Stall = false
is_output_file (Input number) = false
is_output_file (Output number) = true

abbrev pub input_ids : ℕ → List JobFile → List ℕ
input_ids id [] = []
input_ids id (f ∷ fs) = id_if (is_input_file f.role) id ++ input_ids (id + 1) fs

abbrev pub output_ids : ℕ → List JobFile → List ℕ
output_ids id [] = []
output_ids id (f ∷ fs) = id_if (is_output_file f.role) id ++ output_ids (id + 1) fs

-- of the program's text, of the params' and of a simulation's stalls no byte was read behind the first that is too many;
-- of the n-th file `places n` bytes were read
pub record ReadsFew (a : Asked) (places : ℕ → ℕ) : Type 0 where
  pub program : places 0 ≤ most_text + 1
  pub params : a.params ≢ None → places 1 ≤ most_params + 1
  pub stalls : makes a.mode ≡ streamed_files → a.stall ≢ None → places (text_count a) ≤ most_stall_bytes + 1

abbrev pub ReadsFewFor : Option Asked → (ℕ → ℕ) → Type 0
ReadsFewFor None places = Unit {0}
ReadsFewFor (Some a) places = ReadsFew a places

-- a call that was handed files of which `first` ids were given and that stood so, at its end
module _ (first : ℕ) (begun : Store) (asked : Option Asked) (given : ℕ) (now : Store) where
  -- All files of a simulation were asked for, its texts were read to their ends, and then its inputs and outputs were
  -- used so.
  pub record RunsWith (files : List JobFile) (places : ℕ → ℕ) (entries : List FileCall) : Type 0 where
    pub a : Asked
    pub is : asked ≡ Some a
    pub built : is_built a ≡ true
    pub may : MayRun begun.bytes a files
    pub between : Store
    pub progress : Progress first begun files (texts_among files) places given between
    pub unread : places (texts_among files) ≡ 0
    pub uses : Uses (input_ids first files) (output_ids first files) given between now entries

  -- These files were asked for, and no call failed: they were read one after another, at Ok all that are opened, to
  -- their ends; or a simulation ran, which at Ok read each of its inputs to its end.
  pub data Went (status : Status) (files : List JobFile) (ended : ℕ) (places : ℕ → ℕ) : Type 0 where
    in_order : Progress first begun files ended places given now → (status ≡ is.Ok → ended ≡ opened_count files)
        → Went status files ended places
    ran : (entries : List FileCall) → RunsWith files places entries → ended ≡ texts_among files → NoneFailed entries
        → (status ≡ is.Ok → All (λ id. EndsMet (gots id entries)) (input_ids first files))
        → Went status files ended places

  -- These files were asked for, and the last call of all failed, on the n-th of them: as one of those that ask for files
  -- and read or write them one after another, or as one of a simulation that ran.
  pub data WentWrong (files : List JobFile) (ended n : ℕ) (places : ℕ → ℕ) : Type 0 where
    stuck : Stuck first begun files ended n places given now → WentWrong files ended n places
    ran_wrong : (entries : List FileCall) → RunsWith files places entries → n < length files
        → EndWithFault (first + n) entries → WentWrong files ended n places

  -- Exactly these files were asked for, in order, the n-th got the n-th of the ids, and no call failed. At Ok each file
  -- that was opened was read to its end, and elsewhere each text was, but for the last where it may be too long.
  pub record AsksAll (status : Status) (files : List JobFile) : Type 0 where
    pub ended : ℕ
    pub places : ℕ → ℕ
    pub went : Went status files ended places
    pub few : ReadsFewFor asked places
    pub program : status ≢ is.Program TextTooLong → min 1 (length files) ≤ ended
    pub texts : status ≢ is.Program TextTooLong → status ≢ is.Array (of.Params 0) → status ≢ is.Array (of.Stall 0)
        → texts_among files ≤ ended

  -- files that may be asked for were, in order; the last call of all failed, on the file of this role
  pub record AsksUntilFault (role : FileRole) : Type 0 where
    pub made : List JobFile
    pub may : MayAskFor begun.bytes asked made
    pub ended : ℕ
    pub number : ℕ
    pub places : ℕ → ℕ
    pub wrong : WentWrong made ended number places
    pub few : ReadsFewFor asked places
    pub has_role : HasRole made number role

  -- files that may be asked for were, in order, and no call failed
  pub record AsksSome : Type 0 where
    pub made : List JobFile
    pub may : MayAskFor begun.bytes asked made
    pub ended : ℕ
    pub places : ℕ → ℕ
    pub went : Went is.Memory made ended places
    pub few : ReadsFewFor asked places

  -- this status is due, and just the files that are asked for until then were
  pub record AsksUntilDue (status : Status) : Type 0 where
    pub files : List JobFile
    pub due : DueFor begun.bytes asked files status
    pub asks : AsksAll status files

  -- all files of a simulation were, and it ran: whether its inputs would have been good to the end isn't said
  pub record AsksForRun : Type 0 where
    pub files : List JobFile
    pub places : ℕ → ℕ
    pub entries : List FileCall
    pub runs : RunsWith files places entries
    pub none_failed : NoneFailed entries
    pub few : ReadsFewFor asked places

  -- What was asked of the files, by how the run ended. A fault of `out` comes where the job is else done, but in a
  -- simulation it may come before. For want of memory the line of a fault may be cut off.
  abbrev pub AsksBy : Ending → Status → Type 0
  AsksBy due status = AsksUntilDue status
  AsksBy (file_fault role) status = AsksUntilFault role
  AsksBy out_fault status = AsksUntilDue is.Ok ⊎ AsksForRun
  AsksBy memory status = AsksSome ⊎ ((role : FileRole) × AsksUntilFault role)

  abbrev pub Asks : Status → Type 0
  Asks status = AsksBy (ending_of status) status
