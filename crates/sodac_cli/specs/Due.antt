-- Which status is due, by the words and by what each name holds: the order of refusals. Faults of files and want of
-- memory are no part of it.
use Rattle.std.specs.Prelude.{◌≡◌, ℕ, ◌+◌, ◌*◌, ◌==◌, nat_lt, Bool, true, false, not, ◌&&◌, List, [], ◌∷◌, ◌++◌, length, Option, Some, None, option_map, ℤ, All, if◌then◌else◌, String}
use Rattle.std.specs.Global.{Global}
use Rattle.std.specs.List.{list_any}
use Rattle.std.specs.Str.{bytes_eq}
use Rattle.soda_words.specs.Limits.{most_cells, most_text, most_total}
use Rattle.soda_ir.specs.Program.{PlainProgram}
use Rattle.soda_ir.specs.declared.limit.LimitKind.{LimitKind}
use Rattle.soda_ir.specs.declared.limit.LimitKind.TheVariants.{Cells, Total}
use Rattle.time_stages.specs.Staged.{staged_reads, staged_widths}
use Rattle.flow_solve.specs.LeastPlan.{IsLeastPlan}
use Rattle.net_build.specs.Limits.{limit_passed}
use Rattle.net_build.specs.Planned.{plan_of}
use Rattle.soda_eval.specs.Runs.{cells_at}
use Rattle.array_bytes.specs.declared.fault.CellFault.{CellFault}
use Rattle.soda_parse.specs.declared.refusal.Refusal.{Refusal}
use Rattle.soda_parse.specs.declared.refusal.Refusal.TheVariants.{Limit}
use Rattle.job_files.specs.Contents.{Holding, IsThere}
use Rattle.job_files.specs.Files.{JobFile}
use Rattle.job_program.specs.Spoken.{RefusesProgram}
use Rattle.command_words.specs.declared.mode.Mode.{Mode}
use Rattle.command_words.specs.declared.mode.Mode.TheVariants.{Check, Plain, Plan, Compile, Sim, Selftest}
use Rattle.command_words.specs.Orders.{Asked}
use Rattle.job_status.specs.declared.status.ArrayFault.TheVariants as of
use Rattle.job_status.specs.declared.status.Status.{Status}
use Rattle.job_status.specs.declared.status.Status.TheVariants as is
use Rattle.sim_lines.specs.declared.stall.Stall.{Stall as PlainStall}
use Rattle.sodac_cli.specs.Simulated.{ComesTo, IsReadyToRun}
use Rattle.sodac_cli.specs.Work.{HasFault, HasInputs, HasParams, HasProgram, HasStalls, Product, RefusesParams, RefusesStalls, array_files, asked_of, files_of, input_count, input_names, is_built, makes, module_file, modules_file, no_files, output_count, output_names, program_file, program_of, rows_of, sim_files_of, sim_texts_of, streamed_files, text_names, texts_of}

-- none of these names stands before it, among `before` and the names themselves
abbrev pub are_apart : List (List ℕ) → List (List ℕ) → Bool
are_apart before [] = true
are_apart before (name ∷ names) = not (list_any (bytes_eq name) before) && are_apart (before ++ name ∷ []) names

-- there are as many names as inputs and outputs, and no output is named like another file of the job
abbrev pub names_fit : Asked → PlainProgram → Bool
names_fit a p = length a.names == input_count p + output_count p
    && are_apart (text_names a ++ input_names a p) (output_names a p)

-- how many cells all arrays have together
abbrev pub total_at : PlainProgram → ℕ → ℕ
total_at p rows = cells_at p rows * length p.tensors

-- the limit that arrays of so many rows pass, with the number that passes it: the cells of one array come first
abbrev pub passed_limit : PlainProgram → ℕ → Option Refusal
passed_limit p rows =
    if nat_lt most_cells (cells_at p rows) then Some (Limit Cells (cells_at p rows))
    else (if nat_lt most_total (total_at p rows) then Some (Limit Total (total_at p rows)) else None)

-- the steps that judge an accepted program before any other file is asked for
pub data Stage : Type 0 where
  by_names : Stage
  by_network : Stage
  by_limits : Stage

-- the status of a limit of networks, with the number that passes it
abbrev pub limit_status : LimitKind × ℕ → Status
limit_status passed = is.Program (Limit passed.0 passed.1)

-- what a step answers of an accepted program: the status with which it refuses it, or none. The limits of networks are
-- those of the network under the delays of the least plan.
abbrev pub RefusalAt : Stage → Asked → PlainProgram → Option Status → Type 0
RefusalAt by_names a p refusal = refusal ≡ (if names_fit a p then None else Some is.Usage)
RefusalAt by_network a p refusal = (delays : List ℕ) × IsLeastPlan (staged_widths p) (staged_reads p) delays
    × (refusal ≡ option_map limit_status (limit_passed (plan_of p delays)))
RefusalAt by_limits a p refusal = refusal ≡ option_map (λ r. is.Program r) (passed_limit p (rows_of a))

-- behind a step that refuses no other is tried, and its refusal is that of all; else it is that of those behind it
abbrev pub RefusalBehind : Option Status → (Option Status → Type 0) → Option Status → Type 0
RefusalBehind None Next refusal = Next refusal
RefusalBehind (Some own) Next refusal = refusal ≡ Some own

-- the first refusal of these steps, if one of them refuses
abbrev pub FirstRefusal : List Stage → Asked → PlainProgram → Option Status → Type 0
FirstRefusal [] a p refusal = refusal ≡ None
FirstRefusal (stage ∷ stages) a p refusal = (own : Option Status) × RefusalAt stage a p own
    × RefusalBehind own (FirstRefusal stages a p) refusal

-- the steps of a mode, in order: `check` and `plan` refuse no accepted program, and the steps of a mode that isn't built
-- come with it
abbrev pub stages_of : Mode → List Stage
stages_of Check = []
stages_of Plain = by_names ∷ by_limits ∷ []
stages_of Plan = []
stages_of Compile = by_network ∷ []
stages_of Sim = by_names ∷ by_network ∷ by_limits ∷ []
stages_of Selftest = []

-- the refusal of an accepted program, if it is refused
abbrev pub RefusalOf : Asked → PlainProgram → Option Status → Type 0
RefusalOf a p refusal = FirstRefusal (stages_of a.mode) a p refusal

-- over good inputs the job is done; where all inputs are there, the first fault of the first that has one is told
pub data DueOver (h : Holding) (a : Asked) (p : PlainProgram) : Status → Type 0 where
  done : (arrays : List (List ℤ)) → HasInputs h a p arrays → DueOver h a p is.Ok
  faulty : All (IsThere h) (input_names a p) → (number : ℕ) (fault : CellFault) → HasFault h a p number fault
      → DueOver h a p (is.Array (of.Cell number fault))

-- what is due of a program that no step refuses: refused params are told before the inputs are asked for
pub data DueWith (h : Holding) (a : Asked) (p : PlainProgram) (files : List JobFile) (status : Status) : Type 0 where
  bad_params : (line : ℕ) → RefusesParams h a p line → files ≡ texts_of a → status ≡ is.Array (of.Params line)
      → DueWith h a p files status
  good_params : (values : List ℤ) → HasParams h a p values → files ≡ files_of a p → DueOver h a p status
      → DueWith h a p files status

-- what is due of a simulation whose program no step refuses: refused params are told first, then refused stalls, and
-- then what the run comes to
pub data DueStreamed (h : Holding) (a : Asked) (p : PlainProgram) (files : List JobFile) (status : Status)
    : Type 0 where
  wrong_params : (line : ℕ) → RefusesParams h a p line → files ≡ texts_of a → status ≡ is.Array (of.Params line)
      → DueStreamed h a p files status
  wrong_stalls : (values : List ℤ) → HasParams h a p values → (line : ℕ) → RefusesStalls h a p line
      → files ≡ sim_texts_of a → status ≡ is.Array (of.Stall line) → DueStreamed h a p files status
  run : (delays : List ℕ) (values : List ℤ) (stalls : List PlainStall) → IsReadyToRun h a p delays values stalls
      → files ≡ sim_files_of a p → ComesTo a p delays stalls h status → DueStreamed h a p files status

-- what is due where no step refuses the program, by what the mode writes
abbrev pub DueBy : Product → Holding → Asked → PlainProgram → List JobFile → Status → Type 0
DueBy no_files h a p files status = (files ≡ program_file a ∷ []) × (status ≡ is.Ok)
DueBy array_files h a p files status = DueWith h a p files status
DueBy module_file h a p files status = (files ≡ program_file a ∷ modules_file a ∷ []) × (status ≡ is.Ok)
DueBy streamed_files h a p files status = DueStreamed h a p files status

-- what is due of an accepted program, and the files that are asked for until then, by its refusal
abbrev pub DueAfter : Option Status → Holding → Asked → PlainProgram → List JobFile → Status → Type 0
DueAfter None h a p files status = DueBy (makes a.mode) h a p files status
DueAfter (Some refusal) h a p files status = (files ≡ program_file a ∷ []) × (status ≡ refusal)

abbrev pub DueBehind : Holding → Asked → PlainProgram → List JobFile → Status → Type 0
DueBehind h a p files status = (refusal : Option Status) × RefusalOf a p refusal × DueAfter refusal h a p files status

-- what is due of a job that is built, and the files that are asked for until then
pub data DueOf (h : Holding) (a : Asked) (files : List JobFile) (status : Status) : Type 0 where
  refused : (text : List ℕ) (r : Refusal) → h (program_of a) ≡ Some text → RefusesProgram most_text a.share text r
      → files ≡ program_file a ∷ [] → status ≡ is.Program r → DueOf h a files status
  accepted : (p : PlainProgram) → HasProgram h a p → DueBehind h a p files status → DueOf h a files status

-- what is due where this is asked for, by whether it is built
abbrev pub DueIf : Bool → Holding → Asked → List JobFile → Status → Type 0
DueIf true h a files status = DueOf h a files status
DueIf false h a files status = (files ≡ []) × (status ≡ is.NotYetBuilt)

-- what is due where this is asked for, if anything is
abbrev pub DueFor : Holding → Option Asked → List JobFile → Status → Type 0
DueFor h None files status = (files ≡ []) × (status ≡ is.Usage)
DueFor h (Some a) files status = DueIf (is_built a) h a files status

-- this status is due of these words, and until then these files are asked for
abbrev pub Due : Holding → List (String Global) → List JobFile → Status → Type 0
Due h words files status = DueFor h (asked_of words) files status

-- all files of a simulation are asked for, so that it may run: no step refuses its program, and params and stalls are
-- good
pub record MayRun (h : Holding) (a : Asked) (files : List JobFile) : Type 0 where
  pub streams : makes a.mode ≡ streamed_files
  pub plain : PlainProgram
  pub program : HasProgram h a plain
  pub pass : RefusalOf a plain None
  pub delays : List ℕ
  pub values : List ℤ
  pub stalls : List PlainStall
  pub ready : IsReadyToRun h a plain delays values stalls
  pub all : files ≡ sim_files_of a plain

-- files that a job may have asked for before a fault or want of memory: none, the program's, or, in a mode that writes
-- arrays, once the program is accepted and no step refuses it, that of the params too, and once the params are good,
-- the first of all; in a simulation, once the params are good, that of the stalls too, and once they are good, the first
-- of all; in a mode that writes the text of a design, once no step refuses the program, the file of it too
pub data MayAsk (h : Holding) (a : Asked) (made : List JobFile) : Type 0 where
  asks_none : made ≡ [] → MayAsk h a made
  asks_program : made ≡ program_file a ∷ [] → MayAsk h a made
  asks_params : makes a.mode ≡ array_files → (p : PlainProgram) → HasProgram h a p → RefusalOf a p None
      → made ≡ texts_of a → MayAsk h a made
  asks_arrays : makes a.mode ≡ array_files → (p : PlainProgram) → HasProgram h a p → RefusalOf a p None
      → (values : List ℤ) → HasParams h a p values → (rest : List JobFile) → files_of a p ≡ made ++ rest
      → MayAsk h a made
  asks_first_texts : makes a.mode ≡ streamed_files → (p : PlainProgram) → HasProgram h a p → RefusalOf a p None
      → made ≡ texts_of a → MayAsk h a made
  asks_all_texts : makes a.mode ≡ streamed_files → (p : PlainProgram) → HasProgram h a p → RefusalOf a p None
      → (values : List ℤ) → HasParams h a p values → made ≡ sim_texts_of a → MayAsk h a made
  asks_streams : makes a.mode ≡ streamed_files → (p : PlainProgram) → HasProgram h a p → RefusalOf a p None
      → (values : List ℤ) → HasParams h a p values → (stalls : List PlainStall) → HasStalls h a p stalls
      → (rest : List JobFile) → sim_files_of a p ≡ made ++ rest → MayAsk h a made
  asks_module : makes a.mode ≡ module_file → (p : PlainProgram) → HasProgram h a p → RefusalOf a p None
      → made ≡ program_file a ∷ modules_file a ∷ [] → MayAsk h a made

abbrev pub MayAskIf : Bool → Holding → Asked → List JobFile → Type 0
MayAskIf true h a made = MayAsk h a made
MayAskIf false h a made = made ≡ []

-- files that may have been asked for, by what the words ask for
abbrev pub MayAskFor : Holding → Option Asked → List JobFile → Type 0
MayAskFor h None made = made ≡ []
MayAskFor h (Some a) made = MayAskIf (is_built a) h a made
