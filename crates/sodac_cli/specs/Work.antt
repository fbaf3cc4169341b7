-- What the words ask for: which of it is built, the files of the job, its params and arrays, and the bytes of its
-- outputs.
use Rattle.std.specs.Prelude.{◌≡◌, ◌≢◌, ℕ, zero, suc, ◌+◌, Bool, true, false, if◌then◌else◌, List, [], ◌∷◌, ◌++◌, map, length, take, drop, Option, Some, None, unwrap_or, ℤ, String, string_bytes}
use Rattle.std.specs.List.{filter_map}
use Rattle.std.specs.Global.{Global}
use Rattle.soda_io.specs.declared.role.FileRole.TheVariants.{Program, Modules, Params, Stall, Input, Output}
use Rattle.soda_words.specs.IntType.{IntType}
use Rattle.soda_words.specs.Limits.{most_text}
use Rattle.soda_ir.specs.Program.{PlainProgram, input_types}
use Rattle.soda_ir.specs.Valid.{output_types}
use Rattle.soda_eval.specs.Runs.{cells_at, defined_arrays}
use Rattle.array_bytes.specs.Written.{array_bytes}
use Rattle.array_bytes.specs.declared.fault.CellFault.{CellFault}
use Rattle.array_bytes.specs.declared.form.Form.{Form}
use Rattle.array_bytes.specs.declared.form.Form.TheVariants.{Raw, Text}
use Rattle.param_lines.specs.Lines.{rows_of as words_of_lines}
use Rattle.param_lines.specs.Params.{GivesParams, RefusesLine}
use Rattle.sim_lines.specs.Stalls.{refused_line, stall_of}
use Rattle.sim_lines.specs.declared.stall.Stall.{Stall as PlainStall}
use Rattle.job_arrays.specs.Arrays.{IsFaulty, IsGood}
use Rattle.job_program.specs.Spoken.{SpeaksOf}
use Rattle.job_files.specs.Contents.{Holding}
use Rattle.job_files.specs.Files.{JobFile}
use Rattle.command_words.specs.declared.mode.Mode.{Mode}
use Rattle.command_words.specs.declared.mode.Mode.TheVariants.{Check, Plain, Plan, Compile, Sim, Selftest}
use Rattle.command_words.specs.Orders.{Asked, order_of, program, seed}
use Rattle.compile_job.specs.Modules.{IsModuleText}

-- what the words ask for, and None where they aren't taken
abbrev pub asked_of : List (String Global) → Option Asked
asked_of words = order_of (map string_bytes words)

-- the modes that are built
abbrev pub is_built_mode : Mode → Bool
is_built_mode Check = true
is_built_mode Plain = true
is_built_mode Plan = true
is_built_mode Compile = true
is_built_mode Sim = false
is_built_mode Selftest = false

-- what a job writes to files
pub data Product : Type 0 where
  no_files : Product
  array_files : Product
  module_file : Product
  streamed_files : Product

-- what each mode writes: nothing, the arrays of its outputs, evaluated as a whole or streamed by a simulation, or the
-- text of its modules
abbrev pub makes : Mode → Product
makes Check = no_files
makes Plain = array_files
makes Plan = no_files
makes Compile = module_file
makes Sim = streamed_files
makes Selftest = no_files

-- all that is asked for is built
abbrev pub is_built : Asked → Bool
is_built a = is_built_mode a.mode

-- the form of all arrays
abbrev pub form_of : Asked → Form
form_of a = if a.raw then Raw else Text

-- the name of the program's file
abbrev pub program_of : Asked → List ℕ
program_of a = elim a.source [ program name ↦ name | seed n ↦ [] ]

-- the name of the file that the text of a design is written to
abbrev pub target_of : Asked → List ℕ
target_of a = unwrap_or a.target []

-- the last extent of the arrays
abbrev pub rows_of : Asked → ℕ
rows_of a = unwrap_or a.rows 0

-- how many inputs and outputs a program has
abbrev pub input_count : PlainProgram → ℕ
input_count p = length (input_types p.tensors)

abbrev pub output_count : PlainProgram → ℕ
output_count p = length (output_types p.tensors)

-- the names of the inputs and of the outputs, in the program's order
abbrev pub input_names : Asked → PlainProgram → List (List ℕ)
input_names a p = take (input_count p) a.names

abbrev pub output_names : Asked → PlainProgram → List (List ℕ)
output_names a p = drop (input_count p) a.names

-- the name of an option's file, where the option is given
abbrev pub if_given : Option (List ℕ) → List (List ℕ)
if_given None = []
if_given (Some name) = name ∷ []

-- the names of the texts of a job: of its program, its params and its stalls
abbrev pub text_names : Asked → List (List ℕ)
text_names a = program_of a ∷ (if_given a.params ++ if_given a.stall)

-- the files of inputs of these names, and of outputs, where the first has the number k
abbrev pub inputs_from : ℕ → List (List ℕ) → List JobFile
inputs_from k [] = []
inputs_from k (name ∷ names) = record { role = Input k; opened = true; name = name } ∷ inputs_from (k + 1) names

abbrev pub outputs_from : ℕ → List (List ℕ) → List JobFile
outputs_from k [] = []
outputs_from k (name ∷ names) = record { role = Output k; opened = false; name = name } ∷ outputs_from (k + 1) names

-- the file of the program, and that of the params
abbrev pub program_file : Asked → JobFile
program_file a = record { role = Program; opened = true; name = program_of a }

abbrev pub params_file : List ℕ → JobFile
params_file name = record { role = Params; opened = true; name = name }

abbrev pub stall_file : List ℕ → JobFile
stall_file name = record { role = Stall; opened = true; name = name }

-- the file that the text of a design is written to
abbrev pub modules_file : Asked → JobFile
modules_file a = record { role = Modules; opened = false; name = target_of a }

-- the texts of a job, in order: the params are the second where they are given
abbrev pub texts_of : Asked → List JobFile
texts_of a = program_file a ∷ map params_file (if_given a.params)

abbrev pub text_count : Asked → ℕ
text_count a = 1 + length (if_given a.params)

-- the files of a job that writes arrays, in order; the number of inputs is the program's
abbrev pub files_of : Asked → PlainProgram → List JobFile
files_of a p = texts_of a ++ (inputs_from 0 (input_names a p) ++ outputs_from 0 (output_names a p))

-- the texts of a simulation, in order: the stalls are the last where they are given
abbrev pub sim_texts_of : Asked → List JobFile
sim_texts_of a = texts_of a ++ map stall_file (if_given a.stall)

abbrev pub sim_text_count : Asked → ℕ
sim_text_count a = text_count a + length (if_given a.stall)

-- the files of a simulation, in order
abbrev pub sim_files_of : Asked → PlainProgram → List JobFile
sim_files_of a p = sim_texts_of a ++ (inputs_from 0 (input_names a p) ++ outputs_from 0 (output_names a p))

-- the program's file holds a text, and p is the program spoken of: that of the text, shared where that is asked for
pub record HasProgram (h : Holding) (a : Asked) (p : PlainProgram) : Type 0 where
  pub text : List ℕ
  pub there : h (program_of a) ≡ Some text
  pub spoken : SpeaksOf most_text a.share text p

-- these are the values of all params: the params file gives them, or there is no such file and no param
abbrev pub HasParamsBy : Option (List ℕ) → Holding → PlainProgram → List ℤ → Type 0
HasParamsBy None h p values = (p.params ≡ []) × (values ≡ [])
HasParamsBy (Some name) h p values = (bytes : List ℕ) × (h name ≡ Some bytes) × GivesParams p.params bytes values

abbrev pub HasParams : Holding → Asked → PlainProgram → List ℤ → Type 0
HasParams h a p values = HasParamsBy a.params h p values

-- the params are refused at this line, which is 0 where there are some and no file is given
abbrev pub RefusesParamsBy : Option (List ℕ) → Holding → PlainProgram → ℕ → Type 0
RefusesParamsBy None h p line = (p.params ≢ []) × (line ≡ 0)
RefusesParamsBy (Some name) h p line = (bytes : List ℕ) × (h name ≡ Some bytes) × RefusesLine p.params bytes line

abbrev pub RefusesParams : Holding → Asked → PlainProgram → ℕ → Type 0
RefusesParams h a p line = RefusesParamsBy a.params h p line

-- these are the stalls that the stall file lists, in its order; there are none where there is no such file
abbrev pub HasStallsBy : Option (List ℕ) → Holding → PlainProgram → List PlainStall → Type 0
HasStallsBy None h p stalls = stalls ≡ []
HasStallsBy (Some name) h p stalls = (bytes : List ℕ) × (h name ≡ Some bytes) × (refused_line p bytes ≡ None)
    × (stalls ≡ filter_map (stall_of p) (words_of_lines bytes))

abbrev pub HasStalls : Holding → Asked → PlainProgram → List PlainStall → Type 0
HasStalls h a p stalls = HasStallsBy a.stall h p stalls

-- the stall file is refused at this line
abbrev pub RefusesStallsBy : Option (List ℕ) → Holding → PlainProgram → ℕ → Type 0
RefusesStallsBy None h p line = ⊥
RefusesStallsBy (Some name) h p line = (bytes : List ℕ) × (h name ≡ Some bytes) × (refused_line p bytes ≡ Some line)

abbrev pub RefusesStalls : Holding → Asked → PlainProgram → ℕ → Type 0
RefusesStalls h a p line = RefusesStallsBy a.stall h p line

-- the name holds an array of n cells of the type, without a fault
pub record HoldsCells (h : Holding) (form : Form) (n : ℕ) (ty : IntType) (name : List ℕ) (cells : List ℤ) : Type 0 where
  pub bytes : List ℕ
  pub there : h name ≡ Some bytes
  pub good : IsGood form ty n bytes cells

-- what the name holds has this first fault
pub record HoldsFault (h : Holding) (form : Form) (n : ℕ) (ty : IntType) (name : List ℕ) (fault : CellFault)
    : Type 0 where
  pub bytes : List ℕ
  pub there : h name ≡ Some bytes
  pub faulty : IsFaulty form ty n bytes fault

-- how names hold arrays of n cells in one form
module _ (h : Holding) (form : Form) (n : ℕ) where
  -- each of the names holds its array, of the type in its place
  abbrev pub HoldCells : List IntType → List (List ℕ) → List (List ℤ) → Type 0
  HoldCells types [] [] = Unit {0}
  HoldCells types [] (cells ∷ arrays) = ⊥
  HoldCells types (name ∷ names) [] = ⊥
  HoldCells [] (name ∷ names) (cells ∷ arrays) = ⊥
  HoldCells (ty ∷ types) (name ∷ names) (cells ∷ arrays) =
      HoldsCells h form n ty name cells × HoldCells types names arrays

  -- the name of this number has this fault, and each name before it holds an array without one
  abbrev pub HaveFault : List IntType → List (List ℕ) → ℕ → CellFault → Type 0
  HaveFault types [] number fault = ⊥
  HaveFault [] (name ∷ names) number fault = ⊥
  HaveFault (ty ∷ types) (name ∷ names) zero fault = HoldsFault h form n ty name fault
  HaveFault (ty ∷ types) (name ∷ names) (suc number) fault =
      ((cells : List ℤ) × HoldsCells h form n ty name cells) × HaveFault types names number fault

-- the inputs of a job hold these arrays
abbrev pub HasInputs : Holding → Asked → PlainProgram → List (List ℤ) → Type 0
HasInputs h a p arrays = HoldCells h (form_of a) (cells_at p (rows_of a)) (input_types p.tensors) (input_names a p)
    arrays

-- the first of the inputs that has a fault has this number, and this is its first fault
abbrev pub HasFault : Holding → Asked → PlainProgram → ℕ → CellFault → Type 0
HasFault h a p number fault = HaveFault h (form_of a) (cells_at p (rows_of a)) (input_types p.tensors)
    (input_names a p) number fault

-- how many cells of a program's arrays stand in a line: the first extent, and one where there is but one dimension
abbrev pub first_extent : List ℕ → ℕ
first_extent [] = 1
first_extent (n ∷ ns) = n

abbrev pub run_of : PlainProgram → ℕ
run_of p = first_extent p.extents

-- the bytes of arrays of these types, in order
abbrev pub texts_from : Form → ℕ → List IntType → List (List ℤ) → List (List ℕ)
texts_from form run [] arrays = []
texts_from form run (ty ∷ types) [] = []
texts_from form run (ty ∷ types) (cells ∷ arrays) = array_bytes form ty run cells ∷ texts_from form run types arrays

-- the bytes of the outputs over those params and arrays, in order
abbrev pub output_texts : Asked → PlainProgram → List ℤ → List (List ℤ) → List (List ℕ)
output_texts a p params arrays =
    texts_from (form_of a) (run_of p) (output_types p.tensors) (defined_arrays p (rows_of a) params arrays)

-- these are texts of the files that a job writes, in order, by what it writes; a simulation writes as it reads, and
-- what it has written is said of all arrays that its inputs may still hold
abbrev pub AreTextsBy : Product → Holding → Asked → PlainProgram → List (List ℕ) → Type 0
AreTextsBy no_files h a p texts = texts ≡ []
AreTextsBy array_files h a p texts = (values : List ℤ) × HasParams h a p values × (arrays : List (List ℤ))
    × HasInputs h a p arrays × (texts ≡ output_texts a p values arrays)
AreTextsBy module_file h a p texts = (text : List ℕ) × IsModuleText p text × (texts ≡ text ∷ [])
AreTextsBy streamed_files h a p texts = ⊥

abbrev pub AreTexts : Holding → Asked → PlainProgram → List (List ℕ) → Type 0
AreTexts h a p texts = AreTextsBy (makes a.mode) h a p texts
