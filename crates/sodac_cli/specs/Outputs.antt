-- What each name holds after a job.
use Rattle.std.specs.Prelude.{◌≡◌, ◌⊎◌, ℕ, List, [], ◌∷◌, ◌++◌, map, take, All, Option, Some, None, ℤ}
use Rattle.soda_io.specs.declared.call.FileCall.{FileCall}
use Rattle.soda_io.specs.Store.{Store}
use Rattle.soda_ir.specs.Program.{PlainProgram}
use Rattle.job_files.specs.Contents.{Holding, Holds}
use Rattle.job_files.specs.Progress.{created}
use Rattle.command_words.specs.Orders.{Asked}
use Rattle.compile_job.specs.Modules.{IsModuleText}
use Rattle.sodac_cli.specs.Simulated.{AreAllGood, MayHold}
use Rattle.sodac_cli.specs.Work.{AreTexts, HasInputs, HasParams, HasProgram, Product, array_files, makes, module_file, no_files, output_names, output_texts, streamed_files, target_of}

-- each of the outputs, a name with its bytes, holds a prefix of its text
abbrev pub ArePrefixes : List (List ℕ × List ℕ) → List (List ℕ) → Type 0
ArePrefixes [] texts = Unit {0}
ArePrefixes (output ∷ outputs) [] = ⊥
ArePrefixes (output ∷ outputs) (text ∷ texts) = ((n : ℕ) × (output.1 ≡ take n text)) × ArePrefixes outputs texts

-- Each of the outputs of a simulation holds a prefix of its text, over all arrays that the inputs may hold as far as
-- their good cells tell: whatever would stand in the place of a fault, nothing wrong was written.
pub record StreamPrefixes (h : Holding) (a : Asked) (p : PlainProgram) (outputs : List (List ℕ × List ℕ)) : Type 0 where
  pub streams : makes a.mode ≡ streamed_files
  pub values : List ℤ
  pub params : HasParams h a p values
  pub prefixes : (arrays : List (List ℤ)) → MayHold h a p arrays → ArePrefixes outputs (output_texts a p values arrays)

-- the outputs of an accepted program are empty, or each holds a prefix of its text
pub record HoldPrefixes (h : Holding) (a : Asked) (outputs : List (List ℕ × List ℕ)) : Type 0 where
  pub plain : PlainProgram
  pub program : HasProgram h a plain
  pub prefixes : All (λ output. output.1 ≡ []) outputs
      ⊎ ((texts : List (List ℕ)) × AreTexts h a plain texts × ArePrefixes outputs texts)
      ⊎ StreamPrefixes h a plain outputs

-- the outputs that were created, by what the words ask for
abbrev pub AreOutputs : Holding → Option Asked → List (List ℕ × List ℕ) → Type 0
AreOutputs h None outputs = outputs ≡ []
AreOutputs h (Some a) outputs = (outputs ≡ []) ⊎ HoldPrefixes h a outputs

-- Each file that was created is an output and holds a prefix of its text, and every other name what it held.
pub record Leaves (old new : Store) (asked : Option Asked) : Type 0 where
  pub outputs : List (List ℕ × List ℕ)
  pub holds : Holds old.bytes new.bytes outputs
  pub made : (entries : List FileCall) → new.calls ≡ old.calls ++ entries → created entries ≡ map (λ o. o.0) outputs
  pub are : AreOutputs old.bytes asked outputs

-- the names hold these texts, in order
abbrev pub HoldTexts : Holding → List (List ℕ) → List (List ℕ) → Type 0
HoldTexts h [] [] = Unit {0}
HoldTexts h [] (text ∷ texts) = ⊥
HoldTexts h (name ∷ names) [] = ⊥
HoldTexts h (name ∷ names) (text ∷ texts) = (h name ≡ Some text) × HoldTexts h names texts

-- the file of the text holds that of a design of the program
pub record HoldsModules (old new : Holding) (a : Asked) : Type 0 where
  pub plain : PlainProgram
  pub program : HasProgram old a plain
  pub text : List ℕ
  pub are : IsModuleText plain text
  pub holds : new (target_of a) ≡ Some text

-- Where a mode writes arrays: of the one program and the one list of arrays, each output holds its text.
abbrev pub DeliversBy : Product → Holding → Holding → Asked → Type 0
DeliversBy no_files old new a = Unit {0}
DeliversBy array_files old new a = (p : PlainProgram) → HasProgram old a p → (values : List ℤ)
    → HasParams old a p values → (arrays : List (List ℤ)) → HasInputs old a p arrays
    → HoldTexts new (output_names a p) (output_texts a p values arrays)
DeliversBy streamed_files old new a = (p : PlainProgram) → HasProgram old a p → (values : List ℤ)
    → HasParams old a p values → (arrays : List (List ℤ)) → HasInputs old a p arrays
    → HoldTexts new (output_names a p) (output_texts a p values arrays)
DeliversBy module_file old new a = HoldsModules old new a

-- each output holds its text, by what the words ask for
abbrev pub Delivers : Holding → Holding → Option Asked → Type 0
Delivers old new None = Unit {0}
Delivers old new (Some a) = DeliversBy (makes a.mode) old new a

-- Where a simulation ends with a fault and yet all cells are good, so that the fault stands at an input's end, each output
-- holds its whole text over these cells.
abbrev pub DeliversAtEnd : Holding → Holding → Option Asked → Type 0
DeliversAtEnd old new None = Unit {0}
DeliversAtEnd old new (Some a) = makes a.mode ≡ streamed_files → (p : PlainProgram) → HasProgram old a p
    → (values : List ℤ) → HasParams old a p values → (arrays : List (List ℤ)) → AreAllGood old a p arrays
    → HoldTexts new (output_names a p) (output_texts a p values arrays)

-- where only `out` failed: what is written before anything is printed holds its text; a simulation prints as it runs
abbrev pub DeliversBeforeBy : Product → Holding → Holding → Asked → Type 0
DeliversBeforeBy no_files old new a = Unit {0}
DeliversBeforeBy array_files old new a = DeliversBy array_files old new a
DeliversBeforeBy module_file old new a = DeliversBy module_file old new a
DeliversBeforeBy streamed_files old new a = Unit {0}

abbrev pub DeliversBefore : Holding → Holding → Option Asked → Type 0
DeliversBefore old new None = Unit {0}
DeliversBefore old new (Some a) = DeliversBeforeBy (makes a.mode) old new a
