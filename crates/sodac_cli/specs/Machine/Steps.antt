-- Where a job stands between its steps.
use Rattle.std.specs.Prelude.{◌≡◌, ℕ, zero, suc, ◌+◌, ◌≤◌, ◌<◌, true, List, [], ◌∷◌, ◌++◌, map, take, length, slice_index_or, All, None, ℤ}
use Rattle.soda_io.specs.Store.{KeepsBytes, Store}
use Rattle.soda_words.specs.IntType.{IntType, int32}
use Rattle.soda_words.specs.Limits.{most_cells}
use Rattle.soda_ir.specs.Program.{PlainProgram, input_types}
use Rattle.soda_ir.specs.Valid.{output_types}
use Rattle.soda_eval.specs.Runs.{cells_at, defined_arrays}
use Rattle.job_arrays.specs.declared.layout.Layout.{Layout}
use Rattle.job_files.specs.Contents.{Holding, Holds, IsThere, emptied}
use Rattle.job_files.specs.Files.{JobFile, ids_from}
use Rattle.job_files.specs.Progress.{Progress}
use Rattle.command_words.specs.declared.mode.Mode.{Mode}
use Rattle.command_words.specs.Orders.{Asked}
use Rattle.sodac_cli.specs.Due.{RefusalOf, are_apart, stages_of}
use Rattle.sodac_cli.specs.Journal.{ReadsFew}
use Rattle.sodac_cli.specs.Printed.{prints}
use Rattle.sodac_cli.specs.Work.{HasInputs, HasParams, HasProgram, HoldCells, array_files, files_of, form_of, input_count, input_names, inputs_from, is_built, makes, no_files, output_count, output_names, output_texts, program_file, rows_of, run_of, text_count, text_names, texts_of}

-- a mode that prints, judges no accepted program and writes no files
pub record OnlyPrints (mode : Mode) : Type 0 where
  pub out : prints mode ≡ true
  pub no_steps : stages_of mode ≡ []
  pub writes : makes mode ≡ no_files

-- no step refuses a program in `plain`
pub record LetsPass (a : Asked) (p : PlainProgram) : Type 0 where
  pub none : RefusalOf a p None
  pub few : cells_at p (rows_of a) ≤ most_cells
  pub count : length a.names ≡ input_count p + output_count p
  pub apart : are_apart (text_names a ++ input_names a p) (output_names a p) ≡ true

-- what holds of a job whose program is judged
pub record IsJudged (h : Holding) (a : Asked) (p : PlainProgram) : Type 0 where
  pub built : is_built a ≡ true
  pub arrays : makes a.mode ≡ array_files
  pub program : HasProgram h a p
  pub pass : LetsPass a p

-- how the arrays of a job stand in their files
abbrev pub layout_of : Asked → PlainProgram → Layout
layout_of a p =
    record { form = form_of a; burst = p.burst; cells = cells_at p (rows_of a); run = run_of p }

-- the outputs of these names, of which the first so many hold these texts, and the others nothing
abbrev pub filled : List (List ℕ) → List (List ℕ) → ℕ → List (List ℕ × List ℕ)
filled [] texts count = []
filled (name ∷ names) texts zero = emptied name ∷ map emptied names
filled (name ∷ names) [] (suc count) = emptied name ∷ map emptied names
filled (name ∷ names) (text ∷ texts) (suc count) = (name, text) ∷ filled names texts count

-- a call that was handed files of which `first` ids were given and that stood so, on its way
module _ (first : ℕ) (begun : Store) (a : Asked) (p : PlainProgram) (given : ℕ) (now : Store) where
  -- these files were asked for, and the first so many were read to their ends
  pub record HasAsked (files : List JobFile) (ended : ℕ) : Type 0 where
    pub places : ℕ → ℕ
    pub few : ReadsFew a places
    pub progress : Progress first begun files ended places given now

  -- its program was read
  pub record IsRead : Type 0 where
    pub program : HasProgram begun.bytes a p
    pub asked : HasAsked (program_file a ∷ []) 1
    pub keeps : KeepsBytes begun now

  -- its texts were read, and these are the values of its params
  pub record IsSettled (values : List ℤ) : Type 0 where
    pub judged : IsJudged begun.bytes a p
    pub params : HasParams begun.bytes a p values
    pub asked : HasAsked (texts_of a) (text_count a)
    pub keeps : KeepsBytes begun now

  -- its inputs were opened, and nothing was read of the first
  pub record IsOpened (values : List ℤ) : Type 0 where
    pub judged : IsJudged begun.bytes a p
    pub params : HasParams begun.bytes a p values
    pub asked : HasAsked (texts_of a ++ inputs_from 0 (input_names a p)) (text_count a)
    pub unread : asked.places (text_count a) ≡ 0
    pub keeps : KeepsBytes begun now
    pub there : All (IsThere begun.bytes) (input_names a p)

  -- its outputs were created and are empty, and its first inputs, so many, were read and are these arrays; nothing was
  -- read of the next
  pub record IsGathering (values : List ℤ) (arrays : List (List ℤ)) (count : ℕ) : Type 0 where
    pub judged : IsJudged begun.bytes a p
    pub params : HasParams begun.bytes a p values
    pub asked : HasAsked (files_of a p) (text_count a + count)
    pub unread : asked.places (text_count a + count) ≡ 0
    pub holds : Holds begun.bytes now.bytes (map emptied (output_names a p))
    pub there : All (IsThere begun.bytes) (input_names a p)
    pub inputs : HoldCells begun.bytes (form_of a) (cells_at p (rows_of a)) (input_types p.tensors)
        (take count (input_names a p)) arrays

  -- its inputs were read, and are these arrays; its first outputs, so many, hold their texts
  pub record IsWriting (values : List ℤ) (arrays : List (List ℤ)) (count : ℕ) : Type 0 where
    pub judged : IsJudged begun.bytes a p
    pub params : HasParams begun.bytes a p values
    pub inputs : HasInputs begun.bytes a p arrays
    pub asked : HasAsked (files_of a p) (text_count a + input_count p)
    pub holds : Holds begun.bytes now.bytes (filled (output_names a p) (output_texts a p values arrays) count)

  -- its outputs were created; these are the ids of its inputs and of its outputs
  pub record IsReady (values : List ℤ) (inputs outputs : List ℕ) : Type 0 where
    pub gathering : IsGathering values [] 0
    pub inputs_are : inputs ≡ ids_from (first + text_count a) (input_count p)
    pub outputs_are : outputs ≡ ids_from (first + (text_count a + input_count p)) (output_count p)

  -- its inputs are to be read, by these ids
  pub record ReadsInputs (values : List ℤ) (ids : List ℕ) (types : List IntType) (layout : Layout) : Type 0 where
    pub gathering : IsGathering values [] 0
    pub ids_are : ids ≡ ids_from (first + text_count a) (input_count p)
    pub types_are : types ≡ input_types p.tensors
    pub layout_is : layout ≡ layout_of a p

  -- the input of this number is to be read
  pub record ReadsInput (values : List ℤ) (arrays : List (List ℤ)) (number id : ℕ) (ty : IntType) (layout : Layout)
      : Type 0 where
    pub gathering : IsGathering values arrays number
    pub within : number < input_count p
    pub id_is : id ≡ first + (text_count a + number)
    pub type_is : ty ≡ slice_index_or (input_types p.tensors) number int32
    pub layout_is : layout ≡ layout_of a p

  -- its outputs are to be written over these inputs, by these ids
  pub record WritesOutputs (values : List ℤ) (inputs : List (List ℤ)) (ids : List ℕ) (types : List IntType)
      (layout : Layout) (arrays : List (List ℤ)) : Type 0 where
    pub writing : IsWriting values inputs 0
    pub ids_are : ids ≡ ids_from (first + (text_count a + input_count p)) (output_count p)
    pub types_are : types ≡ output_types p.tensors
    pub layout_is : layout ≡ layout_of a p
    pub arrays_are : arrays ≡ defined_arrays p (rows_of a) values inputs

  -- the output of this number is to be written
  pub record WritesOutput (values : List ℤ) (inputs : List (List ℤ)) (number id : ℕ) (ty : IntType) (layout : Layout)
      (cells : List ℤ) : Type 0 where
    pub writing : IsWriting values inputs number
    pub within : number < output_count p
    pub as_many : length (defined_arrays p (rows_of a) values inputs) ≡ output_count p
    pub id_is : id ≡ first + (text_count a + input_count p + number)
    pub type_is : ty ≡ slice_index_or (output_types p.tensors) number int32
    pub layout_is : layout ≡ layout_of a p
    pub cells_are : cells ≡ slice_index_or (defined_arrays p (rows_of a) values inputs) number []
