-- What ends a run that reads its inputs, and how it goes on.
use Rattle.std.proofs.Common.{◌≡◌, ◌<◌, ℕ, ◌+◌, true, List, [], ◌∷◌, ◌++◌, length, map, take, get_or, slice_index_or, unwrap_or, Option, Some, Result, Ok, Err, Contains, ℤ, refl, sym, ap, subst, ◌∙◌, inl, inr, arith, add-one, take_all}
use Rattle.std.proofs.lemmas.List.Elements.{Contains-get_or}
use Rattle.soda_io.specs.declared.role.FileRole.TheVariants.{Input}
use Rattle.soda_io.specs.Store.{KeepsBytes, Store, left}
use Rattle.soda_words.specs.IntType.{IntType, int32}
use Rattle.soda_ir.specs.Program.{PlainProgram, input_types}
use Rattle.soda_eval.specs.Runs.{cells_at}
use Rattle.array_bytes.specs.declared.fault.CellFault.{CellFault}
use Rattle.array_bytes.specs.declared.fault.CellFault.TheVariants as cell
use Rattle.job_arrays.specs.Arrays.{IsFaulty, IsGood, IsOfBytes}
use Rattle.job_arrays.specs.Steps.{ReadsArray, ReadsPart}
use Rattle.job_arrays.specs.declared.layout.Layout.{Layout}
use Rattle.job_files.specs.Contents.{Holds, IsThere, emptied}
use Rattle.job_files.specs.Progress.{Progress}
use Rattle.job_files.specs.Steps.{Moves}
use Rattle.job_files.proofs.CallerLemmas.{holds_kept, id_opened, next_unread, whole_left}
use Rattle.command_words.specs.Orders.{Asked}
use Rattle.job_status.specs.declared.status.ArrayFault.TheVariants as of
use Rattle.job_status.specs.declared.status.Status.TheVariants as is
use Rattle.sodac_cli.specs.Correct.{Runs}
use Rattle.sodac_cli.specs.Due.{faulty}
use Rattle.sodac_cli.specs.Journal.{ReadsFew}
use Rattle.sodac_cli.specs.Machine.Steps.{IsGathering, IsWriting, ReadsInput, layout_of}
use Rattle.sodac_cli.specs.Machine.Text.{unread_input}
use Rattle.sodac_cli.specs.Outputs.{AreOutputs}
use Rattle.sodac_cli.specs.Work.{HoldCells, HoldsCells, HoldsFault, files_of, form_of, input_count, input_names, output_names, output_texts, rows_of, text_count}
use Rattle.sodac_cli.proofs.AllAsked.{all_due, all_fault, all_memory}
use Rattle.sodac_cli.proofs.Apart.{no_output}
use Rattle.sodac_cli.proofs.ArrayLaws.{fault_behind, hold_more}
use Rattle.sodac_cli.proofs.Emptied.{all_empty, emptied_names}
use Rattle.sodac_cli.proofs.Few.{few_behind}
use Rattle.sodac_cli.proofs.Filled.{filled_none}
use Rattle.sodac_cli.proofs.Numbered.{file_of_input, files_length, input_file, input_names_length, role_at}

-- the outputs are empty, and some of the inputs were read
module _ (first : ℕ) (begun : Store) (a : Asked) (p : PlainProgram) (values : List ℤ) (arrays : List (List ℤ)) (count given : ℕ) (now : Store)
    (g : IsGathering first begun a p given now values arrays count) where
  abbrev outputs : List (List ℕ × List ℕ)
  outputs = map emptied (output_names a p)

  pub are_empty : AreOutputs begun.bytes (Some a) outputs
  are_empty = inr (record { plain = p; program = g.judged.program; prefixes = inl (all_empty (output_names a p)) })

  pub gathering_memory : Runs first begun (Some a) given now is.Memory
  gathering_memory =
      all_memory first begun a p values g.judged g.params given now outputs (emptied_names (output_names a p)) g.holds are_empty (text_count a + count)
      g.asked.places g.asked.few g.asked.progress

  -- all of them were
  pub all_gathered : count ≡ input_count p → IsWriting first begun a p given now values arrays 0
  all_gathered all =
      let P : ℕ → Type 0 = λ n. Progress first begun (files_of a p) (text_count a + n) g.asked.places given now in
      let Q : List (List ℕ) → Type 0 = λ names. HoldCells begun.bytes (form_of a) (cells_at p (rows_of a)) (input_types p.tensors) names arrays in
      let R : List (List ℕ × List ℕ) → Type 0 = λ os. Holds begun.bytes now.bytes os in
      record {
        judged = g.judged;
        params = g.params;
        inputs = subst Q (take_all count (input_names a p) (omega (arith, input_names_length a p g.judged.pass.count))) g.inputs;
        asked = record { places = g.asked.places; few = g.asked.few; progress = subst P all g.asked.progress };
        holds = subst R (sym (filled_none (output_names a p) (output_texts a p values arrays))) g.holds;
      }

-- an input is to be read
module _ (first : ℕ) (begun : Store) (a : Asked) (p : PlainProgram) (values : List ℤ) (arrays : List (List ℤ)) (number id : ℕ) (ty : IntType) (layout : Layout)
    (before : ℕ) (old : Store) (r : ReadsInput first begun a p before old values arrays number id ty layout) where
  abbrev g : IsGathering first begun a p before old values arrays number
  g = r.gathering

  abbrev name : List ℕ
  name = get_or (input_names a p) number []

  within : number < length (input_names a p)
  within = omega (arith, r.within, input_names_length a p g.judged.pass.count)

  -- what it held at first
  held : IsThere begun.bytes name
  held = g.there number [] within

  pub input_opened : old.opened id ≡ true
  input_opened =
      ap (λ (k : ℕ). old.opened k) r.id_is
      ∙ id_opened first begun (files_of a p) (text_count a + number) g.asked.places before old g.asked.progress (text_count a + number)
      (input_file number name) (file_of_input a p g.judged.pass.count number r.within)

  pub input_unread : old.place id ≡ 0
  input_unread =
      ap (λ (k : ℕ). old.place k) r.id_is
      ∙ (g.asked.progress.well.ids (text_count a + number) (input_file number name) (file_of_input a p g.judged.pass.count number r.within)).place
      ∙ g.unread

  -- it is left to be read
  input_left : left old id ≡ held.0
  input_left =
      let there : Contains (input_names a p) name = Contains-get_or (input_names a p) number [] within in
      let kept : old.bytes name ≡ Some held.0 = g.holds.others name (no_output a p g.judged.pass name there) ∙ held.1 in
      ap (left old) r.id_is
      ∙ whole_left first begun (files_of a p) (text_count a + number) g.asked.places before old g.asked.progress (text_count a + number)
      (input_file number name) (file_of_input a p g.judged.pass.count number r.within) g.unread
      ∙ ap (λ (bytes : Option (List ℕ)). unwrap_or bytes []) kept

  input_there : begun.bytes name ≡ Some (left old id)
  input_there = held.1 ∙ ap (λ (bs : List ℕ). Some bs) (sym input_left)

  pub input_next : text_count a + number < length (files_of a p)
  input_next = omega (arith, r.within, files_length a p g.judged.pass.count)

  -- what the call that reads it did
  module _ (given : ℕ) (now : Store) (ids : given ≡ before) (kept : KeepsBytes old now) where
    abbrev pub Reading : Result (List ℤ) CellFault → Type 0
    Reading x = ReadsArray first begun (files_of a p) (text_count a + number) g.asked.places given now x

    abbrev empty : List (List ℕ × List ℕ)
    empty = map emptied (output_names a p)

    holds : Holds begun.bytes now.bytes empty
    holds = holds_kept begun.bytes old.bytes now.bytes empty kept g.holds

    few : (after : ℕ → ℕ) (place : ℕ) → Moves g.asked.places after (text_count a + number) place → ReadsFew a after
    few after place m = few_behind a g.asked.places after g.asked.few g.judged.arrays (text_count a + number) place (omega arith) m

    input_fault : Reading (Err cell.Failed) → Runs first begun (Some a) given now (is.FileFault (Input number))
    input_fault x =
        all_fault first begun a p values g.judged g.params given now empty (emptied_names (output_names a p)) holds
        (are_empty first begun a p values arrays number before old g) (text_count a + number) x.after (few x.after x.place x.moves)
        (Input number) (text_count a + number)
        (role_at (files_of a p) (text_count a + number) (input_file number name) (file_of_input a p g.judged.pass.count number r.within))
        (ids ∙ g.asked.progress.well.count) x.stuck

    input_memory : Reading (Err cell.Memory) → Runs first begun (Some a) given now is.Memory
    input_memory x =
        let s = x.3 in
        all_memory first begun a p values g.judged g.params given now empty (emptied_names (output_names a p)) holds
        (are_empty first begun a p values arrays number before old g) x.0 s.after (few s.after s.place s.moves) s.progress

    input_bad : (f : CellFault) → ReadsPart first begun (files_of a p) (text_count a + number) g.asked.places given now
        → IsFaulty layout.form ty layout.cells (left old id) f → Runs first begun (Some a) given now (is.Array (of.Cell number f))
    input_bad f x fault =
        let s = x.3 in
        let P : Layout → IntType → Type 0 = λ l t. IsFaulty l.form t l.cells (left old id) f in
        let Q : Layout → Type 0 = λ l. P l ty in
        let R : IntType → Type 0 = λ t. P (layout_of a p) t in
        let here : HoldsFault begun.bytes (form_of a) (cells_at p (rows_of a)) (slice_index_or (input_types p.tensors) number int32) name f =
        record { bytes = left old id; there = input_there; faulty = subst R r.type_is (subst Q r.layout_is fault) } in
        all_due first begun a p values g.judged g.params given now empty (emptied_names (output_names a p)) holds
        (are_empty first begun a p values arrays number before old g) x.0 s.after (few s.after s.place s.moves) s.progress
        (is.Array (of.Cell number f)) refl (omega (arith, x.1)) (λ e. absurd (cc))
        (faulty g.there number f (fault_behind begun.bytes (form_of a) (cells_at p (rows_of a)) (input_types p.tensors) (input_names a p) number arrays f
        r.within within g.inputs here))
        (λ e. absurd (cc))

    -- what came in the place of its cells
    pub input_ends : (f : CellFault) → Reading (Err f) → (IsOfBytes f → IsFaulty layout.form ty layout.cells (left old id) f)
        → Runs first begun (Some a) given now (unread_input number f)
    input_ends (cell.BadCell i) x fault = input_bad (cell.BadCell i) x (fault tt)
    input_ends (cell.CellRange i) x fault = input_bad (cell.CellRange i) x (fault tt)
    input_ends (cell.TooFew n) x fault = input_bad (cell.TooFew n) x (fault tt)
    input_ends cell.TooMany x fault = input_bad cell.TooMany x (fault tt)
    input_ends cell.TooLong x fault = input_bad cell.TooLong x (fault tt)
    input_ends cell.Failed x fault = input_fault x
    input_ends cell.Memory x fault = input_memory x

    pub gathered : (cells : List ℤ) → Reading (Ok cells) → IsGood layout.form ty layout.cells (left old id) cells
        → IsGathering first begun a p given now values (arrays ++ cells ∷ []) (number + 1)
    gathered cells x good =
        let P : Layout → IntType → Type 0 = λ l t. IsGood l.form t l.cells (left old id) cells in
        let Q : Layout → Type 0 = λ l. P l ty in
        let R : IntType → Type 0 = λ t. P (layout_of a p) t in
        let S : ℕ → Type 0 = λ n. Progress first begun (files_of a p) n x.after given now in
        let U : ℕ → Type 0 = λ n. x.after n ≡ 0 in
        let V : ℕ → Type 0 = λ n. HoldCells begun.bytes (form_of a) (cells_at p (rows_of a)) (input_types p.tensors) (take n (input_names a p)) (arrays ++ cells ∷ []) in
        let more : text_count a + number + 1 ≡ text_count a + (number + 1) = omega arith in
        let here : HoldsCells begun.bytes (form_of a) (cells_at p (rows_of a)) (slice_index_or (input_types p.tensors) number int32) name cells =
        record { bytes = left old id; there = input_there; good = subst R r.type_is (subst Q r.layout_is good) } in
        record {
          judged = g.judged;
          params = g.params;
          asked = record { places = x.after; few = few x.after x.place x.moves; progress = subst S more x.progress };
          unread = subst U more (next_unread first begun (files_of a p) (text_count a + number) g.asked.places before old g.asked.progress x.after x.place x.moves);
          holds = holds;
          there = g.there;
          inputs = subst V (sym (add-one number))
              (hold_more begun.bytes (form_of a) (cells_at p (rows_of a)) (input_types p.tensors) (input_names a p) number arrays cells r.within within g.inputs here);
        }
