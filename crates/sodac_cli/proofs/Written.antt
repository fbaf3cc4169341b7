-- What ends a run that writes its outputs, and how it goes on.
use Rattle.std.proofs.Common.{◌≡◌, ◌<◌, ℕ, ◌+◌, Bool, false, List, [], ◌∷◌, ◌++◌, length, map, take, get_or, slice_index_or, Option, Some, None, Result, Err, ℤ, refl, sym, ap, subst, ◌∙◌, inl, inr, arith, take_all, add-one}
use Rattle.std.proofs.lemmas.Option.{same_Some}
use Rattle.soda_io.specs.declared.error.IoErr.{IoErr}
use Rattle.soda_io.specs.declared.error.IoErr.TheVariants as io
use Rattle.soda_io.specs.declared.role.FileRole.TheVariants.{Output}
use Rattle.soda_io.specs.Store.{Store}
use Rattle.soda_words.specs.IntType.{IntType, int32}
use Rattle.soda_words.specs.Limits.{most_text}
use Rattle.soda_ir.specs.Program.{PlainParam, PlainProgram, input_types}
use Rattle.soda_ir.specs.Valid.{output_types}
use Rattle.soda_eval.specs.Runs.{cells_at, defined_arrays}
use Rattle.array_bytes.specs.Written.{array_bytes}
use Rattle.param_lines.specs.Params.{GivesParams}
use Rattle.job_arrays.specs.declared.layout.Layout.{Layout}
use Rattle.job_program.specs.Spoken.{SpeaksOf}
use Rattle.job_files.specs.Contents.{Holding, Holds, PutsTo, emptied}
use Rattle.job_files.specs.Progress.{Progress}
use Rattle.job_files.specs.Steps.{WritesTo}
use Rattle.job_files.proofs.CallerLemmas.{id_name, id_opened}
use Rattle.command_words.specs.Orders.{Asked}
use Rattle.job_status.specs.declared.status.Status.TheVariants as is
use Rattle.sodac_cli.specs.Correct.{Runs}
use Rattle.sodac_cli.specs.Due.{done}
use Rattle.sodac_cli.specs.Machine.Steps.{IsWriting, WritesOutput, filled}
use Rattle.sodac_cli.specs.Outputs.{AreOutputs, ArePrefixes, Delivers, DeliversBy, HoldTexts}
use Rattle.sodac_cli.specs.Work.{AreTexts, AreTextsBy, HasInputs, HasParams, HasParamsBy, HasProgram, Product, array_files, files_of, form_of, input_count, input_names, makes, output_count, output_names, output_texts, rows_of, run_of, text_count}
use Rattle.sodac_cli.proofs.AllAsked.{all_due, all_fault, all_memory}
use Rattle.sodac_cli.proofs.ArrayLaws.{arrays_one}
use Rattle.sodac_cli.proofs.Emptied.{all_empty, emptied_names}
use Rattle.sodac_cli.proofs.Filled.{About, about, filled_names, filled_none, filled_prefixes, text_at, texts_held, texts_many}
use Rattle.sodac_cli.proofs.Numbered.{file_of_output, files_length, files_opened, output_file, output_names_length, role_at}

-- what is delivered of the one program, its one list of values and its one list of arrays is of all
module _ (programs_one : (most : ℕ) (share : Bool) (bytes : List ℕ) (p q : PlainProgram) → SpeaksOf most share bytes p → SpeaksOf most share bytes q → p ≡ q)
    (values_one : (ps : List PlainParam) (bytes : List ℕ) (v w : List ℤ) → GivesParams ps bytes v → GivesParams ps bytes w → v ≡ w)
    (old new : Holding) (a : Asked) (p : PlainProgram) (program : HasProgram old a p) (values : List ℤ) (params : HasParams old a p values)
    (arrays : List (List ℤ)) (inputs : HasInputs old a p arrays) (texts : HoldTexts new (output_names a p) (output_texts a p values arrays)) where
  program_one : (q : PlainProgram) → HasProgram old a q → p ≡ q
  program_one q has =
      let P : List ℕ → Type 0 = λ bytes. SpeaksOf most_text a.share bytes q in
      programs_one most_text a.share program.text p q program.spoken (subst P (same_Some has.text program.text (sym has.there ∙ program.there)) has.spoken)

  params_one : (o : Option (List ℕ)) (v w : List ℤ) → HasParamsBy o old p v → HasParamsBy o old p w → v ≡ w
  params_one None v w x y = x.1 ∙ sym y.1
  params_one (Some name) v w x y =
      let P : List ℕ → Type 0 = λ bytes. GivesParams p.params bytes w in
      values_one p.params x.0 v w x.2 (subst P (same_Some y.0 x.0 (sym y.1 ∙ x.1)) y.2)

  of_all : (q : PlainProgram) → HasProgram old a q → (v : List ℤ) → HasParams old a q v → (others : List (List ℤ)) → HasInputs old a q others
      → HoldTexts new (output_names a q) (output_texts a q v others)
  of_all q has =
      let P : PlainProgram → Type 0 = λ x. (v : List ℤ) → HasParams old a x v → (others : List (List ℤ)) → HasInputs old a x others
      → HoldTexts new (output_names a x) (output_texts a x v others) in
      let Q : List ℤ → Type 0 = λ v. HoldTexts new (output_names a p) (output_texts a p v arrays) in
      subst P (program_one q has) (λ v given others all.
      let R : List (List ℤ) → Type 0 = λ xs. HoldTexts new (output_names a p) (output_texts a p v xs) in
      subst R (arrays_one old (form_of a) (cells_at p (rows_of a)) (input_types p.tensors) (input_names a p) arrays others inputs all)
      (subst Q (params_one a.params values v params given) texts))

  delivers : makes a.mode ≡ array_files → Delivers old new (Some a)
  delivers writes = let P : Product → Type 0 = λ m. DeliversBy m old new a in subst P (sym writes) of_all

-- some of the outputs are written
module _ (first : ℕ) (begun : Store) (a : Asked) (p : PlainProgram) (values : List ℤ) (inputs : List (List ℤ)) (count given : ℕ) (now : Store)
    (w : IsWriting first begun a p given now values inputs count) (as_many : length (defined_arrays p (rows_of a) values inputs) ≡ output_count p) where
  abbrev names : List (List ℕ)
  names = output_names a p

  abbrev texts : List (List ℕ)
  texts = output_texts a p values inputs

  pub same_length : length names ≡ length texts
  same_length = omega (
    arith,
    output_names_length a p w.judged.pass.count,
    texts_many (form_of a) (run_of p) (output_types p.tensors) (defined_arrays p (rows_of a) values inputs) as_many,
  )

  pub are_prefixes : (outputs : List (List ℕ × List ℕ)) → ArePrefixes outputs texts → AreOutputs begun.bytes (Some a) outputs
  are_prefixes outputs prefixes =
      let P : Product → Type 0 = λ m. AreTextsBy m begun.bytes a p texts in
      let own : AreTexts begun.bytes a p texts = subst P (sym w.judged.arrays) (values, w.params, inputs, w.inputs, refl) in
      inr (record { plain = p; program = w.judged.program; prefixes = inr (inl (texts, own, prefixes)) })

  are : AreOutputs begun.bytes (Some a) (filled names texts count)
  are = are_prefixes (filled names texts count) (filled_prefixes names texts count (omega (arith, same_length)))

  -- all of them are
  pub all_written : (programs_one : (most : ℕ) (share : Bool) (bytes : List ℕ) (p q : PlainProgram) → SpeaksOf most share bytes p → SpeaksOf most share bytes q → p ≡ q)
      → (values_one : (ps : List PlainParam) (bytes : List ℕ) (v w : List ℤ) → GivesParams ps bytes v → GivesParams ps bytes w → v ≡ w)
      → count ≡ output_count p → Runs first begun (Some a) given now is.Ok
  all_written programs_one values_one all =
      let P : ℕ → Type 0 = λ n. Holds begun.bytes now.bytes (filled names texts n) in
      let whole : Holds begun.bytes now.bytes (filled names texts (length names)) =
      subst P (all ∙ sym (output_names_length a p w.judged.pass.count)) w.holds in
      all_due first begun a p values w.judged w.params given now (filled names texts count) (filled_names names texts count) w.holds are
      (text_count a + input_count p) w.asked.places w.asked.few w.asked.progress is.Ok refl (omega arith)
      (λ e. sym (files_opened a p w.judged.pass.count)) (done inputs w.inputs)
      (λ e. delivers programs_one values_one begun.bytes now.bytes a p w.judged.program values w.params inputs w.inputs
      (texts_held now.bytes names texts same_length whole.own) w.judged.arrays)

-- memory is refused before any of them is
pub unwritten_memory : (first : ℕ) (begun : Store) (a : Asked) (p : PlainProgram) (values : List ℤ) (inputs : List (List ℤ)) (given : ℕ) (now : Store)
    → IsWriting first begun a p given now values inputs 0 → Runs first begun (Some a) given now is.Memory
unwritten_memory first begun a p values inputs given now w =
    let R : List (List ℕ × List ℕ) → Type 0 = λ os. Holds begun.bytes now.bytes os in
    let none = filled_none (output_names a p) (output_texts a p values inputs) in
    all_memory first begun a p values w.judged w.params given now (map emptied (output_names a p)) (emptied_names (output_names a p)) (subst R none w.holds)
    (inr (record { plain = p; program = w.judged.program; prefixes = inl (all_empty (output_names a p)) })) (text_count a + input_count p)
    w.asked.places w.asked.few w.asked.progress

-- an output is to be written
module _ (first : ℕ) (begun : Store) (a : Asked) (p : PlainProgram) (values : List ℤ) (inputs : List (List ℤ)) (number id : ℕ) (ty : IntType) (layout : Layout)
    (cells : List ℤ) (before : ℕ) (old : Store) (w : WritesOutput first begun a p before old values inputs number id ty layout cells) where
  abbrev g : IsWriting first begun a p before old values inputs number
  g = w.writing

  abbrev pub name : List ℕ
  name = get_or (output_names a p) number []

  abbrev text : List ℕ
  text = get_or (output_texts a p values inputs) number []

  lengths : length (output_names a p) ≡ length (output_texts a p values inputs)
  lengths = same_length first begun a p values inputs number before old g w.as_many

  pub here : About (output_names a p) (output_texts a p values inputs) number name text
  here = about (output_names a p) (output_texts a p values inputs) number (omega (arith, w.within, output_names_length a p g.judged.pass.count)) (omega (arith, lengths))

  pub output_next : text_count a + input_count p + number < length (files_of a p)
  output_next = omega (arith, w.within, files_length a p g.judged.pass.count)

  pub output_created : old.opened id ≡ false
  output_created =
      ap (λ (k : ℕ). old.opened k) w.id_is
      ∙ id_opened first begun (files_of a p) (text_count a + input_count p) g.asked.places before old g.asked.progress (text_count a + input_count p + number)
      (output_file number name) (file_of_output a p g.judged.pass.count number w.within)

  pub named_output : old.name id ≡ name
  named_output =
      ap old.name w.id_is
      ∙ id_name first begun (files_of a p) (text_count a + input_count p) g.asked.places before old g.asked.progress (text_count a + input_count p + number)
      (output_file number name) (file_of_output a p g.judged.pass.count number w.within)

  pub empty_output : Holds begun.bytes old.bytes (here.front ++ (name, []) ∷ here.back)
  empty_output =
      let P : List (List ℕ × List ℕ) → Type 0 = λ os. Holds begun.bytes old.bytes os in
      subst P here.before g.holds

  -- the bytes that are written
  text_is : array_bytes layout.form ty layout.run cells ≡ text
  text_is =
      ap (λ (l : Layout). array_bytes l.form ty l.run cells) w.layout_is
      ∙ ap (λ (t : IntType). array_bytes (form_of a) t (run_of p) cells) w.type_is
      ∙ ap (λ (cs : List ℤ). array_bytes (form_of a) (slice_index_or (output_types p.tensors) number int32) (run_of p) cs) w.cells_are
      ∙ sym (text_at (form_of a) (run_of p) (output_types p.tensors) (defined_arrays p (rows_of a) values inputs) number w.within w.as_many)

  -- what the call that writes it did
  module _ (given : ℕ) (now : Store) (ids : given ≡ before) (result : Result (Unit {0}) IoErr)
      (puts : PutsTo begun.bytes now.bytes here.front name [] here.back (array_bytes layout.form ty layout.run cells) result) where
    abbrev pub Writing : Result (Unit {0}) IoErr → Type 0
    Writing x = WritesTo first begun (files_of a p) (text_count a + input_count p) g.asked.places given now (text_count a + input_count p + number) x

    abbrev outputs : List (List ℕ × List ℕ)
    outputs = here.front ++ (name, puts.now) ∷ here.back

    put : puts.now ≡ take puts.puts.count text
    put = puts.puts.put ∙ ap (take puts.puts.count) text_is

    prefixes : AreOutputs begun.bytes (Some a) outputs
    prefixes =
        let P : List ℕ → Type 0 = λ bytes. ArePrefixes (here.front ++ (name, bytes) ∷ here.back) (output_texts a p values inputs) in
        are_prefixes first begun a p values inputs number before old g w.as_many outputs (subst P (sym put) (here.prefixes puts.puts.count))

    pub write_fault : (e : IoErr) → e ≡ io.Failed → Writing (Err e) → Runs first begun (Some a) given now (is.FileFault (Output number))
    write_fault e same x =
        let P : IoErr → Type 0 = λ y. Writing (Err y) in
        all_fault first begun a p values g.judged g.params given now outputs (here.named puts.now) puts.holds prefixes (text_count a + input_count p)
        g.asked.places g.asked.few (Output number) (text_count a + input_count p + number)
        (role_at (files_of a p) (text_count a + input_count p + number) (output_file number name) (file_of_output a p g.judged.pass.count number w.within))
        (ids ∙ g.asked.progress.well.count) (subst P same x)

    pub write_memory : (e : IoErr) → e ≡ io.Memory → Writing (Err e) → Runs first begun (Some a) given now is.Memory
    write_memory e same x =
        let P : IoErr → Type 0 = λ y. Writing (Err y) in
        all_memory first begun a p values g.judged g.params given now outputs (here.named puts.now) puts.holds prefixes (text_count a + input_count p)
        g.asked.places g.asked.few (subst P same x)

    -- all of its text was taken
    pub wrote : puts.puts.count ≡ length (array_bytes layout.form ty layout.run cells)
        → Progress first begun (files_of a p) (text_count a + input_count p) g.asked.places given now
        → IsWriting first begun a p given now values inputs (number + 1)
    wrote all progress =
        let whole : puts.now ≡ text = put ∙ take_all puts.puts.count text (omega (arith, all, ap (λ (bs : List ℕ). length bs) text_is)) in
        let P : List ℕ → Type 0 = λ bytes. Holds begun.bytes now.bytes (here.front ++ (name, bytes) ∷ here.back) in
        let Q : List (List ℕ × List ℕ) → Type 0 = λ os. Holds begun.bytes now.bytes os in
        let R : ℕ → Type 0 = λ n. Holds begun.bytes now.bytes (filled (output_names a p) (output_texts a p values inputs) n) in
        record {
          judged = g.judged;
          params = g.params;
          inputs = g.inputs;
          asked = record { places = g.asked.places; few = g.asked.few; progress = progress };
          holds = subst R (sym (add-one number)) (subst Q (sym here.after) (subst P whole puts.holds));
        }
