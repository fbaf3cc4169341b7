-- What ends a run whose inputs are opened, and how it goes on.
use Rattle.std.proofs.Common.{◌≡◌, ℕ, ◌+◌, List, [], ◌++◌, length, take, drop, Result, Ok, Err, All, ℤ, sym, ap, subst, ◌∙◌, arith, Global, Some, take-append-drop, append_assoc}
use Rattle.std.specs.declared.vec.Vec.{Vec}
use Rattle.soda_io.specs.declared.role.FileRole.TheVariants.{Input}
use Rattle.soda_io.specs.Store.{KeepsBytes, Store}
use Rattle.soda_ir.specs.Program.{PlainProgram}
use Rattle.job_files.specs.Contents.{IsThere}
use Rattle.job_files.specs.Files.{JobFile, created_of}
use Rattle.job_files.specs.Steps.{AsksAll}
use Rattle.job_files.specs.declared.fail.StepFail.{StepFail}
use Rattle.job_files.specs.declared.fail.StepFail.TheVariants as step
use Rattle.command_words.specs.Orders.{Asked}
use Rattle.job_status.specs.declared.status.Status.TheVariants as is
use Rattle.sodac_cli.specs.Correct.{Runs}
use Rattle.sodac_cli.specs.Due.{MayAsk, asks_arrays}
use Rattle.sodac_cli.specs.Machine.Steps.{IsOpened, IsSettled}
use Rattle.sodac_cli.specs.Work.{files_of, input_names, inputs_from, output_names, outputs_from, text_count, texts_of}
use Rattle.sodac_cli.proofs.Begun.{created_none, leaves_asked, leaves_stuck, runs_fault, runs_memory}
use Rattle.sodac_cli.proofs.Numbered.{created_texts, input_role, no_created, texts_length}

module _ (first : ℕ) (begun : Store) (a : Asked) (p : PlainProgram) (values : List ℤ) (before : ℕ) (old : Store)
    (s : IsSettled first begun a p before old values) (given : ℕ) (now : Store) (kept : KeepsBytes old now) where
  -- what the call that opens them did
  abbrev pub Opening : Result (Vec ℕ Global) StepFail → Type 0
  Opening r = AsksAll first begun (texts_of a) (text_count a) s.asked.places given now (inputs_from 0 (input_names a p)) r

  keeps : KeepsBytes begun now
  keeps n = kept n ∙ s.keeps n

  pub inputs_opened : (ids : Vec ℕ Global) → Opening (Ok ids) → (names : List (List ℕ)) → names ≡ input_names a p → All (IsThere old.bytes) names
      → IsOpened first begun a p given now values
  inputs_opened ids progress names same there = record {
    judged = s.judged;
    params = s.params;
    asked = record { places = s.asked.places; few = s.asked.few; progress = progress };
    unread = s.asked.progress.well.unasked (text_count a) (omega (arith, texts_length a));
    keeps = keeps;
    there =
        let P : List (List ℕ) → Type 0 = λ ns. All (IsThere begun.bytes) ns in
        subst P same (λ k d lt. let x = there k d lt in (x.0, sym (s.keeps _) ∙ x.1));
  }

  -- the texts and the first of the inputs
  abbrev some : ℕ → List JobFile
  some k = texts_of a ++ take k (inputs_from 0 (input_names a p))

  may : (k : ℕ) → MayAsk begun.bytes a (some k)
  may k =
      let inputs = inputs_from 0 (input_names a p) in
      let outputs = outputs_from 0 (output_names a p) in
      let whole : files_of a p ≡ some k ++ (drop k inputs ++ outputs) =
      ap (λ (fs : List JobFile). texts_of a ++ (fs ++ outputs)) (sym (take-append-drop k inputs))
      ∙ ap (λ (fs : List JobFile). texts_of a ++ fs) (append_assoc (take k inputs) (drop k inputs) outputs)
      ∙ sym (append_assoc (texts_of a) (take k inputs) (drop k inputs ++ outputs)) in
      asks_arrays s.judged.arrays p s.judged.program s.judged.pass.none values s.params (drop k inputs ++ outputs) whole

  none : (k : ℕ) → created_of (some k) ≡ []
  none k =
      created_texts a (take k (inputs_from 0 (input_names a p)))
      ∙ created_none (inputs_from 0 (input_names a p)) (no_created 0 (input_names a p)) k

  pub inputs_memory : (e : StepFail) → e ≡ step.Memory → Opening (Err e) → Runs first begun (Some a) given now is.Memory
  inputs_memory e same o =
      let P : StepFail → Type 0 = λ x. Opening (Err x) in
      let t : Opening (Err step.Memory) = subst P same o in
      let leaves = leaves_asked first begun a given now keeps (some t.0) (text_count a) s.asked.places (none t.0) t.2 in
      runs_memory first begun a given now s.judged.built leaves (some t.0) (may t.0) (text_count a) s.asked.places s.asked.few t.2

  pub inputs_fault : (e : StepFail) (n : ℕ) → e ≡ step.Failed n → Opening (Err e) → Runs first begun (Some a) given now (is.FileFault (Input n))
  inputs_fault e n same o =
      let P : StepFail → Type 0 = λ x. Opening (Err x) in
      let t : Opening (Err (step.Failed n)) = subst P same o in
      let place : ℕ = length (texts_of a) + n in
      let leaves = leaves_stuck first begun a given now keeps (some (n + 1)) (text_count a) s.asked.places (none (n + 1)) place t.1 in
      runs_fault first begun a given now s.judged.built leaves (some (n + 1)) (may (n + 1)) (text_count a) s.asked.places s.asked.few (Input n) place
      (input_role (texts_of a) (input_names a p) n t.0) t.1
