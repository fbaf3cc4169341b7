-- What ends a run whose outputs are created, and how it goes on.
use Rattle.std.proofs.Common.{◌≡◌, ◌≤◌, ℕ, ◌+◌, List, [], ◌∷◌, ◌++◌, length, map, take, drop, Result, Ok, Err, All, Bor, ℤ, refl, sym, ap, subst, ◌∙◌, inl, inr, arith, Global, Some, take_all, take-take, take-append-drop, append_assoc}
use Rattle.std.proofs.Math.Seq.{take-append-add}
use Rattle.std.proofs.lemmas.List.{length-map}
use Rattle.std.proofs.lemmas.List.Elements.{All-map}
use Rattle.std.specs.declared.vec.Vec.{Vec}
use Rattle.soda_io.specs.declared.call.FileCall.{FileCall}
use Rattle.soda_io.specs.declared.role.FileRole.TheVariants.{Output}
use Rattle.soda_io.specs.Store.{Store}
use Rattle.soda_ir.specs.Program.{PlainProgram}
use Rattle.job_files.specs.Contents.{AreApart, Empties, Holds, emptied}
use Rattle.job_files.specs.Files.{JobFile, created_of, names_of}
use Rattle.job_files.specs.Progress.{Progress, created}
use Rattle.job_files.specs.Steps.{AsksAll, IfFailed}
use Rattle.job_files.specs.declared.fail.StepFail.{StepFail}
use Rattle.job_files.specs.declared.fail.StepFail.TheVariants as step
use Rattle.job_files.proofs.CallerLemmas.{as_many_as_given, created_names, created_until, holds_kept, holds_none}
use Rattle.command_words.specs.Orders.{Asked}
use Rattle.job_status.specs.declared.status.Status.TheVariants as is
use Rattle.sodac_cli.specs.Correct.{Runs}
use Rattle.sodac_cli.specs.Due.{MayAsk, asks_arrays}
use Rattle.sodac_cli.specs.Machine.Steps.{IsGathering, IsOpened}
use Rattle.sodac_cli.specs.Outputs.{Leaves}
use Rattle.sodac_cli.specs.Work.{files_of, input_names, inputs_from, output_names, outputs_from, text_count, texts_of}
use Rattle.sodac_cli.proofs.Apart.{outputs_apart}
use Rattle.sodac_cli.proofs.Begun.{runs_fault, runs_memory}
use Rattle.sodac_cli.proofs.Numbered.{created_front, created_inputs, created_texts, output_role}

-- outputs that are empty, and their names
pub all_empty : (names : List (List ℕ)) → All (λ o. o.1 ≡ []) (map emptied names)
all_empty names = All-map (λ (o : List ℕ × List ℕ). o.1 ≡ []) emptied names (λ k d lt. refl)

pub emptied_names : (names : List (List ℕ)) → map (λ o. o.0) (map emptied names) ≡ names
emptied_names [] = refl
emptied_names (name ∷ names) = ap (λ (ns : List (List ℕ)). name ∷ ns) (emptied_names names)

module _ (first : ℕ) (begun : Store) (a : Asked) (p : PlainProgram) (values : List ℤ) (before : ℕ) (old : Store)
    (o : IsOpened first begun a p before old values) (names : List (Bor (List ℕ))) (same : names_of names ≡ output_names a p) where
  -- no output yet
  pub none_yet : Holds begun.bytes old.bytes []
  none_yet = holds_kept begun.bytes begun.bytes old.bytes [] o.keeps (holds_none begun.bytes)

  pub names_apart : AreApart (map emptied (names_of names))
  names_apart = let P : List (List ℕ) → Type 0 = λ ns. AreApart (map emptied ns) in subst P (sym same) (outputs_apart a p o.judged.pass)

  -- the files that were asked for before, and those of the outputs
  abbrev pub asked : List JobFile
  asked = texts_of a ++ inputs_from 0 (input_names a p)

  abbrev pub outputs : List JobFile
  outputs = outputs_from 0 (output_names a p)

  created_some : (n : ℕ) → created_of (asked ++ take n outputs) ≡ take n (output_names a p)
  created_some n =
      ap created_of (append_assoc (texts_of a) (inputs_from 0 (input_names a p)) (take n outputs))
      ∙ created_texts a (inputs_from 0 (input_names a p) ++ take n outputs)
      ∙ created_inputs 0 (input_names a p) (take n outputs) ∙ created_front n 0 (output_names a p)

  all_files : asked ++ outputs ≡ files_of a p
  all_files = append_assoc (texts_of a) (inputs_from 0 (input_names a p)) outputs

  may : (n : ℕ) → MayAsk begun.bytes a (asked ++ take n outputs)
  may n =
      let whole : files_of a p ≡ (asked ++ take n outputs) ++ drop n outputs =
      sym all_files ∙ ap (λ (fs : List JobFile). asked ++ fs) (sym (take-append-drop n outputs)) ∙ sym (append_assoc asked (take n outputs) (drop n outputs)) in
      asks_arrays o.judged.arrays p o.judged.program o.judged.pass.none values o.params (drop n outputs) whole

  -- what the call that creates them did: so many were emptied
  module _ (given : ℕ) (now : Store) (count : ℕ) (ids : given ≡ before + count) (within : count ≤ length names)
      (empties : Empties begun.bytes now.bytes [] (names_of names) count) where
    abbrev pub Creating : Result (Vec ℕ Global) StepFail → Type 0
    Creating r = AsksAll first begun asked (text_count a) o.asked.places given now outputs r

    holds : (n : ℕ) → count ≡ n → Holds begun.bytes now.bytes (map emptied (take n (output_names a p)))
    holds n e =
        let P : List (List ℕ) → Type 0 = λ ns. Holds begun.bytes now.bytes (map emptied ns) in
        subst P (ap (take count) same ∙ ap (λ k. take k (output_names a p)) e) empties

    leaves : (n : ℕ) → count ≡ n → ((entries : List FileCall) → now.calls ≡ begun.calls ++ entries → created entries ≡ take n (output_names a p))
        → Leaves begun now (Some a)
    leaves n e made = record {
      outputs = map emptied (take n (output_names a p));
      holds = holds n e;
      made = λ entries calls. made entries calls ∙ sym (emptied_names (take n (output_names a p)));
      are = inr (record { plain = p; program = o.judged.program; prefixes = inl (all_empty (take n (output_names a p))) });
    }

    pub outputs_ready : (v : Vec ℕ Global) → given ≡ before + length names → Creating (Ok v) → IsGathering first begun a p given now values [] 0
    outputs_ready v all progress =
        let long : length (output_names a p) ≤ count = omega (arith, length-map names (λ (n : Bor (List ℕ)). n.now), ap length same) in
        let P : List (List ℕ) → Type 0 = λ ns. Holds begun.bytes now.bytes (map emptied ns) in
        let Q : List JobFile → Type 0 = λ fs. Progress first begun fs (text_count a) o.asked.places given now in
        let R : ℕ → Type 0 = λ n. Progress first begun (files_of a p) n o.asked.places given now in
        let U : ℕ → Type 0 = λ n. o.asked.places n ≡ 0 in
        let none : text_count a ≡ text_count a + 0 = omega arith in
        record {
          judged = o.judged;
          params = o.params;
          asked = record { places = o.asked.places; few = o.asked.few; progress = subst R none (subst Q all_files progress) };
          unread = subst U none o.unread;
          holds = subst P (take_all count (output_names a p) long) (holds count refl);
          there = o.there;
          inputs = tt;
        }

    pub outputs_memory : (e : StepFail) → e ≡ step.Memory → Creating (Err e) → Runs first begun (Some a) given now is.Memory
    outputs_memory e memory c =
        let P : StepFail → Type 0 = λ x. Creating (Err x) in
        let t : Creating (Err step.Memory) = subst P memory c in
        let many : t.0 ≡ count = as_many_as_given first begun asked outputs (text_count a) o.asked.places given now t.0 t.1 t.2 before count o.asked.progress.well.count ids in
        let files : List JobFile = asked ++ take t.0 outputs in
        let made = leaves t.0 (sym many) (λ entries calls. created_names first begun files (text_count a) o.asked.places given now t.2 entries calls ∙ created_some t.0) in
        runs_memory first begun a given now o.judged.built made files (may t.0) (text_count a) o.asked.places o.asked.few t.2

    pub outputs_fault : (e : StepFail) (n : ℕ) → e ≡ step.Failed n → IfFailed {T = Vec ℕ Global} (Err e) (λ k. given ≡ before + k) → Creating (Err e)
        → Runs first begun (Some a) given now (is.FileFault (Output n))
    outputs_fault e n failed so_far c =
        let P : StepFail → Type 0 = λ x. Creating (Err x) in
        let t : Creating (Err (step.Failed n)) = subst P failed c in
        let Q : StepFail → Type 0 = λ x. IfFailed {T = Vec ℕ Global} (Err x) (λ k. given ≡ before + k) in
        let more : given ≡ before + n = subst Q failed so_far in
        let files : List JobFile = asked ++ take (n + 1) outputs in
        let front : take (length asked + n) files ≡ asked ++ take n outputs =
        take-append-add asked (take (n + 1) outputs) n ∙ ap (λ (fs : List JobFile). asked ++ fs) (take-take n (n + 1) outputs (omega arith)) in
        let made = leaves n (omega arith) (λ entries calls.
        created_until first begun files (text_count a) (length asked + n) o.asked.places given now t.1 entries calls (length asked + n) (omega (arith, o.asked.progress.well.count))
        ∙ ap created_of front ∙ created_some n) in
        runs_fault first begun a given now o.judged.built made files (may (n + 1)) (text_count a) o.asked.places o.asked.few (Output n) (length asked + n)
        (output_role asked (output_names a p) n t.0) t.1
