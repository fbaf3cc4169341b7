-- The reading of a job's program.
use Rattle.std.proofs.Common.{◌≡◌, ◌<◌, ◌≤◌, ℕ, ◌+◌, Bool, true, List, [], ◌∷◌, length, unwrap_or, Option, Some, Result, Ok, Err, IfOk, IsErrOf, refl, sym, ap, subst, ◌∙◌, arith}
use Rattle.std.specs.Result.{IfErr}
use Rattle.std.specs.Global.{Global}
use Rattle.std.specs.declared.vec.Vec.{Vec}
use Rattle.soda_io.specs.declared.error.IoErr.{IoErr}
use Rattle.soda_io.specs.declared.error.IoErr.TheVariants as io
use Rattle.soda_io.specs.declared.role.FileRole.TheVariants.{Program}
use Rattle.soda_io.specs.Store.{KeepsBytes, Store, left}
use Rattle.whole_files.specs.declared.reading.ReadFail.{ReadFail}
use Rattle.whole_files.specs.declared.reading.ReadFail.TheVariants as read
use Rattle.soda_words.specs.Limits.{most_text}
use Rattle.soda_ir.specs.Program.{PlainProgram}
use Rattle.soda_parse.specs.Text.{too_long}
use Rattle.soda_parse.specs.Fails.{IfRefused}
use Rattle.soda_parse.specs.declared.reading.ParseFail.{ParseFail}
use Rattle.soda_parse.specs.declared.reading.ParseFail.TheVariants.{Refused}
use Rattle.soda_parse.specs.declared.refusal.Refusal.{Refusal}
use Rattle.soda_parse.specs.declared.refusal.Refusal.TheVariants.{TextTooLong}
use Rattle.job_program.specs.Spoken.{RefusesProgram, SpeaksOf, of_text}
use Rattle.job_files.specs.Contents.{IsThere}
use Rattle.job_files.specs.Files.{JobFile, asking}
use Rattle.job_files.specs.Progress.{Progress, Stuck}
use Rattle.job_files.specs.Steps.{AsksNext, ReadsNext}
use Rattle.job_files.proofs.CallerLemmas.{id_opened, whole_left}
use Rattle.command_words.specs.Orders.{Asked}
use Rattle.job_status.specs.declared.status.Status.{Status}
use Rattle.job_status.specs.declared.status.Status.TheVariants as is
use Rattle.array_bytes.specs.declared.fault.CellFault.{CellFault}
use Rattle.job_status.specs.declared.status.ArrayFault.TheVariants as of
use Rattle.sodac_cli.specs.Correct.{Runs}
use Rattle.sodac_cli.specs.Due.{DueOf, asks_none, asks_program, refused}
use Rattle.job_status.specs.Endings.{due, ending_of}
use Rattle.sodac_cli.specs.Journal.{AsksAll, ReadsFew, in_order}
use Rattle.sodac_cli.specs.Machine.Steps.{IsRead}
use Rattle.sodac_cli.specs.Machine.Text.{HasText, unread_status}
use Rattle.sodac_cli.specs.Outputs.{Delivers, DeliversAtEnd, Leaves}
use Rattle.sodac_cli.specs.Work.{is_built, program_file, program_of}
use Rattle.sodac_cli.proofs.Begun.{leaves_asked, leaves_stuck, runs_due, runs_fault, runs_memory}
use Rattle.sodac_cli.proofs.Few.{few_none, few_program}

-- how the file of a name is asked for
abbrev opening : List ℕ → Bool × List ℕ
opening name = (true, name)

-- the program's file wasn't opened
module _ (first : ℕ) (begun : Store) (name : List ℕ) (given : ℕ) (now : Store) (keeps : KeepsBytes begun now) (e : IoErr)
    (asks : (f : JobFile) → asking f ≡ (true, name) → AsksNext first begun [] 0 (λ n. 0) given now f (Err e))
    (a : Asked) (named : program_of a ≡ name) (built : is_built a ≡ true) where
  abbrev Asks : IoErr → Type 0
  Asks x = AsksNext first begun [] 0 (λ n. 0) given now (program_file a) (Err x)

  here : Asks e
  here = asks (program_file a) (ap opening named)

  pub unopened_fault : e ≡ io.Failed → Runs first begun (Some a) given now (is.FileFault Program)
  unopened_fault same =
      let s : Stuck first begun (program_file a ∷ []) 0 0 (λ n. 0) given now = let P : IoErr → Type 0 = λ x. Asks x in subst P same here in
      runs_fault first begun a given now built (leaves_stuck first begun a given now keeps (program_file a ∷ []) 0 (λ n. 0) refl 0 s)
      (program_file a ∷ []) (asks_program refl) 0 (λ n. 0) (few_none a) Program 0 refl s

  pub unopened_memory : e ≡ io.Memory → Runs first begun (Some a) given now is.Memory
  unopened_memory same =
      let p : Progress first begun [] 0 (λ n. 0) given now = let P : IoErr → Type 0 = λ x. Asks x in subst P same here in
      runs_memory first begun a given now built (leaves_asked first begun a given now keeps [] 0 (λ n. 0) refl p)
      [] (asks_none refl) 0 (λ n. 0) (few_none a) p

-- it was opened
module _ (first : ℕ) (begun : Store) (name : List ℕ) (before : ℕ) (mid : Store) (id : ℕ)
    (opens : (f : JobFile) → asking f ≡ (true, name) → AsksNext first begun [] 0 (λ n. 0) before mid f (Ok id)) where
  -- by its id all that it holds is left
  abbrev file : JobFile
  file = record { role = Program; opened = true; name = name }

  pub text_opened : mid.opened id ≡ true
  text_opened =
      let w = opens file refl in
      ap (λ (k : ℕ). mid.opened k) w.0 ∙ id_opened first begun (file ∷ []) 0 (λ n. 0) before mid w.1 0 file refl

  module _ (opening_keeps : KeepsBytes begun mid) (is_there : IsThere begun.bytes name) where
    text_left : begun.bytes name ≡ Some (left mid id)
    text_left =
        let w = opens file refl in
        let whole : left mid id ≡ is_there.0 = ap (λ (k : ℕ). left mid k) w.0
        ∙ whole_left first begun (file ∷ []) 0 (λ n. 0) before mid w.1 0 file refl refl
        ∙ ap (λ (bytes : Option (List ℕ)). unwrap_or bytes []) (opening_keeps name ∙ is_there.1) in
        is_there.1 ∙ ap (λ (bytes : List ℕ). Some bytes) (sym whole)

    -- and was read, or that failed
    module _ (given : ℕ) (now : Store) (reading_keeps : KeepsBytes mid now) where
      abbrev Reads : Result (Vec ℕ Global) ReadFail → Type 0
      Reads r = (asked : List JobFile) (ended : ℕ) (places : ℕ → ℕ) → id ≡ first + ended → ended < length asked
          → Progress first begun asked ended places before mid → ReadsNext first begun asked ended places given now most_text r

      reads_program : (r : Result (Vec ℕ Global) ReadFail) → Reads r → (a : Asked) → program_of a ≡ name
          → ReadsNext first begun (program_file a ∷ []) 0 (λ n. 0) given now most_text r
      reads_program r reads a named =
          let w = opens (program_file a) (ap opening named) in
          reads (program_file a ∷ []) 0 (λ n. 0) w.0 (omega arith) w.1

      keeps : KeepsBytes begun now
      keeps n = reading_keeps n ∙ opening_keeps n

      text_there : (a : Asked) → program_of a ≡ name → begun.bytes (program_of a) ≡ Some (left mid id)
      text_there a named = ap (λ (n : List ℕ). begun.bytes n) named ∙ text_left

      pub text_goes : (r : Result (Vec ℕ Global) ReadFail) → Reads r → IfOk r (λ v. v.items ≡ left mid id)
          → IfOk r (λ v. length v.items ≤ most_text)
          → IfOk r (λ v. (a : Asked) → program_of a ≡ name → HasText first begun a given now v.items)
      text_goes (Ok v) reads whole short = λ a named.
          let m = reads_program (Ok v) reads a named in
          record {
            there = text_there a named ∙ ap (λ (bytes : List ℕ). Some bytes) (sym whole);
            places = m.0;
            few = few_program a m.0 (0 + length v.items) m.1 (omega (arith, short));
            progress = m.2;
            keeps = keeps;
          }
      text_goes (Err e) reads whole short = tt

      pub text_ends : (r : Result (Vec ℕ Global) ReadFail) → Reads r → (IsErrOf r read.TooLong → most_text < length (left mid id))
          → IfErr r (λ e. (a : Asked) → program_of a ≡ name → is_built a ≡ true → Runs first begun (Some a) given now (unread_status e))
      text_ends (Ok v) reads long = tt
      text_ends (Err read.TooLong) reads long = λ a named built.
          let m = reads_program (Err read.TooLong) reads a named in
          runs_due first begun a given now built (leaves_asked first begun a given now keeps (program_file a ∷ []) 0 m.0 refl m.2)
          (program_file a ∷ []) (is.Program TextTooLong) refl
          (refused (left mid id) TextTooLong (text_there a named) (of_text (too_long (long refl))) refl refl)
          (record {
            ended = 0;
            places = m.0;
            went = in_order m.2 (λ e. absurd (cc));
            few = few_program a m.0 (0 + (most_text + 1)) m.1 (omega arith);
            program = λ ne. absurd (ne refl);
            texts = λ ne also more. absurd (ne refl);
          })
          (λ e. absurd (cc)) (λ k f e. absurd (cc))
      text_ends (Err read.Failed) reads long = λ a named built.
          let m = reads_program (Err read.Failed) reads a named in
          runs_fault first begun a given now built (leaves_stuck first begun a given now keeps (program_file a ∷ []) 0 m.0 refl 0 m.4)
          (program_file a ∷ []) (asks_program refl) 0 m.0 (few_program a m.0 m.1 m.3 (omega (arith, m.2))) Program 0 refl m.4
      text_ends (Err read.Memory) reads long = λ a named built.
          let m = reads_program (Err read.Memory) reads a named in
          runs_memory first begun a given now built (leaves_asked first begun a given now keeps (program_file a ∷ []) 0 m.0 refl m.4)
          (program_file a ∷ []) (asks_program refl) 0 m.0 (few_program a m.0 m.1 m.3 (omega (arith, m.2))) m.4

-- the program's file was read to its end, and that is as far as the job goes
module _ (first : ℕ) (begun : Store) (a : Asked) (given : ℕ) (now : Store) (built : is_built a ≡ true) (keeps : KeepsBytes begun now)
    (places : ℕ → ℕ) (few : ReadsFew a places) (progress : Progress first begun (program_file a ∷ []) 1 places given now) where
  pub read_leaves : Leaves begun now (Some a)
  read_leaves = leaves_asked first begun a given now keeps (program_file a ∷ []) 1 places refl progress

  pub read_asks : (status : Status) → AsksAll first begun (Some a) given now status (program_file a ∷ [])
  read_asks status = record { ended = 1; places = places; went = in_order progress (λ e. refl); few = few; program = λ ne. omega arith; texts = λ ne also more. omega arith }

  pub read_due : (status : Status) → ending_of status ≡ due → DueOf begun.bytes a (program_file a ∷ []) status
      → (status ≡ is.Ok → Delivers begun.bytes now.bytes (Some a))
      → ((k : ℕ) (f : CellFault) → status ≡ is.Array (of.Cell k f) → DeliversAtEnd begun.bytes now.bytes (Some a))
      → Runs first begun (Some a) given now status
  read_due status ending d delivered at_end =
      runs_due first begun a given now built read_leaves (program_file a ∷ []) status ending d (read_asks status) delivered at_end

  pub read_memory : Runs first begun (Some a) given now is.Memory
  read_memory = runs_memory first begun a given now built read_leaves (program_file a ∷ []) (asks_program refl) 1 places few progress

-- what its text speaks of
module _ (first : ℕ) (begun : Store) (a : Asked) (given : ℕ) (now : Store) (text : List ℕ) (w : HasText first begun a given now text)
    (bytes : List ℕ) (same : bytes ≡ text) where
  there : begun.bytes (program_of a) ≡ Some bytes
  there = w.there ∙ ap (λ (xs : List ℕ). Some xs) (sym same)

  pub refused_runs : is_built a ≡ true → (r : Refusal) → RefusesProgram most_text a.share bytes r → Runs first begun (Some a) given now (is.Program r)
  refused_runs built r refuses = read_due first begun a given now built w.keeps w.places w.few w.progress (is.Program r) refl
      (refused bytes r there refuses refl refl) (λ e. absurd (cc)) (λ k f e. absurd (cc))

  pub text_read : (p : PlainProgram) → SpeaksOf most_text a.share bytes p → IsRead first begun a p given now
  text_read p spoken = record {
    program = record { text = bytes; there = there; spoken = spoken };
    asked = record { places = w.places; few = w.few; progress = w.progress };
    keeps = w.keeps;
  }

  pub memory_runs : is_built a ≡ true → Runs first begun (Some a) given now is.Memory
  memory_runs built = read_memory first begun a given now built w.keeps w.places w.few w.progress

-- a text that wasn't read ends the job so
pub unread_runs : (first : ℕ) (begun : Store) (a : Asked) (given : ℕ) (now : Store) (fail kind : ReadFail) → fail ≡ kind
    → Runs first begun (Some a) given now (unread_status fail) → Runs first begun (Some a) given now (unread_status kind)
unread_runs first begun a given now fail kind is runs =
    let P : ReadFail → Type 0 = λ x. Runs first begun (Some a) given now (unread_status x) in
    subst P is runs

-- why a text is refused, from what is said of the answer
pub refusal_given : {A : Type 0} (Cause : Refusal → Type 0) (r : Result A ParseFail) (fail : ParseFail) (refusal : Refusal) → r ≡ Err fail
    → fail ≡ Refused refusal → IfRefused r Cause → Cause refusal
refusal_given {A} Cause r fail refusal is kind refuses =
    let P : Result A ParseFail → Type 0 = λ x. IfRefused x Cause in
    let Q : ParseFail → Type 0 = λ x. P (Err x) in
    subst Q kind (subst P is refuses)
