-- The reading of a job's params.
use Rattle.std.proofs.Common.{◌≡◌, ◌≢◌, ◌<◌, ◌≤◌, ℕ, ◌+◌, true, List, [], ◌∷◌, length, map, unwrap_or, Option, Some, None, Result, Ok, Err, IfOk, ℤ, refl, sym, ap, subst, ◌∙◌, arith}
use Rattle.std.specs.Result.{IfErr}
use Rattle.std.specs.Global.{Global}
use Rattle.std.specs.declared.vec.Vec.{Vec}
use Rattle.soda_io.specs.declared.error.IoErr.{IoErr}
use Rattle.soda_io.specs.declared.error.IoErr.TheVariants as io
use Rattle.soda_io.specs.declared.role.FileRole.TheVariants.{Params}
use Rattle.soda_io.specs.Store.{KeepsBytes, Store, left}
use Rattle.whole_files.specs.declared.reading.ReadFail.{ReadFail}
use Rattle.whole_files.specs.declared.reading.ReadFail.TheVariants as read
use Rattle.soda_ir.specs.Program.{PlainProgram}
use Rattle.param_lines.specs.Params.{GivesParams, RefusesLine, most_params, too_long}
use Rattle.job_files.specs.Contents.{IsThere}
use Rattle.job_files.specs.Files.{JobFile, asking, created_of}
use Rattle.job_files.specs.Progress.{Progress, Stuck}
use Rattle.job_files.specs.Steps.{AsksNext, ReadsNext}
use Rattle.job_files.proofs.CallerLemmas.{whole_left}
use Rattle.command_words.specs.Orders.{Asked}
use Rattle.job_status.specs.declared.status.ArrayFault.TheVariants as of
use Rattle.job_status.specs.declared.status.Status.{Status}
use Rattle.job_status.specs.declared.status.Status.TheVariants as is
use Rattle.sodac_cli.specs.Correct.{Runs}
use Rattle.sodac_cli.specs.Due.{MayAsk, accepted, asks_params, bad_params}
use Rattle.sodac_cli.specs.Journal.{ReadsFew, in_order}
use Rattle.sodac_cli.specs.Machine.Steps.{HasAsked, IsJudged, IsRead, IsSettled}
use Rattle.sodac_cli.specs.Machine.Text.{HasLines, unread_lines}
use Rattle.sodac_cli.specs.Work.{HasParamsBy, RefusesParams, RefusesParamsBy, if_given, params_file, program_file, text_count, texts_of}
use Rattle.sodac_cli.proofs.Begun.{due_with, leaves_asked, leaves_stuck, runs_due, runs_fault, runs_memory}
use Rattle.sodac_cli.proofs.Few.{few_params}
use Rattle.sodac_cli.proofs.Numbered.{texts_alone}
use Rattle.sodac_cli.proofs.Reading.{read_memory}

-- the texts of a job are asked for, and nothing more
module _ (first : ℕ) (begun : Store) (a : Asked) (p : PlainProgram) (judged : IsJudged begun.bytes a p) (given : ℕ) (now : Store) (keeps : KeepsBytes begun now) where
  none : created_of (texts_of a) ≡ []
  none =
      elim a.params as (λ o. created_of (program_file a ∷ map params_file (if_given o)) ≡ []) [ None ↦ refl | Some name ↦ refl ]

  pub may_texts : MayAsk begun.bytes a (texts_of a)
  may_texts = asks_params judged.arrays p judged.program judged.pass.none refl

  module _ (ended : ℕ) (places : ℕ → ℕ) (few : ReadsFew a places) where
    pub texts_memory : Progress first begun (texts_of a) ended places given now → Runs first begun (Some a) given now is.Memory
    texts_memory progress =
        runs_memory first begun a given now judged.built (leaves_asked first begun a given now keeps (texts_of a) ended places none progress) (texts_of a)
        may_texts ended places few progress

    -- the params are refused
    pub texts_refused : Progress first begun (texts_of a) ended places given now → 1 ≤ ended → (line : ℕ) → RefusesParams begun.bytes a p line
        → (line ≢ 0 → text_count a ≤ ended) → Runs first begun (Some a) given now (is.Array (of.Params line))
    texts_refused progress some line refuses all =
        let ends : Status = is.Array (of.Params line) in
        runs_due first begun a given now judged.built (leaves_asked first begun a given now keeps (texts_of a) ended places none progress) (texts_of a) ends refl
        (accepted p judged.program (due_with begun.bytes a p (texts_of a) ends judged.pass.none judged.arrays (bad_params line refuses refl refl)))
        (record {
          ended = ended;
          places = places;
          went = in_order progress (λ e. absurd (cc));
          few = few;
          program = λ ne. omega (arith, some);
          texts = λ ne also more.
              let other : line ≢ 0 = λ e. also (ap (λ (l : ℕ). is.Array (of.Params l)) e) in
              omega (arith, all other, texts_alone a);
        })
        (λ e. absurd (cc)) (λ k f e. absurd (cc))

-- no params file is given
module _ (first : ℕ) (begun : Store) (a : Asked) (p : PlainProgram) (ungiven : a.params ≡ None) (judged : IsJudged begun.bytes a p) (given : ℕ) (now : Store)
    (w : IsRead first begun a p given now) where
  asked : HasAsked first begun a p given now (texts_of a) (text_count a)
  asked =
      let P : Option (List ℕ) → Type 0 = λ o. HasAsked first begun a p given now (program_file a ∷ map params_file (if_given o)) (1 + length (if_given o)) in
      subst P (sym ungiven) w.asked

  pub none_settled : (values : List ℤ) → p.params ≡ [] → values ≡ [] → IsSettled first begun a p given now values
  none_settled values no_params no_values = record {
    judged = judged;
    params = let P : Option (List ℕ) → Type 0 = λ o. HasParamsBy o begun.bytes p values in subst P (sym ungiven) (no_params, no_values);
    asked = asked;
    keeps = w.keeps;
  }

  pub some_refused : p.params ≢ [] → (s : Status) → s ≡ is.Array (of.Params 0) → Runs first begun (Some a) given now s
  some_refused some s same =
      let P : Option (List ℕ) → Type 0 = λ o. RefusesParamsBy o begun.bytes p 0 in
      let Q : Status → Type 0 = λ x. Runs first begun (Some a) given now x in
      subst Q (sym same) (texts_refused first begun a p judged given now w.keeps (text_count a) asked.places asked.few asked.progress (omega arith) 0
      (subst P (sym ungiven) (some, refl)) (λ ne. absurd (ne refl)))

  pub none_memory : Runs first begun (Some a) given now is.Memory
  none_memory = texts_memory first begun a p judged given now w.keeps (text_count a) asked.places asked.few asked.progress

-- a params file is
module _ (first : ℕ) (begun : Store) (a : Asked) (p : PlainProgram) (name : List ℕ) (named : a.params ≡ Some name) (judged : IsJudged begun.bytes a p)
    (before : ℕ) (old : Store) (w : IsRead first begun a p before old) where
  abbrev pub both : List JobFile
  both = program_file a ∷ params_file name ∷ []

  files_are : both ≡ texts_of a
  files_are = ap (λ (o : Option (List ℕ)). program_file a ∷ map params_file (if_given o)) (sym named)

  two : 2 ≡ text_count a
  two = ap (λ (o : Option (List ℕ)). 1 + length (if_given o)) (sym named)

  may : MayAsk begun.bytes a both
  may = asks_params judged.arrays p judged.program judged.pass.none files_are

  -- it wasn't opened
  module _ (given : ℕ) (now : Store) (kept : KeepsBytes old now) where
    keeps : KeepsBytes begun now
    keeps n = kept n ∙ w.keeps n

    abbrev Asks : IoErr → Type 0
    Asks e = AsksNext first begun (program_file a ∷ []) 1 w.asked.places given now (params_file name) (Err e)

    pub unopened_fault : (e : IoErr) → Asks e → e ≡ io.Failed → Runs first begun (Some a) given now (is.FileFault Params)
    unopened_fault e asks same =
        let s : Stuck first begun both 1 1 w.asked.places given now = let P : IoErr → Type 0 = λ x. Asks x in subst P same asks in
        runs_fault first begun a given now judged.built (leaves_stuck first begun a given now keeps both 1 w.asked.places refl 1 s) both may 1 w.asked.places
        w.asked.few Params 1 refl s

    pub unopened_memory : (e : IoErr) → Asks e → e ≡ io.Memory → Runs first begun (Some a) given now is.Memory
    unopened_memory e asks same =
        let progress : Progress first begun (program_file a ∷ []) 1 w.asked.places given now = let P : IoErr → Type 0 = λ x. Asks x in subst P same asks in
        read_memory first begun a given now judged.built keeps w.asked.places w.asked.few progress

  -- it was
  module _ (mid_given : ℕ) (mid : Store) (id : ℕ) (asks : AsksNext first begun (program_file a ∷ []) 1 w.asked.places mid_given mid (params_file name) (Ok id))
      (opening_keeps : KeepsBytes old mid) (is_there : IsThere old.bytes name) where
    lines_left : begun.bytes name ≡ Some (left mid id)
    lines_left =
        let unread : w.asked.places 1 ≡ 0 = w.asked.progress.well.unasked 1 (omega arith) in
        let held : begun.bytes name ≡ Some is_there.0 = sym (w.keeps name) ∙ is_there.1 in
        let whole : left mid id ≡ is_there.0 = ap (λ (k : ℕ). left mid k) asks.0
        ∙ whole_left first begun both 1 w.asked.places mid_given mid asks.1 1 (params_file name) refl unread
        ∙ ap (λ (bytes : Option (List ℕ)). unwrap_or bytes []) (opening_keeps name ∙ is_there.1) in
        held ∙ ap (λ (bytes : List ℕ). Some bytes) (sym whole)

    -- and was read, or that failed
    module _ (given : ℕ) (now : Store) (reading_keeps : KeepsBytes mid now) where
      abbrev Reads : Result (Vec ℕ Global) ReadFail → Type 0
      Reads r = ReadsNext first begun both 1 w.asked.places given now most_params r

      keeps_now : KeepsBytes begun now
      keeps_now n = reading_keeps n ∙ (opening_keeps n ∙ w.keeps n)

      -- how far the texts are read
      all_asked : (ended : ℕ) (places : ℕ → ℕ) → Progress first begun both ended places given now → Progress first begun (texts_of a) ended places given now
      all_asked ended places progress = let P : List JobFile → Type 0 = λ fs. Progress first begun fs ended places given now in subst P files_are progress

      pub lines_read : (v : Vec ℕ Global) → Reads (Ok v) → v.items ≡ left mid id → length v.items ≤ most_params → HasLines first begun a p given now name v.items
      lines_read v m whole short =
          let unread : w.asked.places 1 ≡ 0 = w.asked.progress.well.unasked 1 (omega arith) in
          let P : ℕ → Type 0 = λ n. Progress first begun (texts_of a) n m.0 given now in
          record {
            judged = judged;
            named = named;
            there = lines_left ∙ ap (λ (bytes : List ℕ). Some bytes) (sym whole);
            asked = record {
              places = m.0;
              few = few_params a w.asked.places m.0 w.asked.few two (w.asked.places 1 + length v.items) m.1 (omega (arith, unread, short));
              progress = subst P two (all_asked 2 m.0 m.2);
            };
            keeps = keeps_now;
          }

      pub lines_end : (e : ReadFail) → Reads (Err e) → (e ≡ read.TooLong → most_params < length (left mid id)) → Runs first begun (Some a) given now (unread_lines e)
      lines_end read.TooLong m long =
          let unread : w.asked.places 1 ≡ 0 = w.asked.progress.well.unasked 1 (omega arith) in
          let P : Option (List ℕ) → Type 0 = λ o. RefusesParamsBy o begun.bytes p 0 in
          texts_refused first begun a p judged given now keeps_now 1 m.0
          (few_params a w.asked.places m.0 w.asked.few two (w.asked.places 1 + (most_params + 1)) m.1 (omega (arith, unread))) (all_asked 1 m.0 m.2) (omega arith) 0
          (subst P (sym named) (left mid id, lines_left, too_long (long refl))) (λ ne. absurd (ne refl))
      lines_end read.Failed m long =
          let unread : w.asked.places 1 ≡ 0 = w.asked.progress.well.unasked 1 (omega arith) in
          runs_fault first begun a given now judged.built (leaves_stuck first begun a given now keeps_now both 1 m.0 refl 1 m.4) both may 1 m.0
          (few_params a w.asked.places m.0 w.asked.few two m.1 m.3 (omega (arith, unread, m.2))) Params 1 refl m.4
      lines_end read.Memory m long =
          let unread : w.asked.places 1 ≡ 0 = w.asked.progress.well.unasked 1 (omega arith) in
          texts_memory first begun a p judged given now keeps_now 1 m.0 (few_params a w.asked.places m.0 w.asked.few two m.1 m.3 (omega (arith, unread, m.2)))
          (all_asked 1 m.0 m.4)

-- what the call that opens the params file did, and the one that reads it, for every job
module _ (name : List ℕ) (before : ℕ) (old : Store) (mid_given : ℕ) (mid : Store) (id : ℕ)
    (opens : (first : ℕ) (begun : Store) (asked : List JobFile) (ended : ℕ) (places : ℕ → ℕ) (f : JobFile) → asking f ≡ (true, name)
    → Progress first begun asked ended places before old → AsksNext first begun asked ended places mid_given mid f (Ok id))
    (opening_keeps : KeepsBytes old mid) (is_there : IsThere old.bytes name) (given : ℕ) (now : Store) (reading_keeps : KeepsBytes mid now)
    (r : Result (Vec ℕ Global) ReadFail)
    (reads : (first : ℕ) (begun : Store) (asked : List JobFile) (ended : ℕ) (places : ℕ → ℕ) → id ≡ first + ended → ended < length asked
    → Progress first begun asked ended places mid_given mid → ReadsNext first begun asked ended places given now most_params r) where
  module _ (first : ℕ) (begun : Store) (a : Asked) (p : PlainProgram) (w : IsRead first begun a p before old) where
    opened : AsksNext first begun (program_file a ∷ []) 1 w.asked.places mid_given mid (params_file name) (Ok id)
    opened = opens first begun (program_file a ∷ []) 1 w.asked.places (params_file name) refl w.asked.progress

    step : ReadsNext first begun (program_file a ∷ params_file name ∷ []) 1 w.asked.places given now most_params r
    step = reads first begun (program_file a ∷ params_file name ∷ []) 1 w.asked.places opened.0 (omega arith) opened.1

  pub lines_goes : IfOk r (λ v. v.items ≡ left mid id) → IfOk r (λ v. length v.items ≤ most_params)
      → IfOk r (λ v. (first : ℕ) (begun : Store) (a : Asked) (p : PlainProgram) → a.params ≡ Some name → IsJudged begun.bytes a p
      → IsRead first begun a p before old → HasLines first begun a p given now name v.items)
  lines_goes = elim r as (λ x. ((first : ℕ) (begun : Store) (a : Asked) (p : PlainProgram) (w : IsRead first begun a p before old)
      → ReadsNext first begun (program_file a ∷ params_file name ∷ []) 1 w.asked.places given now most_params x)
      → IfOk x (λ v. v.items ≡ left mid id) → IfOk x (λ v. length v.items ≤ most_params)
      → IfOk x (λ v. (first : ℕ) (begun : Store) (a : Asked) (p : PlainProgram) → a.params ≡ Some name → IsJudged begun.bytes a p
      → IsRead first begun a p before old → HasLines first begun a p given now name v.items)) [
        | Ok v ↦ λ steps whole short first begun a p named judged w.
            lines_read first begun a p name named judged before old w mid_given mid id (opened first begun a p w) opening_keeps is_there given now reading_keeps v
            (steps first begun a p w) whole short
        | Err e ↦ λ steps whole short. tt
      ] step

  pub lines_ends : (r ≡ Err read.TooLong → most_params < length (left mid id))
      → IfErr r (λ e. (first : ℕ) (begun : Store) (a : Asked) (p : PlainProgram) → a.params ≡ Some name → IsJudged begun.bytes a p
      → IsRead first begun a p before old → Runs first begun (Some a) given now (unread_lines e))
  lines_ends = elim r as (λ x. ((first : ℕ) (begun : Store) (a : Asked) (p : PlainProgram) (w : IsRead first begun a p before old)
      → ReadsNext first begun (program_file a ∷ params_file name ∷ []) 1 w.asked.places given now most_params x)
      → (x ≡ Err read.TooLong → most_params < length (left mid id))
      → IfErr x (λ e. (first : ℕ) (begun : Store) (a : Asked) (p : PlainProgram) → a.params ≡ Some name → IsJudged begun.bytes a p
      → IsRead first begun a p before old → Runs first begun (Some a) given now (unread_lines e))) [
        | Ok v ↦ λ steps long. tt
        | Err e ↦ λ steps long first begun a p named judged w.
            lines_end first begun a p name named judged before old w mid_given mid id (opened first begun a p w) opening_keeps is_there given now reading_keeps e
            (steps first begun a p w) (λ same. long (ap (λ (f : ReadFail). Err f) same))
      ] step

-- what the lines of the params file come to
module _ (first : ℕ) (begun : Store) (a : Asked) (p : PlainProgram) (given : ℕ) (now : Store) (name text : List ℕ) (w : HasLines first begun a p given now name text)
    (bytes : List ℕ) (same : bytes ≡ text) where
  there : begun.bytes name ≡ Some bytes
  there = w.there ∙ ap (λ (xs : List ℕ). Some xs) (sym same)

  pub lines_settled : (values : List ℤ) → GivesParams p.params bytes values → IsSettled first begun a p given now values
  lines_settled values gives = record {
    judged = w.judged;
    params = let P : Option (List ℕ) → Type 0 = λ o. HasParamsBy o begun.bytes p values in subst P (sym w.named) (bytes, there, gives);
    asked = w.asked;
    keeps = w.keeps;
  }

  pub lines_refused : (line : ℕ) → RefusesLine p.params bytes line → Runs first begun (Some a) given now (is.Array (of.Params line))
  lines_refused line refuses =
      let P : Option (List ℕ) → Type 0 = λ o. RefusesParamsBy o begun.bytes p line in
      texts_refused first begun a p w.judged given now w.keeps (text_count a) w.asked.places w.asked.few w.asked.progress (omega arith) line
      (subst P (sym w.named) (bytes, there, refuses)) (λ ne. omega arith)

  pub lines_memory : Runs first begun (Some a) given now is.Memory
  lines_memory = texts_memory first begun a p w.judged given now w.keeps (text_count a) w.asked.places w.asked.few w.asked.progress
