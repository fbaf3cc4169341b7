-- A job that writes a module text, behind the judging of its program.
use Rattle.std.proofs.Common.{◌≡◌, ℕ, ◌+◌, false, List, [], ◌∷◌, ◌++◌, length, take, Option, Some, None, option_map, Result, Ok, Err, refl, sym, ap, subst, ◌∙◌, arith, inl, inr, take_all}
use Rattle.std.proofs.lemmas.List.Elements.{All-head}
use Rattle.soda_io.specs.declared.call.FileCall.{FileCall}
use Rattle.soda_io.specs.declared.error.IoErr.{IoErr}
use Rattle.soda_io.specs.declared.error.IoErr.TheVariants as io
use Rattle.soda_io.specs.declared.role.FileRole.TheVariants.{Modules}
use Rattle.soda_io.specs.Store.{KeepsBytes, Store}
use Rattle.soda_ir.specs.Program.{PlainProgram}
use Rattle.soda_ir.specs.declared.limit.LimitKind.{LimitKind}
use Rattle.soda_parse.specs.declared.refusal.Refusal.TheVariants.{Limit}
use Rattle.job_files.specs.Contents.{Holding, Holds, PutsTo, emptied}
use Rattle.job_files.specs.Files.{JobFile, asking}
use Rattle.job_files.specs.Progress.{Progress, Stuck, created}
use Rattle.job_files.specs.Steps.{AsksNext, WritesTo}
use Rattle.job_files.proofs.CallerLemmas.{created_names, created_until, holds_kept, holds_none, id_name, id_opened}
use Rattle.command_words.specs.declared.mode.Mode.{Mode}
use Rattle.command_words.specs.declared.mode.Mode.TheVariants.{Compile}
use Rattle.command_words.specs.Orders.{Asked}
use Rattle.job_status.specs.declared.status.Status.{Status}
use Rattle.job_status.specs.declared.status.Status.TheVariants as is
use Rattle.sodac_cli.specs.Allowed.{AllowsCompile}
use Rattle.sodac_cli.specs.Correct.{Runs}
use Rattle.job_status.specs.Counts.{OutFaults}
use Rattle.sodac_cli.specs.Due.{DueOf, FirstRefusal, MayAsk, RefusalAt, RefusalOf, accepted, asks_module, by_network, limit_status, stages_of}
use Rattle.sodac_cli.specs.Journal.{AsksAll, ReadsFew, in_order}
use Rattle.sodac_cli.specs.Machine.Modules.{IsDesigned, IsMade, IsOfModules, WritesModules}
use Rattle.sodac_cli.specs.Machine.Steps.{IsRead}
use Rattle.compile_job.specs.Modules.{IsModuleText, PassesLimit}
use Rattle.sodac_cli.specs.Outputs.{AreOutputs, Delivers, DeliversBeforeBy, DeliversBy, Leaves}
use Rattle.sodac_cli.specs.Printed.{Prints}
use Rattle.sodac_cli.specs.Work.{AreTexts, AreTextsBy, HasProgram, Product, makes, module_file, modules_file, program_file, target_of}
use Rattle.sodac_cli.proofs.Begun.{due_built, due_file, runs_due, runs_fault, runs_memory}
use Rattle.sodac_cli.proofs.Reading.{read_memory}
use Rattle.sodac_cli.proofs.Refused.{refused_runs}
use Rattle.sodac_cli.proofs.Silent.{prints_nothing}

-- the steps of the mode
module _ (a : Asked) (p : PlainProgram) (mode : a.mode ≡ Compile) where
  in_compile : (r : Option Status) → FirstRefusal (by_network ∷ []) a p r → RefusalOf a p r
  in_compile r x = let P : Mode → Type 0 = λ m. FirstRefusal (stages_of m) a p r in subst P (sym mode) x

  pub network_passes : RefusalAt by_network a p None → RefusalOf a p None
  network_passes x = in_compile None (None, x, refl)

  pub network_refuses : (s : Status) → RefusalAt by_network a p (Some s) → RefusalOf a p (Some s)
  network_refuses s x = in_compile (Some s) (Some s, x, refl)

-- the files of such a job
abbrev pub both : Asked → List JobFile
both a = program_file a ∷ modules_file a ∷ []

-- the file of the text, and what it holds
module _ (first : ℕ) (begun : Store) (a : Asked) (p : PlainProgram) (writes : WritesModules a) (program : HasProgram begun.bytes a p)
    (pass : RefusalOf a p None) (text : List ℕ) (is_text : IsModuleText p text) where
  makes_it : makes a.mode ≡ module_file
  makes_it = ap makes writes.mode

  pub may_both : MayAsk begun.bytes a (both a)
  may_both = asks_module makes_it p program pass refl

  texts : AreTexts begun.bytes a p (text ∷ [])
  texts = let P : Product → Type 0 = λ m. AreTextsBy m begun.bytes a p (text ∷ []) in subst P (sym makes_it) (text, is_text, refl)

  -- a prefix of the text
  are_made : (n : ℕ) (held : List ℕ) → held ≡ take n text → AreOutputs begun.bytes (Some a) ((target_of a, held) ∷ [])
  are_made n held same = inr (record { plain = p; program = program; prefixes = inr (inl (text ∷ [], texts, ((n, same), tt))) })

  module _ (given : ℕ) (now : Store) (n : ℕ) (held : List ℕ) (same : held ≡ take n text)
      (holds : Holds begun.bytes now.bytes ((target_of a, held) ∷ [])) where
    leaves_made : ((entries : List FileCall) → now.calls ≡ begun.calls ++ entries → created entries ≡ target_of a ∷ []) → Leaves begun now (Some a)
    leaves_made made = record { outputs = (target_of a, held) ∷ []; holds = holds; made = made; are = are_made n held same }

    module _ (places : ℕ → ℕ) (few : ReadsFew a places) where
      pub write_fault : Stuck first begun (both a) 1 1 places given now → given ≡ first + 2 → Runs first begun (Some a) given now (is.FileFault Modules)
      write_fault s count =
          let leaves = leaves_made (λ entries calls. created_until first begun (both a) 1 1 places given now s entries calls 2 count) in
          runs_fault first begun a given now writes.built leaves (both a) may_both 1 places few Modules 1 refl s

      module _ (progress : Progress first begun (both a) 1 places given now) where
        leaves : Leaves begun now (Some a)
        leaves = leaves_made (created_names first begun (both a) 1 places given now progress)

        pub write_memory : Runs first begun (Some a) given now is.Memory
        write_memory = runs_memory first begun a given now writes.built leaves (both a) may_both 1 places few progress

        -- all of it was written
        module _ (whole : held ≡ text) where
          is_done : DueOf begun.bytes a (both a) is.Ok
          is_done = accepted p program (due_file begun.bytes a p (both a) is.Ok pass makes_it refl refl)

          asks : (status : Status) → AsksAll first begun (Some a) given now status (both a)
          asks status = record { ended = 1; places = places; went = in_order progress (λ e. refl); few = few; program = λ ne. omega arith; texts = λ ne also more. omega arith }

          delivered : Delivers begun.bytes now.bytes (Some a)
          delivered =
              let P : Product → Type 0 = λ m. DeliversBy m begun.bytes now.bytes a in
              let own : now.bytes (target_of a) ≡ Some held = All-head (λ (o : List ℕ × List ℕ). now.bytes o.0 ≡ Some o.1) (target_of a, held) [] holds.own in
              subst P (sym makes_it)
              (record { plain = p; program = program; text = text; are = is_text; holds = own ∙ ap (λ (bytes : List ℕ). Some bytes) whole })

          pub compiled : Runs first begun (Some a) given now is.Ok
          compiled = runs_due first begun a given now writes.built leaves (both a) is.Ok refl is_done (asks is.Ok) (λ e. delivered) (λ k f e. absurd (cc))

          pub unprinted : Runs first begun (Some a) given now is.OutFault
          unprinted = record {
            journal = inl (record { files = both a; due = due_built begun.bytes a writes.built (both a) is.Ok is_done; asks = asks is.Ok });
            files = leaves;
            delivered = λ e. absurd (cc);
            whole = λ e.
                let Q : Product → Type 0 = λ x. DeliversBeforeBy x begun.bytes now.bytes a in
                let R : Product → Type 0 = λ x. DeliversBy x begun.bytes now.bytes a in
                let own : DeliversBy module_file begun.bytes now.bytes a = subst R makes_it delivered in
                subst Q (sym makes_it) own;
            at_end = λ k f e. absurd (cc);
          }

-- a file that is to be created
module _ (first : ℕ) (begun : Store) (a : Asked) (p : PlainProgram) (before : ℕ) (old : Store) (d : IsDesigned first begun a p before old)
    (text : List ℕ) (is_text : IsModuleText p text) where
  pub none_yet : Holds begun.bytes old.bytes []
  none_yet = holds_kept begun.bytes begun.bytes old.bytes [] d.keeps (holds_none begun.bytes)

  module _ (given : ℕ) (now : Store) (kept : KeepsBytes old now) where
    pub designed_memory : Progress first begun (program_file a ∷ []) 1 d.asked.places given now → Runs first begun (Some a) given now is.Memory
    designed_memory progress = read_memory first begun a given now d.writes.built (λ n. kept n ∙ d.keeps n) d.asked.places d.asked.few progress

    -- the call that creates it failed
    module _ (e : IoErr) (asks : AsksNext first begun (program_file a ∷ []) 1 d.asked.places given now (modules_file a) (Err e)) where
      pub create_memory : e ≡ io.Memory → Runs first begun (Some a) given now is.Memory
      create_memory same =
          let P : IoErr → Type 0 = λ x. AsksNext first begun (program_file a ∷ []) 1 d.asked.places given now (modules_file a) (Err x) in
          designed_memory (subst P same asks)

      pub create_fault : e ≡ io.Failed → given ≡ before → Runs first begun (Some a) given now (is.FileFault Modules)
      create_fault same ids =
          let P : IoErr → Type 0 = λ x. AsksNext first begun (program_file a ∷ []) 1 d.asked.places given now (modules_file a) (Err x) in
          let s : Stuck first begun (both a) 1 1 d.asked.places given now = subst P same asks in
          let leaves : Leaves begun now (Some a) = record {
            outputs = [];
            holds = holds_kept begun.bytes begun.bytes now.bytes [] (λ n. kept n ∙ d.keeps n) (holds_none begun.bytes);
            made = λ entries calls. created_until first begun (both a) 1 1 d.asked.places given now s entries calls 1 (ids ∙ d.asked.progress.well.count);
            are = inl refl;
          } in
          runs_fault first begun a given now d.writes.built leaves (both a) (may_both first begun a p d.writes d.program d.pass text is_text) 1 d.asked.places d.asked.few
          Modules 1 refl s

-- a file that was created is one to be written to
pub made_opened : (first : ℕ) (begun : Store) (name : List ℕ) (given : ℕ) (mid : Store) (id : ℕ)
    → ((f : JobFile) → asking f ≡ (false, name) → AsksNext first begun [] 0 (λ n. 0) given mid f (Ok id)) → mid.opened id ≡ false
made_opened first begun name given mid id creates =
    let file : JobFile = record { role = Modules; opened = false; name = name } in
    let w = creates file refl in
    ap (λ (k : ℕ). mid.opened k) w.0 ∙ id_opened first begun (file ∷ []) 0 (λ n. 0) given mid w.1 0 file refl

-- the file was created, and the text is written to it
module _ (first : ℕ) (begun : Store) (a : Asked) (p : PlainProgram) (before : ℕ) (old : Store) (d : IsDesigned first begun a p before old)
    (text : List ℕ) (is_text : IsModuleText p text) (name : List ℕ) (named : target_of a ≡ name) (id given : ℕ) (mid : Store)
    (asked : AsksNext first begun (program_file a ∷ []) 1 d.asked.places given mid (modules_file a) (Ok id))
    (empty : Holds begun.bytes mid.bytes (emptied name ∷ [])) where
  pub file_named : mid.name id ≡ target_of a
  file_named = ap (λ (k : ℕ). mid.name k) asked.0 ∙ id_name first begun (both a) 1 d.asked.places given mid asked.1 1 (modules_file a) refl

  pub file_empty : Holds begun.bytes mid.bytes ((target_of a, []) ∷ [])
  file_empty = let P : List ℕ → Type 0 = λ n. Holds begun.bytes mid.bytes (emptied n ∷ []) in subst P (sym named) empty

  module _ (after : ℕ) (now : Store) (ids : after ≡ given) (result : Result (Unit {0}) IoErr)
      (puts : PutsTo begun.bytes now.bytes [] (target_of a) [] [] text result) where
    pub text_fault : (e : IoErr) → e ≡ io.Failed → WritesTo first begun (both a) 1 d.asked.places after now 1 (Err e)
        → Runs first begun (Some a) after now (is.FileFault Modules)
    text_fault e same x =
        let P : IoErr → Type 0 = λ y. WritesTo first begun (both a) 1 d.asked.places after now 1 (Err y) in
        write_fault first begun a p d.writes d.program d.pass text is_text after now puts.puts.count puts.now puts.puts.put puts.holds
        d.asked.places d.asked.few (subst P same x) (ids ∙ asked.1.well.count)

    pub text_memory : (e : IoErr) → e ≡ io.Memory → WritesTo first begun (both a) 1 d.asked.places after now 1 (Err e)
        → Runs first begun (Some a) after now is.Memory
    text_memory e same x =
        let P : IoErr → Type 0 = λ y. WritesTo first begun (both a) 1 d.asked.places after now 1 (Err y) in
        write_memory first begun a p d.writes d.program d.pass text is_text after now puts.puts.count puts.now puts.puts.put puts.holds
        d.asked.places d.asked.few (subst P same x)

    pub text_made : puts.puts.count ≡ length text → Progress first begun (both a) 1 d.asked.places after now → IsMade first begun a p after now text
    text_made all progress =
        let P : List ℕ → Type 0 = λ bytes. Holds begun.bytes now.bytes ((target_of a, bytes) ∷ []) in
        let whole : puts.now ≡ text = puts.puts.put ∙ take_all puts.puts.count text (omega (arith, all)) in
        record {
          writes = d.writes;
          program = d.program;
          pass = d.pass;
          asked = record { places = d.asked.places; few = d.asked.few; progress = progress };
          holds = subst P whole puts.holds;
        }

-- the text is written, and the lines are to be printed
module _ (first : ℕ) (begun : Store) (a : Asked) (p : PlainProgram) (given : ℕ) (now : Store) (text : List ℕ) (is_text : IsModuleText p text)
    (m : IsMade first begun a p given now text) where
  all_of_it : text ≡ take (length text) text
  all_of_it = sym (take_all (length text) text (omega arith))

  pub made_done : Runs first begun (Some a) given now is.Ok
  made_done = compiled first begun a p m.writes m.program m.pass text is_text given now (length text) text all_of_it m.holds
      m.asked.places m.asked.few m.asked.progress refl

  pub made_unprinted : Runs first begun (Some a) given now is.OutFault
  made_unprinted = unprinted first begun a p m.writes m.program m.pass text is_text given now (length text) text all_of_it m.holds
      m.asked.places m.asked.few m.asked.progress refl

  pub made_memory : Runs first begun (Some a) given now is.Memory
  made_memory = write_memory first begun a p m.writes m.program m.pass text is_text given now (length text) text all_of_it m.holds
      m.asked.places m.asked.few m.asked.progress

-- what the step by the limits of networks answers
module _ (p : PlainProgram) (passed : Option (LimitKind × ℕ)) (x : PassesLimit p passed) where
  network_answers : (a : Asked) → RefusalAt by_network a p (option_map limit_status passed)
  network_answers a = (x.delays, x.plan, ap (λ (o : Option (LimitKind × ℕ)). option_map limit_status o) (sym x.passes))

-- a program whose network passes no limit
module _ (first : ℕ) (begun : Store) (a : Asked) (p : PlainProgram) (given : ℕ) (now : Store) (writes : WritesModules a)
    (w : IsRead first begun a p given now) where
  pub within_limits : PassesLimit p None → IsDesigned first begun a p given now
  within_limits x = record {
    writes = writes;
    program = w.program;
    pass = network_passes a p writes.mode (network_answers p None x a);
    asked = w.asked;
    keeps = w.keeps;
  }

  -- one that passes a limit
  pub beyond_limits : (kind : LimitKind) (n : ℕ) → PassesLimit p (Some (kind, n)) → Runs first begun (Some a) given now (is.Program (Limit kind n))
  beyond_limits kind n x =
      refused_runs a p (is.Program (Limit kind n)) (network_refuses a p writes.mode (is.Program (Limit kind n)) (network_answers p (Some (kind, n)) x a))
      first begun given now writes.built w

  -- memory is refused before the file is asked for
  pub uncompiled : Runs first begun (Some a) given now is.Memory
  uncompiled = read_memory first begun a given now writes.built w.keeps w.asked.places w.asked.few w.asked.progress

-- a fault of the file, or want of memory
pub modules_allowed : (s : Status) → IsOfModules s → AllowsCompile s
modules_allowed (is.FileFault role) t = inr t
modules_allowed is.Memory t = tt
modules_allowed s t = absurd t

pub modules_prints : (s : Status) → IsOfModules s → (h : Holding) (asked : Option Asked) (old : List ℕ) → Prints h asked old old s
modules_prints (is.FileFault role) t h asked old = prints_nothing h asked old (is.FileFault role) (λ e. absurd (cc)) (λ e. absurd (cc)) (λ k f e. absurd (cc))
modules_prints is.Memory t h asked old = prints_nothing h asked old is.Memory (λ e. absurd (cc)) (λ e. absurd (cc)) (λ k f e. absurd (cc))
modules_prints s t h asked old = absurd t

pub modules_out : (s : Status) → IsOfModules s → (n : ℕ) → OutFaults n n s
modules_out (is.FileFault role) t n = refl
modules_out is.Memory t n = tt
modules_out s t n = absurd t
