-- Want of memory in the place of a status.
use Rattle.std.proofs.Common.{◌≡◌, ◌⊎◌, ℕ, Bool, true, false, List, [], ◌++◌, length, Option, Some, None, refl, sym, ap, subst, ◌∙◌, arith, append-nil, inl, inr}
use Rattle.std.proofs.lemmas.List.{take_all}
use Rattle.soda_io.specs.Store.{Store}
use Rattle.soda_ir.specs.Program.{PlainProgram}
use Rattle.job_files.specs.Contents.{Holding}
use Rattle.job_files.specs.Files.{JobFile}
use Rattle.command_words.specs.Orders.{Asked}
use Rattle.job_status.specs.declared.status.Status.{Status}
use Rattle.job_status.specs.declared.status.Status.TheVariants as is
use Rattle.sodac_cli.specs.Correct.{Runs}
use Rattle.sodac_cli.specs.Due.{DueAfter, DueBy, DueFor, DueIf, DueOf, DueStreamed, DueWith, MayAsk, MayAskFor, MayAskIf, MayRun, RefusalOf, accepted, asks_all_texts, asks_arrays, asks_first_texts, asks_module, asks_params, asks_program, asks_streams, bad_params, good_params, refused, run, wrong_params, wrong_stalls}
use Rattle.job_status.specs.Endings.{Ending, due, ending_of, file_fault, memory, out_fault}
use Rattle.sodac_cli.specs.Journal.{AsksBy, AsksForRun, AsksSome, AsksUntilDue, Went, in_order, ran, texts_among}
use Rattle.sodac_cli.specs.Printed.{Prints, PrintsAll, PrintsBy, PrintsPrefix, PrintsUntilFault}
use Rattle.sodac_cli.specs.Simulated.{traced}
use Rattle.job_status.specs.declared.status.ArrayFault.TheVariants as of
use Rattle.sodac_cli.specs.Work.{HasProgram, Product, array_files, is_built, makes, module_file, no_files, streamed_files}

-- what holds of the own status and for want of memory holds of what is answered
pub of_answer : (P : Status → Type 0) {Same : Type 0} (own answer : Status) → (answer ≡ own) ⊎ ((answer ≡ is.Memory) × Same) → P own → P is.Memory
    → P answer
of_answer P own answer (inl same) at_own at_memory = subst P (sym same) at_own
of_answer P own answer (inr other) at_own at_memory = subst P (sym other.0) at_memory

-- files that are asked for until a status is due may be asked for before want of memory
module _ (h : Holding) (a : Asked) (files : List JobFile) (s : Status) where
  module _ (p : PlainProgram) (has : HasProgram h a p) where
    may_with : RefusalOf a p None → makes a.mode ≡ array_files → DueWith h a p files s → MayAsk h a files
    may_with none writes (bad_params line refuses all ends) = asks_params writes p has none all
    may_with none writes (good_params values given all over) = asks_arrays writes p has none values given [] (sym all ∙ sym (append-nil files))

    may_streamed : RefusalOf a p None → makes a.mode ≡ streamed_files → DueStreamed h a p files s → MayAsk h a files
    may_streamed none writes (wrong_params line refuses all ends) = asks_first_texts writes p has none all
    may_streamed none writes (wrong_stalls values given line refuses all ends) = asks_all_texts writes p has none values given all
    may_streamed none writes (run delays values stalls ready all comes) =
        asks_streams writes p has none values ready.params stalls ready.listed [] (sym all ∙ sym (append-nil files))

    may_by : RefusalOf a p None → (m : Product) → makes a.mode ≡ m → DueBy m h a p files s → MayAsk h a files
    may_by none no_files writes d = asks_program d.0
    may_by none array_files writes d = may_with none writes d
    may_by none module_file writes d = asks_module writes p has none d.0
    may_by none streamed_files writes d = may_streamed none writes d

    may_after : (o : Option Status) → RefusalOf a p o → DueAfter o h a p files s → MayAsk h a files
    may_after None none d = may_by none (makes a.mode) refl d
    may_after (Some r) some d = asks_program d.0

  may_of : DueOf h a files s → MayAsk h a files
  may_of (refused text r there refuses all ends) = asks_program all
  may_of (accepted p has d) = may_after p has d.0 d.1 d.2

  may_if : (b : Bool) → DueIf b h a files s → MayAskIf b h a files
  may_if true d = may_of d
  may_if false d = d.0

may_for : (h : Holding) (asked : Option Asked) (files : List JobFile) (s : Status) → DueFor h asked files s → MayAskFor h asked files
may_for h None files s d = d.0
may_for h (Some a) files s d = may_if h a files s (is_built a) d

-- what was asked of the files
module _ (first : ℕ) (begun : Store) (asked : Option Asked) (given : ℕ) (now : Store) where
  went_some : (s : Status) (files : List JobFile) (ended : ℕ) (places : ℕ → ℕ) → Went first begun asked given now s files ended places
      → Went first begun asked given now is.Memory files ended places
  went_some s files ended places (in_order p all) = in_order p (λ e. absurd (cc))
  went_some s files ended places (ran entries r all none met) = ran entries r all none (λ e. absurd (cc))

  may_run : (a : Asked) → asked ≡ Some a → is_built a ≡ true → (files : List JobFile) → MayRun begun.bytes a files → MayAskFor begun.bytes asked files
  may_run a same built files m =
      let P : Option Asked → Type 0 = λ o. MayAskFor begun.bytes o files in
      let Q : Bool → Type 0 = λ b. MayAskIf b begun.bytes a files in
      subst P (sym same) (subst Q (sym built) (asks_streams m.streams m.plain m.program m.pass m.values m.ready.params m.stalls m.ready.listed []
      (sym m.all ∙ sym (append-nil files))))

  run_asked : AsksForRun first begun asked given now → AsksSome first begun asked given now
  run_asked j = record {
    made = j.files;
    may = may_run j.runs.a j.runs.is j.runs.built j.files j.runs.may;
    ended = texts_among j.files;
    places = j.places;
    went = ran j.entries j.runs refl j.none_failed (λ e. absurd (cc));
    few = j.few;
  }

  some_asked : (s : Status) → AsksUntilDue first begun asked given now s → AsksSome first begun asked given now
  some_asked s j = record {
    made = j.files;
    may = may_for begun.bytes asked j.files s j.due;
    ended = j.asks.ended;
    places = j.asks.places;
    went = went_some s j.files j.asks.ended j.asks.places j.asks.went;
    few = j.asks.few;
  }

  memory_asked : (e : Ending) (s : Status) → AsksBy first begun asked given now e s → AsksBy first begun asked given now memory is.Memory
  memory_asked due s j = inl (some_asked s j)
  memory_asked (file_fault role) s j = inr (role, j)
  memory_asked out_fault s (inl j) = inl (some_asked is.Ok j)
  memory_asked out_fault s (inr j) = inl (run_asked j)
  memory_asked memory s j = j

  pub memory_runs : (s : Status) → Runs first begun asked given now s → Runs first begun asked given now is.Memory
  memory_runs s r = record { journal = memory_asked (ending_of s) s r.journal; files = r.files; delivered = λ e. absurd (cc); whole = λ e. absurd (cc); at_end = λ k f e. absurd (cc) }

-- what was printed
module _ (h : Holding) (a : Asked) (old new : List ℕ) where
  all_printed : PrintsAll h a old new → (new ≡ old) ⊎ (PrintsPrefix h a old new)
  all_printed t =
      let count = length t.lines in
      inr (record {
        plain = t.plain;
        program = t.program;
        lines = t.lines;
        are = inl t.are;
        count = count;
        some = t.all ∙ ap (λ (xs : List ℕ). old ++ xs) (sym (take_all count t.lines (omega arith)));
      })

  until_fault : (s : Status) → PrintsUntilFault h a old new s → PrintsPrefix h a old new
  until_fault s t =
      let lines = traced a t.plain t.delays t.stalls t.count in
      record {
        plain = t.plain;
        program = t.program;
        lines = lines;
        are = inr (
          t.streams,
          record {
            count = t.count;
            runs = record { delays = t.delays; values = t.values; stalls = t.stalls; ready = t.ready; cycles = t.going };
            lines_are = refl;
          },
        );
        count = length lines;
        some = t.lines ∙ ap (λ (xs : List ℕ). old ++ xs) (sym (take_all (length lines) lines (omega arith)));
      }

  memory_by : (s : Status) → PrintsBy (ending_of s) h a old new s → (new ≡ old) ⊎ (PrintsPrefix h a old new)
  memory_by is.Ok t = all_printed t
  memory_by is.Usage t = inl t
  memory_by (is.Program r) t = inl t
  memory_by (is.Array (of.Cell k f)) (inl t) = inl t.1
  memory_by (is.Array (of.Cell k f)) (inr t) = inr (until_fault (is.Array (of.Cell k f)) t)
  memory_by (is.Array (of.Params line)) t = inl t
  memory_by (is.Array (of.Stall line)) t = inl t
  memory_by (is.FileFault role) (inl t) = inl t
  memory_by (is.FileFault role) (inr t) = inr t.1
  memory_by is.OutFault t = inr t.1
  memory_by is.Memory t = t
  memory_by is.NotYetBuilt t = inl t

pub memory_prints : (h : Holding) (asked : Option Asked) (old new : List ℕ) (s : Status) → Prints h asked old new s → Prints h asked old new is.Memory
memory_prints h None old new s t = t
memory_prints h (Some a) old new s t = memory_by h a old new s t
