-- What ends the run of a job that is built.
use Rattle.std.proofs.Common.{◌≡◌, ◌≢◌, ℕ, zero, suc, Bool, true, false, List, [], ◌∷◌, ◌++◌, length, take, Some, None, if◌then◌else◌, refl, sym, ap, subst, ◌∙◌, inl}
use Rattle.soda_io.specs.declared.call.FileCall.{FileCall}
use Rattle.soda_io.specs.declared.role.FileRole.{FileRole}
use Rattle.soda_io.specs.Store.{KeepsBytes, Store}
use Rattle.soda_ir.specs.Program.{PlainProgram}
use Rattle.job_files.specs.Contents.{Holding}
use Rattle.job_files.specs.Files.{HasRole, JobFile, created_of}
use Rattle.job_files.specs.Progress.{Progress, Stuck, created}
use Rattle.job_files.proofs.CallerLemmas.{created_names, created_until, holds_kept, holds_none}
use Rattle.command_words.specs.Orders.{Asked}
use Rattle.job_status.specs.declared.status.Status.{Status}
use Rattle.job_status.specs.declared.status.Status.TheVariants as is
use Rattle.sodac_cli.specs.Correct.{Runs}
use Rattle.sodac_cli.specs.Due.{DueBehind, DueBy, DueFor, DueIf, DueOf, DueWith, MayAsk, MayAskFor, MayAskIf, RefusalOf}
use Rattle.job_status.specs.Endings.{Ending, due, ending_of, out_fault}
use Rattle.array_bytes.specs.declared.fault.CellFault.{CellFault}
use Rattle.job_status.specs.declared.status.ArrayFault.TheVariants as of
use Rattle.sodac_cli.specs.Journal.{AsksAll, AsksBy, ReadsFew, in_order, stuck}
use Rattle.sodac_cli.specs.Outputs.{Delivers, DeliversAtEnd, Leaves}
use Rattle.sodac_cli.specs.Work.{Product, array_files, is_built, makes, module_file, modules_file, no_files, program_file, streamed_files}

-- what is stated by whether a job is built, at one that is
module _ (h : Holding) (a : Asked) (built : is_built a ≡ true) where
  pub due_built : (files : List JobFile) (status : Status) → DueOf h a files status → DueFor h (Some a) files status
  due_built files status d = let P : Bool → Type 0 = λ b. DueIf b h a files status in subst P (sym built) d

  pub may_built : (made : List JobFile) → MayAsk h a made → MayAskFor h (Some a) made
  may_built made m = let P : Bool → Type 0 = λ b. MayAskIf b h a made in subst P (sym built) m

-- what is due of an accepted program, by whether a step refuses it and by what the mode writes
module _ (h : Holding) (a : Asked) (p : PlainProgram) (files : List JobFile) (status : Status) where
  behind : RefusalOf a p None → (m : Product) → makes a.mode ≡ m → DueBy m h a p files status → DueBehind h a p files status
  behind none m same d =
      let P : Product → Type 0 = λ b. DueBy b h a p files status in
      (None, none, subst P (sym same) d)

  pub due_with : RefusalOf a p None → makes a.mode ≡ array_files → DueWith h a p files status → DueBehind h a p files status
  due_with none writes d = behind none array_files writes d

  pub due_done : RefusalOf a p None → makes a.mode ≡ no_files → files ≡ program_file a ∷ [] → status ≡ is.Ok → DueBehind h a p files status
  due_done none writes all ok = behind none no_files writes (all, ok)

  pub due_file : RefusalOf a p None → makes a.mode ≡ module_file → files ≡ program_file a ∷ modules_file a ∷ [] → status ≡ is.Ok → DueBehind h a p files status
  due_file none writes all ok = behind none module_file writes (all, ok)

  pub due_refused : RefusalOf a p (Some status) → files ≡ program_file a ∷ [] → DueBehind h a p files status
  due_refused some all = (Some status, some, (all, refl))

-- where nothing is streamed, no fault at an input's end leaves outputs
pub not_streamed : (old new : Holding) (a : Asked) (m : Product) → makes a.mode ≡ m → m ≢ streamed_files → DeliversAtEnd old new (Some a)
not_streamed old new a m same other = λ streams. absurd (other (sym same ∙ streams))

-- where no file of a list is created, none of its first is
pub created_none : (files : List JobFile) → created_of files ≡ [] → (count : ℕ) → created_of (take count files) ≡ []
created_none [] none zero = refl
created_none [] none (suc n) = refl
created_none (f ∷ fs) none zero = refl
created_none (f ∷ fs) none (suc n) =
    elim f.opened as (λ b. (if b then created_of fs else f.name ∷ created_of fs) ≡ []
    → (if b then created_of (take n fs) else f.name ∷ created_of (take n fs)) ≡ []) [
      | true ↦ λ e. created_none fs e n
      | false ↦ λ e. absurd (cc)
    ] none

-- what a run leaves that created no file, and changed the bytes of no name
module _ (first : ℕ) (begun : Store) (a : Asked) (given : ℕ) (now : Store) (keeps : KeepsBytes begun now)
    (files : List JobFile) (ended : ℕ) (places : ℕ → ℕ) (none : created_of files ≡ []) where
  leaves_none : ((entries : List FileCall) → now.calls ≡ begun.calls ++ entries → created entries ≡ []) → Leaves begun now (Some a)
  leaves_none made = record {
    outputs = [];
    holds = holds_kept begun.bytes begun.bytes now.bytes [] keeps (holds_none begun.bytes);
    made = made;
    are = inl refl;
  }

  pub leaves_asked : Progress first begun files ended places given now → Leaves begun now (Some a)
  leaves_asked p = leaves_none (λ entries calls. created_names first begun files ended places given now p entries calls ∙ none)

  pub leaves_stuck : (n : ℕ) → Stuck first begun files ended n places given now → Leaves begun now (Some a)
  leaves_stuck n s = leaves_none (λ entries calls.
      created_until first begun files ended n places given now s entries calls (length s.those) s.well.count ∙ created_none files none (length s.those))

-- a run that is at its end
module _ (first : ℕ) (begun : Store) (a : Asked) (given : ℕ) (now : Store) (built : is_built a ≡ true) (leaves : Leaves begun now (Some a)) where
  -- with the status that is due
  pub runs_due : (files : List JobFile) (status : Status) → ending_of status ≡ due → DueOf begun.bytes a files status
      → AsksAll first begun (Some a) given now status files → (status ≡ is.Ok → Delivers begun.bytes now.bytes (Some a))
      → ((number : ℕ) (fault : CellFault) → status ≡ is.Array (of.Cell number fault) → DeliversAtEnd begun.bytes now.bytes (Some a))
      → Runs first begun (Some a) given now status
  runs_due files status ending d asks delivered at_end =
      let P : Ending → Type 0 = λ e. AsksBy first begun (Some a) given now e status in
      record {
        journal = subst P (sym ending) (record { files = files; due = due_built begun.bytes a built files status d; asks = asks });
        files = leaves;
        delivered = delivered;
        whole = λ e. let other : due ≡ out_fault = sym ending ∙ ap ending_of e in absurd (cc);
        at_end = at_end;
      }

  module _ (made : List JobFile) (may : MayAsk begun.bytes a made) (ended : ℕ) (places : ℕ → ℕ) (few : ReadsFew a places) where
    -- for want of memory
    pub runs_memory : Progress first begun made ended places given now → Runs first begun (Some a) given now is.Memory
    runs_memory p = record {
      journal = inl (record { made = made; may = may_built begun.bytes a built made may; ended = ended; places = places; went = in_order p (λ e. absurd (cc)); few = few });
      files = leaves;
      delivered = λ e. absurd (cc);
      whole = λ e. absurd (cc);
      at_end = λ k f e. absurd (cc);
    }

    -- with a fault of a file
    pub runs_fault : (role : FileRole) (number : ℕ) → HasRole made number role → Stuck first begun made ended number places given now
        → Runs first begun (Some a) given now (is.FileFault role)
    runs_fault role number has s = record {
      journal = record { made = made; may = may_built begun.bytes a built made may; ended = ended; number = number; places = places; wrong = stuck s; few = few; has_role = has };
      files = leaves;
      delivered = λ e. absurd (cc);
      whole = λ e. absurd (cc);
      at_end = λ k f e. absurd (cc);
    }
