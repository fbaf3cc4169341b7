-- A job of a mode that only prints, behind the reading of its program.
use Rattle.std.proofs.Common.{◌≡◌, ◌≢◌, ◌≤◌, ℕ, true, List, [], ◌∷◌, ◌++◌, take, length, Some, None, refl, sym, ap, subst, ◌∙◌, inl}
use Rattle.soda_io.specs.Store.{Store}
use Rattle.soda_ir.specs.Program.{PlainProgram}
use Rattle.std.proofs.lemmas.List.{take_all}
use Rattle.job_files.specs.Contents.{Holding}
use Rattle.command_words.specs.declared.mode.Mode.{Mode}
use Rattle.command_words.specs.declared.mode.Mode.TheVariants.{Check, Plan}
use Rattle.command_words.specs.Orders.{Asked}
use Rattle.job_status.specs.declared.status.Status.TheVariants as is
use Rattle.sodac_cli.specs.Correct.{Runs}
use Rattle.sodac_cli.specs.Due.{DueOf, FirstRefusal, RefusalOf, Stage, accepted}
use Rattle.sodac_cli.specs.Machine.Steps.{IsRead, OnlyPrints}
use Rattle.sodac_cli.specs.Outputs.{Delivers, DeliversBeforeBy, DeliversBy}
use Rattle.sodac_cli.specs.Printed.{AreLines, AreLinesBy, IsPrinted, PrintsAll, PrintsPrefix}
use Rattle.sodac_cli.specs.Work.{HasProgram, Product, array_files, is_built, makes, module_file, no_files, program_file, streamed_files}
use Rattle.sodac_cli.proofs.Begun.{due_built, due_done}
use Rattle.sodac_cli.proofs.Reading.{read_asks, read_due, read_leaves, read_memory}

pub check_prints : (m : Mode) → m ≡ Check → OnlyPrints m
check_prints m mode = subst OnlyPrints (sym mode) (record { out = refl; no_steps = refl; writes = refl })

pub plan_prints : (m : Mode) → m ≡ Plan → OnlyPrints m
plan_prints m mode = subst OnlyPrints (sym mode) (record { out = refl; no_steps = refl; writes = refl })

-- it streams nothing
pub writes_none : (m : Mode) → OnlyPrints m → makes m ≢ streamed_files
writes_none m only = λ e. let both : no_files ≡ streamed_files = sym only.writes ∙ e in absurd (cc)

-- what such a job does with the files
module _ (p : PlainProgram) (first : ℕ) (begun : Store) (a : Asked) (given : ℕ) (now : Store) (only : OnlyPrints a.mode)
    (built : is_built a ≡ true) (w : IsRead first begun a p given now) where
  none : RefusalOf a p None
  none = let P : List Stage → Type 0 = λ stages. FirstRefusal stages a p None in subst P (sym only.no_steps) refl

  is_done : DueOf begun.bytes a (program_file a ∷ []) is.Ok
  is_done = accepted p w.program (due_done begun.bytes a p (program_file a ∷ []) is.Ok none only.writes refl refl)

  delivered : Delivers begun.bytes now.bytes (Some a)
  delivered = let P : Product → Type 0 = λ m. DeliversBy m begun.bytes now.bytes a in subst P (sym only.writes) tt

  pub print_done : Runs first begun (Some a) given now is.Ok
  print_done = read_due first begun a given now built w.keeps w.asked.places w.asked.few w.asked.progress is.Ok refl is_done (λ e. delivered) (λ k f e. absurd (cc))

  pub print_fault : Runs first begun (Some a) given now is.OutFault
  print_fault = record {
    journal = inl (record {
      files = program_file a ∷ [];
      due = due_built begun.bytes a built (program_file a ∷ []) is.Ok is_done;
      asks = read_asks first begun a given now built w.keeps w.asked.places w.asked.few w.asked.progress is.Ok;
    });
    files = read_leaves first begun a given now built w.keeps w.asked.places w.asked.few w.asked.progress;
    delivered = λ e. absurd (cc);
    whole = λ e. let Q : Product → Type 0 = λ x. DeliversBeforeBy x begun.bytes now.bytes a in subst Q (sym only.writes) tt;
    at_end = λ k f e. absurd (cc);
  }

  pub print_memory : Runs first begun (Some a) given now is.Memory
  print_memory = read_memory first begun a given now built w.keeps w.asked.places w.asked.few w.asked.progress

-- what is printed of lines of which so many were taken
module _ (p : PlainProgram) (h : Holding) (a : Asked) (m : Mode) (mode : a.mode ≡ m) (has : HasProgram h a p) (lines : List ℕ)
    (are : IsPrinted m p lines) (own : makes m ≢ streamed_files) (old new : List ℕ) (count : ℕ) (taken : new ≡ old ++ take count lines) where
  printed : IsPrinted a.mode p lines
  printed = let P : Mode → Type 0 = λ x. IsPrinted x p lines in subst P (sym mode) are

  by_product : (x : Product) → x ≢ streamed_files → AreLinesBy x h a p lines
  by_product no_files other = printed
  by_product array_files other = printed
  by_product module_file other = printed
  by_product streamed_files other = absurd (other refl)

  are_lines : AreLines h a p lines
  are_lines = by_product (makes a.mode) (λ e. own (sym (ap makes mode) ∙ e))

  pub prints_all : length lines ≤ count → PrintsAll h a old new
  prints_all whole = record {
    plain = p;
    program = has;
    lines = lines;
    are = are_lines;
    all = taken ∙ ap (λ (xs : List ℕ). old ++ xs) (take_all count lines whole);
  }

  pub prints_some : PrintsPrefix h a old new
  prints_some = record { plain = p; program = has; lines = lines; are = inl are_lines; count = count; some = taken }
