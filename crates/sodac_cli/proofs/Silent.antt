-- What isn't printed.
use Rattle.std.proofs.Common.{◌≡◌, ◌≢◌, ℕ, Bool, true, List, [], Option, Some, None, refl, sym, ap, subst, append-nil, inl}
use Rattle.soda_io.specs.Store.{Store}
use Rattle.soda_ir.specs.Program.{PlainProgram}
use Rattle.job_files.specs.Contents.{Holding}
use Rattle.job_files.specs.Files.{JobFile}
use Rattle.command_words.specs.declared.mode.Mode.{Mode}
use Rattle.command_words.specs.declared.mode.Mode.TheVariants.{Plain}
use Rattle.command_words.specs.Orders.{Asked}
use Rattle.job_status.specs.declared.status.Status.{Status}
use Rattle.job_status.specs.declared.status.Status.TheVariants as is
use Rattle.array_bytes.specs.declared.fault.CellFault.{CellFault}
use Rattle.job_status.specs.declared.status.ArrayFault.TheVariants as of
use Rattle.sodac_cli.specs.Correct.{Runs}
use Rattle.job_status.specs.Counts.{OutFaults}
use Rattle.sodac_cli.specs.Due.{DueIf, DueOf, accepted, refused}
use Rattle.sodac_cli.specs.Printed.{AreLinesBy, IsPrinted, Prints, prints}
use Rattle.sodac_cli.specs.Work.{HasProgram, Product, is_built, makes}

-- with another status than Ok, and no fault of `out`, nothing need be printed
pub prints_nothing : (h : Holding) (asked : Option Asked) (old : List ℕ) (s : Status) → s ≢ is.Ok → s ≢ is.OutFault
    → ((k : ℕ) (f : CellFault) → s ≢ is.Array (of.Cell k f)) → Prints h asked old old s
prints_nothing h None old s not_ok quiet other = refl
prints_nothing h (Some a) old is.Ok not_ok quiet other = absurd (not_ok refl)
prints_nothing h (Some a) old is.Usage not_ok quiet other = refl
prints_nothing h (Some a) old (is.Program r) not_ok quiet other = refl
prints_nothing h (Some a) old (is.Array (of.Cell k f)) not_ok quiet other = absurd (other k f refl)
prints_nothing h (Some a) old (is.Array (of.Params line)) not_ok quiet other = refl
prints_nothing h (Some a) old (is.Array (of.Stall line)) not_ok quiet other = refl
prints_nothing h (Some a) old (is.FileFault role) not_ok quiet other = inl refl
prints_nothing h (Some a) old is.OutFault not_ok quiet other = absurd (quiet refl)
prints_nothing h (Some a) old is.Memory not_ok quiet other = inl refl
prints_nothing h (Some a) old is.NotYetBuilt not_ok quiet other = refl

-- no call on `out` failed
pub no_out_fault : (n : ℕ) (s : Status) → s ≢ is.OutFault → OutFaults n n s
no_out_fault n is.Ok quiet = refl
no_out_fault n is.Usage quiet = refl
no_out_fault n (is.Program r) quiet = refl
no_out_fault n (is.Array fault) quiet = refl
no_out_fault n (is.FileFault role) quiet = refl
no_out_fault n is.OutFault quiet = absurd (quiet refl)
no_out_fault n is.Memory quiet = tt
no_out_fault n is.NotYetBuilt quiet = refl

-- a job that was done has a program
done_program : (h : Holding) (a : Asked) (files : List JobFile) → DueOf h a files is.Ok → (p : PlainProgram) × HasProgram h a p
done_program h a files (refused text r there refuses all ends) = absurd (cc)
done_program h a files (accepted p has d) = (p, has)

-- a job of the mode `plain`
module _ (first : ℕ) (begun : Store) (a : Asked) (given : ℕ) (now : Store) (mode : a.mode ≡ Plain) (built : is_built a ≡ true) (old : List ℕ) where
  pub plain_prints : (s : Status) → Runs first begun (Some a) given now s → s ≢ is.OutFault → Prints begun.bytes (Some a) old old s
  plain_prints is.Ok r quiet =
      let P : Bool → Type 0 = λ b. DueIf b begun.bytes a r.journal.files is.Ok in
      let has = done_program begun.bytes a r.journal.files (subst P built r.journal.due) in
      record {
        plain = has.0;
        program = has.1;
        lines = [];
        are =
            let Q : Mode → Type 0 = λ m. IsPrinted m has.0 [] in
            let R : Product → Type 0 = λ x. AreLinesBy x begun.bytes a has.0 [] in
            subst R (sym (ap makes mode)) (subst Q (sym mode) refl);
        all = sym (append-nil old);
      }
  plain_prints (is.Array (of.Cell k f)) r quiet = inl (ap prints mode, refl)
  plain_prints (is.Array (of.Params line)) r quiet = refl
  plain_prints (is.Array (of.Stall line)) r quiet = refl
  plain_prints s r quiet = prints_nothing begun.bytes (Some a) old s (λ e. absurd (cc)) quiet (λ k f e. absurd (cc))
