-- A program that a step refuses.
use Rattle.std.proofs.Common.{◌≡◌, ◌≢◌, ℕ, Bool, true, false, List, [], ◌∷◌, Option, Some, None, option_map, refl, sym, subst, if◌then◌else◌}
use Rattle.std.proofs.lemmas.Option.{same_Some}
use Rattle.soda_io.specs.Store.{Store}
use Rattle.soda_ir.specs.Program.{PlainProgram}
use Rattle.soda_ir.specs.declared.limit.LimitKind.{LimitKind}
use Rattle.soda_parse.specs.declared.refusal.Refusal.{Refusal}
use Rattle.net_build.specs.Limits.{limit_passed}
use Rattle.net_build.specs.Planned.{plan_of}
use Rattle.command_words.specs.Orders.{Asked}
use Rattle.job_status.specs.declared.status.Status.{Status}
use Rattle.job_status.specs.declared.status.Status.TheVariants as is
use Rattle.array_bytes.specs.declared.fault.CellFault.{CellFault}
use Rattle.job_status.specs.declared.status.ArrayFault.TheVariants as of
use Rattle.sodac_cli.specs.Correct.{Runs}
use Rattle.job_status.specs.Counts.{FileFaults, FileFaultsBy}
use Rattle.sodac_cli.specs.Allowed.{AllowsPlain}
use Rattle.sodac_cli.specs.Due.{FirstRefusal, RefusalAt, RefusalBehind, RefusalOf, Stage, accepted, by_limits, by_names, by_network, limit_status, names_fit, passed_limit, stages_of}
use Rattle.job_status.specs.Endings.{Ending, due, ending_of}
use Rattle.sodac_cli.specs.Machine.Steps.{IsRead}
use Rattle.sodac_cli.specs.Work.{is_built, program_file, rows_of}
use Rattle.sodac_cli.proofs.Begun.{due_refused}
use Rattle.sodac_cli.proofs.Reading.{read_due}

-- a status that is due in `plain` and isn't Ok
record IsRefusal (s : Status) : Type 0 where
  ending : ending_of s ≡ due
  not_ok : s ≢ is.Ok
  not_cell : (k : ℕ) (f : CellFault) → s ≢ is.Array (of.Cell k f)
  allowed : AllowsPlain s

by_test : (b : Bool) (r s : Status) → IsRefusal r → (if b then None else Some r) ≡ Some s → IsRefusal s
by_test true r s refusal e = absurd (cc)
by_test false r s refusal e = subst IsRefusal (same_Some r s e) refusal

by_passed : (o : Option (LimitKind × ℕ)) (s : Status) → option_map limit_status o ≡ Some s → IsRefusal s
by_passed None s e = absurd (cc)
by_passed (Some l) s e = subst IsRefusal (same_Some (limit_status l) s e) (record { ending = refl; not_ok = λ x. absurd (cc); not_cell = λ k f x. absurd (cc); allowed = tt })

by_limit : (o : Option Refusal) (s : Status) → option_map (λ r. is.Program r) o ≡ Some s → IsRefusal s
by_limit None s e = absurd (cc)
by_limit (Some r) s e = subst IsRefusal (same_Some (is.Program r) s e) (record { ending = refl; not_ok = λ x. absurd (cc); not_cell = λ k f x. absurd (cc); allowed = tt })

at_stage : (stage : Stage) (a : Asked) (p : PlainProgram) (s : Status) → RefusalAt stage a p (Some s) → IsRefusal s
at_stage by_names a p s e = by_test (names_fit a p) is.Usage s (record { ending = refl; not_ok = λ x. absurd (cc); not_cell = λ k f x. absurd (cc); allowed = tt }) (sym e)
at_stage by_network a p s x = by_passed (limit_passed (plan_of p x.0)) s (sym x.2)
at_stage by_limits a p s e = by_limit (passed_limit p (rows_of a)) s (sym e)

of_either : (stage : Stage) (a : Asked) (p : PlainProgram) (Next : Option Status → Type 0) (s : Status) → (Next (Some s) → IsRefusal s)
    → (own : Option Status) → RefusalAt stage a p own → RefusalBehind own Next (Some s) → IsRefusal s
of_either stage a p Next s behind None at_first x = behind x
of_either stage a p Next s behind (Some own) at_first x =
    let P : Option Status → Type 0 = λ o. RefusalAt stage a p o in
    at_stage stage a p s (subst P (sym x) at_first)

of_stages : (stages : List Stage) (a : Asked) (p : PlainProgram) (s : Status) → FirstRefusal stages a p (Some s) → IsRefusal s
of_stages [] a p s e = absurd (cc)
of_stages (stage ∷ stages) a p s x = of_either stage a p (FirstRefusal stages a p) s (of_stages stages a p s) x.0 x.1 x.2

-- the run of a job ends with the refusal, and no call on its files failed
module _ (a : Asked) (p : PlainProgram) (s : Status) (some : RefusalOf a p (Some s)) where
  refusal : IsRefusal s
  refusal = of_stages (stages_of a.mode) a p s some

  pub refused_runs : (first : ℕ) (begun : Store) (given : ℕ) (now : Store) → is_built a ≡ true → IsRead first begun a p given now
      → Runs first begun (Some a) given now s
  refused_runs first begun given now built w =
      read_due first begun a given now built w.keeps w.asked.places w.asked.few w.asked.progress s refusal.ending
      (accepted p w.program (due_refused begun.bytes a p (program_file a ∷ []) s some refl)) (λ e. absurd (refusal.not_ok e)) (λ k f e. absurd (refusal.not_cell k f e))

  pub refused_faults : (n : ℕ) → FileFaults n n s
  refused_faults n = let P : Ending → Type 0 = λ e. FileFaultsBy e n n in subst P (sym refusal.ending) refl

  pub refused_allowed : AllowsPlain s
  refused_allowed = refusal.allowed
