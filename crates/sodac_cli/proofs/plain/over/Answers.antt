use Rattle.std.proofs.Common.{ℕ, List, ℤ, refl, subst, sym, ap}
use Rattle.soda_ir.specs.Program.{plain}
use Rattle.soda_eval.specs.Runs.{HasValues, place_types}
use Rattle.command_words.specs.Orders.{asked}
use Rattle.job_status.specs.Counts.{FileFaults}
use Rattle.sodac_cli.specs.Machine.Steps.{IsJudged, IsSettled}
use Rattle.sodac_cli.specs.Work.{makes}
use Rattle.sodac_cli.proofs.Refused.{refused_allowed, refused_faults, refused_runs}
use Rattle.sodac_cli.proofs.plain.over.Goals as goal

pub returns-in-Err-clause-runs : goal.returns-in-Err-clause-runs
returns-in-Err-clause-runs g c = λ told first begun w.
    refused_runs (asked c.args.order.now) (plain c.args.program.now) c.in-Err.status c.in-Err.ensures.refuses first begun _ _ c.requires.built w

pub returns-in-Err-clause-faults : goal.returns-in-Err-clause-faults
returns-in-Err-clause-faults g c =
    refused_faults (asked c.args.order.now) (plain c.args.program.now) c.in-Err.status c.in-Err.ensures.refuses _

pub returns-in-Err-clause-allowed : goal.returns-in-Err-clause-allowed
returns-in-Err-clause-allowed g c =
    refused_allowed (asked c.args.order.now) (plain c.args.program.now) c.in-Err.status c.in-Err.ensures.refuses

pub with_params-status-requires-clause-settled : goal.with_params-status-requires-clause-settled
with_params-status-requires-clause-settled g c = λ told.
    let a = asked c.args.order.now in
    let p = plain c.args.program.now in
    let r = c.requires.read told in
    let judged : IsJudged r.1.bytes a p =
    record { built = c.requires.built; arrays = ap makes c.requires.mode; program = r.2.program; pass = c.in_default.ensures.passes } in
    let P : List ℤ → Type 0 = λ v. IsSettled r.0 r.1 a p (g.F.Files.given c.param_values.new.files) (g.F.Files.store c.param_values.new.files) v in
    (r.0, r.1, subst P (sym c.deref.ensures.value) (c.in-Ok.ensures.goes told r.0 r.1 a refl judged r.2))

pub with_params-status-requires-clause-params : goal.with_params-status-requires-clause-params
with_params-status-requires-clause-params g c =
    let P : List ℤ → Type 0 = λ v. HasValues (place_types (plain c.args.program.now).params) v in
    subst P (sym c.deref.ensures.value) c.in-Ok.ensures.in_range

pub returns-in-Ok-clause-runs : goal.returns-in-Ok-clause-runs
returns-in-Ok-clause-runs g c = λ told first begun w.
    let a = asked c.args.order.now in
    let p = plain c.args.program.now in
    let judged : IsJudged begun.bytes a p =
    record { built = c.requires.built; arrays = ap makes c.requires.mode; program = w.program; pass = c.in_default.ensures.passes } in
    let P : List ℤ → Type 0 = λ v. IsSettled first begun a p (g.F.Files.given c.param_values.new.files) (g.F.Files.store c.param_values.new.files) v in
    c.with_params-status.ensures.runs told first begun (subst P (sym c.deref.ensures.value) (c.in-Ok.ensures.goes told first begun a refl judged w))

pub returns-in-Ok-clause-faults : goal.returns-in-Ok-clause-faults
returns-in-Ok-clause-faults g c =
    let P : ℕ → Type 0 = λ n. FileFaults n (g.F.Files.faults c.with_params-status.new.files) c.with_params-status.result in
    subst P c.in-Ok.ensures.kept c.with_params-status.ensures.faults

pub returns-in-Err-param_values-clause-runs : goal.returns-in-Err-param_values-clause-runs
returns-in-Err-param_values-clause-runs g c = λ told first begun w.
    let a = asked c.args.order.now in
    let p = plain c.args.program.now in
    let judged : IsJudged begun.bytes a p =
    record { built = c.requires.built; arrays = ap makes c.requires.mode; program = w.program; pass = c.in_default.ensures.passes } in
    c.in-Err-param_values.ensures.ends told first begun a refl judged w
