use Rattle.std.proofs.Common.{Err, List, ℕ, ap, subst, sym}
use Rattle.net_build.specs.declared.refusal.BuildRefusal.{BuildRefusal}
use Rattle.soda_ir.specs.Program.{plain}
use Rattle.compile_job.specs.Modules.{IsModuleText, IsSizeText}
use Rattle.sodac_cli.proofs.Compiled.{beyond_limits, uncompiled, within_limits}
use Rattle.sodac_cli.proofs.compile.over.Goals as goal

pub returns-in-Ok-clause-runs : goal.returns-in-Ok-clause-runs
returns-in-Ok-clause-runs g c = λ told first begun a named writes w.
    let p = plain c.args.program in
    let P : List ℕ → Type 0 = λ text. IsModuleText p text in
    c.deliver-status.ensures.runs told first begun a p named (subst P (sym c.deref.ensures.value) c.in-Ok.ensures.text)
    (within_limits first begun a p _ _ writes w c.in-Ok.ensures.within)

pub returns-in-Ok-clause-prints : goal.returns-in-Ok-clause-prints
returns-in-Ok-clause-prints g c = λ told h a mode has.
    let P : List ℕ → Type 0 = λ lines. IsSizeText (plain c.args.program) lines in
    c.deliver-status.ensures.prints told h a (plain c.args.program) mode has (subst P (sym c.as_bytes.ensures.value) c.in-Ok.ensures.size)

pub returns-in-Err-Limit-clause-runs : goal.returns-in-Err-Limit-clause-runs
returns-in-Err-Limit-clause-runs g c = λ told first begun a named writes w.
    beyond_limits first begun a (plain c.args.program) _ _ writes w _ _
    (c.in-Err-Limit.ensures.limit _ _ (ap (λ (f : BuildRefusal). Err f) c.in-Err-Limit.field-0-is))

pub returns-in-Err-Memory-clause-runs : goal.returns-in-Err-Memory-clause-runs
returns-in-Err-Memory-clause-runs g c = λ told first begun a named writes w.
    uncompiled first begun a (plain c.args.program) _ _ writes w
