use Rattle.std.proofs.Common.{ap, ◌∙◌, arith}
use Rattle.soda_ir.specs.declared.program.Parts.{Parts}
use Rattle.sodac_cli.proofs.Ready.{run_empty, run_some}
use Rattle.sodac_cli.proofs.types.run_of.Goals as goal

pub returns-in-empty-clause-value : goal.returns-in-empty-clause-value
returns-in-empty-clause-value c =
    run_empty c.args.program.now.extents c.as_slice.result.now (c.as_slice.ensures ∙ ap (λ (q : Parts). q.extents) c.parts.ensures.value) (omega arith)

pub returns-in-len1-up-clause-value : goal.returns-in-len1-up-clause-value
returns-in-len1-up-clause-value c =
    run_some c.args.program.now.extents c.as_slice.result.now (c.as_slice.ensures ∙ ap (λ (q : Parts). q.extents) c.parts.ensures.value) (omega arith)
