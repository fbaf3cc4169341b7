use Rattle.std.proofs.Common.{◌∙◌, arith, rules, tests}
use Rattle.std.proofs.lemmas.Iterator.{YieldsList-from_slice}
use Rattle.std.proofs.lemmas.Iterator.Consumers.{YieldsList-at, YieldsList-from_filter, count_from_yields_List}
use Rattle.soda_ir.specs.Counts.{is_output_role}
use Rattle.soda_ir.specs.Program.{plain}
use Rattle.soda_ir.specs.declared.program.Tensor.{Tensor}
use Rattle.sodac_cli.proofs.Judged.{both_within, outputs_found}
use Rattle.sodac_cli.proofs.judging.output_count.Goals as goal

pub returns-clause-count : goal.returns-clause-count
returns-clause-count c =
    let ts = c.args.program.now.tensors in
    count_from_yields_List c.filter.result _ c.count.ensures.ran (YieldsList-from_filter _ (λ (t : Tensor). is_output_role t.role) (YieldsList-at c.filter.ensures.source (YieldsList-from_slice ts cc)) c.filter.ensures.closure (λ x b q k. search (rules, tests)))
    ∙ outputs_found ts

pub returns-clause-few : goal.returns-clause-few
returns-clause-few c =
    let p = plain c.args.program.now in
    omega (arith, both_within p.tensors, returns-clause-count c, c.parts.ensures.valid.sound.limits.few_tensors)
