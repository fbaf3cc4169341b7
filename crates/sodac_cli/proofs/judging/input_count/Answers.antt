use Rattle.std.proofs.Common.{◌∙◌, rules, tests}
use Rattle.std.proofs.lemmas.Iterator.{YieldsList-from_slice}
use Rattle.std.proofs.lemmas.Iterator.Consumers.{YieldsList-at, YieldsList-from_filter, count_from_yields_List}
use Rattle.soda_ir.specs.Counts.{is_input_role}
use Rattle.soda_ir.specs.declared.program.Tensor.{Tensor}
use Rattle.sodac_cli.proofs.Judged.{inputs_found}
use Rattle.sodac_cli.proofs.judging.input_count.Goals as goal

pub returns : goal.returns
returns c =
    let ts = c.args.program.now.tensors in
    count_from_yields_List c.filter.result _ c.count.ensures.ran (YieldsList-from_filter _ (λ (t : Tensor). is_input_role t.role) (YieldsList-at c.filter.ensures.source (YieldsList-from_slice ts cc)) c.filter.ensures.closure (λ x b q k. search (rules, tests)))
    ∙ inputs_found ts
