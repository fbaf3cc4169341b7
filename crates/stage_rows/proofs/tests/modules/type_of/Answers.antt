use Rattle.std.proofs.Common.{◌∙◌, sym}
use Rattle.formula_code.proofs.CallerLemmas.{type_past, type_there}
use Rattle.stage_rows.proofs.tests.modules.type_of.Goals as goal

pub returns-in-Some : goal.returns-in-Some
returns-in-Some c =
    sym (type_there c.args.parts.now.tensors c.args.tensor c.in-Some.tensor.now (sym c.in-Some.ensures.value))

pub returns-in-None : goal.returns-in-None
returns-in-None c =
    c.int32.ensures ∙ sym (type_past c.args.parts.now.tensors c.args.tensor (sym c.in-None.ensures.value))
