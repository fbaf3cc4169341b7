use Rattle.std.proofs.Common.{sym, ◌∙◌, arith}
use Rattle.soda_ir.proofs.Lists.{first_no_input}
use Rattle.soda_ir.proofs.valid.+has_inputs_first.Goals as goal

pub returns-else-is_input : goal.returns-else-is_input
returns-else-is_input t c =
    first_no_input c.args.tensors.now c.tensor-item.result c.has_no_input.result (omega arith) c.tensor-item.is (sym c.is_input.ensures ∙ c.if-is_input.false) c.has_no_input.ensures
