use Rattle.soda_ir.specs.Program.{plain, plain_tensor}
use Rattle.soda_print.specs.Canonical.{tensor_line}
use Rattle.soda_print.proofs.Sizing.{tensors_more}
use Rattle.soda_print.proofs.Written.{written_more}
use Rattle.soda_print.proofs.lines.add_tensors.Goals as goal

pub loop-tensor-preserved : goal.loop-tensor-preserved
loop-tensor-preserved c = record {
  adds = written_more (tensor_line (plain c.args.parts.now)) plain_tensor c.args.tensors.now c.loop-tensor.tensor-index c.tensor-item.result
      c.args.text.now.items c.loop-tensor.text.items c.add_tensor.new.text.items
      c.loop-tensor.invariant.adds c.loop-tensor-test.true c.tensor-item.is c.in_ok-add_tensor.ensures.adds;
  sized = tensors_more c.args.tensors.now c.loop-tensor.tensor-index c.tensor-item.result c.loop-tensor-test.true c.tensor-item.is
      c.loop-tensor.invariant.sized c.in_ok-add_tensor.ensures.sized;
}
