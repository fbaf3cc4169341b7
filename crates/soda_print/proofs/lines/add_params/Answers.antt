use Rattle.soda_ir.specs.Program.{plain_param}
use Rattle.soda_print.specs.Canonical.{param_line}
use Rattle.soda_print.proofs.Sizing.{params_more}
use Rattle.soda_print.proofs.Written.{written_more}
use Rattle.soda_print.proofs.lines.add_params.Goals as goal

pub loop-param-preserved : goal.loop-param-preserved
loop-param-preserved c = record {
  adds = written_more param_line plain_param c.args.params.now c.loop-param.param-index c.param-item.result
      c.args.text.now.items c.loop-param.text.items c.add_param.new.text.items
      c.loop-param.invariant.adds c.loop-param-test.true c.param-item.is c.in_ok-add_param.ensures.adds;
  sized = params_more c.args.params.now c.loop-param.param-index c.param-item.result c.loop-param-test.true c.param-item.is
      c.loop-param.invariant.sized c.in_ok-add_param.ensures.allowed;
}
