use Rattle.design_lines.specs.Lines.{module_line}
use Rattle.design_lines.proofs.Numbered.{written_more}
use Rattle.design_lines.proofs.lines.add_modules.Goals as goal

pub loop-number-preserved : goal.loop-number-preserved
loop-number-preserved c =
    written_more module_line c.args.modules.now c.loop-number.number _ c.args.text.now.items c.loop-number.text.items c.add_module.new.text.items
    c.loop-number.invariant c.loop-number-test.true c.in_ok-add_module.ensures
