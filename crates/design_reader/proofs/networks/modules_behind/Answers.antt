use Rattle.std.proofs.Common.{refl, ◌∙◌}
use Rattle.design_lines.specs.Lines.{module_line}
use Rattle.design_reader.proofs.Stopping.{lines_more, lines_stop}
use Rattle.design_reader.proofs.networks.modules_behind.Goals as goal

pub returns-in_default-clause-refused : goal.returns-in_default-clause-refused
returns-in_default-clause-refused c =
    lines_stop module_line c.args.modules.now c.loop-number.number _ c.args.text.now c.loop-number.rest.now c.deref.result.now c.args.before _
    c.loop-number.invariant c.loop-number-test.true (c.deref.ensures.value ∙ c.in_ok-line.ensures) c.in_default.ensures refl

pub loop-number-preserved : goal.loop-number-preserved
loop-number-preserved c =
    lines_more module_line c.args.modules.now c.loop-number.number _ c.args.text.now c.loop-number.rest.now c.deref.result.now c.in-Some.after.now
    c.loop-number.invariant c.loop-number-test.true (c.deref.ensures.value ∙ c.in_ok-line.ensures) c.in-Some.ensures
