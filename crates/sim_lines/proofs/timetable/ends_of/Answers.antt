use Rattle.sim_lines.specs.machine.Ends.{ends_before}
use Rattle.sim_lines.proofs.Ends.{ends_more}
use Rattle.sim_lines.proofs.timetable.ends_of.Goals as goal

pub loop-number-init : goal.loop-number-init
unfolding ends_before
loop-number-init c = c.new-ends.ensures.items

pub loop-number-preserved : goal.loop-number-preserved
loop-number-preserved c =
    ends_more c.args.staged.now c.args.modules.now c.loop-number.number _ c.loop-number.ends.items _ c.loop-number-test.true c.loop-number.invariant c.in_ok-add_end.ensures
