use Rattle.design_lines.specs.Lines.{queue_line}
use Rattle.design_lines.proofs.Numbered.{written_more}
use Rattle.design_lines.proofs.lines.add_queues.Goals as goal

pub loop-number-preserved : goal.loop-number-preserved
loop-number-preserved c =
    written_more queue_line c.args.queues.now c.loop-number.number _ c.args.text.now.items c.loop-number.text.items c.add_queue.new.text.items
    c.loop-number.invariant c.loop-number-test.true c.in_ok-add_queue.ensures
