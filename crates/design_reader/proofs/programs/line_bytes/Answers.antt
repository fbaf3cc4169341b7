use Rattle.design_reader.proofs.Cuts.{bytes_line, bytes_other}
use Rattle.design_reader.proofs.programs.line_bytes.Goals as goal
use Rattle.design_reader.proofs.programs.line_bytes.Goals.{then-byte-eq10, else-byte-eq10}

pub loop-at-preserved : goal.loop-at-preserved
loop-at-preserved c =
    elim c.if-byte-eq10.branch [
      | then-byte-eq10 w ↦ bytes_line c.args.text.now c.loop-at.at c.loop-at.left _ _ c.loop-at.invariant c.loop-at-test.true c.if-left-eq0.false w.if-byte-eq10.true w.left-is
      | else-byte-eq10 w ↦ bytes_other c.args.text.now c.loop-at.at c.loop-at.left _ _ c.loop-at.invariant c.loop-at-test.true c.if-left-eq0.false w.if-byte-eq10.false w.left-is
    ]
