use Rattle.flow_solve.proofs.proposal.send_width.Given as goal

-- what is left of the width
abbrev pub decreases-loop-left : goal.decreases-loop-left
decreases-loop-left l = l.left
