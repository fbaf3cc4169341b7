use Rattle.std.proofs.Common.{◌≡◌, ◌++◌, drop}
use Rattle.flow_solve.specs.machine.Residual.{residual}
use Rattle.flow_solve.proofs.residual.residual.Given as goal

-- the arcs so far, and those of the reads that are left, are all
abbrev pub invariant-loop-i : goal.invariant-loop-i
invariant-loop-i l =
    l.arcs.items ++ residual l.tensors (drop l.i l.reads) (drop l.i l.hold) (drop l.i l.need) ≡ residual l.tensors l.reads l.hold l.need
