use Rattle.std.proofs.Common.{◌≡◌, take}
use Rattle.sim_lines.specs.machine.Ends.{all_stalled}
use Rattle.sim_lines.proofs.timetable.by_stall.Given as goal

abbrev pub invariant-loop-stall : goal.invariant-loop-stall
invariant-loop-stall l = l.stalled.items ≡ all_stalled l.ends (take l.stall-index l.stalls)
