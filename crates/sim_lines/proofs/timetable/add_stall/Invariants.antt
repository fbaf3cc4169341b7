use Rattle.std.proofs.Common.{◌≡◌, ◌++◌, take}
use Rattle.std.specs.List.{filter_map}
use Rattle.sim_lines.specs.machine.Ends.{stalled_by}
use Rattle.sim_lines.proofs.timetable.add_stall.Given as goal

abbrev pub invariant-loop-end : goal.invariant-loop-end
invariant-loop-end l =
    l.stalled.items ≡ l.initial.stalled.items ++ filter_map (stalled_by l.stall) (take l.end-index l.ends)
