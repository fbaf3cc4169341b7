use Rattle.std.proofs.Common.{◌≡◌, ◌≤◌, ◌-◌, ◌++◌, take, length}
use Rattle.whole_files.proofs.sinking.put_whole.Given as goal

abbrev pub invariant-loop-done : goal.invariant-loop-done
invariant-loop-done g l = record {
  done : l.done ≤ length l.bytes;
  faults : g.S.Sink.faults l.sink ≡ g.S.Sink.faults l.initial.sink;
  taken : g.S.Sink.tells → g.S.Sink.taken l.sink ≡ g.S.Sink.taken l.initial.sink ++ take l.done l.bytes;
}

abbrev pub decreases-loop-done : goal.decreases-loop-done
decreases-loop-done g l = length l.bytes - l.done
