use Rattle.std.proofs.Common.{◌≡◌, take}
use Rattle.std.specs.List.{AllWithin}
use Rattle.sim_lines.specs.machine.Cursor.{AreSet}
use Rattle.sim_lines.proofs.marking.mark.Given as goal

-- the entries so far are of this cycle, and the flags are those of them
abbrev pub invariant-loop-place : goal.invariant-loop-place
invariant-loop-place l = record {
  now : AllWithin (λ s. s.cycle ≡ l.cycle) l.stalled 0 l.place;
  marked : AreSet (take l.place l.stalled) l.flags;
}
