use Rattle.std.proofs.Common.{◌≡◌, ℤ, List, map, sum, take}
use Rattle.ring_region.specs.Fifos.{emptied}
use Rattle.ring_region.specs.machine.Parts.{fifo_of, AreParts}
use Rattle.ring_region.proofs.rings.Rings.new.Given as goal

abbrev pub invariant-loop-capacity : goal.invariant-loop-capacity
invariant-loop-capacity l = record {
  total : l.total ≡ sum (take l.capacity-index l.capacities);
  parts : AreParts l.total l.parts.items;
  empty : (region : List ℤ) → map (fifo_of region) l.parts.items ≡ map emptied (take l.capacity-index l.capacities);
}
