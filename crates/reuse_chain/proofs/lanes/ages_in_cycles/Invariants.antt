use Rattle.std.proofs.Common.{◌≡◌, map, take}
use Rattle.reuse_chain.specs.Lanes.{age_in_cycles}
use Rattle.reuse_chain.proofs.lanes.ages_in_cycles.Given as goal

abbrev pub invariant-loop-age : goal.invariant-loop-age
invariant-loop-age l = l.cycles.items ≡ map (age_in_cycles l.lane l.unroll) (take l.age-index l.ages)
