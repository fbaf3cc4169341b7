use Rattle.std.proofs.Common.{◌≡◌, map, take}
use Rattle.soda_parse.proofs.program.values_of.Given as goal

abbrev pub invariant-loop-size : goal.invariant-loop-size
invariant-loop-size l = l.values ≡ map (λ s. s.value) (take l.size-index l.sizes)
