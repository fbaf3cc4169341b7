use Rattle.std.proofs.Common.{◌≡◌, map, take}
use Rattle.net_ir.specs.States.{unmoved}
use Rattle.net_ir.proofs.counts.unmoved_turns.Given as goal

abbrev pub invariant-loop-module : goal.invariant-loop-module
invariant-loop-module l = l.turns.items ≡ map (λ _. unmoved) (take l._module-index l.modules)
