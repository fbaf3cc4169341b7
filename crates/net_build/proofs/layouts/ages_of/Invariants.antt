use Rattle.std.proofs.Common.{◌≡◌, map, take}
use Rattle.delay_net.specs.Windows.{age, at_least_0}
use Rattle.net_build.proofs.layouts.ages_of.Given as goal

abbrev pub invariant-loop-read : goal.invariant-loop-read
invariant-loop-read l = l.ages.items ≡ map (λ read. at_least_0 (age l.delays read)) (take l.read-index l.reads)
