use Rattle.std.proofs.Common.{◌≡◌, take}
use Rattle.reuse_chain.specs.Lanes.{greatest}
use Rattle.net_build.proofs.delays.greatest_of.Given as goal

abbrev pub invariant-loop-number : goal.invariant-loop-number
invariant-loop-number l = l.greatest ≡ greatest (take l.number-index l.numbers)
