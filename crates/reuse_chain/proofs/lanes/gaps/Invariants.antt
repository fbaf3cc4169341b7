use Rattle.std.proofs.Common.{◌≡◌, take}
use Rattle.reuse_chain.specs.Lanes.{gaps_of}
use Rattle.reuse_chain.proofs.Rising.{last_or}
use Rattle.reuse_chain.proofs.lanes.gaps.Given as goal

abbrev pub invariant-loop-tap : goal.invariant-loop-tap
invariant-loop-tap l = (l.gaps.items ≡ gaps_of (take l.tap-index l.taps)) × (l.before ≡ last_or 0 (take l.tap-index l.taps))
