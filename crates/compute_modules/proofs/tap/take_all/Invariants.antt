use Rattle.std.proofs.Common.{◌≡◌, ℕ, ◌<◌, get_or, map, pos}
use Rattle.compute_modules.specs.pieces.Taps.{taken}
use Rattle.compute_modules.proofs.tap.take_all.Given as goal

abbrev pub invariant-loop-i : goal.invariant-loop-i
invariant-loop-i l = (k : ℕ) → k < l.i → get_or l.values k (pos 0) ≡ get_or (map (taken l.ports) l.taps) k (pos 0)
