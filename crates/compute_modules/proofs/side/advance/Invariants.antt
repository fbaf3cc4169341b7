use Rattle.std.proofs.Common.{◌≡◌, ◌++◌, take, drop}
use Rattle.compute_modules.specs.pieces.Walks.{moved_sides}
use Rattle.compute_modules.proofs.side.advance.Given as goal

abbrev pub invariant-loop-d : goal.invariant-loop-d
invariant-loop-d l = moved_sides l.initial.sides l.count ≡ take l.d l.sides ++ moved_sides (drop l.d l.sides) l.carry
