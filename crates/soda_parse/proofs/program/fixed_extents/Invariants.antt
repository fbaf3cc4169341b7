use Rattle.std.proofs.Common.{◌≡◌, ◌++◌, drop}
use Rattle.std.specs.Prelude.{flat_map}
use Rattle.soda_parse.specs.Meaning.{fixed_in}
use Rattle.soda_parse.proofs.program.fixed_extents.Given as goal

abbrev pub invariant-loop-item : goal.invariant-loop-item
invariant-loop-item l = l.extents ++ flat_map fixed_in (drop l.item-index l.items) ≡ flat_map fixed_in l.items
