use Rattle.std.proofs.Common.{sym, ◌∙◌}
use Rattle.soda_checks.proofs.Tiles.{shorter}
use Rattle.soda_checks.proofs.places.is_same_tile.Goals as goal

pub returns-then-i-b : goal.returns-then-i-b
returns-then-i-b c =
    sym (shorter c.args.a.now c.args.b.now c.loop-i.i c.loop-i-test.true c.if-i-b.true) ∙ c.loop-i.invariant.1
