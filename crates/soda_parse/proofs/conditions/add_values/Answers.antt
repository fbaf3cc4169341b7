use Rattle.soda_parse.proofs.Values.{multiplied}
use Rattle.soda_parse.proofs.conditions.add_values.Goals as goal

pub returns : goal.returns
returns c =
    multiplied c.args.before c.loop-size.product c.loop-size.size-index c.args.sizes.now c.loop-size.invariant c.loop-size-test.false c.if-sizes-eq0.false
