use Rattle.std.proofs.Common.{arith, rules}
use Rattle.std.proofs.lemmas.Grind.{common_steps}
use Rattle.soda_words.proofs.Skips.{turned, ended}
use Rattle.soda_words.proofs.reading.tokens.Goals as goal

pub loop-rest-preserved : goal.loop-rest-preserved
loop-rest-preserved c =
    turned c.loop-rest.found.items _ c.loop-rest.line _ c.in_ok-token.more c.in_ok-token.token c.loop-rest.rest.now _ c.args.text.now c.loop-rest.invariant c.loop-rest-test.true (omega (arith, c.in_ok-token.ensures.within)) (search rules) (search rules) (search rules) (search rules) (grind (arith, common_steps))

pub returns : goal.returns
returns c =
    ended c.loop-rest.found.items c.loop-rest.line c.loop-rest.rest.now c.args.text.now c.loop-rest.invariant c.loop-rest-test.false
