use Rattle.std.proofs.Common.{length}
use Rattle.soda_words.proofs.Fronts.{AreRead}
use Rattle.soda_words.proofs.reading.tokens.Given as goal

abbrev pub invariant-loop-rest : goal.invariant-loop-rest
invariant-loop-rest l = AreRead l.found.items l.line l.rest l.fn.text

abbrev pub decreases-loop-rest : goal.decreases-loop-rest
decreases-loop-rest l = length l.rest
