use Rattle.soda_words.proofs.Fronts.{IsValued}
use Rattle.soda_words.proofs.numbers.value.Given as goal

abbrev pub invariant-loop-digit : goal.invariant-loop-digit
invariant-loop-digit l = IsValued l.digit-index l.number l.digits
