use Rattle.soda_words.proofs.Fronts.{IsAtByte}
use Rattle.soda_words.proofs.lines.not_ascii.Given as goal

abbrev pub invariant-loop-byte : goal.invariant-loop-byte
invariant-loop-byte l = IsAtByte l.byte-index l.line l.in_comment l.text
