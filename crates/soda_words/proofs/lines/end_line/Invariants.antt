use Rattle.soda_words.proofs.Fronts.{IsAtLine}
use Rattle.soda_words.proofs.lines.end_line.Given as goal

abbrev pub invariant-loop-byte : goal.invariant-loop-byte
invariant-loop-byte l = IsAtLine l.byte-index l.line l.text
