use Rattle.design_reader.proofs.Telling.{ReadMore}
use Rattle.design_reader.proofs.plans.reads_told.Given as goal

-- what the lines so far tell
abbrev pub invariant-loop-number : goal.invariant-loop-number
invariant-loop-number l = ReadMore l.net.reads l.delays l.text l.hold.items l.need.items l.rest l.number
