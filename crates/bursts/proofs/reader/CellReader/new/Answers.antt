use Rattle.std.proofs.Common.{[]}
use Rattle.bursts.proofs.reader.CellReader.new.Goals as goal

pub returns-in_ok-reader-in-Text-clause-stands : goal.returns-in_ok-reader-in-Text-clause-stands
returns-in_ok-reader-in-Text-clause-stands c = λ bytes none. ([], c.in_ok-reader-in-Text.ensures.at bytes)

pub returns-in_ok-reader-in-Raw-clause-stands : goal.returns-in_ok-reader-in-Raw-clause-stands
returns-in_ok-reader-in-Raw-clause-stands c = λ bytes none. ([], c.in_ok-reader-in-Raw.ensures.at bytes)
