use Rattle.file_modules.proofs.Lanes.{begins_with_none, ends_with_all, hands_first, hands_next, sends_cells}
use Rattle.file_modules.proofs.laws.firings_hand_on_the_array.Goals as goal

pub returns-clause-none : goal.returns-clause-none
returns-clause-none c = begins_with_none

pub returns-clause-all : goal.returns-clause-all
returns-clause-all c = ends_with_all

pub returns-clause-next : goal.returns-clause-next
returns-clause-next c = hands_next

pub returns-clause-first : goal.returns-clause-first
returns-clause-first c = hands_first

pub returns-clause-sends : goal.returns-clause-sends
returns-clause-sends c = sends_cells
