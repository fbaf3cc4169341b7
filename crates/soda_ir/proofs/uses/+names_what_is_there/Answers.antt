use Rattle.std.proofs.Common.{arith}
use Rattle.soda_ir.proofs.CallerLemmas.{levels}
use Rattle.soda_ir.proofs.uses.+names_what_is_there.Goals as goal

pub returns-in-Num : goal.returns-in-Num
returns-in-Num t c = grind (arith, levels)

pub returns-in-Cell : goal.returns-in-Cell
returns-in-Cell t c = grind (arith, levels)

pub returns-in-Par : goal.returns-in-Par
returns-in-Par t c = grind (arith, levels)

pub returns-in-Un : goal.returns-in-Un
returns-in-Un t c = grind (arith, levels)

pub returns-then-names_what_is_there : goal.returns-then-names_what_is_there
returns-then-names_what_is_there t c = grind (arith, levels)

pub returns-else-names_what_is_there : goal.returns-else-names_what_is_there
returns-else-names_what_is_there t c = grind (arith, levels)

pub returns-then-names_what_is_there-3 : goal.returns-then-names_what_is_there-3
returns-then-names_what_is_there-3 t c = grind (arith, levels)

pub returns-else-names_what_is_there-3 : goal.returns-else-names_what_is_there-3
returns-else-names_what_is_there-3 t c = grind (arith, levels)

pub returns-in-Cast : goal.returns-in-Cast
returns-in-Cast t c = grind (arith, levels)
