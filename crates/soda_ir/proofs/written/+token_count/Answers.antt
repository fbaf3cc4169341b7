use Rattle.std.proofs.Common.{arith}
use Rattle.soda_ir.proofs.CallerLemmas.{levels}
use Rattle.soda_ir.proofs.written.+token_count.Goals as goal

pub returns-in-Num : goal.returns-in-Num
returns-in-Num t c = grind (arith, levels)

pub returns-in-Cell : goal.returns-in-Cell
returns-in-Cell t c = grind (arith, levels)

pub returns-in-Par : goal.returns-in-Par
returns-in-Par t c = grind (arith, levels)

pub returns-in-Un : goal.returns-in-Un
returns-in-Un t c = grind (arith, levels)

pub returns-in-Bin : goal.returns-in-Bin
returns-in-Bin t c = grind (arith, levels)

pub returns-in-Select : goal.returns-in-Select
returns-in-Select t c = grind (arith, levels)

pub returns-in-Cast : goal.returns-in-Cast
returns-in-Cast t c = grind (arith, levels)
