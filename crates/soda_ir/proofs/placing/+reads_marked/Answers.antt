use Rattle.std.proofs.Common.{arith}
use Rattle.soda_ir.proofs.CallerLemmas.{levels}
use Rattle.soda_ir.proofs.placing.+reads_marked.Goals as goal

pub returns-in-Cell : goal.returns-in-Cell
returns-in-Cell t c = grind (arith, levels)

pub returns-in-Un : goal.returns-in-Un
returns-in-Un t c = grind (arith, levels)

pub returns-then-reads_marked : goal.returns-then-reads_marked
returns-then-reads_marked t c = grind (arith, levels)

pub returns-else-reads_marked : goal.returns-else-reads_marked
returns-else-reads_marked t c = grind (arith, levels)

pub returns-then-reads_marked-3 : goal.returns-then-reads_marked-3
returns-then-reads_marked-3 t c = grind (arith, levels)

pub returns-else-reads_marked-3 : goal.returns-else-reads_marked-3
returns-else-reads_marked-3 t c = grind (arith, levels)

pub returns-in-Cast : goal.returns-in-Cast
returns-in-Cast t c = grind (arith, levels)

pub returns-in-Num : goal.returns-in-Num
returns-in-Num t c = grind (arith, levels)
