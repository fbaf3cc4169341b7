use Rattle.std.proofs.Common.{arith}
use Rattle.soda_ir.proofs.CallerLemmas.{levels}
use Rattle.soda_ir.proofs.Distances.{joined}
use Rattle.soda_ir.proofs.reads.+collect.Goals as goal

pub returns-in-Num : goal.returns-in-Num
returns-in-Num t c = grind (arith, levels, joined)

pub returns-in-Cell : goal.returns-in-Cell
returns-in-Cell t c = grind (arith, levels, joined)

pub returns-in-Par : goal.returns-in-Par
returns-in-Par t c = grind (arith, levels, joined)

pub returns-in-Un : goal.returns-in-Un
returns-in-Un t c = grind (arith, levels, joined)

pub returns-in_ok-collect-in-Bin : goal.returns-in_ok-collect-in-Bin
returns-in_ok-collect-in-Bin t c = grind (arith, levels, joined)

pub returns-in_ok-collect-in-Select-2 : goal.returns-in_ok-collect-in-Select-2
returns-in_ok-collect-in-Select-2 t c = grind (arith, levels, joined)

pub returns-in-Cast : goal.returns-in-Cast
returns-in-Cast t c = grind (arith, levels, joined)
