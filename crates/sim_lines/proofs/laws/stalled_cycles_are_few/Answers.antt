use Rattle.std.proofs.Common.{[], arith}
use Rattle.sim_lines.proofs.Counting.{cycles_listed, listed_few}
use Rattle.sim_lines.proofs.laws.stalled_cycles_are_few.Goals as goal

pub returns-clause-listed : goal.returns-clause-listed
returns-clause-listed c = cycles_listed

pub returns-clause-few : goal.returns-clause-few
returns-clause-few c =
    λ staged stalls modules n. omega (arith, cycles_listed staged stalls modules n, listed_few stalls n)

pub returns-clause-none : goal.returns-clause-none
returns-clause-none c = λ staged modules n. omega (arith, cycles_listed staged [] modules n, listed_few [] n)
