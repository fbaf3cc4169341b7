use Rattle.std.proofs.Common.{ap, add-one}
use Rattle.std.proofs.lemmas.List.{length-map}
use Rattle.soda_ir.proofs.CallerLemmas.{length-listed}
use Rattle.sim_lines.specs.Flags.{flags_in, flags_until, is_stalled}
use Rattle.sim_lines.proofs.laws.flags_are_counted.Goals as goal

pub returns-clause-modules : goal.returns-clause-modules
returns-clause-modules c = λ staged stalls modules cycle. length-map modules (is_stalled staged stalls cycle)

pub returns-clause-cycles : goal.returns-clause-cycles
returns-clause-cycles c = λ staged stalls modules n. length-listed (flags_in staged stalls modules) n

pub returns-clause-next : goal.returns-clause-next
returns-clause-next c = λ staged stalls modules n. ap (flags_until staged stalls modules) (add-one n)
