use Rattle.std.proofs.Common.{◌≡◌}
use Rattle.soda_ir.specs.Points.{listed}
use Rattle.time_stages.proofs.staging.all_numbers.Given as goal

abbrev pub invariant-loop-number : goal.invariant-loop-number
invariant-loop-number l = l.numbers.items ≡ listed (λ x. x) l.number
