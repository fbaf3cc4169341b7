use Rattle.net_build.proofs.Passed.{none_passed, none_where}
use Rattle.net_build.proofs.laws.limits_are_three.Goals as goal

pub returns : goal.returns
returns c = λ p. (none_where p, λ h. none_passed p h.0 h.1 h.2)
