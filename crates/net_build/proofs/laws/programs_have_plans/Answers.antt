use Rattle.std.proofs.Common.{arith, get_or}
use Rattle.net_build.proofs.Ages.{age_short}
use Rattle.net_build.proofs.Programs.{plan_is}
use Rattle.net_build.specs.Limits.{most_delay}
use Rattle.time_stages.specs.Staged.{staged_reads}
use Rattle.net_build.proofs.laws.programs_have_plans.Goals as goal

pub returns-clause-plan : goal.returns-clause-plan
returns-clause-plan c = λ p delays valid widths. plan_is p valid.sound delays (c.staging_makes_a_net.ensures p valid widths)

pub returns-clause-ages : goal.returns-clause-ages
returns-clause-ages c = λ p delays valid widths kept k d lt.
    omega (arith, age_short delays (get_or (staged_reads p) k d) most_delay kept ((c.staging_makes_a_net.ensures p valid widths).offsets k d lt))
