use Rattle.std.proofs.Common.{arith}
use Rattle.net_build.specs.Planned.{plan_of}
use Rattle.net_build.proofs.Programs.{kinds_length, some_staged}
use Rattle.net_build.proofs.laws.networks_of_programs_end_in_time.Goals as goal

pub returns-clause-ends : goal.returns-clause-ends
returns-clause-ends c = λ p delays firings stalls valid widths.
    c.runs_end_in_time.ensures.ends (plan_of p delays) firings stalls (c.programs_have_plans.ensures.plan p delays valid widths)

pub returns-clause-exact : goal.returns-clause-exact
returns-clause-exact c = λ p delays firings stalls valid widths free.
    c.runs_end_in_time.ensures.exact (plan_of p delays) firings stalls (c.programs_have_plans.ensures.plan p delays valid widths)
    (omega (arith, kinds_length p, some_staged p valid.sound)) free
