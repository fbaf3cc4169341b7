use Rattle.net_build.specs.Planned.{plan_of}
use Rattle.net_build.proofs.laws.networks_of_programs_never_lock_up.Goals as goal

pub returns-clause-no_ring : goal.returns-clause-no_ring
returns-clause-no_ring c = λ p delays firings state valid widths lawful.
    c.networks_never_lock_up.ensures.no_ring (plan_of p delays) firings state (c.programs_have_plans.ensures.plan p delays valid widths) lawful

pub returns-clause-goes_on : goal.returns-clause-goes_on
returns-clause-goes_on c = λ p delays firings state valid widths lawful.
    c.networks_never_lock_up.ensures.goes_on (plan_of p delays) firings state (c.programs_have_plans.ensures.plan p delays valid widths) lawful
