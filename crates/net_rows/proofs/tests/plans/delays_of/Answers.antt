use Rattle.std.proofs.Common.{List, length, ap, ◌∙◌, subst}
use Rattle.delay_net.specs.Windows.{MeetsWindows}
use Rattle.delay_net.specs.declared.net.Read.{Read}
use Rattle.net_rows.proofs.tests.plans.delays_of.Goals as goal

pub returns-clause-assignment : goal.returns-clause-assignment
returns-clause-assignment c = c.in_ok-delays.ensures.plan.least.assignment ∙ ap length c.in_ok-net.ensures.weights

pub returns-clause-meets : goal.returns-clause-meets
returns-clause-meets c =
    subst (λ (rs : List Read). MeetsWindows rs c.in_ok-delays.delays.items) c.in_ok-net.ensures.reads c.in_ok-delays.ensures.plan.least.meets
