use Rattle.std.proofs.Common.{arith}
use Rattle.net_build.specs.Planned.{plan_of}
use Rattle.net_build.proofs.Programs.{kinds_length}
use Rattle.net_build.proofs.laws.reuse_queues_of_programs_hold_storage.Goals as goal

pub returns : goal.returns
returns c = λ p delays v valid widths lt.
    c.reuse_queues_hold_storage.ensures (plan_of p delays) v (c.programs_have_plans.ensures.plan p delays valid widths) (omega (arith, kinds_length p, lt))
