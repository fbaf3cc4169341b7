use Rattle.std.proofs.Common.{◌∙◌, get_or, subst}
use Rattle.net_shape.specs.Modules.{IsThere, modules_of}
use Rattle.net_shape.specs.machine.Places.{place_of}
use Rattle.net_shape.proofs.Stands.{each_there, number_is, stands}
use Rattle.net_shape.proofs.laws.modules_are_numbered.Goals as goal

pub returns-clause-set : goal.returns-clause-set
returns-clause-set c = λ p m plan. (
  λ has. subst (IsThere p) has.2 (each_there p plan.lanes has.0 m has.1).0,
  λ there. let a = stands p plan.lanes m there in (place_of p m, a.within, a.is m),
)

pub returns-clause-numbers : goal.returns-clause-numbers
returns-clause-numbers c = λ p k d plan lt.
    let t = each_there p plan.lanes k d lt in
    number_is p plan.lanes (get_or (modules_of p) k d) t.0 ∙ t.1
