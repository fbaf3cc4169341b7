use Rattle.sodac_cli.specs.Work.{asked_of}
use Rattle.sodac_cli.proofs.OneDue.{one_due}
use Rattle.sodac_cli.proofs.laws.only_one_is_due.Goals as goal

pub returns : goal.returns
returns c = λ h words f g s t x y.
    let programs = c.one_program_is_spoken_of.ensures in
    let params = c.params_are_one.ensures in
    one_due programs.program programs.cause programs.apart params.one_list params.one_line params.never_both c.least_plans_meet.ensures.one c.one_fault_is_met_first.ensures h (asked_of words) f g s t x y
