use Rattle.param_lines.proofs.Decided.{either, never_both, one_line, one_list}
use Rattle.param_lines.proofs.laws.params_are_one.Goals as goal

pub returns-clause-one_list : goal.returns-clause-one_list
returns-clause-one_list c = one_list

pub returns-clause-one_line : goal.returns-clause-one_line
returns-clause-one_line c = one_line

pub returns-clause-never_both : goal.returns-clause-never_both
returns-clause-never_both c = never_both

pub returns-clause-either : goal.returns-clause-either
returns-clause-either c = either
