use Rattle.int_types.proofs.Ranges.{unary_in_range, binary_in_range, select_in_range}
use Rattle.int_types.proofs.laws.results_are_in_range.Goals as goal

pub returns-clause-unary : goal.returns-clause-unary
returns-clause-unary c = unary_in_range

pub returns-clause-binary : goal.returns-clause-binary
returns-clause-binary c = binary_in_range

pub returns-clause-select : goal.returns-clause-select
returns-clause-select c = select_in_range
