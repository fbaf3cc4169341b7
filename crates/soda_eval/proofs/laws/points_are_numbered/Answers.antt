use Rattle.soda_eval.proofs.Numbers.{point_there, number_back, linear_moved}
use Rattle.soda_eval.proofs.laws.points_are_numbered.Goals as goal

pub returns : goal.returns
returns c = record { there = point_there; back = number_back; moves = linear_moved }
