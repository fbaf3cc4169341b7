use Rattle.soda_eval.proofs.Depth.{one_cell}
use Rattle.soda_eval.proofs.laws.arrays_are_one.Goals as goal

pub returns : goal.returns
returns c = λ s g params rank k region value placed h m x p. one_cell s g params rank placed region value m k x p (h x)
