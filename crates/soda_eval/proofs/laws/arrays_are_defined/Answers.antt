use Rattle.soda_eval.proofs.Depth.{depth_means}
use Rattle.soda_eval.proofs.laws.arrays_are_defined.Goals as goal

pub returns : goal.returns
returns c = λ s g params rank k placed h. depth_means s g params rank placed k h
