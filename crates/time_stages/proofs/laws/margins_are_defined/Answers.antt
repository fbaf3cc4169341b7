use Rattle.std.proofs.Common.{length}
use Rattle.time_stages.proofs.Made.{over_inputs, over_one, over_settled}
use Rattle.time_stages.proofs.laws.margins_are_defined.Goals as goal

pub returns : goal.returns
returns c = record {
  reads = λ p inputs x s l. over_settled p inputs x (s.placed x l);
  one = λ p inputs m s h x l. over_one p inputs m h (length p.tensors) x (s.placed x l);
  inputs = λ p a b x s l h. over_inputs p a b s h (length p.tensors) x (s.placed x l);
}
