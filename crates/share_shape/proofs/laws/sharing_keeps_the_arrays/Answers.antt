use Rattle.share_shape.proofs.Sound.{shared_like}
use Rattle.share_shape.proofs.laws.sharing_keeps_the_arrays.Goals as goal

pub returns : goal.returns
returns c = record {
  arrays = λ p rows params inputs sound. (shared_like p sound).arrays rows params inputs;
  runs = λ p rows params inputs t sound. (shared_like p sound).runs rows params inputs t;
}
