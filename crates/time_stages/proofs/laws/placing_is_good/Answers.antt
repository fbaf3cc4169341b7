use Rattle.std.proofs.Common.{length}
use Rattle.time_stages.proofs.Order.{order_all, order_behind, order_once}
use Rattle.time_stages.proofs.laws.placing_is_good.Goals as goal

pub returns : goal.returns
returns c = record {
  all = order_all;
  behind = λ p before after x f e d. order_behind p (length p.tensors) before after x f e d;
  once = λ p before after x e. order_once p (length p.tensors) before after x e;
}
