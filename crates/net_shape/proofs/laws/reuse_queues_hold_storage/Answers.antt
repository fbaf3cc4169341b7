use Rattle.net_shape.proofs.Shares.{reuse_is_storage}
use Rattle.net_shape.proofs.laws.reuse_queues_hold_storage.Goals as goal

pub returns : goal.returns
returns c = λ p v plan h. reuse_is_storage p plan v h
