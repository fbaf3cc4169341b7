use Rattle.std.proofs.Common.{◌≡◌, [], ◌∷◌, ◌++◌}
use Rattle.net_shape.specs.Lists.{joined}
use Rattle.net_shape.specs.Modules.{block}
use Rattle.net_shape.specs.machine.Places.{block_begin, near_begin}
use Rattle.plan_net.proofs.order.push_blocks.Given as goal

abbrev pub invariant-loop-tensor : goal.invariant-loop-tensor
invariant-loop-tensor l = record {
  modules : l.modules.items ≡ l.initial.modules.items ++ joined (block l.layout) l.tensor;
  begins : l.begins.items ≡ joined (λ v. block_begin l.layout v ∷ []) l.tensor;
  nears : l.nears.items ≡ joined (λ v. joined (λ lane. near_begin l.layout v lane ∷ []) l.layout.unroll) l.tensor;
  ends : l.ends.items ≡ joined (λ v. near_begin l.layout v l.layout.unroll ∷ []) l.tensor;
}
