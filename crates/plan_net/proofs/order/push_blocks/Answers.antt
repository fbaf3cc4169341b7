use Rattle.std.proofs.Common.{◌≡◌, [], ◌∷◌, ◌++◌, ◌∙◌, ap, arith, length}
use Rattle.net_shape.specs.Lists.{joined}
use Rattle.net_shape.specs.Modules.{block}
use Rattle.net_shape.specs.machine.Places.{block_begin, near_begin}
use Rattle.plan_net.proofs.Steps.{block_begun, empty_joined, more_joined, next_joined, none_joined}
use Rattle.plan_net.proofs.order.push_blocks.Goals as goal

pub loop-tensor-init : goal.loop-tensor-init
loop-tensor-init c = record {
  modules = none_joined _ _;
  begins = empty_joined _ _ c.requires.begins;
  nears = empty_joined _ _ c.requires.nears;
  ends = empty_joined _ _ c.requires.ends;
}

pub push_block-requires-clause-begun : goal.push_block-requires-clause-begun
push_block-requires-clause-begun c =
    block_begun c.args.layout.now c.loop-tensor.tensor c.args.modules.now.items c.loop-tensor.modules.items c.requires.modules c.loop-tensor.invariant.modules

pub loop-tensor-preserved : goal.loop-tensor-preserved
loop-tensor-preserved c =
    let p = c.args.layout.now in
    let v = c.loop-tensor.tensor in
    let whole : c.len.result ≡ length c.loop-tensor.modules.items = omega (arith, c.len.ensures, c.loop-tensor.modules.ok) in
    record {
      modules = more_joined (block p) c.args.modules.now.items c.loop-tensor.modules.items c.push_block.new.modules.items v c.loop-tensor.invariant.modules c.in_ok-push_block.ensures.modules;
      begins = next_joined (λ w. block_begin p w ∷ []) c.loop-tensor.begins.items c.push.new.self.items v c.loop-tensor.invariant.begins
          (c.in_ok-push.ensures.items ∙ ap (λ n. c.loop-tensor.begins.items ++ n ∷ []) (whole ∙ block_begun p v c.args.modules.now.items c.loop-tensor.modules.items c.requires.modules c.loop-tensor.invariant.modules));
      nears = next_joined (λ w. joined (λ lane. near_begin p w lane ∷ []) p.unroll) c.loop-tensor.nears.items c.push_block.new.nears.items v c.loop-tensor.invariant.nears c.in_ok-push_block.ensures.nears;
      ends = next_joined (λ w. near_begin p w p.unroll ∷ []) c.loop-tensor.ends.items c.push_block.new.ends.items v c.loop-tensor.invariant.ends c.in_ok-push_block.ensures.ends;
    }
