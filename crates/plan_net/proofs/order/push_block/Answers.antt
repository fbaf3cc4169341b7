use Rattle.std.proofs.Common.{◌≡◌, ◌++◌, [], ◌∷◌, ◌∙◌, ap, arith, length}
use Rattle.std.proofs.lemmas.Result.{on_ok_weaker}
use Rattle.plan_net.proofs.Steps.{block_whole, near_from, sink_from}
use Rattle.plan_net.proofs.order.push_block.Goals as goal

pub push_near-requires-clause-begun : goal.push_near-requires-clause-begun
push_near-requires-clause-begun c =
    near_from c.args.layout.now c.args.tensor c.args.modules.now.items c.push_producers.new.modules.items c.requires.begun c.in_ok-push_producers.ensures

pub returns-clause-modules : goal.returns-clause-modules
returns-clause-modules c =
    on_ok_weaker c.push_sink.result (λ e. block_whole c.args.layout.now c.args.tensor c.args.modules.now.items c.push_producers.new.modules.items c.push_near.new.modules.items c.push_sink.new.modules.items
    c.in_ok-push_producers.ensures c.in_ok-push_near.ensures.modules e) c.push_sink.ensures

pub returns-clause-ends : goal.returns-clause-ends
returns-clause-ends c =
    let whole : c.len.result ≡ length c.push_near.new.modules.items = omega (arith, c.len.ensures, c.push_near.new.modules.ok) in
    on_ok_weaker c.push_sink.result (λ e. c.in_ok-push.ensures.items ∙ ap (λ n. c.args.ends.now.items ++ n ∷ []) (whole
    ∙ sink_from c.args.layout.now c.args.tensor c.args.modules.now.items c.push_producers.new.modules.items c.push_near.new.modules.items c.requires.begun c.in_ok-push_producers.ensures c.in_ok-push_near.ensures.modules)) c.push_sink.ensures
