use Rattle.std.proofs.Common.{◌≡◌, ◌++◌, [], ◌∷◌, ◌∙◌, ap, cond, sym, true, false, List}
use Rattle.std.proofs.lemmas.List.{append-nil}
use Rattle.net_ir.specs.declared.network.Module.{Module}
use Rattle.net_ir.specs.declared.network.Module.TheVariants.{Sink}
use Rattle.net_shape.specs.Plans.{kind_at}
use Rattle.plan_net.specs.machine.Tables.{has_sink}
use Rattle.plan_net.proofs.Steps.{kind_is, sinks_by}
use Rattle.plan_net.proofs.order.push_sink.Goals as goal

pub returns-in_ok-push : goal.returns-in_ok-push
returns-in_ok-push c =
    let p = c.args.layout.now in
    let v = c.args.tensor in
    let is : has_sink (kind_at p c.args.tensor) ≡ true = sym (kind_is has_sink p v c.kinds.result.now _ c.requires.known c.kinds.ensures.value) ∙ sym c.has_sink.ensures ∙ c.if-has_sink.true in
    c.in_ok-push.ensures.items
    ∙ ap (λ ms. c.args.modules.now.items ++ ms) (ap (λ b. cond {A = List Module} b (Sink v ∷ []) []) (sym is) ∙ sym (sinks_by p v))

pub returns-else-has_sink : goal.returns-else-has_sink
returns-else-has_sink c =
    let p = c.args.layout.now in
    let v = c.args.tensor in
    let is : has_sink (kind_at p c.args.tensor) ≡ false = sym (kind_is has_sink p v c.kinds.result.now _ c.requires.known c.kinds.ensures.value) ∙ sym c.has_sink.ensures ∙ c.if-has_sink.false in
    sym (append-nil c.args.modules.now.items)
    ∙ ap (λ ms. c.args.modules.now.items ++ ms) (ap (λ b. cond {A = List Module} b (Sink v ∷ []) []) (sym is) ∙ sym (sinks_by p v))
