use Rattle.std.proofs.Common.{◌≡◌, ◌++◌, [], ◌∷◌, ◌∙◌, ap, cond, sym, true, false}
use Rattle.std.proofs.lemmas.Result.{on_ok_weaker}
use Rattle.net_ir.specs.declared.network.Module.TheVariants.{Source, Compute}
use Rattle.net_shape.specs.Lists.{joined}
use Rattle.net_shape.specs.Plans.{kind_at}
use Rattle.plan_net.specs.machine.Tables.{is_source}
use Rattle.plan_net.proofs.Steps.{kind_is, producers_by}
use Rattle.plan_net.proofs.order.push_producers.Goals as goal

pub returns-in_ok-push : goal.returns-in_ok-push
returns-in_ok-push c =
    let p = c.args.layout.now in
    let v = c.args.tensor in
    let is : is_source (kind_at p c.args.tensor) ≡ true = sym (kind_is is_source p v c.kinds.result.now _ c.requires.known c.kinds.ensures.value) ∙ sym c.is_source.ensures ∙ c.if-is_source.true in
    c.in_ok-push.ensures.items
    ∙ ap (λ ms. c.args.modules.now.items ++ ms) (ap (λ b. cond b (Source v ∷ []) (joined (λ lane. Compute v lane ∷ []) p.unroll)) (sym is) ∙ sym (producers_by p v))

pub returns-else-is_source : goal.returns-else-is_source
returns-else-is_source c =
    let p = c.args.layout.now in
    let v = c.args.tensor in
    let is : is_source (kind_at p c.args.tensor) ≡ false = sym (kind_is is_source p v c.kinds.result.now _ c.requires.known c.kinds.ensures.value) ∙ sym c.is_source.ensures ∙ c.if-is_source.false in
    on_ok_weaker c.push_computes.result (λ e. e
    ∙ ap (λ ms. c.args.modules.now.items ++ ms) (ap (joined (λ lane. Compute v lane ∷ [])) c.unroll.ensures.value
    ∙ ap (λ b. cond b (Source v ∷ []) (joined (λ lane. Compute v lane ∷ []) p.unroll)) (sym is) ∙ sym (producers_by p v))) c.push_computes.ensures
