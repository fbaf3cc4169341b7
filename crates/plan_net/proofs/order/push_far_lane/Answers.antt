use Rattle.std.proofs.Common.{◌++◌, ◌∙◌, ap, sym, map, nat_lt, reverse, arith}
use Rattle.std.specs.List.{filter}
use Rattle.std.proofs.lemmas.List.{get_or-reverse, length-reverse, take_all}
use Rattle.net_ir.specs.declared.network.Module.TheVariants.{Forward}
use Rattle.plan_net.proofs.Steps.{filter-reverse, kept_more}
use Rattle.plan_net.proofs.order.push_far_lane.Goals as goal

pub loop-passed-preserved : goal.loop-passed-preserved
loop-passed-preserved c =
    kept_more (λ tap. Forward c.args.tensor c.args.lane tap) (λ t. nat_lt 0 t) c.args.modules.now.items c.loop-passed.modules.items c.push_if_far.new.modules.items
    (reverse c.args.taps.now) c.loop-passed.passed _ (omega (arith, length-reverse c.args.taps.now)) (sym (get_or-reverse c.args.taps.now c.loop-passed.passed 0 c.loop-passed-test.true))
    c.loop-passed.invariant c.in_ok-push_if_far.ensures

pub returns : goal.returns
returns c =
    c.loop-passed.invariant
    ∙ ap (λ ts. c.args.modules.now.items ++ map (λ tap. Forward c.args.tensor c.args.lane tap) (filter (λ t. nat_lt 0 t) ts))
    (take_all c.loop-passed.passed (reverse c.args.taps.now) (omega (arith, length-reverse c.args.taps.now)))
    ∙ ap (λ ts. c.args.modules.now.items ++ map (λ tap. Forward c.args.tensor c.args.lane tap) ts) (filter-reverse (λ t. nat_lt 0 t) c.args.taps.now)
