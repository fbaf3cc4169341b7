use Rattle.std.proofs.Common.{◌++◌, [], ◌∷◌, ◌∙◌, ap}
use Rattle.reuse_chain.specs.Lanes.{taps_of}
use Rattle.plan_net.proofs.Steps.{more_joined, none_joined}
use Rattle.plan_net.proofs.tables.add_taps.Goals as goal

pub loop-lane-init : goal.loop-lane-init
loop-lane-init c = none_joined _ _

pub loop-lane-preserved : goal.loop-lane-preserved
loop-lane-preserved c =
    more_joined (λ lane. taps_of c.args.ages.now lane c.args.unroll ∷ []) c.args.lanes.now.items c.loop-lane.lanes.items c.push.new.self.items c.loop-lane.lane c.loop-lane.invariant
    (c.in_ok-push.ensures.items ∙ ap (λ ts. c.loop-lane.lanes.items ++ ts ∷ []) (c.from_vec.ensures ∙ c.in_ok-taps.ensures.value))
