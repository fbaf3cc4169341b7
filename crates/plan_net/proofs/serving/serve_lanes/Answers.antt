use Rattle.std.proofs.Common.{◌<◌, ◌++◌, [], ◌∷◌, ◌∙◌, All, ap, length, subst, sym}
use Rattle.net_shape.specs.Plans.{taps_at}
use Rattle.plan_net.specs.machine.Tables.{by_tap, served_at}
use Rattle.plan_net.proofs.Standing.{reads_known}
use Rattle.plan_net.proofs.Steps.{more_joined, none_joined}
use Rattle.plan_net.proofs.serving.serve_lanes.Goals as goal

pub loop-lane-init : goal.loop-lane-init
loop-lane-init c = none_joined _ _

pub serve_lane-requires-clause-known : goal.serve_lane-requires-clause-known
serve_lane-requires-clause-known c =
    let p = c.args.layout.now in
    subst (All (λ n. n < length p.reads)) (sym c.requires.numbers) (reads_known p c.args.tensor (length p.reads))

pub loop-lane-preserved : goal.loop-lane-preserved
loop-lane-preserved c =
    let p = c.args.layout.now in
    let lane = c.loop-lane.lane in
    more_joined (λ l. served_at p c.args.tensor l ∷ []) c.args.lanes.now.items c.loop-lane.lanes.items c.push.new.self.items lane c.loop-lane.invariant
    (c.in_ok-push.ensures.items ∙ ap (λ x. c.loop-lane.lanes.items ++ x ∷ []) (c.in_ok-served.ensures ∙ ap (λ ts. by_tap p lane ts c.args.numbers.now) c.taps_here-here.ensures.value
    ∙ ap (by_tap p lane (taps_at p c.args.tensor lane)) c.requires.numbers))
