use Rattle.std.proofs.Common.{◌∙◌}
use Rattle.plan_net.proofs.ByTap.{none_by_tap}
use Rattle.plan_net.proofs.serving.serve_lane.Goals as goal

pub loop-number-init : goal.loop-number-init
loop-number-init c = c.in_ok-served.ensures ∙ none_by_tap c.args.layout.now c.args.lane c.args.taps.now
