use Rattle.std.proofs.Common.{◌≡◌, take}
use Rattle.plan_net.specs.machine.Tables.{by_tap}
use Rattle.plan_net.proofs.serving.serve_lane.Given as goal

-- the reads so far
abbrev pub invariant-loop-number : goal.invariant-loop-number
invariant-loop-number l = l.served.items ≡ by_tap l.layout l.lane l.taps (take l.number-index l.numbers)
