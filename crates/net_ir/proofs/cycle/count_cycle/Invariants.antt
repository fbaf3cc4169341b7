use Rattle.std.proofs.Common.{◌≡◌, ◌≤◌}
use Rattle.net_ir.specs.CycleRun.{met, fired_among, held_among}
use Rattle.net_ir.proofs.cycle.count_cycle.Given as goal

abbrev pub invariant-loop-module : goal.invariant-loop-module
invariant-loop-module l = record {
  counts : l.counts ≡ record {
    network = l.initial.counts.network;
    firings = l.initial.counts.firings;
    state = met l.net l.initial.counts.firings l.stalled l.initial.counts.state l.module;
  };
  fired : l.count.fired ≡ fired_among l.net l.initial.counts.firings l.stalled l.initial.counts.state l.module;
  held : l.count.held ≡ held_among l.net l.initial.counts.firings l.stalled l.initial.counts.state l.module;
  few_fired : l.count.fired ≤ l.module;
  few_held : l.count.held ≤ l.module;
}
