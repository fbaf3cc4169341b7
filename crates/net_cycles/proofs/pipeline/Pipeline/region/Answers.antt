use Rattle.std.proofs.Common.{◌≡◌, ◌∙◌, ap, map, sum, length, sym, subst}
use Rattle.net_ir.specs.declared.network.Queue.{Queue}
use Rattle.net_cycles.specs.Running.{Running}
use Rattle.net_cycles.specs.Streams.{HoldStreams, ItemsLie}
use Rattle.net_cycles.proofs.Places.{sizes_are, items_lie}
use Rattle.net_cycles.proofs.pipeline.Pipeline.region.Goals as goal

pub returns : goal.returns
returns c =
    let r = c.self.inside in
    let counts = c.self.invariant.running.counts in
    let region = c.region.result.now in
    record {
      room = subst (λ (x : Running). length region ≡ sum (map (λ (q : Queue). q.capacity) x.network.queues)) c.self.view_is
          (c.region.ensures.filled ∙ ap sum (sizes_are r.network r.fired.items r.rings counts));
      items = λ stream hold. subst (λ (x : Running). ItemsLie x.network x.fired region stream) c.self.view_is
          (items_lie r.network r.fired.items r.rings counts region c.region.ensures.items stream
          (subst (λ (x : Running). HoldStreams x.network x.fired x.fifos stream) (sym c.self.view_is) hold));
    }
