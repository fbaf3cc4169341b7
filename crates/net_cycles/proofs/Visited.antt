-- A visit that fires.
use Rattle.std.proofs.Common.{◌≡◌, ◌<◌, ◌+◌, ℕ, Bool, true, List, length, length-set, get_or, set, sym, ap, ◌∙◌, subst}
use Rattle.net_ir.specs.States.{IsLawful}
use Rattle.net_ir.specs.CycleRun.{fires, visit}
use Rattle.ring_region.specs.Fifos.{Fifo}
use Rattle.net_cycles.specs.Between.{between, fired_once}
use Rattle.net_cycles.specs.Streams.{HoldCounts}
use Rattle.net_cycles.specs.Running.{Running, IsRunning}
use Rattle.net_cycles.proofs.Readiness.{visit_so, lawful_so}

-- the firings that were read as a slice, and the number of the module's next firing
module _ (r : Running) (is : IsRunning r) (stalled : List Bool) (m n : ℕ) (read : List ℕ) (known : m < length r.network.modules)
    (so : fires r.network r.firings stalled (between r.fired) m ≡ true) (slice : read ≡ r.fired) (at : n ≡ get_or r.fired m 0) where
  pub once_is : set r.fired m (n + 1) ≡ fired_once r.fired m
  once_is = ap (λ k. set r.fired m (k + 1)) at

  pub read_is : fired_once read m ≡ set r.fired m (n + 1)
  read_is = ap (λ xs. fired_once xs m) slice ∙ sym once_is

  pub visited : between (set r.fired m (n + 1)) ≡ visit r.network r.firings stalled (between r.fired) m
  visited = ap between once_is ∙ visit_so r.network is.network r.firings stalled r.fired m so

  pub running_after : (fifos : List Fifo) → HoldCounts r.network (fired_once read m) fifos
      → IsRunning (record { network = r.network; firings = r.firings; fired = set r.fired m (n + 1); fifos = fifos })
  running_after fifos counts = record {
    network = is.network;
    whole = length-set r.fired m (n + 1) ∙ is.whole;
    lawful = subst (λ xs. IsLawful r.network r.firings (between xs)) (sym once_is)
        (lawful_so r.network is.network r.firings stalled r.fired m is.lawful known so);
    counts = subst (λ xs. HoldCounts r.network xs fifos) read_is counts;
  }
