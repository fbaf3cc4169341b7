use Rattle.std.proofs.Common.{◌≡◌, ◌<◌, ◌+◌, ◌∙◌, ℕ, true, false, List, length, get_or, set, sym, ap, subst, arith}
use Rattle.std.specs.List.{length_refill}
use Rattle.net_ir.specs.Nets.{entrances}
use Rattle.net_ir.specs.CycleRun.{fires, visit}
use Rattle.net_cycles.specs.Between.{between, fired_once, CanFire}
use Rattle.net_cycles.specs.Running.{Running}
use Rattle.net_cycles.specs.machine.Moves.{FilledTo}
use Rattle.net_cycles.proofs.BetweenFirings.{fires_exactly}
use Rattle.net_cycles.proofs.Readiness.{full_if, roomy_if, visit_not}
use Rattle.net_cycles.proofs.Visited.{once_is, visited, running_after}
use Rattle.net_cycles.proofs.pipeline.Pipeline.visit.Goals as goal

pub fire-done-requires-clause-filled : goal.fire-done-requires-clause-filled
fire-done-requires-clause-filled g c =
    let r = c.self.inside in
    let now : Running = record { network = r.network; firings = r.firings; fired = r.fired.items; fifos = r.rings } in
    let m = c.args.module in
    let so : fires r.network r.firings c.args.stalled.now (between r.fired.items) m ≡ true =
    sym (c.if-can_fire.ensures ∙ ap (λ (xs : List ℕ). fires r.network r.firings c.args.stalled.now (between xs) m) c.deref-2.ensures.value) in
    subst (λ (xs : List ℕ). FilledTo r.network r.rings m (get_or xs m 0) (length (entrances r.network m)))
    (sym c.deref-then-can_fire.ensures.value)
    (full_if r.network r.firings c.args.stalled.now r.fired.items m r.rings c.self.invariant.running.counts
    ((fires_exactly r.network r.firings c.args.stalled.now r.fired.items m).0 so))

pub fire-done-requires-clause-roomy : goal.fire-done-requires-clause-roomy
fire-done-requires-clause-roomy g c =
    let r = c.self.inside in
    let now : Running = record { network = r.network; firings = r.firings; fired = r.fired.items; fifos = r.rings } in
    let m = c.args.module in
    let so : fires r.network r.firings c.args.stalled.now (between r.fired.items) m ≡ true =
    sym (c.if-can_fire.ensures ∙ ap (λ (xs : List ℕ). fires r.network r.firings c.args.stalled.now (between xs) m) c.deref-2.ensures.value) in
    roomy_if r.network r.firings c.args.stalled.now r.fired.items m r.rings c.self.invariant.running.counts
    ((fires_exactly r.network r.firings c.args.stalled.now r.fired.items m).0 so)

pub fire-done-requires-clause-relies : goal.fire-done-requires-clause-relies
fire-done-requires-clause-relies g c =
    let r = c.self.inside in
    let now : Running = record { network = r.network; firings = r.firings; fired = r.fired.items; fifos = r.rings } in
    let m = c.args.module in
    let so : fires r.network r.firings c.args.stalled.now (between r.fired.items) m ≡ true =
    sym (c.if-can_fire.ensures ∙ ap (λ (xs : List ℕ). fires r.network r.firings c.args.stalled.now (between xs) m) c.deref-2.ensures.value) in
    let can = (fires_exactly r.network r.firings c.args.stalled.now r.fired.items m).0 so in
    subst (λ (xs : List ℕ). g.D.Datapath.relies c.args.datapath.now r.network xs m) (sym c.deref-then-can_fire.ensures.value)
    (subst (λ (x : Running). g.D.Datapath.relies c.args.datapath.now x.network x.fired m) (sym c.self.view_is)
    (c.requires.relies (subst (λ (x : Running). CanFire x.network x.firings c.args.stalled.now x.fired m) c.self.view_is can)))

pub overflow_add-firing : goal.overflow_add-firing
overflow_add-firing g c =
    let r = c.self.inside in
    let now : Running = record { network = r.network; firings = r.firings; fired = r.fired.items; fifos = r.rings } in
    let m = c.args.module in
    let so : fires r.network r.firings c.args.stalled.now (between r.fired.items) m ≡ true =
    sym (c.if-can_fire.ensures ∙ ap (λ (xs : List ℕ). fires r.network r.firings c.args.stalled.now (between xs) m) c.deref-2.ensures.value) in
    let at : c.firing_of-firing.result ≡ get_or r.fired.items m 0 =
    c.firing_of-firing.ensures ∙ ap (λ (xs : List ℕ). get_or xs m 0) c.deref.ensures.value in
    let can = (fires_exactly r.network r.firings c.args.stalled.now r.fired.items m).0 so in
    omega (arith, can.left, at)

pub returns-in-Ok-clause-running : goal.returns-in-Ok-clause-running
returns-in-Ok-clause-running g c =
    let r = c.self.inside in
    let now : Running = record { network = r.network; firings = r.firings; fired = r.fired.items; fifos = r.rings } in
    let m = c.args.module in
    let so : fires r.network r.firings c.args.stalled.now (between r.fired.items) m ≡ true =
    sym (c.if-can_fire.ensures ∙ ap (λ (xs : List ℕ). fires r.network r.firings c.args.stalled.now (between xs) m) c.deref-2.ensures.value) in
    let at : c.firing_of-firing.result ≡ get_or r.fired.items m 0 =
    c.firing_of-firing.ensures ∙ ap (λ (xs : List ℕ). get_or xs m 0) c.deref.ensures.value in
    let known : m < length r.network.modules = subst (λ (x : Running). m < length x.network.modules) (sym c.self.view_is) c.requires.known in
    running_after now c.self.invariant.running c.args.stalled.now m c.firing_of-firing.result
    c.deref-then-can_fire.result.now known so c.deref-then-can_fire.ensures.value at c.fire-done.new.rings c.fire-done.ensures.counts

pub invariant_of-self : goal.invariant_of-self
invariant_of-self g c = record {
  running = returns-in-Ok-clause-running g c;
  modules = c.self.invariant.modules;
  port_places = sym (length_refill c.self.inside.ports.len c.self.inside.ports.items c.fire-done.new.ports c.self.inside.ports.ok.0)
      ∙ c.self.inside.ports.ok.0 ∙ c.self.invariant.port_places;
  send_places = sym (length_refill c.self.inside.sends.len c.self.inside.sends.items c.fire-done.new.sends c.self.inside.sends.ok.0)
      ∙ c.self.inside.sends.ok.0 ∙ c.self.invariant.send_places;
}

pub returns-in-Ok-clause-state : goal.returns-in-Ok-clause-state
returns-in-Ok-clause-state g c =
    let r = c.self.inside in
    let now : Running = record { network = r.network; firings = r.firings; fired = r.fired.items; fifos = r.rings } in
    let m = c.args.module in
    let so : fires r.network r.firings c.args.stalled.now (between r.fired.items) m ≡ true =
    sym (c.if-can_fire.ensures ∙ ap (λ (xs : List ℕ). fires r.network r.firings c.args.stalled.now (between xs) m) c.deref-2.ensures.value) in
    let at : c.firing_of-firing.result ≡ get_or r.fired.items m 0 =
    c.firing_of-firing.ensures ∙ ap (λ (xs : List ℕ). get_or xs m 0) c.deref.ensures.value in
    let known : m < length r.network.modules = subst (λ (x : Running). m < length x.network.modules) (sym c.self.view_is) c.requires.known in
    let kept = visited now c.self.invariant.running c.args.stalled.now m c.firing_of-firing.result
    c.deref-then-can_fire.result.now known so c.deref-then-can_fire.ensures.value at in
    subst (λ (x : Running). between (set r.fired.items m (c.firing_of-firing.result + 1))
    ≡ visit x.network x.firings c.args.stalled.now (between x.fired) m) c.self.view_is kept

pub returns-in-Err-clause-running : goal.returns-in-Err-clause-running
returns-in-Err-clause-running g c =
    let r = c.self.inside in
    let now : Running = record { network = r.network; firings = r.firings; fired = r.fired.items; fifos = r.rings } in
    let m = c.args.module in
    let so : fires r.network r.firings c.args.stalled.now (between r.fired.items) m ≡ true =
    sym (c.if-can_fire.ensures ∙ ap (λ (xs : List ℕ). fires r.network r.firings c.args.stalled.now (between xs) m) c.deref-2.ensures.value) in
    let at : c.firing_of-firing.result ≡ get_or r.fired.items m 0 =
    c.firing_of-firing.ensures ∙ ap (λ (xs : List ℕ). get_or xs m 0) c.deref.ensures.value in
    let known : m < length r.network.modules = subst (λ (x : Running). m < length x.network.modules) (sym c.self.view_is) c.requires.known in
    running_after now c.self.invariant.running c.args.stalled.now m c.firing_of-firing.result
    c.deref-then-can_fire.result.now known so c.deref-then-can_fire.ensures.value at c.fire-done.new.rings c.fire-done.ensures.counts

pub invariant_of-self-in-Err : goal.invariant_of-self-in-Err
invariant_of-self-in-Err g c = record {
  running = returns-in-Err-clause-running g c;
  modules = c.self.invariant.modules;
  port_places = sym (length_refill c.self.inside.ports.len c.self.inside.ports.items c.fire-done.new.ports c.self.inside.ports.ok.0)
      ∙ c.self.inside.ports.ok.0 ∙ c.self.invariant.port_places;
  send_places = sym (length_refill c.self.inside.sends.len c.self.inside.sends.items c.fire-done.new.sends c.self.inside.sends.ok.0)
      ∙ c.self.inside.sends.ok.0 ∙ c.self.invariant.send_places;
}

pub returns-in-Err-clause-state : goal.returns-in-Err-clause-state
returns-in-Err-clause-state g c =
    let r = c.self.inside in
    let now : Running = record { network = r.network; firings = r.firings; fired = r.fired.items; fifos = r.rings } in
    let m = c.args.module in
    let so : fires r.network r.firings c.args.stalled.now (between r.fired.items) m ≡ true =
    sym (c.if-can_fire.ensures ∙ ap (λ (xs : List ℕ). fires r.network r.firings c.args.stalled.now (between xs) m) c.deref-2.ensures.value) in
    let at : c.firing_of-firing.result ≡ get_or r.fired.items m 0 =
    c.firing_of-firing.ensures ∙ ap (λ (xs : List ℕ). get_or xs m 0) c.deref.ensures.value in
    let known : m < length r.network.modules = subst (λ (x : Running). m < length x.network.modules) (sym c.self.view_is) c.requires.known in
    let kept = visited now c.self.invariant.running c.args.stalled.now m c.firing_of-firing.result
    c.deref-then-can_fire.result.now known so c.deref-then-can_fire.ensures.value at in
    subst (λ (x : Running). between (set r.fired.items m (c.firing_of-firing.result + 1))
    ≡ visit x.network x.firings c.args.stalled.now (between x.fired) m) c.self.view_is kept

pub returns-in-Err-clause-stopped : goal.returns-in-Err-clause-stopped
returns-in-Err-clause-stopped g c =
    let r = c.self.inside in
    let now : Running = record { network = r.network; firings = r.firings; fired = r.fired.items; fifos = r.rings } in
    let m = c.args.module in
    let so : fires r.network r.firings c.args.stalled.now (between r.fired.items) m ≡ true =
    sym (c.if-can_fire.ensures ∙ ap (λ (xs : List ℕ). fires r.network r.firings c.args.stalled.now (between xs) m) c.deref-2.ensures.value) in
    let at : c.firing_of-firing.result ≡ get_or r.fired.items m 0 =
    c.firing_of-firing.ensures ∙ ap (λ (xs : List ℕ). get_or xs m 0) c.deref.ensures.value in
    let known : m < length r.network.modules = subst (λ (x : Running). m < length x.network.modules) (sym c.self.view_is) c.requires.known in
    let can = (fires_exactly r.network r.firings c.args.stalled.now r.fired.items m).0 so in
    let once = once_is now c.self.invariant.running c.args.stalled.now m c.firing_of-firing.result
    c.deref-then-can_fire.result.now known so c.deref-then-can_fire.ensures.value at in
    let stopped = subst (λ (xs : List ℕ). g.D.Datapath.stopped c.args.datapath.now c.args.env.now c.fire-done.new.datapath
    c.fire-done.new.env r.network xs m c.in-Err.fault) c.deref-then-can_fire.ensures.value c.in-Err.ensures.stopped in (
      subst (λ (x : Running). CanFire x.network x.firings c.args.stalled.now x.fired m) c.self.view_is can,
      subst (λ (x : Running). set r.fired.items m (c.firing_of-firing.result + 1) ≡ fired_once x.fired m) c.self.view_is once,
      subst (λ (x : Running). g.D.Datapath.stopped c.args.datapath.now c.args.env.now c.fire-done.new.datapath
          c.fire-done.new.env x.network x.fired m c.in-Err.fault) c.self.view_is stopped,
    )

pub returns-then-firing-firings_of-clause-state : goal.returns-then-firing-firings_of-clause-state
returns-then-firing-firings_of-clause-state g c =
    let r = c.self.inside in
    let m = c.args.module in
    let not_so : fires r.network r.firings c.args.stalled.now (between r.fired.items) m ≡ false =
    sym (c.if-can_fire.ensures ∙ ap (λ (xs : List ℕ). fires r.network r.firings c.args.stalled.now (between xs) m) c.deref-2.ensures.value) in
    subst (λ (x : Running). between x.fired ≡ visit x.network x.firings c.args.stalled.now (between x.fired) m) c.self.view_is
    (visit_not r.network c.self.invariant.running.network r.firings c.args.stalled.now r.fired.items m not_so)

pub returns-clause-state : goal.returns-clause-state
returns-clause-state g c =
    let r = c.self.inside in
    let m = c.args.module in
    let not_so : fires r.network r.firings c.args.stalled.now (between r.fired.items) m ≡ false =
    sym (c.if-can_fire.ensures ∙ ap (λ (xs : List ℕ). fires r.network r.firings c.args.stalled.now (between xs) m) c.deref-2.ensures.value) in
    subst (λ (x : Running). between x.fired ≡ visit x.network x.firings c.args.stalled.now (between x.fired) m) c.self.view_is
    (visit_not r.network c.self.invariant.running.network r.firings c.args.stalled.now r.fired.items m not_so)
