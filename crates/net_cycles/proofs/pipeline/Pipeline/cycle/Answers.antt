use Rattle.std.proofs.Common.{◌≡◌, ◌≤◌, ◌∙◌, ◌&&◌, not, ℕ, Bool, true, false, cond, List, [], ◌∷◌, ◌++◌, length, sym, ap, subst, refl, arith}
use Rattle.net_ir.specs.declared.events.Turn.{Turn}
use Rattle.net_ir.specs.Nets.{Net}
use Rattle.net_ir.specs.States.{has_firing, IsLawful}
use Rattle.net_ir.specs.CycleRun.{fires, visit, met, fired_among, held_among}
use Rattle.net_ir.proofs.CallerLemmas.{fired_one, held_one, met_one}
use Rattle.net_cycles.specs.Between.{between, CanFire}
use Rattle.net_cycles.specs.Cycles.{FiresAt, HasRun}
use Rattle.net_cycles.specs.Running.{Running}
use Rattle.net_cycles.proofs.Runs.{run_more}
use Rattle.net_cycles.proofs.Storage.{choose_at_most}
use Rattle.net_cycles.proofs.pipeline.Pipeline.cycle.Goals as goal

pub loop-module-init : goal.loop-module-init
unfolding met fired_among held_among
loop-module-init g c = record {
  network = refl;
  firings = refl;
  running = c.modules-module-end.ensures.running;
  state = refl;
  fired = refl;
  held = refl;
  few_fired = omega arith;
  few_held = omega arith;
  streams = c.requires.streams;
  agrees = λ stream h. h;
  ready = c.requires.ready;
  relies = λ later m h. h;
  onward = g.met.D.Datapath.stays c.args.datapath.now c.args.env.now;
}

pub visit-requires-clause-relies : goal.visit-requires-clause-relies
visit-requires-clause-relies g c can =
    let old : Running = c.args.self.now in
    let now : Running = c.loop-module.self in
    let inv = c.loop-module.invariant in
    let m = c.loop-module.module in
    let stalled = c.args.stalled.now in
    let found : FiresAt old.network old.firings stalled old.fired now.fired m = record {
      known = omega (arith, c.modules-module-end.ensures.count);
      state = inv.state;
      lawful = subst (λ (n : Net). IsLawful n old.firings (between now.fired)) inv.network
          (subst (λ k. IsLawful now.network k (between now.fired)) inv.firings inv.running.lawful);
      can = subst (λ (n : Net). CanFire n old.firings stalled now.fired m) inv.network
          (subst (λ k. CanFire now.network k stalled now.fired m) inv.firings can);
    } in
    subst (λ (n : Net). g.D.Datapath.relies c.loop-module.datapath n now.fired m) (sym inv.network)
    (inv.relies now.fired m (c.requires.relies now.fired m found))

pub loop-module-preserved : goal.loop-module-preserved
loop-module-preserved g c =
    let old : Running = c.args.self.now in
    let now : Running = c.loop-module.self in
    let stalled = c.args.stalled.now in
    let m = c.loop-module.module in
    let network = c.modules-module-end.ensures.running.network in
    let here : List Turn = met old.network old.firings stalled (between old.fired) m in
    let inv = c.loop-module.invariant in
    -- a fact about the network as it runs, told of the state that the module meets
    let told = λ (A : Type 0) (f : Net → ℕ → List Turn → A). ap (λ n. f n now.firings (between now.fired)) inv.network
    ∙ ap (λ k. f old.network k (between now.fired)) inv.firings ∙ ap (λ s. f old.network old.firings s) inv.state in
    let state = c.visit.ensures.state ∙ told (List Turn) (λ n k s. visit n k stalled s m) in
    let fired = c.in-Ok.ensures.fired ∙ told ℕ (λ n k s. cond (fires n k stalled s m) 1 0) in
    let held = c.in-Ok.ensures.held ∙ told ℕ (λ n k s. cond (has_firing n k s m && not (fires n k stalled s m)) 1 0) in
    record {
      network = c.visit.ensures.network ∙ inv.network;
      firings = c.visit.ensures.firings ∙ inv.firings;
      running = c.visit.ensures.running;
      state = state ∙ met_one old.network old.firings network stalled (between old.fired) m;
      fired = omega (arith, fired, inv.fired, fired_one old.network old.firings network stalled (between old.fired) m);
      held = omega (arith, held, inv.held, held_one old.network old.firings network stalled (between old.fired) m);
      few_fired = omega (arith, fired, inv.few_fired, choose_at_most (fires old.network old.firings stalled here m) 1);
      few_held = omega (
        arith,
        held,
        inv.few_held,
        choose_at_most (has_firing old.network old.firings here m && not (fires old.network old.firings stalled here m)) 1,
      );
      streams = c.in-Ok.ensures.streams;
      agrees = λ stream h. inv.agrees stream (subst (λ (n : Net). g.D.Datapath.agrees c.loop-module.datapath c.loop-module.env n stream) inv.network
          (c.visit.ensures.agrees stream
          (subst (λ (n : Net). g.D.Datapath.agrees c.visit.new.datapath c.visit.new.env n stream) (sym inv.network) h)));
      ready = c.in-Ok.ensures.ready;
      relies = λ later k h. subst (λ (n : Net). g.D.Datapath.relies c.visit.new.datapath n later k) inv.network
          (c.visit.ensures.relies later k
          (subst (λ (n : Net). g.D.Datapath.relies c.loop-module.datapath n later k) (sym inv.network) (inv.relies later k h)));
      onward = g.met.D.Datapath.follows c.args.datapath.now c.loop-module.datapath c.visit.new.datapath
          c.args.env.now c.loop-module.env c.visit.new.env inv.onward c.visit.ensures.onward;
    }

pub returns-clause-state : goal.returns-clause-state
returns-clause-state g c =
    let old : Running = c.args.self.now in
    let all : c.loop-module.module ≡ length old.network.modules =
    omega (arith, c.loop-module-test.false, c.loop-module.auto.module-end, c.modules-module-end.ensures.count) in
    c.loop-module.invariant.state ∙ ap (met old.network old.firings c.args.stalled.now (between old.fired)) all

pub returns-clause-run : goal.returns-clause-run
returns-clause-run g c stalls run left =
    let old : Running = c.args.self.now in
    let new : Running = c.loop-module.self in
    let stalled = c.args.stalled.now in
    let more = run_more old.network old.firings stalls stalled old.fired new.fired run left (returns-clause-state g c) in
    subst (λ (n : Net). HasRun n new.firings (stalls ++ stalled ∷ []) new.fired) (sym c.loop-module.invariant.network)
    (subst (λ k. HasRun old.network k (stalls ++ stalled ∷ []) new.fired) (sym c.loop-module.invariant.firings) more)
