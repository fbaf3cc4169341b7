use Rattle.std.proofs.Common.{◌≡◌, ◌≤◌, ◌&&◌, not, Bool, true, false, cond, ◌∙◌, sym, ap, subst, refl, arith}
use Rattle.std.proofs.lemmas.Bool.{cond_both}
use Rattle.net_ir.specs.States.{Machine, has_firing, Run}
use Rattle.net_ir.specs.CycleRun.{IsBetween, fires, visit, met, fired_among, held_among}
use Rattle.net_ir.proofs.CycleSteps.{Amid-met, met_one, fired_one, held_one}
use Rattle.net_ir.proofs.cycle.count_cycle.Goals as goal

pub loop-module-init : goal.loop-module-init
unfolding met fired_among held_among
loop-module-init c = record { counts = refl; fired = refl; held = refl; few_fired = omega arith; few_held = omega arith }

pub visit-one-requires-clause-between : goal.visit-one-requires-clause-between
visit-one-requires-clause-between c =
    let net = c.args.net.now in
    let old : Machine = c.args.counts.now in
    let here = Amid-met net old.firings c.module_count-module-end.ensures.network c.args.stalled.now old.state c.module_count-module-end.ensures.lawful c.requires.between c.loop-module.module (omega (arith, c.loop-module.auto.module-end, c.module_count-module-end.ensures.value)) in
    subst (λ (x : Machine). IsBetween x.state) (sym c.loop-module.invariant.counts) here.between

pub loop-module-preserved : goal.loop-module-preserved
loop-module-preserved c =
    let net = c.args.net.now in
    let old : Machine = c.args.counts.now in
    let stalled = c.args.stalled.now in
    let m = c.loop-module.module in
    let at_most : (b : Bool) → cond b 1 0 ≤ 1 = λ b. cond_both b 1 0 (λ n. n ≤ 1) (λ e. omega arith) (λ e. omega arith) in
    let here = met net old.firings stalled old.state m in
    let now : Machine = record { network = old.network; firings = old.firings; state = here } in
    let state = subst (λ (x : Machine). c.visit-one.new.counts
    ≡ record {
      network = x.network;
      firings = x.firings;
      state = visit net x.firings stalled x.state m;
    }) c.loop-module.invariant.counts c.visit-one.ensures.state in
    let fired = subst (λ (x : Machine). c.visit-one.result.fired
    ≡ cond (fires net x.firings stalled x.state m) 1 0) c.loop-module.invariant.counts c.visit-one.ensures.fired in
    let held = subst (λ (x : Machine). c.visit-one.result.held
    ≡ cond (has_firing net x.firings x.state m && not (fires net x.firings stalled x.state m)) 1 0) c.loop-module.invariant.counts c.visit-one.ensures.held in
    record {
      counts = state ∙ ap (λ s. record { network = old.network; firings = old.firings; state = s })
          (met_one net old.firings c.module_count-module-end.ensures.network stalled old.state m);
      fired = omega (arith, fired, c.loop-module.invariant.fired, fired_one net old.firings c.module_count-module-end.ensures.network stalled old.state m);
      held = omega (arith, held, c.loop-module.invariant.held, held_one net old.firings c.module_count-module-end.ensures.network stalled old.state m);
      few_fired = omega (arith, fired, c.loop-module.invariant.few_fired, at_most (fires net old.firings stalled here m));
      few_held = omega (
        arith,
        held,
        c.loop-module.invariant.few_held,
        at_most
            (has_firing net old.firings here m && not (fires net old.firings stalled here m)),
      );
    }

pub returns-clause-still_between : goal.returns-clause-still_between
returns-clause-still_between c =
    let net = c.args.net.now in
    let old : Machine = c.args.counts.now in
    let here = Amid-met net old.firings c.module_count-module-end.ensures.network c.args.stalled.now old.state c.module_count-module-end.ensures.lawful c.requires.between c.loop-module.module (omega (arith, c.loop-module.auto.module-end, c.module_count-module-end.ensures.value)) in
    subst (λ (x : Machine). IsBetween x.state) (sym c.loop-module.invariant.counts) here.between

pub returns-clause-events : goal.returns-clause-events
returns-clause-events c =
    let net = c.args.net.now in
    let old : Machine = c.args.counts.now in
    let here = Amid-met net old.firings c.module_count-module-end.ensures.network c.args.stalled.now old.state c.module_count-module-end.ensures.lawful c.requires.between c.loop-module.module (omega (arith, c.loop-module.auto.module-end, c.module_count-module-end.ensures.value)) in
    (here.run.0, subst (λ (x : Machine). Run net old.firings old.state here.run.0 x.state) (sym c.loop-module.invariant.counts) here.run.1)
