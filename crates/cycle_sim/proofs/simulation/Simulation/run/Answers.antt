use Rattle.std.proofs.Common.{◌≡◌, ◌∙◌, ◌+◌, ◌<◌, ◌^◌, ◌++◌, ◌∷◌, [], ℕ, Bool, List, refl, slice_index, sym, ap, subst, arith}
use Rattle.std.proofs.lemmas.Bool.{false≢true}
use Rattle.net_ir.specs.CycleRun.{EndsWith}
use Rattle.net_ir.specs.Nets.{Net}
use Rattle.net_cycles.specs.Cycles.{FiresAt, HasRun}
use Rattle.sim_lines.specs.Timetable.{Timetable, flags_of}
use Rattle.time_stages.specs.Staged.{staged_tensors}
use Rattle.cycle_sim.specs.Paths.{settings}
use Rattle.cycle_sim.specs.Settings.{Settings, net_in}
use Rattle.cycle_sim.specs.Stalled.{stalled_in, stalled_until}
use Rattle.cycle_sim.specs.Stopped.{IsStopped}
use Rattle.cycle_sim.specs.machine.Going.{first_stays, one_follows, stopped_since}
use Rattle.cycle_sim.proofs.Cycling.{still_few}
use Rattle.cycle_sim.proofs.simulation.Simulation.run.Goals as goal

pub loop-self-init : goal.loop-self-init
loop-self-init g c =
    let d = c.args.self.now.path in
    let t : Timetable = c.args.flags.now in
    record {
      network = refl;
      firings = refl;
      going = c.requires.going;
      flags = ap (λ n. record { modules = t.modules; stalled = t.stalled; cycle = n }) c.requires.first;
      onward = first_stays g.F.Files.tells (settings d) (g.F.Files.given c.args.files.now) (g.F.Files.store c.args.files.now) d.stations.items
          (g.F.Files.faults c.args.files.now) d.stopped;
      run = c.requires.run;
      ran = λ stalls made. c.requires.none;
    }

pub returns-in-Err-clause-onward : goal.returns-in-Err-clause-onward
returns-in-Err-clause-onward g c = one_follows c.loop-self.invariant.onward c.cycle.ensures.onward

pub returns-in-Err-clause-stopped : goal.returns-in-Err-clause-stopped
returns-in-Err-clause-stopped g c stalls made =
    let l = c.loop-self in
    let i = l.invariant in
    let s : Settings = settings c.args.self.now.path in
    let net : Net = c.args.self.now.pipeline.network in
    let many : ℕ = c.args.self.now.pipeline.firings in
    let stop = c.in-Err.ensures.stopped in
    let flags : c.flags.result.now ≡ stalled_in s stalls l.cycles =
    c.flags.ensures ∙ ap (λ (t : Timetable). flags_of t t.cycle) i.flags ∙ made l.cycles in
    record {
      cycle = l.cycles;
      begun = l.self.pipeline.fired;
      ran = subst (λ n. HasRun n many (stalled_until s stalls l.cycles) l.self.pipeline.fired) i.network
          (subst (λ k. HasRun l.self.pipeline.network k (stalled_until s stalls l.cycles) l.self.pipeline.fired) i.firings (i.ran stalls made));
      fired = stop.0;
      m = stop.1;
      fires = subst (λ n. FiresAt n many (stalled_in s stalls l.cycles) l.self.pipeline.fired stop.0 stop.1) i.network
          (subst (λ k. FiresAt l.self.pipeline.network k (stalled_in s stalls l.cycles) l.self.pipeline.fired stop.0 stop.1) i.firings
          (subst (λ (xs : List Bool). FiresAt l.self.pipeline.network l.self.pipeline.firings xs l.self.pipeline.fired stop.0 stop.1) flags stop.2));
      stopped = stopped_since i.onward
          (subst (λ t. IsStopped g.F.Files.tells t l.self.path.stopped (g.F.Files.store l.files) (g.F.Files.store c.cycle.new.files)
          c.cycle.new.self.path.stations.items (g.F.Files.faults l.files) (g.F.Files.faults c.cycle.new.files) stop.1 (slice_index stop.0 stop.1) c.in-Err.stop)
          (c.cycle.ensures.onward.settings ∙ i.onward.settings) stop.4);
    }

pub advance-requires : goal.advance-requires
advance-requires g c =
    let l = c.loop-self in
    let i = l.invariant in
    let s : Settings = settings l.self.path in
    let e = c.requires.flags in
    let valid = i.run.ready.settings.streams in
    let plan = c.programs_have_plans.ensures.plan s.program s.delays valid.valid valid.widths in
    let first : Settings = settings c.args.self.now.path in
    let ran : HasRun l.self.pipeline.network l.self.pipeline.firings (stalled_until s e.0 l.cycles) l.self.pipeline.fired =
    subst (λ t. HasRun l.self.pipeline.network l.self.pipeline.firings (stalled_until t e.0 l.cycles) l.self.pipeline.fired) (sym i.onward.settings) (i.ran e.0 e.2) in
    let few : l.cycles < 2 ^ 63 = still_few s l.self.pipeline.network l.self.pipeline.firings l.self.pipeline.fired e.0 l.cycles plan.lanes i.run.ready.settings.few
    i.run.delays i.run.network i.run.firings c.firings_are_rounded_up.ensures
    (λ k many. c.networks_of_programs_end_in_time.ensures.ends s.program s.delays k many valid.valid valid.widths)
    (c.stalled_cycles_are_few.ensures.few (staged_tensors s.program) e.0 (net_in s).modules l.cycles)
    (c.flags_are_counted.ensures.cycles (staged_tensors s.program) e.0 (net_in s).modules l.cycles) e.1 ran
    (λ done. false≢true (c.loop-self-test.ensures.finished.1 done)) in
    omega (arith, few, ap (λ (t : Timetable). t.cycle) i.flags)

pub overflow_add-cycles : goal.overflow_add-cycles
overflow_add-cycles g c =
    let l = c.loop-self in
    let i = l.invariant in
    let s : Settings = settings l.self.path in
    let e = c.requires.flags in
    let valid = i.run.ready.settings.streams in
    let plan = c.programs_have_plans.ensures.plan s.program s.delays valid.valid valid.widths in
    let first : Settings = settings c.args.self.now.path in
    let ran : HasRun l.self.pipeline.network l.self.pipeline.firings (stalled_until s e.0 l.cycles) l.self.pipeline.fired =
    subst (λ t. HasRun l.self.pipeline.network l.self.pipeline.firings (stalled_until t e.0 l.cycles) l.self.pipeline.fired) (sym i.onward.settings) (i.ran e.0 e.2) in
    let few : l.cycles < 2 ^ 63 = still_few s l.self.pipeline.network l.self.pipeline.firings l.self.pipeline.fired e.0 l.cycles plan.lanes i.run.ready.settings.few
    i.run.delays i.run.network i.run.firings c.firings_are_rounded_up.ensures
    (λ k many. c.networks_of_programs_end_in_time.ensures.ends s.program s.delays k many valid.valid valid.widths)
    (c.stalled_cycles_are_few.ensures.few (staged_tensors s.program) e.0 (net_in s).modules l.cycles)
    (c.flags_are_counted.ensures.cycles (staged_tensors s.program) e.0 (net_in s).modules l.cycles) e.1 ran
    (λ done. false≢true (c.loop-self-test.ensures.finished.1 done)) in
    omega (arith, few)

pub loop-self-smaller : goal.loop-self-smaller
loop-self-smaller g c =
    let l = c.loop-self in
    let i = l.invariant in
    let s : Settings = settings l.self.path in
    let e = c.requires.flags in
    let valid = i.run.ready.settings.streams in
    let plan = c.programs_have_plans.ensures.plan s.program s.delays valid.valid valid.widths in
    let first : Settings = settings c.args.self.now.path in
    let ran : HasRun l.self.pipeline.network l.self.pipeline.firings (stalled_until s e.0 l.cycles) l.self.pipeline.fired =
    subst (λ t. HasRun l.self.pipeline.network l.self.pipeline.firings (stalled_until t e.0 l.cycles) l.self.pipeline.fired) (sym i.onward.settings) (i.ran e.0 e.2) in
    let few : l.cycles < 2 ^ 63 = still_few s l.self.pipeline.network l.self.pipeline.firings l.self.pipeline.fired e.0 l.cycles plan.lanes i.run.ready.settings.few
    i.run.delays i.run.network i.run.firings c.firings_are_rounded_up.ensures
    (λ k many. c.networks_of_programs_end_in_time.ensures.ends s.program s.delays k many valid.valid valid.widths)
    (c.stalled_cycles_are_few.ensures.few (staged_tensors s.program) e.0 (net_in s).modules l.cycles)
    (c.flags_are_counted.ensures.cycles (staged_tensors s.program) e.0 (net_in s).modules l.cycles) e.1 ran
    (λ done. false≢true (c.loop-self-test.ensures.finished.1 done)) in
    omega (arith, few)

pub loop-self-preserved : goal.loop-self-preserved
loop-self-preserved g c =
    let l = c.loop-self in
    let i = l.invariant in
    let s : Settings = settings c.args.self.now.path in
    record {
      network = c.cycle.ensures.network ∙ i.network;
      firings = c.cycle.ensures.firings ∙ i.firings;
      going = c.in-Ok.ensures.going;
      flags = c.advance.ensures ∙ ap (λ (t : Timetable). record { modules = t.modules; stalled = t.stalled; cycle = t.cycle + 1 }) i.flags;
      onward = one_follows i.onward c.cycle.ensures.onward;
      run = c.in-Ok.ensures.run;
      ran = λ stalls made.
          let flags : c.flags.result.now ≡ stalled_in s stalls l.cycles =
          c.flags.ensures ∙ ap (λ (t : Timetable). flags_of t t.cycle) i.flags ∙ made l.cycles in
          let next = c.flags_are_counted.ensures.next (staged_tensors s.program) stalls (net_in s).modules l.cycles in
          subst (λ (xs : List (List Bool)). HasRun c.cycle.new.self.pipeline.network c.cycle.new.self.pipeline.firings xs c.cycle.new.self.pipeline.fired) (sym next)
          (subst (λ (xs : List Bool). HasRun c.cycle.new.self.pipeline.network c.cycle.new.self.pipeline.firings (stalled_until s stalls l.cycles ++ xs ∷ [])
          c.cycle.new.self.pipeline.fired) flags
          (c.in-Ok.ensures.stalls (stalled_until s stalls l.cycles) (i.ran stalls made) (λ done. false≢true (c.loop-self-test.ensures.finished.1 done))));
    }

pub returns-clause-ends : goal.returns-clause-ends
returns-clause-ends g c stalls made =
    let l = c.loop-self in
    let i = l.invariant in
    let s : Settings = settings c.args.self.now.path in
    subst (λ n. EndsWith n c.args.self.now.pipeline.firings (stalled_until s stalls l.cycles)) i.network
    (subst (λ k. EndsWith l.self.pipeline.network k (stalled_until s stalls l.cycles)) i.firings
    (c.loop-self-test.ensures.ends refl (stalled_until s stalls l.cycles) (i.ran stalls made)))
