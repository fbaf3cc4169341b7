use Rattle.std.proofs.Common.{◌∙◌, ◌<◌, ℕ, slice_set, ◌+◌, true, refl, sym, ap, subst}
use Rattle.std.proofs.lemmas.Bool.{true≢false}
use Rattle.std.proofs.lemmas.List.{get_or_default}
use Rattle.net_ir.specs.Nets.{age}
use Rattle.cycle_sim.specs.Ending.{AreEnding}
use Rattle.cycle_sim.specs.Onward.{Onward}
use Rattle.cycle_sim.specs.Paths.{settings}
use Rattle.cycle_sim.specs.Settings.{Settings}
use Rattle.cycle_sim.specs.Stations.{Units}
use Rattle.cycle_sim.specs.machine.Firings.{FailedIn}
use Rattle.cycle_sim.specs.declared.stations.Station.TheVariants.{Forward}
use Rattle.cycle_sim.proofs.Finishing.{all_put, finish_next, finish_onward, finish_stopped, may_finish}
use Rattle.cycle_sim.proofs.path.FilePath.finish_one.Goals as goal

pub finish-requires : goal.finish-requires
finish-requires g c = record {
  may =
      let units : Units g.row.U.Denot = record { value = g.U.Unit.value; place = g.U.Unit.place; step = g.U.Unit.step; count = g.U.Unit.count } in
      let d = c.args.self.now in
      let ending = c.requires.ending in
      may_finish g.F.Files.tells units (settings d) (g.F.Files.given c.args.files.now) (g.F.Files.store c.args.files.now) d.stations.items ending.0 c.args.number
      ending.2 c.requires.known c.index_mut.result.now (get_or_default d.stations.items c.args.number Forward _ c.requires.known ∙ sym c.index_mut.ensures.value);
}

pub returns-in-Ok-clause-ending : goal.returns-in-Ok-clause-ending
returns-in-Ok-clause-ending g c fired all ending =
    let units : Units g.row.U.Denot = record { value = g.U.Unit.value; place = g.U.Unit.place; step = g.U.Unit.step; count = g.U.Unit.count } in
    let d = c.args.self.now in
    let s : Settings = settings d in
    let given : ℕ = g.F.Files.given c.args.files.now in
    let old = g.F.Files.store c.args.files.now in
    let new = g.F.Files.store c.finish.new.files in
    let m : ℕ = c.args.number in
    let was = get_or_default d.stations.items m Forward _ c.requires.known ∙ sym c.index_mut.ensures.value in
    let plan = c.programs_have_plans.ensures.plan s.program s.delays ending.settings.streams.valid ending.settings.streams.widths in
    subst (λ n. AreEnding g.F.Files.tells units s n new (slice_set d.stations.items m c.finish.new.self) fired (m + 1) 0) (sym c.finish.ensures.given)
    (finish_next g.F.Files.tells units s given old d.stations.items fired m ending c.requires.known new c.index_mut.result.now c.finish.new.self _ was
    c.finish.ensures.on c.finish.ensures.files
    (λ v kind. all_put s fired all plan.lanes c.firings_are_rounded_up.ensures m (subst (λ n. m < n) ending.count c.requires.known) v (ap age kind))
    c.in-Ok.ensures.finished)

pub returns-in-Ok-clause-onward : goal.returns-in-Ok-clause-onward
returns-in-Ok-clause-onward g c =
    let units : Units g.row.U.Denot = record { value = g.U.Unit.value; place = g.U.Unit.place; step = g.U.Unit.step; count = g.U.Unit.count } in
    let d = c.args.self.now in
    let s : Settings = settings d in
    let given : ℕ = g.F.Files.given c.args.files.now in
    let old = g.F.Files.store c.args.files.now in
    let new = g.F.Files.store c.finish.new.files in
    let m : ℕ = c.args.number in
    let was = get_or_default d.stations.items m Forward _ c.requires.known ∙ sym c.index_mut.ensures.value in
    let ending = c.requires.ending in
    subst (λ n. Onward g.F.Files.tells s s given n old new d.stations.items (slice_set d.stations.items m c.finish.new.self)
    (g.F.Files.faults c.args.files.now) (g.F.Files.faults c.finish.new.files) d.stopped d.stopped) (sym c.finish.ensures.given)
    (finish_onward g.F.Files.tells units s given old d.stations.items ending.0 m ending.2 c.requires.known new c.index_mut.result.now c.finish.new.self _ was
    c.finish.ensures.on c.finish.ensures.files (g.F.Files.faults c.args.files.now) (g.F.Files.faults c.finish.new.files) d.stopped d.stopped c.finish.ensures.later
    (λ e. (e, c.in-Ok.ensures.kept)) c.requires.going (λ f. absurd (subst FailedIn c.in-Ok.is f)))

pub returns-in-Err-clause-onward : goal.returns-in-Err-clause-onward
returns-in-Err-clause-onward g c =
    let units : Units g.row.U.Denot = record { value = g.U.Unit.value; place = g.U.Unit.place; step = g.U.Unit.step; count = g.U.Unit.count } in
    let d = c.args.self.now in
    let s : Settings = settings d in
    let given : ℕ = g.F.Files.given c.args.files.now in
    let old = g.F.Files.store c.args.files.now in
    let new = g.F.Files.store c.finish.new.files in
    let m : ℕ = c.args.number in
    let was = get_or_default d.stations.items m Forward _ c.requires.known ∙ sym c.index_mut.ensures.value in
    let ending = c.requires.ending in
    subst (λ n. Onward g.F.Files.tells s s given n old new d.stations.items (slice_set d.stations.items m c.finish.new.self)
    (g.F.Files.faults c.args.files.now) (g.F.Files.faults c.finish.new.files) d.stopped true) (sym c.finish.ensures.given)
    (finish_onward g.F.Files.tells units s given old d.stations.items ending.0 m ending.2 c.requires.known new c.index_mut.result.now c.finish.new.self _ was
    c.finish.ensures.on c.finish.ensures.files (g.F.Files.faults c.args.files.now) (g.F.Files.faults c.finish.new.files) d.stopped true c.finish.ensures.later
    (λ e. absurd (true≢false e)) c.requires.going (λ f. refl))

pub returns-in-Err-clause-stopped : goal.returns-in-Err-clause-stopped
returns-in-Err-clause-stopped g c fired all ending =
    let units : Units g.row.U.Denot = record { value = g.U.Unit.value; place = g.U.Unit.place; step = g.U.Unit.step; count = g.U.Unit.count } in
    let d = c.args.self.now in
    let s : Settings = settings d in
    let given : ℕ = g.F.Files.given c.args.files.now in
    let old = g.F.Files.store c.args.files.now in
    let new = g.F.Files.store c.finish.new.files in
    let m : ℕ = c.args.number in
    let was = get_or_default d.stations.items m Forward _ c.requires.known ∙ sym c.index_mut.ensures.value in
    let plan = c.programs_have_plans.ensures.plan s.program s.delays ending.settings.streams.valid ending.settings.streams.widths in (
      m,
      finish_stopped g.F.Files.tells units s given old d.stations.items fired m ending c.requires.known new c.index_mut.result.now c.finish.new.self _ was
          c.finish.ensures.on c.finish.ensures.files
          (λ v kind. all_put s fired all plan.lanes c.firings_are_rounded_up.ensures m (subst (λ n. m < n) ending.count c.requires.known) v (ap age kind))
          (g.F.Files.faults c.args.files.now) (g.F.Files.faults c.finish.new.files) d.stopped c.requires.going c.in-Err.stop (sym (ap FailedIn c.in-Err.is))
          c.in-Err.ensures.stopped,
    )
