use Rattle.std.proofs.Common.{◌∙◌, ◌<◌, ℕ, slice_set, ◌+◌, true, refl, sym, ap, subst}
use Rattle.std.proofs.lemmas.Bool.{true≢false}
use Rattle.std.proofs.lemmas.List.{get_or_default}
use Rattle.net_ir.specs.Nets.{age}
use Rattle.cycle_sim.specs.Ending.{AreEnding}
use Rattle.cycle_sim.specs.Onward.{Onward}
use Rattle.cycle_sim.specs.Unended.{IsUnended}
use Rattle.cycle_sim.specs.Paths.{settings}
use Rattle.cycle_sim.specs.Settings.{Settings}
use Rattle.cycle_sim.specs.Stations.{Units}
use Rattle.cycle_sim.specs.machine.Closing.{ReadOut}
use Rattle.cycle_sim.specs.machine.Firings.{FailedIn}
use Rattle.cycle_sim.specs.declared.stations.Station.TheVariants.{Forward}
use Rattle.cycle_sim.proofs.Finishing.{all_put}
use Rattle.cycle_sim.proofs.ReadingOut.{end_next, end_onward, end_stopped, may_end}
use Rattle.cycle_sim.proofs.path.FilePath.end_one.Goals as goal

pub end-requires : goal.end-requires
end-requires g c = record {
  may =
      let units : Units g.row.U.Denot = record { value = g.U.Unit.value; place = g.U.Unit.place; step = g.U.Unit.step; count = g.U.Unit.count } in
      let d = c.args.self.now in
      let s : Settings = settings d in
      let e = c.requires.ending in
      let plan = c.programs_have_plans.ensures.plan s.program s.delays e.3.settings.streams.valid e.3.settings.streams.widths in
      may_end g.F.Files.tells units s (g.F.Files.given c.args.files.now) (g.F.Files.store c.args.files.now) d.stations.items e.0 e.1 c.args.number e.3
      (λ v kind. all_put s e.0 e.2 plan.lanes c.firings_are_rounded_up.ensures c.args.number (subst (λ n. c.args.number < n) e.3.count c.requires.known) v (ap age kind))
      c.requires.known c.index_mut.result.now (get_or_default d.stations.items c.args.number Forward _ c.requires.known ∙ sym c.index_mut.ensures.value);
}

pub returns-in-Ok-clause-ending : goal.returns-in-Ok-clause-ending
returns-in-Ok-clause-ending g c fired f all ending =
    let units : Units g.row.U.Denot = record { value = g.U.Unit.value; place = g.U.Unit.place; step = g.U.Unit.step; count = g.U.Unit.count } in
    let d = c.args.self.now in
    let s : Settings = settings d in
    let given : ℕ = g.F.Files.given c.args.files.now in
    let old = g.F.Files.store c.args.files.now in
    let new = g.F.Files.store c.end.new.files in
    let m : ℕ = c.args.number in
    let was = get_or_default d.stations.items m Forward _ c.requires.known ∙ sym c.index_mut.ensures.value in
    subst (λ n. AreEnding g.F.Files.tells units s n new (slice_set d.stations.items m c.end.new.self) fired f (m + 1)) (sym c.end.ensures.given)
    (end_next g.F.Files.tells units s given old d.stations.items fired f m ending c.requires.known new c.index_mut.result.now c.end.new.self _ was
    c.end.ensures.on c.end.ensures.files
    (subst (λ n. ReadOut g.F.Files.tells n old new c.index_mut.result.now c.end.new.self) c.end.ensures.given c.in-Ok.ensures.ended))

pub returns-in-Ok-clause-onward : goal.returns-in-Ok-clause-onward
returns-in-Ok-clause-onward g c =
    let units : Units g.row.U.Denot = record { value = g.U.Unit.value; place = g.U.Unit.place; step = g.U.Unit.step; count = g.U.Unit.count } in
    let d = c.args.self.now in
    let s : Settings = settings d in
    let given : ℕ = g.F.Files.given c.args.files.now in
    let old = g.F.Files.store c.args.files.now in
    let new = g.F.Files.store c.end.new.files in
    let m : ℕ = c.args.number in
    let was = get_or_default d.stations.items m Forward _ c.requires.known ∙ sym c.index_mut.ensures.value in
    let ending = c.requires.ending in
    subst (λ n. Onward g.F.Files.tells s s given n old new d.stations.items (slice_set d.stations.items m c.end.new.self)
    (g.F.Files.faults c.args.files.now) (g.F.Files.faults c.end.new.files) d.stopped d.stopped) (sym c.end.ensures.given)
    (end_onward g.F.Files.tells units s given old d.stations.items ending.0 ending.1 m ending.3 c.requires.known new c.index_mut.result.now c.end.new.self _ was
    c.end.ensures.on c.end.ensures.files (g.F.Files.faults c.args.files.now) (g.F.Files.faults c.end.new.files) d.stopped d.stopped c.end.ensures.later
    (λ e. (e, c.in-Ok.ensures.kept)) c.requires.going (λ f. absurd (subst FailedIn c.in-Ok.is f)))

pub returns-in-Err-clause-onward : goal.returns-in-Err-clause-onward
returns-in-Err-clause-onward g c =
    let units : Units g.row.U.Denot = record { value = g.U.Unit.value; place = g.U.Unit.place; step = g.U.Unit.step; count = g.U.Unit.count } in
    let d = c.args.self.now in
    let s : Settings = settings d in
    let given : ℕ = g.F.Files.given c.args.files.now in
    let old = g.F.Files.store c.args.files.now in
    let new = g.F.Files.store c.end.new.files in
    let m : ℕ = c.args.number in
    let was = get_or_default d.stations.items m Forward _ c.requires.known ∙ sym c.index_mut.ensures.value in
    let ending = c.requires.ending in
    subst (λ n. Onward g.F.Files.tells s s given n old new d.stations.items (slice_set d.stations.items m c.end.new.self)
    (g.F.Files.faults c.args.files.now) (g.F.Files.faults c.end.new.files) d.stopped true) (sym c.end.ensures.given)
    (end_onward g.F.Files.tells units s given old d.stations.items ending.0 ending.1 m ending.3 c.requires.known new c.index_mut.result.now c.end.new.self _ was
    c.end.ensures.on c.end.ensures.files (g.F.Files.faults c.args.files.now) (g.F.Files.faults c.end.new.files) d.stopped true c.end.ensures.later
    (λ e. absurd (true≢false e)) c.requires.going (λ f. refl))

pub returns-in-Err-clause-stopped : goal.returns-in-Err-clause-stopped
returns-in-Err-clause-stopped g c fired f all ending =
    let units : Units g.row.U.Denot = record { value = g.U.Unit.value; place = g.U.Unit.place; step = g.U.Unit.step; count = g.U.Unit.count } in
    let d = c.args.self.now in
    let s : Settings = settings d in
    let given : ℕ = g.F.Files.given c.args.files.now in
    let old = g.F.Files.store c.args.files.now in
    let new = g.F.Files.store c.end.new.files in
    let m : ℕ = c.args.number in
    let was = get_or_default d.stations.items m Forward _ c.requires.known ∙ sym c.index_mut.ensures.value in
    subst (λ n. IsUnended g.F.Files.tells units s n d.stopped old new (slice_set d.stations.items m c.end.new.self) fired f (g.F.Files.faults c.args.files.now)
    (g.F.Files.faults c.end.new.files) m c.in-Err.stop) (sym c.end.ensures.given)
    (end_stopped g.F.Files.tells units s given old d.stations.items fired f m ending c.requires.known new c.index_mut.result.now c.end.new.self _ was
    c.end.ensures.on c.end.ensures.files (g.F.Files.faults c.args.files.now) (g.F.Files.faults c.end.new.files) d.stopped c.requires.going c.in-Err.stop
    (sym (ap FailedIn c.in-Err.is)) c.in-Err.ensures.stopped)
