use Rattle.std.proofs.Common.{◌∙◌, ℕ, length, slice_set, true, refl, sym, ap, subst}
use Rattle.std.proofs.lemmas.Bool.{true≢false}
use Rattle.std.proofs.lemmas.List.{get_or_default}
use Rattle.net_cycles.specs.Between.{fired_once}
use Rattle.cycle_sim.specs.Paths.{settings}
use Rattle.cycle_sim.specs.Stations.{AreReady, Units}
use Rattle.cycle_sim.specs.Onward.{Onward}
use Rattle.cycle_sim.specs.declared.stations.Station.TheVariants.{Forward}
use Rattle.cycle_sim.specs.machine.Firings.{FailedIn}
use Rattle.cycle_sim.proofs.Run.{agrees_before, goes_onward, may, ready_next, stopped_there, there_is, was_sent}
use Rattle.cycle_sim.proofs.path.FilePathDatapath.fire.Goals as goal

pub fire-requires-clause-may : goal.fire-requires-clause-may
fire-requires-clause-may g c =
    let units : Units g.row.U.Denot = record { value = g.U.Unit.value; place = g.U.Unit.place; step = g.U.Unit.step; count = g.U.Unit.count } in
    let d = c.args.self.now in
    let given : ℕ = g.F.Files.given c.args.files.now in
    let old = g.F.Files.store c.args.files.now in
    may g.F.Files.tells units (settings d) given old d.stations.items c.args.fired.now c.args.module c.args._net.now c.requires.ready.1 c.requires.ready.2 c.requires.known (length c.args.ports.now) (length c.args.sends.now) c.index_mut.result.now
    (get_or_default d.stations.items c.args.module Forward _ (there_is g.F.Files.tells units (settings d) given old d.stations.items c.args.fired.now c.args.module c.args._net.now c.requires.ready.1 c.requires.ready.2 c.requires.known) ∙ sym c.index_mut.ensures.value) c.requires.relies c.requires.ports c.requires.sends

pub returns-in-Ok-clause-agrees : goal.returns-in-Ok-clause-agrees
returns-in-Ok-clause-agrees g c stream agrees =
    let units : Units g.row.U.Denot = record { value = g.U.Unit.value; place = g.U.Unit.place; step = g.U.Unit.step; count = g.U.Unit.count } in
    let d = c.args.self.now in
    let given : ℕ = g.F.Files.given c.args.files.now in
    let old = g.F.Files.store c.args.files.now in
    agrees_before g.F.Files.tells units (settings d) given old d.stations.items c.args.fired.now c.args.module c.args._net.now c.requires.ready.1 c.requires.ready.2 c.requires.known
    (g.F.Files.store c.fire.new.files) c.index_mut.result.now c.fire.new.self _ (get_or_default d.stations.items c.args.module Forward _ (there_is g.F.Files.tells units (settings d) given old d.stations.items c.args.fired.now c.args.module c.args._net.now c.requires.ready.1 c.requires.ready.2 c.requires.known) ∙ sym c.index_mut.ensures.value) c.fire.ensures.on c.fire.ensures.files stream agrees

pub returns-in-Err-clause-agrees : goal.returns-in-Err-clause-agrees
returns-in-Err-clause-agrees g c stream agrees =
    let units : Units g.row.U.Denot = record { value = g.U.Unit.value; place = g.U.Unit.place; step = g.U.Unit.step; count = g.U.Unit.count } in
    let d = c.args.self.now in
    let given : ℕ = g.F.Files.given c.args.files.now in
    let old = g.F.Files.store c.args.files.now in
    agrees_before g.F.Files.tells units (settings d) given old d.stations.items c.args.fired.now c.args.module c.args._net.now c.requires.ready.1 c.requires.ready.2 c.requires.known
    (g.F.Files.store c.fire.new.files) c.index_mut.result.now c.fire.new.self _ (get_or_default d.stations.items c.args.module Forward _ (there_is g.F.Files.tells units (settings d) given old d.stations.items c.args.fired.now c.args.module c.args._net.now c.requires.ready.1 c.requires.ready.2 c.requires.known) ∙ sym c.index_mut.ensures.value) c.fire.ensures.on c.fire.ensures.files stream agrees

pub returns-in-Ok-clause-sent : goal.returns-in-Ok-clause-sent
returns-in-Ok-clause-sent g c stream agrees =
    let units : Units g.row.U.Denot = record { value = g.U.Unit.value; place = g.U.Unit.place; step = g.U.Unit.step; count = g.U.Unit.count } in
    let d = c.args.self.now in
    let given : ℕ = g.F.Files.given c.args.files.now in
    let old = g.F.Files.store c.args.files.now in
    was_sent g.F.Files.tells units (settings d) given old d.stations.items c.args.fired.now c.args.module c.args._net.now c.requires.ready.1 c.requires.ready.2 c.requires.known
    (g.F.Files.store c.fire.new.files) c.index_mut.result.now c.fire.new.self _ (get_or_default d.stations.items c.args.module Forward _ (there_is g.F.Files.tells units (settings d) given old d.stations.items c.args.fired.now c.args.module c.args._net.now c.requires.ready.1 c.requires.ready.2 c.requires.known) ∙ sym c.index_mut.ensures.value) c.fire.ensures.on c.fire.ensures.files c.args.ports.now c.fire.new.sends c.requires.found (λ s. c.modules_of_a_run_send.ensures s) c.requires.ports (c.fire.ensures.many ∙ c.requires.sends) c.in-Ok.ensures.fired stream agrees

pub returns-in-Ok-clause-ready : goal.returns-in-Ok-clause-ready
returns-in-Ok-clause-ready g c =
    let units : Units g.row.U.Denot = record { value = g.U.Unit.value; place = g.U.Unit.place; step = g.U.Unit.step; count = g.U.Unit.count } in
    let d = c.args.self.now in
    let given : ℕ = g.F.Files.given c.args.files.now in
    let old = g.F.Files.store c.args.files.now in (
      c.requires.ready.0,
      c.requires.ready.1,
      subst (λ n. AreReady g.F.Files.tells units (settings d) n (g.F.Files.store c.fire.new.files)
          (slice_set d.stations.items c.args.module c.fire.new.self) (fired_once c.args.fired.now c.args.module)) (sym c.fire.ensures.given)
          (ready_next g.F.Files.tells units (settings d) given old d.stations.items c.args.fired.now c.args.module c.args._net.now c.requires.ready.1 c.requires.ready.2 c.requires.known
          (g.F.Files.store c.fire.new.files) c.index_mut.result.now c.fire.new.self _ (get_or_default d.stations.items c.args.module Forward _ (there_is g.F.Files.tells units (settings d) given old d.stations.items c.args.fired.now c.args.module c.args._net.now c.requires.ready.1 c.requires.ready.2 c.requires.known) ∙ sym c.index_mut.ensures.value) c.fire.ensures.on c.fire.ensures.files c.args.ports.now c.fire.new.sends c.requires.found (λ s. c.sinks_of_a_run_take.ensures s) (λ s. c.cells_of_a_run_are_in_range.ensures s) c.requires.whole c.in-Ok.ensures.fired),
    )

pub returns-in-Ok-clause-onward : goal.returns-in-Ok-clause-onward
returns-in-Ok-clause-onward g c =
    let units : Units g.row.U.Denot = record { value = g.U.Unit.value; place = g.U.Unit.place; step = g.U.Unit.step; count = g.U.Unit.count } in
    let d = c.args.self.now in
    let given : ℕ = g.F.Files.given c.args.files.now in
    let old = g.F.Files.store c.args.files.now in
    subst (λ n. Onward g.F.Files.tells (settings d) (settings d) given n old (g.F.Files.store c.fire.new.files) d.stations.items
    (slice_set d.stations.items c.args.module c.fire.new.self) (g.F.Files.faults c.args.files.now) (g.F.Files.faults c.fire.new.files) d.stopped d.stopped) (sym c.fire.ensures.given)
    (goes_onward g.F.Files.tells units (settings d) given old d.stations.items c.args.fired.now c.args.module c.args._net.now c.requires.ready.1 c.requires.ready.2 c.requires.known
    (g.F.Files.store c.fire.new.files) c.index_mut.result.now c.fire.new.self _ (get_or_default d.stations.items c.args.module Forward _ (there_is g.F.Files.tells units (settings d) given old d.stations.items c.args.fired.now c.args.module c.args._net.now c.requires.ready.1 c.requires.ready.2 c.requires.known) ∙ sym c.index_mut.ensures.value) c.fire.ensures.on c.fire.ensures.files (g.F.Files.faults c.args.files.now) (g.F.Files.faults c.fire.new.files) d.stopped d.stopped c.fire.ensures.later (λ e. (e, c.in-Ok.ensures.kept)) c.requires.ready.0 (λ f. absurd (subst FailedIn c.in-Ok.is f)))

pub returns-in-Err-clause-onward : goal.returns-in-Err-clause-onward
returns-in-Err-clause-onward g c =
    let units : Units g.row.U.Denot = record { value = g.U.Unit.value; place = g.U.Unit.place; step = g.U.Unit.step; count = g.U.Unit.count } in
    let d = c.args.self.now in
    let given : ℕ = g.F.Files.given c.args.files.now in
    let old = g.F.Files.store c.args.files.now in
    subst (λ n. Onward g.F.Files.tells (settings d) (settings d) given n old (g.F.Files.store c.fire.new.files) d.stations.items
    (slice_set d.stations.items c.args.module c.fire.new.self) (g.F.Files.faults c.args.files.now) (g.F.Files.faults c.fire.new.files) d.stopped true) (sym c.fire.ensures.given)
    (goes_onward g.F.Files.tells units (settings d) given old d.stations.items c.args.fired.now c.args.module c.args._net.now c.requires.ready.1 c.requires.ready.2 c.requires.known
    (g.F.Files.store c.fire.new.files) c.index_mut.result.now c.fire.new.self _ (get_or_default d.stations.items c.args.module Forward _ (there_is g.F.Files.tells units (settings d) given old d.stations.items c.args.fired.now c.args.module c.args._net.now c.requires.ready.1 c.requires.ready.2 c.requires.known) ∙ sym c.index_mut.ensures.value) c.fire.ensures.on c.fire.ensures.files (g.F.Files.faults c.args.files.now) (g.F.Files.faults c.fire.new.files) d.stopped true c.fire.ensures.later (λ e. absurd (true≢false e)) c.requires.ready.0 (λ f. refl))

pub returns-in-Err-clause-stopped : goal.returns-in-Err-clause-stopped
returns-in-Err-clause-stopped g c =
    let units : Units g.row.U.Denot = record { value = g.U.Unit.value; place = g.U.Unit.place; step = g.U.Unit.step; count = g.U.Unit.count } in
    let d = c.args.self.now in
    let given : ℕ = g.F.Files.given c.args.files.now in
    let old = g.F.Files.store c.args.files.now in
    stopped_there g.F.Files.tells units (settings d) given old d.stations.items c.args.fired.now c.args.module c.args._net.now c.requires.ready.1 c.requires.ready.2 c.requires.known
    (g.F.Files.store c.fire.new.files) c.index_mut.result.now c.fire.new.self _ (get_or_default d.stations.items c.args.module Forward _ (there_is g.F.Files.tells units (settings d) given old d.stations.items c.args.fired.now c.args.module c.args._net.now c.requires.ready.1 c.requires.ready.2 c.requires.known) ∙ sym c.index_mut.ensures.value) c.fire.ensures.on c.fire.ensures.files c.args.ports.now c.fire.new.sends c.requires.found (λ s. c.sinks_of_a_run_take.ensures s) (λ s. c.cells_of_a_run_are_in_range.ensures s) (g.F.Files.faults c.args.files.now) (g.F.Files.faults c.fire.new.files) d.stopped c.requires.ready.0 c.in-Err.stop (sym (ap FailedIn c.in-Err.is)) c.in-Err.ensures.still c.in-Err.ensures.stopped
