use Rattle.std.proofs.Common.{◌∙◌, ◌<◌, length, ap, subst}
use Rattle.net_ir.specs.Nets.{Net}
use Rattle.staged_cells.specs.Streams.{module_at}
use Rattle.cycle_sim.specs.Fresh.{IsNew}
use Rattle.cycle_sim.specs.Paths.{settings}
use Rattle.cycle_sim.specs.Settings.{Settings}
use Rattle.cycle_sim.specs.Stations.{Units, station_at}
use Rattle.cycle_sim.proofs.Beginning.{OneModule, begin_handles, begin_ready}
use Rattle.cycle_sim.proofs.path.FilePath.begin.Goals as goal

pub returns-in-Ok-clause-ready : goal.returns-in-Ok-clause-ready
returns-in-Ok-clause-ready g c fired none =
    let units : Units g.row.U.Denot = record { value = g.U.Unit.value; place = g.U.Unit.place; step = g.U.Unit.step; count = g.U.Unit.count } in
    let s : Settings = settings c.args.self.now in
    let one : OneModule s = record {
      modules = λ m n. c.modules_of_a_run_are_apart.ensures.modules s m n c.requires.settings;
      sinks = λ m n v w. c.modules_of_a_run_are_apart.ensures.sinks s m n v w c.requires.settings;
    } in
    let new = c.in-Ok.ensures in
    begin_ready g.F.Files.tells units s c.args.inputs.now c.args.outputs.now (g.F.Files.given c.args.files.now) (g.F.Files.store c.args.files.now) c.requires.fresh one
    c.in-Ok.stations.items (new.count ∙ ap (λ (n : Net). length n.modules) c.requires.network)
    (λ m lt. subst (λ n. IsNew units s c.args.inputs.now c.args.outputs.now m (module_at n m) (station_at c.in-Ok.stations.items m)) c.requires.network (new.each m lt))
    c.requires.settings fired (λ m lt. none m (subst (λ k. m < k) new.count lt))

pub returns-in-Ok-clause-handles : goal.returns-in-Ok-clause-handles
returns-in-Ok-clause-handles g c =
    let units : Units g.row.U.Denot = record { value = g.U.Unit.value; place = g.U.Unit.place; step = g.U.Unit.step; count = g.U.Unit.count } in
    let s : Settings = settings c.args.self.now in
    let one : OneModule s = record {
      modules = λ m n. c.modules_of_a_run_are_apart.ensures.modules s m n c.requires.settings;
      sinks = λ m n v w. c.modules_of_a_run_are_apart.ensures.sinks s m n v w c.requires.settings;
    } in
    let new = c.in-Ok.ensures in
    begin_handles g.F.Files.tells units s c.args.inputs.now c.args.outputs.now (g.F.Files.given c.args.files.now) (g.F.Files.store c.args.files.now) c.requires.fresh one
    c.in-Ok.stations.items (new.count ∙ ap (λ (n : Net). length n.modules) c.requires.network)
    (λ m lt. subst (λ n. IsNew units s c.args.inputs.now c.args.outputs.now m (module_at n m) (station_at c.in-Ok.stations.items m)) c.requires.network (new.each m lt))
