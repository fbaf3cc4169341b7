use Rattle.std.proofs.Common.{◌<◌, ℕ, List, length, sym, ap, subst, ◌∙◌}
use Rattle.net_ir.specs.Nets.{Net, queue_at}
use Rattle.net_build.specs.Planned.{firings_for, plan_of}
use Rattle.net_cycles.specs.Streams.{HoldStreams}
use Rattle.soda_ir.specs.Program.{plain}
use Rattle.cycle_sim.specs.Handles.{HaveHandles}
use Rattle.cycle_sim.specs.Paths.{settings}
use Rattle.cycle_sim.specs.Settings.{Settings, array_cells}
use Rattle.cycle_sim.specs.Stations.{AreReady, Units}
use Rattle.cycle_sim.proofs.simulation.Simulation.new.Goals as goal

pub new-requires : goal.new-requires
new-requires g c = record {
  positive = λ queue lt.
      let P : Net → Type 0 = λ n. queue < length n.queues → 0 < (queue_at n.queues queue).capacity in
      subst P (sym c.requires.network) (c.queues_of_a_run_have_room.ensures (settings c.args.path) queue c.requires.settings) lt;
}

pub returns-in-Ok-new-clause-handles : goal.returns-in-Ok-new-clause-handles
returns-in-Ok-new-clause-handles g c =
    subst (λ s. HaveHandles s c.args.inputs.now c.args.outputs.now c.begin.new.self.stations.items) c.begin.ensures.settings c.in-Ok.ensures.handles

pub returns-in-Ok-new-clause-run : goal.returns-in-Ok-new-clause-run
returns-in-Ok-new-clause-run g c =
    let units : Units g.row.U.Denot = record { value = g.U.Unit.value; place = g.U.Unit.place; step = g.U.Unit.step; count = g.U.Unit.count } in
    let s : Settings = settings c.args.path in
    let p = c.in-Ok-new.pipeline in
    record {
      network = c.in-Ok-new.ensures.network ∙ c.requires.network;
      firings = c.in-Ok-new.ensures.firings ∙ c.firings-firings.ensures
          ∙ ap (λ (ds : List ℕ). firings_for (array_cells s) (plan_of (plain c.args.path.program) ds)) c.deref.ensures.value;
      delays = c.requires.delays;
      ready = subst (λ t. AreReady g.F.Files.tells units t (g.F.Files.given c.args.files.now) (g.F.Files.store c.args.files.now) c.begin.new.self.stations.items p.fired)
          c.begin.ensures.settings (c.in-Ok.ensures.ready p.fired (λ m lt. c.in-Ok-new.ensures.unfired m));
      holds = λ stream agrees.
          subst (λ n. HoldStreams n p.fired p.fifos stream) (sym c.in-Ok-new.ensures.network) (c.in-Ok-new.ensures.streams stream);
    }
