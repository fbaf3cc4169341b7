use Rattle.std.proofs.Common.{◌+◌, refl, sym, ap, subst}
use Rattle.std.proofs.Common.{Err}
use Rattle.file_modules.specs.Modules as of
use Rattle.cycle_sim.specs.machine.Firings.{Fired, GoesOn, Stops, Touches}
use Rattle.cycle_sim.specs.declared.stop.Stop.TheVariants.{Output}
use Rattle.cycle_sim.specs.Stations.{SourceAt, Units}
use Rattle.cycle_sim.specs.declared.stations.SinkStation.{SinkStation}
use Rattle.cycle_sim.specs.declared.stations.Station.TheVariants.{Compute, Sink, Source}
use Rattle.cycle_sim.proofs.Leaving.{put_failed, was_put}
use Rattle.cycle_sim.proofs.Touched.{compute_touches, source_touches}
use Rattle.cycle_sim.proofs.stations.Station.fire.Goals as goal

pub returns-in-Ok-clause-on : goal.returns-in-Ok-clause-on
returns-in-Ok-clause-on g c =
    subst (λ a. GoesOn a (Source c.fire.new.self)) (sym c.in-Source.is)
    (c.fire.new.self, refl, c.fire.ensures.kept, c.fire.ensures.input, c.fire.ensures.lanes, c.fire.ensures.later)

pub returns-in-Err-clause-on : goal.returns-in-Err-clause-on
returns-in-Err-clause-on g c =
    subst (λ a. GoesOn a (Source c.fire.new.self)) (sym c.in-Source.is)
    (c.fire.new.self, refl, c.fire.ensures.kept, c.fire.ensures.input, c.fire.ensures.lanes, c.fire.ensures.later)

pub returns-in-Ok-clause-fired : goal.returns-in-Ok-clause-fired
returns-in-Ok-clause-fired g c =
    let units : Units g.row.U.Denot = record { value = g.U.Unit.value; place = g.U.Unit.place; step = g.U.Unit.step; count = g.U.Unit.count } in
    subst (λ a. Fired g.F.Files.tells units (g.F.Files.given c.args.files.now) (g.F.Files.store c.args.files.now)
    (g.F.Files.store c.fire.new.files) c.args.firing c.args.ports.now c.fire.new.sends a (Source c.fire.new.self)) (sym c.in-Source.is) (
      subst (λ n. SourceAt g.F.Files.tells n (g.F.Files.store c.fire.new.files) (c.args.firing + 1) c.fire.new.self)
          c.fire.ensures.given c.in-Ok.ensures.ready,
      λ told. (c.in-Ok.ensures.sent told, c.in-Ok.ensures.good told),
    )

pub returns-in-Ok-fire-clause-on : goal.returns-in-Ok-fire-clause-on
returns-in-Ok-fire-clause-on g c =
    let new : SinkStation = record { output = c.in-Sink.sink.output; writes = c.fire-in-Sink.new.self } in
    subst (λ a. GoesOn a (Sink new)) (sym c.in-Sink.is) (new, refl, c.fire-in-Sink.ensures.kept, refl)

pub returns-in-Err-fire-clause-on : goal.returns-in-Err-fire-clause-on
returns-in-Err-fire-clause-on g c =
    let new : SinkStation = record { output = c.in-Sink.sink.output; writes = c.fire-in-Sink.new.self } in
    subst (λ a. GoesOn a (Sink new)) (sym c.in-Sink.is) (new, refl, c.fire-in-Sink.ensures.kept, refl)

pub returns-in-Ok-fire-clause-fired : goal.returns-in-Ok-fire-clause-fired
returns-in-Ok-fire-clause-fired g c =
    let units : Units g.row.U.Denot = record { value = g.U.Unit.value; place = g.U.Unit.place; step = g.U.Unit.step; count = g.U.Unit.count } in
    let new : SinkStation = record { output = c.in-Sink.sink.output; writes = c.fire-in-Sink.new.self } in
    subst (λ a. Fired g.F.Files.tells units (g.F.Files.given c.args.files.now) (g.F.Files.store c.args.files.now)
    (g.F.Files.store c.fire-in-Sink.new.files) c.args.firing c.args.ports.now c.send_same-in-Sink.new.sends a (Sink new)) (sym c.in-Sink.is)
    ((λ told before bytes e h. was_put _ before _ _ (c.in-Ok-fire.ensures.put told before bytes e h)), c.send_same-in-Sink.ensures.sent)

pub returns-in-Err-fire-clause-stopped : goal.returns-in-Err-fire-clause-stopped
returns-in-Err-fire-clause-stopped g c =
    subst (λ a. Stops g.F.Files.tells (g.F.Files.store c.args.files.now) (g.F.Files.store c.fire-in-Sink.new.files)
    (g.F.Files.faults c.args.files.now) (g.F.Files.faults c.fire-in-Sink.new.files) c.args.firing c.args.ports.now a
    (Output c.in-Sink.sink.output c.in-Err-fire.error)) (sym c.in-Sink.is) (
      refl,
      λ told had bytes e h.
          put_failed _ _ had _ _ c.in-Err-fire.error (ap (λ (x : of.Sink). x.output) c.fire-in-Sink.ensures.kept)
          (c.in-Err-fire.ensures.put told had bytes e h),
      λ failed. c.in-Err-fire.ensures.cause.failed (ap Err failed),
    )

pub returns-in-Ok-clause-files : goal.returns-in-Ok-clause-files
returns-in-Ok-clause-files g c told =
    subst (λ a. Touches (g.F.Files.given c.args.files.now) (g.F.Files.store c.args.files.now) (g.F.Files.store c.fire.new.files) a
    (Source c.fire.new.self) ⊥) (sym c.in-Source.is)
    (source_touches (g.F.Files.given c.args.files.now) (g.F.Files.store c.args.files.now) (g.F.Files.store c.fire.new.files) ⊥
    c.in-Source.source c.fire.new.self _ _ (c.in-Ok.ensures.store told) (λ f. absurd f, λ now. absurd (cc (now.1))))

pub returns-in-Compute-clause-files : goal.returns-in-Compute-clause-files
returns-in-Compute-clause-files g c told =
    subst (λ a. Touches (g.F.Files.given c.args.files.now) (g.F.Files.store c.args.files.now) (g.F.Files.store c.args.files.now) a
    (Compute c.next-value.new.self) ⊥) (sym c.in-Compute.is)
    (compute_touches (g.F.Files.given c.args.files.now) (g.F.Files.store c.args.files.now) c.in-Compute.unit (Compute c.next-value.new.self))
