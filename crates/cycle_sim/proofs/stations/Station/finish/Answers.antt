use Rattle.std.proofs.Common.{Err, refl, sym, ap, subst, arith}
use Rattle.bursts.specs.Writers.{output}
use Rattle.cycle_sim.specs.machine.Closing.{Finished, StopsFinish}
use Rattle.cycle_sim.specs.machine.Firings.{GoesOn}
use Rattle.cycle_sim.specs.declared.stop.Stop.TheVariants.{Output}
use Rattle.cycle_sim.specs.declared.stations.SinkStation.{SinkStation}
use Rattle.cycle_sim.specs.declared.stations.Station.TheVariants.{Sink}
use Rattle.cycle_sim.proofs.Leaving.{finish_failed, was_finished}
use Rattle.cycle_sim.proofs.stations.Station.finish.Goals as goal

pub returns-in-Source-clause-on : goal.returns-in-Source-clause-on
returns-in-Source-clause-on g c =
    subst (λ a. GoesOn a c.args.self.now) (sym c.in-Source.is) (c.in-Source.field-0, c.in-Source.is, refl, refl, refl, omega arith)

pub returns-in-Ok-clause-on : goal.returns-in-Ok-clause-on
returns-in-Ok-clause-on g c =
    let new : SinkStation = record { output = c.in-Sink.sink.output; writes = c.finish.new.self } in
    subst (λ a. GoesOn a (Sink new)) (sym c.in-Sink.is) (new, refl, c.finish.ensures.kept, refl)

pub returns-in-Err-clause-on : goal.returns-in-Err-clause-on
returns-in-Err-clause-on g c =
    let new : SinkStation = record { output = c.in-Sink.sink.output; writes = c.finish.new.self } in
    subst (λ a. GoesOn a (Sink new)) (sym c.in-Sink.is) (new, refl, c.finish.ensures.kept, refl)

pub returns-in-Ok-clause-finished : goal.returns-in-Ok-clause-finished
returns-in-Ok-clause-finished g c =
    let new : SinkStation = record { output = c.in-Sink.sink.output; writes = c.finish.new.self } in
    subst (λ a. Finished g.F.Files.tells (g.F.Files.store c.args.files.now) (g.F.Files.store c.finish.new.files) a (Sink new)) (sym c.in-Sink.is)
    (λ told had bytes e h.
    was_finished (output c.in-Sink.sink.writes.writer) had _ (c.in-Ok.ensures.finished told had bytes e h))

pub returns-in-Err-clause-stopped : goal.returns-in-Err-clause-stopped
returns-in-Err-clause-stopped g c =
    subst (λ a. StopsFinish g.F.Files.tells (g.F.Files.store c.args.files.now) (g.F.Files.store c.finish.new.files)
    (g.F.Files.faults c.args.files.now) (g.F.Files.faults c.finish.new.files) a (Output c.in-Sink.sink.output c.in-Err.error)) (sym c.in-Sink.is) (
      refl,
      λ told had bytes e h. finish_failed (output c.in-Sink.sink.writes.writer) had _ c.in-Err.error (c.in-Err.ensures.finished told had bytes e h),
      λ failed. c.in-Err.ensures.cause.failed (ap Err failed),
    )
