use Rattle.std.proofs.Common.{refl, sym, subst, arith}
use Rattle.cycle_sim.specs.machine.Firings.{GoesOn}
use Rattle.cycle_sim.specs.declared.stations.SourceStation.{SourceStation}
use Rattle.cycle_sim.specs.declared.stations.Station.TheVariants.{Source}
use Rattle.cycle_sim.proofs.stations.Station.end.Goals as goal

pub returns-in-Ok-clause-on : goal.returns-in-Ok-clause-on
returns-in-Ok-clause-on g c =
    let s : SourceStation = c.in-Source.source in
    let new : SourceStation = record { input = s.input; reads = c.end.new.self; lanes = s.lanes; done = s.done } in
    subst (λ a. GoesOn a (Source new)) (sym c.in-Source.is) (new, refl, c.end.ensures.kept, refl, refl, omega arith)

pub returns-in-Err-clause-on : goal.returns-in-Err-clause-on
returns-in-Err-clause-on g c =
    let s : SourceStation = c.in-Source.source in
    let new : SourceStation = record { input = s.input; reads = c.end.new.self; lanes = s.lanes; done = s.done } in
    subst (λ a. GoesOn a (Source new)) (sym c.in-Source.is) (new, refl, c.end.ensures.kept, refl, refl, omega arith)

pub returns-in-Sink-clause-on : goal.returns-in-Sink-clause-on
returns-in-Sink-clause-on g c =
    subst (λ a. GoesOn a c.args.self.now) (sym c.in-Sink.is) (c.in-Sink.field-0, c.in-Sink.is, refl, refl)
