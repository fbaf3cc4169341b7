use Rattle.std.proofs.Common.{ℕ, length, inl, inr, sym, subst}
use Rattle.cycle_sim.specs.Ending.{AllFired, AreEnding}
use Rattle.cycle_sim.specs.Paths.{settings}
use Rattle.cycle_sim.specs.Stations.{Units}
use Rattle.cycle_sim.specs.Unended.{IsUnended}
use Rattle.cycle_sim.specs.machine.Going.{one_follows, unended_since}
use Rattle.cycle_sim.proofs.Finishing.{all_done, none_ending}
use Rattle.cycle_sim.proofs.simulation.Simulation.end.Goals as goal

pub finish-requires-clause-ending : goal.finish-requires-clause-ending
finish-requires-clause-ending g c =
    let units : Units g.row.U.Denot = record { value = g.U.Unit.value; place = g.U.Unit.place; step = g.U.Unit.step; count = g.U.Unit.count } in
    let d = c.args.self.now.path in
    let r = c.args.self.now.pipeline in (
      r.fired,
      all_done (settings d) r.network r.firings r.fired c.requires.run.network c.requires.run.firings c.requires.finished,
      none_ending g.F.Files.tells units (settings d) (g.F.Files.given c.args.files.now) (g.F.Files.store c.args.files.now) d.stations.items r.fired
          c.requires.run.ready,
    )

pub end-requires-clause-ending : goal.end-requires-clause-ending
end-requires-clause-ending g c =
    let units : Units g.row.U.Denot = record { value = g.U.Unit.value; place = g.U.Unit.place; step = g.U.Unit.step; count = g.U.Unit.count } in
    let d = c.args.self.now.path in
    let r = c.args.self.now.pipeline in
    let all : AllFired (settings d) r.fired = all_done (settings d) r.network r.firings r.fired c.requires.run.network c.requires.run.firings c.requires.finished in
    let none = none_ending g.F.Files.tells units (settings d) (g.F.Files.given c.args.files.now) (g.F.Files.store c.args.files.now) d.stations.items r.fired c.requires.run.ready in
    (r.fired, length c.finish.new.self.stations.items, subst (λ s. AllFired s r.fired) (sym c.finish.ensures.onward.settings) all, c.in-Ok.ensures.ending r.fired all none)

pub returns-in-Ok-end-clause-ended : goal.returns-in-Ok-end-clause-ended
returns-in-Ok-end-clause-ended g c =
    let units : Units g.row.U.Denot = record { value = g.U.Unit.value; place = g.U.Unit.place; step = g.U.Unit.step; count = g.U.Unit.count } in
    let d = c.args.self.now.path in
    let r = c.args.self.now.pipeline in
    let all : AllFired (settings d) r.fired = all_done (settings d) r.network r.firings r.fired c.requires.run.network c.requires.run.firings c.requires.finished in
    let none = none_ending g.F.Files.tells units (settings d) (g.F.Files.given c.args.files.now) (g.F.Files.store c.args.files.now) d.stations.items r.fired c.requires.run.ready in
    let e = c.end.new.self in
    let m : ℕ = length c.finish.new.self.stations.items in
    subst (λ n. AreEnding g.F.Files.tells units (settings e) (g.F.Files.given c.end.new.files) (g.F.Files.store c.end.new.files) e.stations.items r.fired n
    (length e.stations.items)) (sym c.end.ensures.long)
    (c.in-Ok-end.ensures.ending r.fired m (subst (λ s. AllFired s r.fired) (sym c.finish.ensures.onward.settings) all) (c.in-Ok.ensures.ending r.fired all none))

pub returns-in-Ok-end-clause-onward : goal.returns-in-Ok-end-clause-onward
returns-in-Ok-end-clause-onward g c = one_follows c.finish.ensures.onward c.end.ensures.onward

pub returns-in-Err-end-clause-onward : goal.returns-in-Err-end-clause-onward
returns-in-Err-end-clause-onward g c = one_follows c.finish.ensures.onward c.end.ensures.onward

pub returns-in-Err-end-clause-stopped : goal.returns-in-Err-end-clause-stopped
returns-in-Err-end-clause-stopped g c =
    let units : Units g.row.U.Denot = record { value = g.U.Unit.value; place = g.U.Unit.place; step = g.U.Unit.step; count = g.U.Unit.count } in
    let d = c.args.self.now.path in
    let r = c.args.self.now.pipeline in
    let all : AllFired (settings d) r.fired = all_done (settings d) r.network r.firings r.fired c.requires.run.network c.requires.run.firings c.requires.finished in
    let none = none_ending g.F.Files.tells units (settings d) (g.F.Files.given c.args.files.now) (g.F.Files.store c.args.files.now) d.stations.items r.fired c.requires.run.ready in
    let e = c.end.new.self in
    let m : ℕ = length c.finish.new.self.stations.items in
    let s = c.in-Err-end.ensures.stopped r.fired m (subst (λ t. AllFired t r.fired) (sym c.finish.ensures.onward.settings) all) (c.in-Ok.ensures.ending r.fired all none) in
    inr (
      s.0,
      unended_since c.finish.ensures.onward
          (subst (λ n. IsUnended g.F.Files.tells units (settings e) (g.F.Files.given c.end.new.files) c.finish.new.self.stopped (g.F.Files.store c.finish.new.files)
          (g.F.Files.store c.end.new.files) e.stations.items r.fired n (g.F.Files.faults c.finish.new.files) (g.F.Files.faults c.end.new.files) s.0 c.in-Err-end.stop)
          (sym c.end.ensures.long) s.1),
    )

pub returns-in-Err-clause-stopped : goal.returns-in-Err-clause-stopped
returns-in-Err-clause-stopped g c =
    let units : Units g.row.U.Denot = record { value = g.U.Unit.value; place = g.U.Unit.place; step = g.U.Unit.step; count = g.U.Unit.count } in
    let d = c.args.self.now.path in
    let r = c.args.self.now.pipeline in
    let all : AllFired (settings d) r.fired = all_done (settings d) r.network r.firings r.fired c.requires.run.network c.requires.run.firings c.requires.finished in
    let none = none_ending g.F.Files.tells units (settings d) (g.F.Files.given c.args.files.now) (g.F.Files.store c.args.files.now) d.stations.items r.fired c.requires.run.ready in
    inl (c.in-Err.ensures.stopped r.fired all none)
