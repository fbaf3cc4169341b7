use Rattle.std.proofs.Common.{◌≡◌, ◌∙◌, length, refl, sym, subst, arith}
use Rattle.cycle_sim.specs.Ending.{AllFired, AreEnding}
use Rattle.cycle_sim.specs.Paths.{settings}
use Rattle.cycle_sim.specs.Stations.{Units}
use Rattle.cycle_sim.specs.machine.Going.{first_stays, one_follows, stopped_since}
use Rattle.cycle_sim.proofs.path.FilePath.finish.Goals as goal

pub loop-number-init : goal.loop-number-init
loop-number-init g c =
    let d = c.args.self.now in
    record {
      long = refl;
      going = c.requires.going;
      onward = first_stays g.F.Files.tells (settings d) (g.F.Files.given c.args.files.now) (g.F.Files.store c.args.files.now) d.stations.items
          (g.F.Files.faults c.args.files.now) d.stopped;
      ending = λ fired all ending. ending;
    }

pub finish_one-requires-clause-ending : goal.finish_one-requires-clause-ending
finish_one-requires-clause-ending g c =
    let i = c.loop-number.invariant in
    let e = c.requires.ending in
    (e.0, subst (λ s. AllFired s e.0) (sym i.onward.settings) e.1, i.ending e.0 e.1 e.2)

pub returns-in-Err-clause-onward : goal.returns-in-Err-clause-onward
returns-in-Err-clause-onward g c = one_follows c.loop-number.invariant.onward c.finish_one.ensures.onward

pub returns-in-Err-clause-stopped : goal.returns-in-Err-clause-stopped
returns-in-Err-clause-stopped g c fired all ending =
    let i = c.loop-number.invariant in
    let s = c.in-Err.ensures.stopped fired (subst (λ t. AllFired t fired) (sym i.onward.settings) all) (i.ending fired all ending) in
    (s.0, stopped_since i.onward s.1)

pub loop-number-preserved : goal.loop-number-preserved
loop-number-preserved g c =
    let i = c.loop-number.invariant in
    record {
      long = c.finish_one.ensures.long ∙ i.long;
      going = c.in-Ok.ensures.going;
      onward = one_follows i.onward c.finish_one.ensures.onward;
      ending = λ fired all ending.
          c.in-Ok.ensures.ending fired (subst (λ t. AllFired t fired) (sym i.onward.settings) all) (i.ending fired all ending);
    }

pub returns-clause-ending : goal.returns-clause-ending
returns-clause-ending g c fired all ending =
    let units : Units g.row.U.Denot = record { value = g.U.Unit.value; place = g.U.Unit.place; step = g.U.Unit.step; count = g.U.Unit.count } in
    let i = c.loop-number.invariant in
    let d = c.loop-number.self in
    let files = c.loop-number.files in
    let over : c.loop-number.number ≡ length d.stations.items =
    omega (arith, c.loop-number-test.false, c.loop-number.auto.number-end, c.len-number-end.ensures, i.long) in
    subst (λ n. AreEnding g.F.Files.tells units (settings d) (g.F.Files.given files) (g.F.Files.store files) d.stations.items fired n 0) over
    (i.ending fired all ending)
