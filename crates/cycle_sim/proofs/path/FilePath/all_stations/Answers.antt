use Rattle.std.proofs.Common.{◌≡◌, ◌+◌, length, ap, sym, subst, arith}
use Rattle.cycle_sim.specs.Paths.{settings}
use Rattle.cycle_sim.specs.Stations.{Units}
use Rattle.cycle_sim.proofs.NewStations.{AreNewBelow, new_all, new_more}
use Rattle.cycle_sim.proofs.path.FilePath.all_stations.Goals as goal

pub loop-number-preserved : goal.loop-number-preserved
loop-number-preserved g c =
    let units : Units g.row.U.Denot = record { value = g.U.Unit.value; place = g.U.Unit.place; step = g.U.Unit.step; count = g.U.Unit.count } in
    subst (λ xs. AreNewBelow units (settings c.args.self.now) c.args.inputs.now c.args.outputs.now c.args.network.now xs (c.loop-number.number + 1))
    (sym c.in_ok-push-in-Ok.ensures.items)
    (new_more units (settings c.args.self.now) c.args.inputs.now c.args.outputs.now c.args.network.now c.loop-number.stations.items c.loop-number.number c.in-Ok.station
    c.loop-number.invariant c.in-Ok.ensures)

pub returns : goal.returns
returns g c =
    let units : Units g.row.U.Denot = record { value = g.U.Unit.value; place = g.U.Unit.place; step = g.U.Unit.step; count = g.U.Unit.count } in
    let size : length c.modules-2.result.now ≡ length c.args.network.now.modules = ap length c.modules-2.ensures.value in
    let all : c.loop-number.number ≡ length c.args.network.now.modules = omega (arith, c.loop-number-test.false, c.loop-number.auto.number-end, size) in
    new_all units (settings c.args.self.now) c.args.inputs.now c.args.outputs.now c.args.network.now c.loop-number.stations.items c.loop-number.number all
    c.loop-number.invariant
