use Rattle.std.proofs.Common.{List, ℤ, subst, arith}
use Rattle.bursts.specs.Writers.{Puts}
use Rattle.file_modules.proofs.Handed.{in_range_handed, wrapped_handed}
use Rattle.file_modules.proofs.sink.SinkModule.fire.Goals as goal

pub put-requires-clause-range : goal.put-requires-clause-range
put-requires-clause-range g c =
    let m = c.args.self.now in
    in_range_handed _ _ m.unroll m.delay m.cells c.args.firing _ _ c.args.ports.now _ c.deref.result.now m.of_writer c.requires.ports
    c.first_lane-first.ensures c.cell_count-count.ensures.value (omega (arith, c.cell_count-count.ensures.within)) c.deref.ensures.value
    c.wrap_all.ensures.front

pub returns-clause-put : goal.returns-clause-put
returns-clause-put g c = λ told before bytes there h.
    let m = c.args.self.now in
    let P : List ℤ → Type 0 = λ xs. Puts c.put.new.self before xs
    ((g.F.Files.store c.put.new.files).bytes ((g.F.Files.store c.put.new.files).name m.writer.id)) c.put.result in
    subst P (wrapped_handed _ _ m.unroll m.delay m.cells c.args.firing _ _ c.args.ports.now _ c.deref.result.now m.of_writer c.requires.ports
    c.first_lane-first.ensures c.cell_count-count.ensures.value (omega (arith, c.cell_count-count.ensures.within)) c.deref.ensures.value
    c.wrap_all.ensures.front) (c.put.ensures.put told before bytes there h)
