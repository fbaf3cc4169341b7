use Rattle.std.proofs.Common.{ℕ, ◌<◌, ◌∙◌, List, ℤ, pos, ap, arith, length, slice_index, slice_index_or}
use Rattle.soda_io.specs.Store.{content}
use Rattle.bursts.specs.Blocks.{cells_in}
use Rattle.bursts.specs.Readers.{kind}
use Rattle.cycle_sim.proofs.Leaving.{lane_in}
use Rattle.cycle_sim.proofs.stations.SourceStation.fire.Goals as goal

pub returns-in-Ok-clause-sent : goal.returns-in-Ok-clause-sent
returns-in-Ok-clause-sent g c told j lt =
    let s = c.args.self.now in
    let n = (kind s.reads.reader).cells in
    let cells = cells_in (kind s.reads.reader) (content (g.F.Files.store c.args.files.now) (kind s.reads.reader).id) in
    let both = c.in-Ok.ensures.sent told c.requires.ready.fine in
    let within : j < length s.lanes.items = omega (arith, lt, c.send_lanes.ensures.many, c.requires.many) in
    c.send_lanes.ensures.sent j lt
    ∙ ap (λ (ls : List ℕ). slice_index_or c.lanes.result.now (slice_index ls j) (pos 0)) c.deref.ensures.value
    ∙ ap (λ (xs : List ℤ). slice_index_or xs (slice_index s.lanes.items j) (pos 0)) (c.lanes.ensures.value ∙ both.0)
    ∙ lane_in s.reads.unroll s.reads.delay n c.args.firing cells (slice_index s.lanes.items j) (c.requires.within j 0 within)
