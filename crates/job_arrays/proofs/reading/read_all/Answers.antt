use Rattle.std.proofs.Common.{ap, ◌∙◌}
use Rattle.soda_io.specs.Store.{content}
use Rattle.bursts.specs.Blocks.{Kind}
use Rattle.bursts.proofs.CallerLemmas.{same_content}
use Rattle.job_arrays.proofs.InARow.{cells_both, reads_file}
use Rattle.job_arrays.proofs.reading.read_all.Goals as goal

pub returns-clause-cells : goal.returns-clause-cells
returns-clause-cells g c = λ told.
    let block = c.in_ok-next_block.ensures in
    let mid = g.F.Files.store c.next_block.new.files in
    cells_both _ _ _ _ c.requires.none (c.next_block.auto.out ∙ c.requires.whole) (block.block told c.requires.fine) c.end.result _ _ block.kind
    (ap (λ (k : Kind). content mid k.id) block.kind ∙ same_content _ _ _ _ c.requires.given (block.store told).ids (block.store told).bytes)
    (c.end.ensures.end told block.fault)

pub returns-clause-store : goal.returns-clause-store
returns-clause-store g c = λ told.
    let block = c.in_ok-next_block.ensures in
    reads_file _ _ _ _ _ _ _ _ _ _ _ _ _ _ (block.store told) c.end.result (c.end.ensures.store told) block.given
    (ap (λ (k : Kind). k.id) block.kind) block.fault c.requires.begins c.end.ensures.done
