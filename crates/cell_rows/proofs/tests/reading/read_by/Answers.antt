use Rattle.std.proofs.Common.{ap}
use Rattle.soda_io.specs.Mem.{mem_store}
use Rattle.bursts.specs.Blocks.{Kind}
use Rattle.bursts.proofs.CallerLemmas.{stands_first}
use Rattle.cell_rows.proofs.tests.reading.read_by.Goals as goal

pub read_blocks-requires-clause-stands : goal.read_blocks-requires-clause-stands
read_blocks-requires-clause-stands g c =
    stands_first c.in_ok-reader.reader (mem_store c.args.files.now) c.args.id (ap (λ (k : Kind). k.id) c.in_ok-reader.ensures.kind)
    c.requires.unread c.in_ok-reader.ensures.stands
