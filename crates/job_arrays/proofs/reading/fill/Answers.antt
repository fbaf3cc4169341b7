use Rattle.std.proofs.Common.{ap}
use Rattle.bursts.specs.Blocks.{Kind}
use Rattle.bursts.proofs.CallerLemmas.{stands_first}
use Rattle.job_arrays.proofs.reading.fill.Goals as goal

pub read_all-answer-requires-clause-stands : goal.read_all-answer-requires-clause-stands
read_all-answer-requires-clause-stands g c = λ told.
    stands_first c.in-Ok.reader (g.F.Files.store c.args.files.now) c.args.id (ap (λ (k : Kind). k.id) c.in-Ok.ensures.kind)
    (c.requires.unread told) c.in-Ok.ensures.stands
