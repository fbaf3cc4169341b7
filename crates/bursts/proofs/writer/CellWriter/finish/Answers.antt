use Rattle.bursts.proofs.WriterSteps.{finishes}
use Rattle.bursts.proofs.writer.CellWriter.finish.Goals as goal

pub returns-clause-finished : goal.returns-clause-finished
returns-clause-finished g c = λ told before bytes there h.
    finishes _ _ _ c.args.self.now _ _ c.requires.given (c.write_full.ensures.store told) c.put_end.ensures.put before bytes there h
