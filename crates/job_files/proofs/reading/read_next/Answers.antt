use Rattle.job_files.proofs.Advancing.{read_file}
use Rattle.job_files.proofs.reading.read_next.Goals as goal

pub returns-clause-journal : goal.returns-clause-journal
returns-clause-journal g c = λ told first begun asked ended places is below p.
    read_file first begun asked ended places _ _ p _ _ c.read_whole.ensures.given below c.args.most c.args.id is c.read_whole.result
    (c.read_whole.ensures.store told)
