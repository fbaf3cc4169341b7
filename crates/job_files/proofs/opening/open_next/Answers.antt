use Rattle.job_files.proofs.Advancing.{opened}
use Rattle.job_files.proofs.Outputs.{opened_there}
use Rattle.job_files.proofs.opening.open_next.Goals as goal

pub returns-clause-journal : goal.returns-clause-journal
returns-clause-journal g c = λ told first begun asked ended places f is p. opened first begun asked ended places _ _ p _ _ f c.args.name.now c.open.result
    c.open.ensures.id is (c.open.ensures.store told)

pub returns-clause-there : goal.returns-clause-there
returns-clause-there g c = λ told. opened_there _ _ _ c.args.name.now c.open.result (c.open.ensures.store told)
