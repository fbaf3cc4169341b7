use Rattle.job_files.proofs.Advancing.{created}
use Rattle.job_files.proofs.Outputs.{created_holds}
use Rattle.job_files.proofs.creating.create_next.Goals as goal

pub returns-clause-journal : goal.returns-clause-journal
returns-clause-journal g c = λ told first begun asked ended places f is p. created first begun asked ended places _ _ p _ _ f c.args.name.now c.create.result
    c.create.ensures.id is (c.create.ensures.store told)

pub returns-clause-emptied : goal.returns-clause-emptied
returns-clause-emptied g c = λ told before outputs holds none. created_holds before _ _ _ outputs c.args.name.now c.create.result
    (c.create.ensures.store told) holds none
