use Rattle.job_arrays.proofs.OneFileRead.{file_faulty, file_good, none_asked}
use Rattle.job_arrays.proofs.reading.read_array.Goals as goal

pub returns-in_default-clause-journal : goal.returns-in_default-clause-journal
returns-in_default-clause-journal g c = λ told first begun asked ended places is below p. none_asked first begun asked ended places _ _ p

pub returns-in-Ok-fill-clause-journal : goal.returns-in-Ok-fill-clause-journal
returns-in-Ok-fill-clause-journal g c = λ told first begun asked ended places is below p.
    file_good first begun asked ended places _ _ p _ _ c.fill.ensures.given below c.args.id is c.fill.new.out (c.in-Ok-fill.ensures.store told)

pub returns-in-Err-clause-journal : goal.returns-in-Err-clause-journal
returns-in-Err-clause-journal g c = λ told first begun asked ended places is below p.
    file_faulty first begun asked ended places _ _ p _ _ c.fill.ensures.given below c.args.id is _ (c.in-Err.ensures.store told)
