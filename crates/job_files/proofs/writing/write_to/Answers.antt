use Rattle.job_files.proofs.Advancing.{wrote}
use Rattle.job_files.proofs.Outputs.{written_holds}
use Rattle.job_files.proofs.writing.write_to.Goals as goal

pub returns-clause-journal : goal.returns-clause-journal
returns-clause-journal g c = λ told first begun asked ended places n is below p.
    wrote first begun asked ended places _ _ p _ _ c.write_whole.ensures.given n below c.args.bytes.now c.args.id is c.write_whole.result
    (c.write_whole.ensures.store told)

pub returns-clause-puts : goal.returns-clause-puts
returns-clause-puts g c = λ told before front back name so_far is holds. written_holds before _ _ _ c.args.id c.args.bytes.now c.write_whole.result
    (c.write_whole.ensures.store told) front back name so_far is holds
