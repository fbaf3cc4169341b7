use Rattle.std.proofs.Common.{ap, refl}
use Rattle.bursts.specs.Writers.{Output}
use Rattle.job_arrays.proofs.OneFileWritten.{puts_array, wrote_file}
use Rattle.job_arrays.proofs.writing.write_array.Goals as goal

pub returns-clause-journal : goal.returns-clause-journal
returns-clause-journal g c = λ told first begun asked ended places n is below p.
    wrote_file first begun asked ended places _ _ p _ _ c.write_all-answer.ensures.given n below c.args.id _
    (ap (λ (o : Output). o.id) c.in-Ok.ensures.output) is c.write_all-answer.result (c.write_all-answer.ensures.store told)

pub returns-clause-puts : goal.returns-clause-puts
returns-clause-puts g c = λ told before front back name named holds.
    puts_array before _ _ _ c.args.id _ c.write_all-answer.result (c.write_all-answer.ensures.store told) front back name named holds _ _ _
    c.in-Ok.ensures.output refl (ap (λ (o : Output). o.id) c.in-Ok.ensures.output) (c.write_all-answer.ensures.written told)
