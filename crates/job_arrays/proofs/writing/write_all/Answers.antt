use Rattle.std.proofs.Common.{ap}
use Rattle.std.proofs.lemmas.Result.{err_from_is_err_and}
use Rattle.bursts.specs.Writers.{Output}
use Rattle.job_arrays.proofs.InARow.{writes_file}
use Rattle.job_arrays.proofs.OneFileWritten.{put_part, put_then}
use Rattle.job_arrays.proofs.writing.write_all.Goals as goal

pub returns-in_err-put-clause-written : goal.returns-in_err-put-clause-written
returns-in_err-put-clause-written g c = λ told held.
    let put = c.in_err-put.ensures in
    let p = err_from_is_err_and c.from_residual.result c.from_residual.ensures.1 in
    rw (p.1, p.2) (put_part _ _ _ _ _ _ _ put.output put.given c.requires.given (put.store told).ids c.in_err-put.field-0.0
    (put.put told _ _ held c.requires.none))

pub returns-clause-written : goal.returns-clause-written
returns-clause-written g c = λ told held.
    let put = c.in_ok-put.ensures in
    put_then _ _ _ _ _ _ _ put.output put.given c.requires.given (put.store told).ids _ c.finish.result (c.finish.ensures.store told).ids
    (put.put told _ _ held c.requires.none) (c.finish.ensures.finished told)

pub returns-clause-store : goal.returns-clause-store
returns-clause-store g c = λ told.
    let put = c.in_ok-put.ensures in
    writes_file _ _ _ _ _ _ _ c.finish.result c.requires.given (put.store told) (c.finish.ensures.store told) put.given
    (ap (λ (o : Output). o.id) put.output)
