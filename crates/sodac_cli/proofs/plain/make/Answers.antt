use Rattle.std.proofs.lemmas.Result.{err_from_is_err_and}
use Rattle.sodac_cli.proofs.plain.make.Goals as goal

-- an input can't be opened
pub returns-in_err-opened-clause-ends : goal.returns-in_err-opened-clause-ends
returns-in_err-opened-clause-ends g c = λ told.
    let e = err_from_is_err_and c.from_residual.result c.from_residual.ensures.1 in
    rw (e.1, e.2) (λ first begun a p values ins outs s. c.in_err-opened.ensures.ends told first begun a p values ins s)

-- an output can't be created
pub returns-in_err-created-clause-ends : goal.returns-in_err-created-clause-ends
returns-in_err-created-clause-ends g c = λ told.
    let e = err_from_is_err_and c.from_residual-in_err-created.result c.from_residual-in_err-created.ensures.1 in
    rw (e.1, e.2) (λ first begun a p values ins outs s.
    c.in_err-created.ensures.ends told first begun a p values outs (c.in_ok-opened.ensures.goes told first begun a p values ins s))

pub returns-in_err-created-clause-faults : goal.returns-in_err-created-clause-faults
returns-in_err-created-clause-faults g c =
    let e = err_from_is_err_and c.from_residual-in_err-created.result c.from_residual-in_err-created.ensures.1 in
    rw (e.1, e.2) (rw c.in_ok-opened.ensures.kept at c.in_err-created.ensures.faults)

pub returns-clause-goes : goal.returns-clause-goes
returns-clause-goes g c = λ told first begun a p values ins outs s.
    c.in_ok-created.ensures.goes told first begun a p values outs (c.in_ok-opened.ensures.goes told first begun a p values ins s)
