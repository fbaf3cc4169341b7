use Rattle.std.proofs.Common.{◌≡◌, Bool, List, ℕ, ℤ, Option, None, Ok, Err, refl, sym, ap, subst, ◌∙◌}
use Rattle.std.proofs.lemmas.Result.{err_from_is_err_and}
use Rattle.soda_io.specs.Store.{content}
use Rattle.array_bytes.specs.Machine.Scans.{KeepsKind}
use Rattle.bursts.specs.Machine.Calls.{NextIs}
use Rattle.bursts.specs.Machine.Sources.{TextAt, IsAtEnd, text_kind}
use Rattle.bursts.proofs.TextSteps.{both_kinds, closing, err_same, not_failed, ok_fails, refail}
use Rattle.bursts.proofs.text_reader.TextReader.next_cell.Goals as goal

pub returns-in_err-cell-clause-at : goal.returns-in_err-cell-clause-at
returns-in_err-cell-clause-at g c = λ told cells a.
    let p = err_from_is_err_and c.from_residual.result c.from_residual.ensures.1 in
    rw (p.1, p.2) (c.in_err-cell.ensures.at told cells a)

pub returns-in_err-cell-clause-reads : goal.returns-in_err-cell-clause-reads
returns-in_err-cell-clause-reads g c = λ told cells bound a few.
    let p = err_from_is_err_and c.from_residual.result c.from_residual.ensures.1 in
    rw (p.1, p.2) (refail _ _ _ _ _ _ _ _ _ err_same err_same (c.in_err-cell.ensures.reads told cells bound a few))

pub returns-in-Some-clause-reads : goal.returns-in-Some-clause-reads
returns-in-Some-clause-reads g c = λ told cells bound a few.
    refail _ _ _ _ _ _ _ _ _ (λ h. absurd (ok_fails h)) (λ h. absurd (ok_fails h)) (c.in_ok-cell.ensures.reads told cells bound a few)

pub returns-in-None-clause-at : goal.returns-in-None-clause-at
returns-in-None-clause-at g c = λ told cells a.
    let At : List ℤ → Type 0 = TextAt c.next_ended.new.self (content (g.F.Files.store c.args.files.now) c.args.id) ((g.F.Files.store c.next_ended.new.files).place c.args.id) in
    let P : Option ℤ → Type 0 = λ o. NextIs At (text_kind c.args.self.now c.args.id) (content (g.F.Files.store c.args.files.now) c.args.id) cells (Ok o) in
    let Q : Option ℤ → Type 0 = λ o. IsAtEnd c.next_ended.new.self (Ok o) in
    let end = subst Q c.in-None.is c.in_ok-cell.ensures.end in
    closing c.args.self.now c.next_ended.new.self _ c.args.id _ _ cells c.close.result end.0 end.1 refl (both_kinds _ _ _ c.next_ended.ensures.kind c.close.ensures.kind) (subst P c.in-None.is (c.in_ok-cell.ensures.at told cells a)) c.close.ensures.closed

pub returns-in-None-clause-reads : goal.returns-in-None-clause-reads
returns-in-None-clause-reads g c = λ told cells bound a few.
    refail _ _ _ _ _ _ _ _ _ (λ h. absurd (ok_fails h)) (λ h. absurd (not_failed c.close.result c.close.ensures.own h)) (c.in_ok-cell.ensures.reads told cells bound a few)
