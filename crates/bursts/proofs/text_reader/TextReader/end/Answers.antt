use Rattle.std.proofs.Common.{◌≡◌, ◌+◌, length, Option, List, ℤ, None, Ok, Err, refl, sym, ap, subst, ◌∙◌, arith}
use Rattle.std.proofs.lemmas.Result.{err_from_is_err_and}
use Rattle.soda_io.specs.Store.{content}
use Rattle.bursts.specs.Machine.Calls.{NextIs, StepsNext}
use Rattle.bursts.specs.Machine.Sources.{TextAt, IsAtEnd, text_kind}
use Rattle.bursts.proofs.TextSteps.{ending, err_same, ok_fails, refail}
use Rattle.bursts.proofs.text_reader.TextReader.end.Goals as goal

pub returns-in_err-next_ended-clause-at : goal.returns-in_err-next_ended-clause-at
returns-in_err-next_ended-clause-at g c = λ told cells a.
    let p = err_from_is_err_and c.from_residual.result c.from_residual.ensures.1 in
    rw (p.1, p.2) (c.in_err-next_ended.ensures.at told cells a)

pub returns-in_err-next_ended-clause-reads : goal.returns-in_err-next_ended-clause-reads
returns-in_err-next_ended-clause-reads g c = λ told cells a.
    let p = err_from_is_err_and c.from_residual.result c.from_residual.ensures.1 in
    rw (p.1, p.2) (refail _ _ _ _ _ _ _ _ _ err_same err_same (c.in_err-next_ended.ensures.reads told cells _ a (omega arith)))

pub returns-clause-at : goal.returns-clause-at
returns-clause-at g c = λ told cells a.
    let r = c.next_ended.new.self in
    let At : List ℤ → Type 0 = TextAt r (content (g.F.Files.store c.args.files.now) c.args.id) ((g.F.Files.store c.next_ended.new.files).place c.args.id) in
    let P : Option ℤ → Type 0 = λ o. NextIs At (text_kind c.args.self.now c.args.id) (content (g.F.Files.store c.args.files.now) c.args.id) cells (Ok o) in
    let Q : Option ℤ → Type 0 = λ o. IsAtEnd r (Ok o) in
    let R : Option ℤ → Type 0 = λ o. StepsNext c.args.self.now.scan.number r.scan.number (Ok o) in
    let end = subst Q c.in-None.is c.in_ok-next_ended.ensures.end in
    let at = subst P c.in-None.is (c.in_ok-next_ended.ensures.at told cells a) in
    let number = subst R c.in-None.is c.in_ok-next_ended.ensures.next in
    (at, ending c.args.self.now r c.args.id _ _ cells end.0 end.1 c.next_ended.ensures.kind (number ∙ c.requires.all ∙ sym c.next_ended.ensures.kind.cells) at)

pub returns-clause-reads : goal.returns-clause-reads
returns-clause-reads g c = λ told cells a. refail _ _ _ _ _ _ _ _ _ (λ h. absurd (ok_fails h)) (λ h. absurd (ok_fails h)) (c.in_ok-next_ended.ensures.reads told cells _ a (omega arith))
