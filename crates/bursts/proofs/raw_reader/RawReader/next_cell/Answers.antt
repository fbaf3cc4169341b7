use Rattle.std.proofs.Common.{◌≡◌, ◌<◌, ◌≤◌, ◌+◌, ◌++◌, ◌∷◌, [], Bool, ℕ, List, ℤ, Some, length, Result, Ok, Err, FitsSigned, refl, sym, ap, subst, ◌∙◌, arith, rules}
use Rattle.std.specs.Int.{w128}
use Rattle.std.proofs.lemmas.Int.{to_z-of_z}
use Rattle.std.proofs.lemmas.Result.{err_from_is_err_and}
use Rattle.soda_io.specs.Store.{content}
use Rattle.array_bytes.specs.Values.{raw_value}
use Rattle.array_bytes.specs.Machine.Scans.{Judges}
use Rattle.array_bytes.specs.declared.fault.CellFault.{CellFault}
use Rattle.bursts.specs.Machine.Feeds.{unread}
use Rattle.bursts.specs.Machine.Sources.{HasCell, RawAt}
use Rattle.bursts.proofs.RawSteps.{raw_ends, raw_gives_as, raw_kept, raw_refuses, word_reads}
use Rattle.bursts.proofs.TextSteps.{err_same, ok_fails, reend, refail, unread_length, was_err}
use Rattle.bursts.proofs.raw_reader.RawReader.next_cell.Goals as goal

pub returns-in_err-has_cell-clause-reads : goal.returns-in_err-has_cell-clause-reads
returns-in_err-has_cell-clause-reads g c = λ told cells a.
    let p = err_from_is_err_and c.from_residual.result c.from_residual.ensures.1 in
    rw (p.1, p.2) (refail _ _ _ _ _ _ _ _ _ err_same err_same (word_reads _ _ _ _ c.args.self.now c.begin_word.new.self _ _ _ _ c.begin_word.ensures.kept c.begin_word.ensures.ended (c.in_err-has_cell.ensures.reads told cells (c.begin_word.ensures.at _ _ cells a))))

pub returns-then-not-branch-clause-at : goal.returns-then-not-branch-clause-at
returns-then-not-branch-clause-at g c = λ told cells a.
    let y = c.begin_word.new.self in
    let r = c.has_cell.new.self in
    let kept = raw_kept c.args.self.now y r c.begin_word.ensures.kept c.has_cell.ensures.kept in
    let below : r.number < r.cells = omega (arith, c.has_cell.ensures.number, c.begin_word.ensures.number, c.has_cell.ensures.kept.cells, c.begin_word.ensures.kept.cells) in
    let at = c.has_cell.ensures.at told cells (c.begin_word.ensures.at _ _ cells a) in
    let P : Bool → Type 0 = λ b. HasCell r (Ok b) in
    let has = subst P c.if-not-branch.true c.in_ok-has_cell.ensures.has in
    raw_ends c.args.self.now r c.args.id _ _ cells kept below has.0 has.1 at

pub returns-then-not-branch-clause-reads : goal.returns-then-not-branch-clause-reads
returns-then-not-branch-clause-reads g c = λ told cells a.
    refail _ _ _ _ _ _ _ _ _ (λ h. absurd (ok_fails h)) (λ h. absurd (was_err _ tt h)) (word_reads _ _ _ _ c.args.self.now c.begin_word.new.self _ _ _ _ c.begin_word.ensures.kept c.begin_word.ensures.ended (c.in_ok-has_cell.ensures.reads told cells (c.begin_word.ensures.at _ _ cells a)))

pub returns-in_err-cell-clause-at : goal.returns-in_err-cell-clause-at
returns-in_err-cell-clause-at g c = λ told cells a.
    let y = c.begin_word.new.self in
    let r = c.has_cell.new.self in
    let kept = raw_kept c.args.self.now y r c.begin_word.ensures.kept c.has_cell.ensures.kept in
    let below : r.number < r.cells = omega (arith, c.has_cell.ensures.number, c.begin_word.ensures.number, c.has_cell.ensures.kept.cells, c.begin_word.ensures.kept.cells) in
    let at = c.has_cell.ensures.at told cells (c.begin_word.ensures.at _ _ cells a) in
    let p = err_from_is_err_and c.from_residual-in_err-cell.result c.from_residual-in_err-cell.ensures.1 in
    let P : Bool → Type 0 = λ b. HasCell r (Ok b) in
    let has = subst P c.if-not-branch.false c.in_ok-has_cell.ensures.has in
    let fits : r.size ≤ length (unread r.feed) = omega (arith, unread_length r.feed, has) in
    let f = c.in_err-cell.field-0.0 in
    let K : List ℕ → Type 0 = λ xs. Judges r.ty r.number (Some (raw_value r.ty xs)) (Err f) in
    rw (p.1, p.2) (raw_refuses c.args.self.now r c.args.id _ _ cells f kept below fits at (subst K c.unread.ensures.value c.in_err-cell.ensures.judged))

pub returns-in_err-cell-clause-reads : goal.returns-in_err-cell-clause-reads
returns-in_err-cell-clause-reads g c = λ told cells a.
    let p = err_from_is_err_and c.from_residual-in_err-cell.result c.from_residual-in_err-cell.ensures.1 in
    rw (p.1, p.2) (refail _ _ _ _ _ _ _ _ _ (λ h. absurd (ok_fails h)) (λ h. absurd (was_err c.in_err-cell.field-0.0 c.in_err-cell.ensures.own h)) (word_reads _ _ _ _ c.args.self.now c.begin_word.new.self _ _ _ _ c.begin_word.ensures.kept c.begin_word.ensures.ended (c.in_ok-has_cell.ensures.reads told cells (c.begin_word.ensures.at _ _ cells a))))

pub returns-clause-at : goal.returns-clause-at
returns-clause-at g c = λ told cells a.
    let y = c.begin_word.new.self in
    let r = c.has_cell.new.self in
    let kept = raw_kept c.args.self.now y r c.begin_word.ensures.kept c.has_cell.ensures.kept in
    let below : r.number < r.cells = omega (arith, c.has_cell.ensures.number, c.begin_word.ensures.number, c.has_cell.ensures.kept.cells, c.begin_word.ensures.kept.cells) in
    let at = c.has_cell.ensures.at told cells (c.begin_word.ensures.at _ _ cells a) in
    let P : Bool → Type 0 = λ b. HasCell r (Ok b) in
    let has = subst P c.if-not-branch.false c.in_ok-has_cell.ensures.has in
    let fits : r.size ≤ length (unread r.feed) = omega (arith, unread_length r.feed, has) in
    let v = c.in_ok-cell.cell in
    let small : FitsSigned w128 v = search rules in
    let within : r.number < r.first + r.word = omega (arith, c.has_cell.ensures.number, c.has_cell.ensures.first, c.has_cell.ensures.kept.word, c.begin_word.ensures.some) in
    let K : List ℕ → Type 0 = λ xs. Judges r.ty r.number (Some (raw_value r.ty xs)) (Ok v) in
    raw_gives_as r _ _ _ cells v _ (to_z-of_z w128 v small) within below fits c.skip.ensures.start c.skip.ensures.filled c.skip.ensures.buffer c.skip.ensures.ended refl refl refl refl refl refl at (subst K c.unread.ensures.value c.in_ok-cell.ensures.judged)

pub returns-clause-reads : goal.returns-clause-reads
returns-clause-reads g c = λ told cells a.
    reend _ _ _ _ _ _ _ _ _ c.skip.ensures.ended (refail _ _ _ _ _ _ _ _ _ (λ h. absurd (ok_fails h)) (λ h. absurd (ok_fails h)) (word_reads _ _ _ _ c.args.self.now c.begin_word.new.self _ _ _ _ c.begin_word.ensures.kept c.begin_word.ensures.ended (c.in_ok-has_cell.ensures.reads told cells (c.begin_word.ensures.at _ _ cells a))))
