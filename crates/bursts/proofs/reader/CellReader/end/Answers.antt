use Rattle.std.proofs.Common.{◌≡◌, ◌≤◌, ◌+◌, ℕ, List, ℤ, length, Result, Err, sym, subst}
use Rattle.soda_io.specs.Store.{content}
use Rattle.array_bytes.specs.ReadNumber.{most_asked_at_end}
use Rattle.bursts.specs.Blocks.{FailsNow, ReadsOn}
use Rattle.bursts.specs.Machine.Sources.{SourceAt}
use Rattle.bursts.specs.Readers.{given_by, has_ended, kind}
use Rattle.bursts.proofs.Blocked.{kind_id}
use Rattle.bursts.proofs.TextSteps.{refail}
use Rattle.bursts.proofs.reader.CellReader.end.Goals as goal

pub returns-in-Err-clause-store : goal.returns-in-Err-clause-store
returns-in-Err-clause-store g c = λ told.
    let r = c.args.self.now in
    let s = g.F.Files.store c.args.files.now in
    let t = g.F.Files.store c.end-answer.new.files in
    let none = c.in_default.is in
    let S : ℕ → Type 0 = λ k. (cells : List ℤ) × SourceAt r.source (content s k) (s.place k) cells in
    let at = subst S (kind_id r.id r.source) (c.requires.stands told none) in
    let Q : ℕ → Type 0 = λ k. ReadsOn (g.F.Files.given c.args.files.now) s t k (has_ended r.source) (has_ended c.end-answer.new.self) (FailsNow r.fault (Err c.in-Err.fault)) (λ place asked. asked ≤ most_asked_at_end (kind r).form) in
    subst Q (sym (kind_id r.id r.source)) (refail _ _ _ _ _ _ _ _ _ (λ h. (none, h)) (λ h. h.1) (c.in-Err.ensures.reads told at.0 at.1))

pub returns-in_default-answer-clause-store : goal.returns-in_default-answer-clause-store
returns-in_default-answer-clause-store g c = λ told.
    let r = c.args.self.now in
    let s = g.F.Files.store c.args.files.now in
    let t = g.F.Files.store c.end-answer.new.files in
    let none = c.in_default.is in
    let S : ℕ → Type 0 = λ k. (cells : List ℤ) × SourceAt r.source (content s k) (s.place k) cells in
    let at = subst S (kind_id r.id r.source) (c.requires.stands told none) in
    let Q : ℕ → Type 0 = λ k. ReadsOn (g.F.Files.given c.args.files.now) s t k (has_ended r.source) (has_ended c.end-answer.new.self) (FailsNow r.fault c.end-answer.result) (λ place asked. asked ≤ most_asked_at_end (kind r).form) in
    subst Q (sym (kind_id r.id r.source)) (refail _ _ _ _ _ _ _ _ _ (λ h. (none, h)) (λ h. h.1) (c.end-answer.ensures.reads told at.0 at.1))
