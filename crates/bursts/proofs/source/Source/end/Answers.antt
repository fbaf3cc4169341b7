use Rattle.std.proofs.Common.{◌≡◌, ◌≤◌, ◌+◌, ℕ, List, ℤ, length, IsErrOf, sym, subst}
use Rattle.soda_io.specs.Store.{content}
use Rattle.array_bytes.specs.ReadNumber.{most_asked_at_end}
use Rattle.array_bytes.specs.declared.fault.CellFault.TheVariants.{Failed}
use Rattle.bursts.specs.Blocks.{IsWanted, ReadsOn}
use Rattle.bursts.specs.Machine.Sources.{SourceAt, text_kind}
use Rattle.bursts.specs.Readers.{has_ended, kind_of}
use Rattle.bursts.specs.declared.source.Source.{Source}
use Rattle.bursts.proofs.Blocked.{text_asked}
use Rattle.bursts.proofs.OneByOne.{reads_weaker}
use Rattle.bursts.proofs.source.Source.end.Goals as goal

pub returns-in-Text-clause-reads : goal.returns-in-Text-clause-reads
returns-in-Text-clause-reads g c = λ told cells a.
    let id = c.args.id in
    let s = g.F.Files.store c.args.files.now in
    let t = g.F.Files.store c.end.new.files in
    let r = c.in-Text.reader in
    let e = c.end.new.self.feed.ended in
    let given = g.F.Files.given c.args.files.now in
    let F : Type 0 = IsErrOf c.end.result Failed in
    let Q : Source → Type 0 = λ q. SourceAt q (content s id) (s.place id) cells → ReadsOn given s t id (has_ended q) e F (λ place asked. asked ≤ most_asked_at_end (kind_of id q).form) in
    let P : ℕ → ℕ → Type 0 = IsWanted (text_kind r id) (content s id) (length cells + 1) in
    let W : ℕ → ℕ → Type 0 = λ place asked. asked ≤ most_asked_at_end (text_kind r id).form in
    subst Q (sym c.in-Text.is) (λ x. reads_weaker given s t id r.feed.ended e F P W (λ p n w. text_asked r id p n w.size) (c.end.ensures.reads told cells x)) a

pub returns-in-Raw-clause-reads : goal.returns-in-Raw-clause-reads
returns-in-Raw-clause-reads g c = λ told cells a.
    let id = c.args.id in
    let s = g.F.Files.store c.args.files.now in
    let t = g.F.Files.store c.end-in-Raw.new.files in
    let Q : Source → Type 0 = λ q. SourceAt q (content s id) (s.place id) cells
    → ReadsOn (g.F.Files.given c.args.files.now) s t id (has_ended q) c.end-in-Raw.new.self.feed.ended (IsErrOf c.end-in-Raw.result Failed) (λ place asked. asked ≤ most_asked_at_end (kind_of id q).form) in
    subst Q (sym c.in-Raw.is) (λ x. c.end-in-Raw.ensures.reads told cells x) a
