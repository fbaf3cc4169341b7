use Rattle.std.proofs.Common.{◌≡◌, ◌+◌, ◌++◌, ℕ, List, ℤ, length, IsErrOf, sym, subst}
use Rattle.soda_io.specs.Store.{content}
use Rattle.array_bytes.specs.declared.fault.CellFault.TheVariants.{Failed}
use Rattle.bursts.specs.Blocks.{BlockIs, IsWanted, Kind, ReadsOn, cells_in}
use Rattle.bursts.specs.Machine.Sources.{RawAt, SourceAt, TextAt, raw_kind, text_kind}
use Rattle.bursts.specs.Readers.{given_of, has_ended, kind_of}
use Rattle.bursts.specs.declared.source.Source.{Source}
use Rattle.bursts.proofs.Blocked.{block_is, raw_first, text_first}
use Rattle.bursts.proofs.RawSteps.{raw_same_kind}
use Rattle.bursts.proofs.TextSteps.{same_kind}
use Rattle.bursts.proofs.source.Source.next_block.Goals as goal

pub returns-in-Text-clause-block : goal.returns-in-Text-clause-block
returns-in-Text-clause-block g c = λ told cells a.
    let id = c.args.id in
    let bytes = content (g.F.Files.store c.args.files.now) id in
    let at = (g.F.Files.store c.args.files.now).place id in
    let behind = (g.F.Files.store c.next_block.new.files).place id in
    let r = c.in-Text.reader in
    let z = c.next_block.new.self in
    let Q : Source → Type 0 = λ s. SourceAt s bytes at cells → BlockIs (kind_of id s) bytes (given_of s) c.next_block.new.out c.next_block.result in
    subst Q (sym c.in-Text.is) (λ x. block_is (text_kind r id) (TextAt z bytes behind) bytes r.scan.number cells c.next_block.new.out c.next_block.result x.scan.count
    (λ cs y. let M : Kind → Type 0 = λ k. (more : List ℤ) × (cells_in k bytes ≡ cs ++ more) in subst M (same_kind r z id c.next_block.ensures.kind) (text_first z id bytes behind cs y))
    (c.next_block.ensures.at told cells x)) a

pub returns-in-Raw-clause-block : goal.returns-in-Raw-clause-block
returns-in-Raw-clause-block g c = λ told cells a.
    let id = c.args.id in
    let bytes = content (g.F.Files.store c.args.files.now) id in
    let at = (g.F.Files.store c.args.files.now).place id in
    let behind = (g.F.Files.store c.next_block-in-Raw.new.files).place id in
    let r = c.in-Raw.reader in
    let z = c.next_block-in-Raw.new.self in
    let Q : Source → Type 0 = λ s. SourceAt s bytes at cells → BlockIs (kind_of id s) bytes (given_of s) c.next_block-in-Raw.new.out c.next_block-in-Raw.result in
    subst Q (sym c.in-Raw.is) (λ x. block_is (raw_kind r id) (RawAt z bytes behind) bytes r.number cells c.next_block-in-Raw.new.out c.next_block-in-Raw.result x.count
    (λ cs y. let M : Kind → Type 0 = λ k. (more : List ℤ) × (cells_in k bytes ≡ cs ++ more) in subst M (raw_same_kind r z id c.next_block-in-Raw.ensures.kept) (raw_first z id bytes behind cs y))
    (c.next_block-in-Raw.ensures.at told cells x)) a

pub returns-in-Raw-clause-reads : goal.returns-in-Raw-clause-reads
returns-in-Raw-clause-reads g c = λ told cells a.
    let id = c.args.id in
    let s = g.F.Files.store c.args.files.now in
    let t = g.F.Files.store c.next_block-in-Raw.new.files in
    let r = c.in-Raw.reader in
    let Q : Source → Type 0 = λ q. SourceAt q (content s id) (s.place id) cells
    → ReadsOn (g.F.Files.given c.args.files.now) s t id (has_ended q) c.next_block-in-Raw.new.self.feed.ended (IsErrOf c.next_block-in-Raw.result Failed) (IsWanted (kind_of id q) (content s id) (given_of q + length c.args.out.now)) in
    let N : ℕ → Type 0 = λ n. ReadsOn (g.F.Files.given c.args.files.now) s t id r.feed.ended c.next_block-in-Raw.new.self.feed.ended (IsErrOf c.next_block-in-Raw.result Failed) (IsWanted (raw_kind r id) (content s id) (n + length c.args.out.now)) in
    subst Q (sym c.in-Raw.is) (λ x. subst N (sym x.count) (c.next_block-in-Raw.ensures.reads told cells x)) a
