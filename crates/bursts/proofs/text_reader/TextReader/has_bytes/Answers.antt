use Rattle.std.proofs.Common.{◌≡◌, ◌≤◌, ◌<◌, Bool, ℕ, List, ℤ, length, IsErrOf, sym, subst, arith, lit≤}
use Rattle.soda_io.specs.Store.{content}
use Rattle.array_bytes.specs.declared.fault.CellFault.TheVariants.{Failed}
use Rattle.bursts.specs.Blocks.{IsWanted, ReadsOn}
use Rattle.bursts.specs.Machine.Sources.{text_kind}
use Rattle.bursts.proofs.OneByOne.{fill_reads}
use Rattle.bursts.proofs.TextSteps.{wants}
use Rattle.bursts.proofs.text_reader.TextReader.has_bytes.Goals as goal

pub returns-clause-reads : goal.returns-clause-reads
returns-clause-reads g c = λ told cells bound a few.
    let r = c.args.self.now in
    let s = g.F.Files.store c.args.files.now in
    let P : ℕ → ℕ → Type 0 = IsWanted (text_kind r c.args.id) (content s c.args.id) bound in
    let none : r.feed.filled ≤ r.feed.start = omega (arith, c.count.ensures.value, c.if-count-gt0.false) in
    let x = fill_reads P (g.F.Files.given c.args.files.now) s (g.F.Files.store c.fill.new.files) c.args.id 4096 c.restart.new.self c.fill.new.self c.fill.result (c.fill.ensures.file told) c.fill.ensures.fills
    (wants r c.args.id (content s c.args.id) (s.place c.args.id) cells bound 4096 a none few (lit≤ tt)) in
    let Q : Bool → Type 0 = λ e. ReadsOn (g.F.Files.given c.args.files.now) s (g.F.Files.store c.fill.new.files) c.args.id e c.fill.new.self.ended (IsErrOf c.fill.result Failed) P in
    subst Q c.restart.ensures.ended x
