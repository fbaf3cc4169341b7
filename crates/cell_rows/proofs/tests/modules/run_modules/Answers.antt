use Rattle.std.proofs.Common.{sym, ap, subst}
use Rattle.soda_io.specs.Mem.{mem_store}
use Rattle.soda_io.specs.Store.{content}
use Rattle.bursts.specs.Blocks.{Kind}
use Rattle.bursts.specs.Readers.{StandsAt, kind}
use Rattle.bursts.specs.declared.reader.CellReader.{CellReader}
use Rattle.bursts.proofs.CallerLemmas.{stands_first}
use Rattle.cell_rows.proofs.tests.modules.run_modules.Goals as goal

pub run_from-done-requires-clause-stands : goal.run_from-done-requires-clause-stands
run_from-done-requires-clause-stands c =
    let s = mem_store c.args.input.now in
    let P : CellReader → Type 0 = λ r. StandsAt r (content s (kind r).id) (s.place (kind r).id) in
    subst P (sym c.in_ok-from.ensures.reader)
    (stands_first c.in_ok-reader.reader s c.args.id (ap (λ (k : Kind). k.id) c.in_ok-reader.ensures.kind) c.requires.unread
    c.in_ok-reader.ensures.stands)
