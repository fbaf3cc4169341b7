use Rattle.std.proofs.Common.{◌≡◌, ◌≤◌, Bool, true, false, ℕ, List, ℤ, Ok, Err, IsErrOf, refl, sym, subst, ◌∙◌, arith}
use Rattle.std.proofs.lemmas.Result.{err_from_is_err_and}
use Rattle.soda_io.specs.Store.{content}
use Rattle.array_bytes.specs.declared.fault.CellFault.{CellFault}
use Rattle.array_bytes.specs.declared.fault.CellFault.TheVariants.{Failed}
use Rattle.bursts.specs.Blocks.{ReadsOn}
use Rattle.bursts.specs.Machine.Feeds.{Fills, FillsFile}
use Rattle.bursts.proofs.OneByOne.{fill_reads}
use Rattle.bursts.proofs.RawSteps.{end_at, end_more, end_whole}
use Rattle.bursts.proofs.TextSteps.{err_same, ok_fails, refail}
use Rattle.bursts.proofs.raw_reader.RawReader.end.Goals as goal

pub returns-in_err-fill-clause-reads : goal.returns-in_err-fill-clause-reads
returns-in_err-fill-clause-reads g c = λ told cells a.
    let P : ℕ → ℕ → Type 0 = λ place asked. asked ≤ 1 in
    let p = err_from_is_err_and c.from_residual.result c.from_residual.ensures.1 in
    let x = fill_reads P _ _ _ _ 1 c.restart.new.self c.fill.new.self _ (c.in_err-fill.ensures.file told) c.in_err-fill.ensures.fills (omega arith) in
    let Q : Bool → Type 0 = λ e. ReadsOn (g.F.Files.given c.args.files.now) (g.F.Files.store c.args.files.now) (g.F.Files.store c.fill.new.files) c.args.id e c.fill.new.self.ended (IsErrOf {T = Bool} (Err c.in_err-fill.field-0.0) Failed) P in
    rw (p.1, p.2) (refail _ _ _ _ _ _ _ _ _ err_same err_same (subst Q c.restart.ensures.ended x))

pub returns-then-branch-clause-at : goal.returns-then-branch-clause-at
returns-then-branch-clause-at g c = λ told cells a.
    let P : Bool → Type 0 = λ t. Fills c.restart.new.self c.fill.new.self (Ok t) in
    let Q : Bool → Type 0 = λ t. FillsFile (g.F.Files.given c.args.files.now) (g.F.Files.store c.args.files.now) (g.F.Files.store c.fill.new.files) c.args.id 1 c.restart.new.self c.fill.new.self (Ok t) in
    end_more _ _ _ _ c.args.self.now c.restart.new.self c.fill.new.self cells c.requires.given c.requires.all c.restart.ensures.start c.restart.ensures.filled c.restart.ensures.ended a
    (subst P c.if-branch.true c.in_ok-fill.ensures.fills) (subst Q c.if-branch.true (c.in_ok-fill.ensures.file told))

pub returns-else-branch-clause-at : goal.returns-else-branch-clause-at
returns-else-branch-clause-at g c = λ told cells a.
    let P : Bool → Type 0 = λ t. Fills c.restart.new.self c.fill.new.self (Ok t) in
    let Q : Bool → Type 0 = λ t. FillsFile (g.F.Files.given c.args.files.now) (g.F.Files.store c.args.files.now) (g.F.Files.store c.fill.new.files) c.args.id 1 c.restart.new.self c.fill.new.self (Ok t) in
    let fills = subst P c.if-branch.false c.in_ok-fill.ensures.fills in
    let file = subst Q c.if-branch.false (c.in_ok-fill.ensures.file told) in (
      end_at _ _ _ _ c.args.self.now c.restart.new.self c.fill.new.self cells c.requires.given c.requires.all c.restart.ensures.start c.restart.ensures.filled c.restart.ensures.ended a _ refl refl refl refl fills file,
      end_whole _ _ _ _ c.args.self.now c.restart.new.self c.fill.new.self cells c.requires.given c.requires.all c.restart.ensures.start c.restart.ensures.filled c.restart.ensures.ended a fills file,
    )
