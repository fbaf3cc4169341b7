use Rattle.std.proofs.Common.{◌≡◌, ◌<◌, ◌+◌, rules, true, false, sym, ap, subst, ◌∙◌, arith}
use Rattle.soda_io.specs.Mem.{mem_given, mem_store}
use Rattle.bursts.specs.Readers.{given_by, kind}
use Rattle.file_modules.specs.Modules.{Sink, Source, read_before, sink, source}
use Rattle.cell_rows.proofs.Standing.{opened_still, stands_by}
use Rattle.cell_rows.proofs.tests.modules.+run_from.Goals as goal

pub run_from-requires : goal.run_from-requires
run_from-requires t c =
    let a = c.args.from.now in
    let b = c.fire.new.self in
    let o = c.args.to.now in
    let p = c.fire-2.new.self in
    let kept : source b ≡ source a = c.fire.ensures.kept in
    let kept_to : sink p ≡ sink o = c.fire-2.ensures.kept in
    let id : (source b).kind.id ≡ (source a).kind.id = ap (λ (s : Source). s.kind.id) kept in
    let out : (sink p).output.id ≡ (sink o).output.id = ap (λ (s : Sink). s.output.id) kept_to in
    let P : Source → Type 0 = λ s. read_before s c.args.firings ≡ s.kind.cells in
    let all : read_before (source b) c.args.firings ≡ (source b).kind.cells = subst P (sym kept) c.requires.all in
    let lanes : (source b).unroll ≡ (sink p).unroll =
    ap (λ (s : Source). s.unroll) kept ∙ c.requires.lanes ∙ sym (ap (λ (s : Sink). s.unroll) kept_to) in
    let given : (source b).kind.id < mem_given c.fire.new.files = omega (arith, id, c.fire.ensures.given, c.requires.given) in
    let made : (sink p).output.id < mem_given c.fire-2.new.files = omega (arith, out, c.fire-2.ensures.given, c.requires.made) in
    let opened = opened_still _ (mem_store c.args.input.now) (mem_store c.fire.new.files) (source a).kind.id (source b).kind.id true
    (c.fire.ensures.store tt).ids c.requires.given id c.requires.opened in
    let created = opened_still _ (mem_store c.args.output.now) (mem_store c.fire-2.new.files) (sink o).output.id (sink p).output.id false
    (c.fire-2.ensures.store tt).ids c.requires.made out c.requires.created in
    let stands = stands_by b.reader (mem_store c.fire.new.files) (kind a.reader) (ap (λ (s : Source). s.kind) kept) (c.fire.ensures.stands tt) in
    let counted : given_by b.reader ≡ read_before (source b) (c.args.firing + 1) =
    c.in-Ok.ensures.counted ∙ ap (λ (s : Source). read_before s (c.args.firing + 1)) (sym kept) in
    (search rules, (c.requires.few, (omega arith, (all, (lanes, (given, (opened, (stands, (c.in-Ok.ensures.fault, (counted, (made, created)))))))))))
