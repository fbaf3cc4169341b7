use Rattle.std.proofs.Common.{◌≡◌, ◌≤◌, ℕ, Some, None, length, ap, ◌∙◌, arith, sym}
use Rattle.std.proofs.lemmas.Result.{IfOk-weaker}
use Rattle.delay_net.specs.Sums.{sum_below}
use Rattle.delay_net.specs.Windows.{storage_of}
use Rattle.net_shape.specs.Modules.{modules_of}
use Rattle.net_shape.specs.Plans.{Plan}
use Rattle.plan_net.specs.Limits.{most_modules}
use Rattle.soda_ir.specs.declared.limit.LimitKind.TheVariants.{Reuse, Modules}
use Rattle.soda_ir.specs.Program.{PlainProgram, plain}
use Rattle.time_stages.specs.Staged.{staged_reads, staged_widths}
use Rattle.delay_net.specs.declared.net.Read.{Read}
use Rattle.std.proofs.Common.{List}
use Rattle.net_build.specs.Limits.{cells_held, limit_passed}
use Rattle.net_build.specs.Planned.{plan_of}
use Rattle.net_build.proofs.Passed.{modules_passed, none_passed, reuse_passed}
use Rattle.net_build.proofs.Programs.{kinds_length, widths_length}
use Rattle.net_build.proofs.building.network_under.Goals as goal

-- the storage, by the net
held : (p : PlainProgram) (delays weights : List ℕ) (reads : List Read) (cells : ℕ) → weights ≡ staged_widths p → reads ≡ staged_reads p
    → cells ≡ sum_below (length weights) (storage_of reads delays) → cells ≡ cells_held (plan_of p delays)
held p delays weights reads cells e f g =
    g
    ∙ ap (λ (ws : List ℕ). sum_below (length ws) (storage_of reads delays)) e
    ∙ ap (λ (rs : List Read). sum_below (length (staged_widths p)) (storage_of rs delays)) f
    ∙ ap (λ n. sum_below n (storage_of (staged_reads p) delays)) (widths_length p ∙ sym (kinds_length p))

pub returns-then-cells-gt-MOST_REUSE-clause-limit : goal.returns-then-cells-gt-MOST_REUSE-clause-limit
returns-then-cells-gt-MOST_REUSE-clause-limit c = λ kind n e.
    let p = plain c.args.program.now in
    let cells = c.cells_held-cells.result in
    let is = held p c.args.delays.now c.in_ok-net.net.weights c.in_ok-net.net.reads cells
    c.in_ok-net.ensures.weights c.in_ok-net.ensures.reads c.cells_held-cells.ensures in
    let k : Reuse ≡ kind = cc in
    let m : cells ≡ n = cc in
    reuse_passed (plan_of p c.args.delays.now) c.requires.kept (omega (arith, is, c.if-cells-gt-MOST_REUSE.true))
    ∙ ap (λ x. Some (Reuse, x)) (sym is ∙ m) ∙ ap (λ x. Some (x, n)) k

pub returns-clause-kept : goal.returns-clause-kept
returns-clause-kept c =
    let p = plain c.args.program.now in
    let q = plan_of p c.args.delays.now in
    let is = held p c.args.delays.now c.in_ok-net.net.weights c.in_ok-net.net.reads c.cells_held-cells.result
    c.in_ok-net.ensures.weights c.in_ok-net.ensures.reads c.cells_held-cells.ensures in
    let same : length (modules_of c.in_ok-layout.layout) ≡ length (modules_of q) = ap (λ (l : Plan). length (modules_of l)) c.in_ok-layout.ensures in
    IfOk-weaker c.network_within.result (λ _. length (modules_of c.in_ok-layout.layout) ≤ most_modules) (λ _. limit_passed q ≡ None)
    (λ net few. none_passed q c.requires.kept (omega (arith, is, c.if-cells-gt-MOST_REUSE.false)) (omega (arith, same, few))) c.network_within.ensures.few

pub returns-clause-limit : goal.returns-clause-limit
returns-clause-limit c = λ kind n e.
    let p = plain c.args.program.now in
    let q = plan_of p c.args.delays.now in
    let is = held p c.args.delays.now c.in_ok-net.net.weights c.in_ok-net.net.reads c.cells_held-cells.result
    c.in_ok-net.ensures.weights c.in_ok-net.ensures.reads c.cells_held-cells.ensures in
    let h = c.network_within.ensures.limit kind n e in
    let count : n ≡ length (modules_of q) = h.1 ∙ ap (λ (l : Plan). length (modules_of l)) c.in_ok-layout.ensures in
    modules_passed q c.requires.kept (omega (arith, is, c.if-cells-gt-MOST_REUSE.false)) (omega (arith, count, h.2))
    ∙ ap (λ x. Some (Modules, x)) (sym count) ∙ ap (λ x. Some (x, n)) (sym h.0)
