use Rattle.std.proofs.Common.{[], take, set, slice_index_or, sym, subst, arith}
use Rattle.soda_ir.specs.Program.{plain}
use Rattle.soda_run.specs.pieces.Filled.{CanFill}
use Rattle.soda_run.proofs.Filled.{array_whole, below, can_fill, filled_last, filled_next, margin_at, split_at}
use Rattle.soda_run.proofs.iterations.fill_all.Goals as goal

pub bounds-margins-at : goal.bounds-margins-at
bounds-margins-at c =
    let p = plain c.args.program.now in
    let begun = c.requires.begun in
    let order = c.args.plan.now.order in
    let items = c.as_slice-tensor-items.result.now in
    let i = c.loop-tensor.tensor-index in
    let split = split_at p order items i c.requires.plan.order c.as_slice-tensor-items.ensures (omega arith) in
    omega (arith, begun.1.many, below p c.requires.plan.sound c.args.rows begun.0 c.args.params.now c.args.margins.now begun.1 (take i order) _ (slice_index_or items i 0) split c.loop-tensor.arrays (c.loop-tensor.invariant begun.0 begun.1 begun.2))

pub fill_tensor-requires-clause-there : goal.fill_tensor-requires-clause-there
fill_tensor-requires-clause-there c =
    let p = plain c.args.program.now in
    let begun = c.requires.begun in
    let order = c.args.plan.now.order in
    let items = c.as_slice-tensor-items.result.now in
    let i = c.loop-tensor.tensor-index in
    let split = split_at p order items i c.requires.plan.order c.as_slice-tensor-items.ensures (omega arith) in
    let a = c.loop-tensor.invariant begun.0 begun.1 begun.2 in
    omega (arith, a.many, below p c.requires.plan.sound c.args.rows begun.0 c.args.params.now c.args.margins.now begun.1 (take i order) _ (slice_index_or items i 0) split c.loop-tensor.arrays a)

pub fill_tensor-requires-clause-whole : goal.fill_tensor-requires-clause-whole
fill_tensor-requires-clause-whole c =
    let p = plain c.args.program.now in
    let begun = c.requires.begun in
    let order = c.args.plan.now.order in
    let items = c.as_slice-tensor-items.result.now in
    let i = c.loop-tensor.tensor-index in
    let split = split_at p order items i c.requires.plan.order c.as_slice-tensor-items.ensures (omega arith) in
    array_whole p c.requires.plan.sound c.args.rows begun.0 c.args.params.now c.args.margins.now begun.1 (take i order) _ (slice_index_or items i 0) split c.loop-tensor.arrays (c.loop-tensor.invariant begun.0 begun.1 begun.2)

pub fill_tensor-requires-clause-ready : goal.fill_tensor-requires-clause-ready
fill_tensor-requires-clause-ready c =
    let p = plain c.args.program.now in
    let begun = c.requires.begun in
    let order = c.args.plan.now.order in
    let items = c.as_slice-tensor-items.result.now in
    let i = c.loop-tensor.tensor-index in
    let x = slice_index_or items i 0 in
    let split = split_at p order items i c.requires.plan.order c.as_slice-tensor-items.ensures (omega arith) in
    let a = c.loop-tensor.invariant begun.0 begun.1 begun.2 in
    let there = below p c.requires.plan.sound c.args.rows begun.0 c.args.params.now c.args.margins.now begun.1 (take i order) _ x split c.loop-tensor.arrays a in
    let same = margin_at c.args.margins.now x c.index-margins-at.result c.index-margins-at.is (omega (arith, begun.1.many, there)) in
    subst (CanFill p c.args.rows (set c.loop-tensor.arrays x []) x) (sym same) (can_fill p c.requires.plan.sound c.args.rows begun.0 c.args.params.now c.args.margins.now begun.1 (take i order) _ x split c.loop-tensor.arrays a)

pub loop-tensor-preserved : goal.loop-tensor-preserved
loop-tensor-preserved c = λ g b a0.
    filled_next (plain c.args.program.now) c.requires.plan.sound c.args.rows g c.args.params.now c.args.margins.now b c.args.plan.now.order c.as_slice-tensor-items.result.now c.loop-tensor.tensor-index c.requires.plan.order c.as_slice-tensor-items.ensures (omega arith) c.loop-tensor.arrays c.fill_tensor.new.arrays c.index-margins-at.result c.index-margins-at.is (c.loop-tensor.invariant g b a0) c.fill_tensor.ensures

pub returns : goal.returns
returns c = λ g b a0.
    filled_last (plain c.args.program.now) c.args.rows g c.args.params.now c.args.plan.now.order c.as_slice-tensor-items.result.now c.loop-tensor.tensor-index c.requires.plan.order c.as_slice-tensor-items.ensures (omega arith) c.loop-tensor.arrays (c.loop-tensor.invariant g b a0)
