use Rattle.bench_evaluate.proofs.turns.single_turn.Goals as goal

pub run_one-sum-requires : goal.run_one-sum-requires
run_one-sum-requires c = record { room = c.cells.invariant }

pub cells-preserved : goal.cells-preserved
cells-preserved c = c.run_one-sum.ensures.room c.args.code.now c.cells.invariant
