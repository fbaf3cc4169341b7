use Rattle.bench_evaluate.proofs.turns.wide_row.Goals as goal

pub run-requires-clause-cells : goal.run-requires-clause-cells
run-requires-clause-cells c = c.fit.ensures.0 c.if-fit.true
