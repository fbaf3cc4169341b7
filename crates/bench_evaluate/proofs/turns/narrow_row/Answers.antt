use Rattle.bench_evaluate.proofs.turns.narrow_row.Goals as goal

pub run_narrow-requires-clause-cells : goal.run_narrow-requires-clause-cells
run_narrow-requires-clause-cells c = c.fit_narrow.ensures.0 c.if-fit_narrow.true
