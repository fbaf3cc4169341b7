use Rattle.lane_rows.proofs.tests.runs.run_words.Goals as goal

pub run_narrow-requires-clause-cells : goal.run_narrow-requires-clause-cells
run_narrow-requires-clause-cells c = c.fit_narrow.ensures.0 c.if-fit_narrow.true
