use Rattle.run_rows.proofs.tests.fit.+behind_values.Given as goal

abbrev pub decreases-behind_values : goal.decreases-behind_values
decreases-behind_values l = l.count
