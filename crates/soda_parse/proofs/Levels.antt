-- One level of a written formula, and of the formula that it stands for.
use Rattle.soda_formula.proofs.CallerLemmas.{levels as written_levels}
use Rattle.soda_ir.proofs.CallerLemmas.{levels as formula_levels}

-- one level of a written formula, and of the formula that it stands for
pub ruleset levels = (written_levels, formula_levels)
