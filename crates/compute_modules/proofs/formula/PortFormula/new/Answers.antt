use Rattle.compute_modules.proofs.formula.PortFormula.new.Goals as goal

pub invariant_of-result-clause-formula : goal.invariant_of-result-clause-formula
invariant_of-result-clause-formula c = ∣ c.requires ∣₁
