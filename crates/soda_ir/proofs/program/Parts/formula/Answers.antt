use Rattle.std.proofs.Common.{ap, sym, ◌∙◌, option_map}
use Rattle.soda_ir.specs.Tree.{formula_of}
use Rattle.soda_ir.proofs.Formulas.{formula_got, no_formula_got}
use Rattle.soda_ir.proofs.program.Parts.formula.Goals as goal

pub returns-in-Some-formula : goal.returns-in-Some-formula
returns-in-Some-formula c = ap (option_map formula_of) (sym c.in-Some-formula.is) ∙ formula_got c.args.self.now.tensors c.args.tensor c.in-Some.tensor.now c.in-Some.ensures.value

pub returns-in-None-formula : goal.returns-in-None-formula
returns-in-None-formula c = ap (option_map formula_of) (sym c.in-None-formula.is) ∙ formula_got c.args.self.now.tensors c.args.tensor c.in-Some.tensor.now c.in-Some.ensures.value

pub returns-in-None : goal.returns-in-None
returns-in-None c = no_formula_got c.args.self.now.tensors c.args.tensor c.in-None.ensures.value
