use Rattle.soda_ir.specs.Uses.{each_use, is_good_cell, is_good_place}
use Rattle.soda_ir.proofs.CallerLemmas.{formula_good}
use Rattle.soda_eval.proofs.Readable.{each_in_range, readable}
use Rattle.soda_eval.proofs.laws.formulas_are_readable.Goals as goal

pub returns : goal.returns
returns c =
    λ p x f cells params sound e values h.
    let good = formula_good (each_use (is_good_cell p) (is_good_place p)) p.tensors x f sound.parts.uses e in
    readable p cells params values f good (each_in_range p cells h f good)
