use Rattle.std.proofs.Common.{[], ◌++◌, ◌∙◌, ap}
use Rattle.soda_ir.specs.Formula.{by_formula}
use Rattle.soda_ir.specs.Counts.{border_reads, formula_in, formula_reads}
use Rattle.soda_ir.specs.Program.{extents_at, plain}
use Rattle.soda_ir.proofs.reads.reads_of.Goals as goal

pub returns : goal.returns
returns c =
    let p = plain c.args.parts.now in
    c.from_vec.ensures ∙ c.in_ok-add_border.ensures
    ∙ ap (λ reads. reads ++ border_reads p c.args.tensor) (c.in_ok-add_formula.ensures ∙ ap (λ reads. reads ++ by_formula (formula_in p c.args.tensor) [] (formula_reads (extents_at p 1))) c.new-reads.ensures.items)
