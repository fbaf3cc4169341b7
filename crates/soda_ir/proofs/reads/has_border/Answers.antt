use Rattle.std.proofs.Common.{◌&&◌, sym, ◌∙◌, ap}
use Rattle.soda_ir.specs.Counts.{is_output}
use Rattle.soda_ir.specs.Program.{plain}
use Rattle.soda_ir.proofs.reads.has_border.Goals as goal

pub returns-then-is_preserved : goal.returns-then-is_preserved
returns-then-is_preserved c =
    c.is_output.ensures ∙ ap (λ b. b && is_output (plain c.args.parts.now) c.args.tensor) (sym c.if-is_preserved.true ∙ c.is_preserved.ensures)
