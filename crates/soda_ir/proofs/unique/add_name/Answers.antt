use Rattle.std.proofs.Common.{◌∙◌, sym}
use Rattle.soda_ir.proofs.FreeNames.{bad_more, good_more}
use Rattle.soda_ir.proofs.unique.add_name.Goals as goal

pub returns-then-is_free_name-clause-free : goal.returns-then-is_free_name-clause-free
returns-then-is_free_name-clause-free c =
    good_more c.args.table.now c.args.name.now c.in_ok-is_new.is_new c.requires (sym c.is_free_name.ensures ∙ c.if-is_free_name.true) c.in_ok-is_new.ensures.fresh

pub returns-else-is_free_name-clause-free : goal.returns-else-is_free_name-clause-free
returns-else-is_free_name-clause-free c =
    c.if-is_free_name.false ∙ bad_more c.args.table.now c.args.name.now c.requires (sym c.is_free_name.ensures ∙ c.if-is_free_name.false)
