use Rattle.std.proofs.Common.{map, sym, ◌∙◌}
use Rattle.soda_formula.specs.Statements.{plain_statement}
use Rattle.soda_parse.specs.Text.{not_valid}
use Rattle.soda_parse.proofs.Link.{countable_at, few_made_at, few_params, few_tensors, refused_at, valid_at}
use Rattle.soda_parse.proofs.reading.answer_parts.Goals as goal

pub make_parts-requires-clause-tensors : goal.make_parts-requires-clause-tensors
make_parts-requires-clause-tensors c =
    rw c.requires.outline (few_tensors c.args.text.now (map plain_statement c.args.statements.now) c.requires.few c.requires.syntax)

pub make_parts-requires-clause-params : goal.make_parts-requires-clause-params
make_parts-requires-clause-params c =
    rw c.requires.outline (few_params c.args.text.now (map plain_statement c.args.statements.now) c.requires.few c.requires.syntax)

pub refusal_by-requires-clause-tensors : goal.refusal_by-requires-clause-tensors
refusal_by-requires-clause-tensors c =
    few_made_at c.args.text.now (map plain_statement c.args.statements.now) _ c.in-Ok.parts c.requires.outline c.in-Ok.ensures
    c.requires.few c.requires.syntax

pub refusal_by-requires-clause-few : goal.refusal_by-requires-clause-few
refusal_by-requires-clause-few c =
    rw c.requires.outline (few_tensors c.args.text.now (map plain_statement c.args.statements.now) c.requires.few c.requires.syntax)

pub refusal_by-requires-clause-countable : goal.refusal_by-requires-clause-countable
refusal_by-requires-clause-countable c =
    countable_at (map plain_statement c.args.statements.now) _ _ c.requires.outline c.in-Ok.ensures

pub make_program-requires : goal.make_program-requires
make_program-requires c =
    valid_at c.args.text.now (map plain_statement c.args.statements.now) c.args.outline.now c.in-Ok.parts c.requires.outline
    c.in-Ok.ensures c.requires.syntax (sym c.in-Ok-None.ensures ∙ c.in-Ok-None.field-0-is)

pub returns-in-Ok-Some-clause-refused : goal.returns-in-Ok-Some-clause-refused
returns-in-Ok-Some-clause-refused c =
    not_valid (map plain_statement c.args.statements.now) c.requires.short c.requires.ascii c.requires.syntax
    (refused_at (map plain_statement c.args.statements.now) c.args.outline.now c.in-Ok.parts c.requires.outline c.in-Ok.ensures
    (sym c.in-Ok-Some.field-0-is ∙ c.in-Ok-Some.ensures))
