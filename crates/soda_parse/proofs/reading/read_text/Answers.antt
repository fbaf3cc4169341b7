use Rattle.std.proofs.Common.{ℕ, sym, ◌∙◌}
use Rattle.soda_parse.specs.Text.{too_long, no_ascii}
use Rattle.soda_parse.proofs.Exclusive.{syntax_refused}
use Rattle.soda_parse.proofs.reading.read_text.Goals as goal

pub returns-then-text-most-clause-refused : goal.returns-then-text-most-clause-refused
returns-then-text-most-clause-refused c = too_long c.if-text-most.true

pub returns-in-Some-clause-refused : goal.returns-in-Some-clause-refused
returns-in-Some-clause-refused c = no_ascii c.if-text-most.false (sym c.not_ascii.ensures ∙ c.in-Some.is)

pub returns-in-Err-clause-refused : goal.returns-in-Err-clause-refused
returns-in-Err-clause-refused c =
    rw c.unread.ensures (syntax_refused ℕ ℕ c.args.most c.args.text.now c.in-Err.fail c.if-text-most.false (sym c.not_ascii.ensures ∙
    c.in_default.is) c.in-Err.ensures.refused)
