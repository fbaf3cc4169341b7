use Rattle.std.proofs.Common.{sym, ap, ◌∙◌}
use Rattle.soda_ir.specs.Program.{plain}
use Rattle.command_words.specs.Orders.{asked}
use Rattle.sodac_cli.specs.Due.{passed_limit}
use Rattle.sodac_cli.proofs.Judged.{lets_pass, limit_refused, names_refused}
use Rattle.sodac_cli.proofs.judging.judge.Goals as goal

pub returns-then-not-names_fit-clause-refuses : goal.returns-then-not-names_fit-clause-refuses
returns-then-not-names_fit-clause-refuses c = names_refused (asked c.args.order.now) (plain c.args.program.now) c.requires (sym c.names_fit.ensures ∙ c.if-not-names_fit.true)

pub returns-in-Some-clause-refuses : goal.returns-in-Some-clause-refuses
returns-in-Some-clause-refuses c =
    let p = plain c.args.program.now in
    limit_refused (asked c.args.order.now) p c.requires (sym c.names_fit.ensures ∙ c.if-not-names_fit.false)
    c.in-Some.refusal (ap (λ n. passed_limit p n) (sym c.unwrap_or.ensures) ∙ sym c.in-Some.ensures)

pub returns-in-None-clause-passes : goal.returns-in-None-clause-passes
returns-in-None-clause-passes c =
    let p = plain c.args.program.now in
    lets_pass (asked c.args.order.now) p c.requires (sym c.names_fit.ensures ∙ c.if-not-names_fit.false)
    (ap (λ n. passed_limit p n) (sym c.unwrap_or.ensures) ∙ sym c.in-None.ensures)
