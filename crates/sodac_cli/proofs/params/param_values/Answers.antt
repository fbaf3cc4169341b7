use Rattle.std.proofs.Common.{Bor, List, ap, option_map, ℕ, ◌∙◌}
use Rattle.std.proofs.lemmas.Result.{IfErr-weaker, IfOk-weaker}
use Rattle.soda_ir.specs.Program.{plain}
use Rattle.sodac_cli.proofs.ParamsRead.{none_settled, some_refused}
use Rattle.sodac_cli.proofs.params.param_values.Goals as goal

pub returns-in-Some-clause-goes : goal.returns-in-Some-clause-goes
returns-in-Some-clause-goes g c = λ told.
    IfOk-weaker c.values_given.result _ _ (λ v goes first begun a same judged w.
    goes first begun a (same ∙ ap (option_map (λ (n : Bor (List ℕ)). n.now)) c.in-Some.is) judged w) (c.values_given.ensures.goes told)

pub returns-in-Some-clause-ends : goal.returns-in-Some-clause-ends
returns-in-Some-clause-ends g c = λ told.
    IfErr-weaker c.values_given.result _ _ (λ s ends first begun a same judged w.
    ends first begun a (same ∙ ap (option_map (λ (n : Bor (List ℕ)). n.now)) c.in-Some.is) judged w) (c.values_given.ensures.ends told)

pub returns-in-None-clause-goes : goal.returns-in-None-clause-goes
returns-in-None-clause-goes g c = λ told.
    IfOk-weaker c.no_values.result _ _ (λ v none first begun a same judged w.
    none_settled first begun a (plain c.args.program.now) (same ∙ ap (option_map (λ (n : Bor (List ℕ)). n.now)) c.in-None.is) judged _ _ w v.items none.0 none.1)
    c.no_values.ensures.none

pub returns-in-None-clause-ends : goal.returns-in-None-clause-ends
returns-in-None-clause-ends g c = λ told.
    IfErr-weaker c.no_values.result _ _ (λ s some first begun a same judged w.
    some_refused first begun a (plain c.args.program.now) (same ∙ ap (option_map (λ (n : Bor (List ℕ)). n.now)) c.in-None.is) judged _ _ w some.0 s some.1)
    c.no_values.ensures.some
