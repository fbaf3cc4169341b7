use Rattle.std.proofs.Common.{length, ap, subst, arith}
use Rattle.std.proofs.lemmas.Result.{err_from_is_err_and}
use Rattle.design_reader.specs.Refused.{IsRefusedBehind, at_tensor}
use Rattle.design_reader.specs.Stops.{IsTensorStop}
use Rattle.module_text.specs.Texts.{version_1}
use Rattle.net_build.proofs.CallerLemmas.{widths_length}
use Rattle.soda_ir.specs.Program.{plain}
use Rattle.design_reader.proofs.Stopping.{refused_on}
use Rattle.design_reader.proofs.reading.plan_by_net.Goals as goal

pub tensors_told-requires-clause-few : goal.tensors_told-requires-clause-few
tensors_told-requires-clause-few c =
    omega (arith, ap length c.requires.tensors, widths_length (plain c.args.parts.now), ap length c.requires.weights, c.reads-net.ensures.net.few_tensors)

pub returns-in_err-told-clause-refused : goal.returns-in_err-told-clause-refused
returns-in_err-told-clause-refused c =
    let v = plain c.args.parts.now in
    let text = c.args.text.now in
    let p = err_from_is_err_and c.from_residual.result c.from_residual.ensures.1 in
    rw (p.1, p.2) (refused_on c.in_err-told.field-0.0 (IsTensorStop v text c.args.before) (IsRefusedBehind version_1 v text)
    (λ n s. at_tensor (subst (λ b. IsTensorStop v text b n) c.requires.before s)) c.in_err-told.ensures.refused)

pub plan_behind-requires-clause-few : goal.plan_behind-requires-clause-few
plan_behind-requires-clause-few c =
    omega (arith, ap length c.requires.tensors, widths_length (plain c.args.parts.now), ap length c.requires.weights, c.reads-net.ensures.net.few_tensors, c.requires.few)
