use Rattle.std.proofs.Common.{ℕ, ◌==◌, List, length, sym, ap, ◌∙◌, true≢false}
use Rattle.std.proofs.lemmas.Result.{err_from_is_err_and}
use Rattle.design_lines.specs.Lines.{network_lines}
use Rattle.design_reader.specs.Stops.{IsStop}
use Rattle.design_reader.specs.machine.Pieces.{IsEndStop, within}
use Rattle.design_reader.proofs.Ending.{past_lines}
use Rattle.design_reader.proofs.Stopping.{refused_on}
use Rattle.design_reader.proofs.reading.network_told.Goals as goal

pub returns-in_err-rest-clause-refused : goal.returns-in_err-rest-clause-refused
returns-in_err-rest-clause-refused c =
    let lines = network_lines c.args.network.now in
    let p = err_from_is_err_and c.from_residual.result c.from_residual.ensures.1 in
    rw (p.1, p.2) (refused_on c.in_err-rest.field-0.0 (IsStop lines c.args.text.now c.args.before) (IsEndStop lines c.args.text.now c.args.before)
    (λ n s. within s) c.in_err-rest.ensures.refused)

pub returns-else-is_empty-clause-refused : goal.returns-else-is_empty-clause-refused
returns-else-is_empty-clause-refused c =
    past_lines c.args.network.now c.modules.result.now c.queues.result.now c.args.text.now c.in_ok-rest.rest.now c.args.before
    c.in_ok-rest.ensures.text c.modules.ensures.value c.queues.ensures.value (λ e. true≢false (sym (sym c.if-is_empty.false ∙ c.is_empty.ensures ∙ ap (λ (z : List ℕ). length z == 0) e)))
