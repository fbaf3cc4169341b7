use Rattle.std.proofs.Common.{ℕ, ◌+◌, length}
use Rattle.std.proofs.lemmas.Result.{err_from_is_err_and}
use Rattle.design_lines.specs.PlanLines.{numbered}
use Rattle.design_lines.specs.Lines.{module_line, network_lines, queue_line}
use Rattle.design_reader.specs.Stops.{IsStop}
use Rattle.design_reader.proofs.Stopping.{network_stop_in_modules, network_stop_in_queues, network_stop_at_end, refused_on}
use Rattle.design_reader.proofs.networks.network_behind.Goals as goal

pub returns-in_err-behind_modules-clause-refused : goal.returns-in_err-behind_modules-clause-refused
returns-in_err-behind_modules-clause-refused c =
    let net = c.args.network.now in
    let p = err_from_is_err_and c.from_residual.result c.from_residual.ensures.1 in
    rw (p.1, p.2) (refused_on c.in_err-behind_modules.field-0.0 (IsStop (numbered module_line 0 c.modules-modules.result.now) c.args.text.now c.args.before)
    (IsStop (network_lines net) c.args.text.now c.args.before)
    (λ n s. network_stop_in_modules net c.modules-modules.result.now c.args.text.now c.args.before n c.modules-modules.ensures.value s)
    c.in_err-behind_modules.ensures.refused)

pub returns-in_err-behind_queues-clause-refused : goal.returns-in_err-behind_queues-clause-refused
returns-in_err-behind_queues-clause-refused c =
    let net = c.args.network.now in
    let middle : ℕ = c.args.before + length c.modules-modules.result.now in
    let rest = c.in_ok-behind_modules.behind_modules.now in
    let p = err_from_is_err_and c.from_residual-in_err-behind_queues.result c.from_residual-in_err-behind_queues.ensures.1 in
    rw (p.1, p.2) (refused_on c.in_err-behind_queues.field-0.0 (IsStop (numbered queue_line 0 c.queues-queues.result.now) rest middle)
    (IsStop (network_lines net) c.args.text.now c.args.before)
    (λ n s. network_stop_in_queues net c.modules-modules.result.now c.queues-queues.result.now c.args.text.now rest c.args.before n
    c.modules-modules.ensures.value c.queues-queues.ensures.value c.in_ok-behind_modules.ensures.text s)
    c.in_err-behind_queues.ensures.refused)

pub returns-in-None-clause-refused : goal.returns-in-None-clause-refused
returns-in-None-clause-refused c =
    network_stop_at_end c.args.network.now c.modules-modules.result.now c.queues-queues.result.now c.args.text.now
    c.in_ok-behind_modules.behind_modules.now c.in_ok-behind_queues.behind_queues.now c.args.before
    c.modules-modules.ensures.value c.queues-queues.ensures.value c.in_ok-behind_modules.ensures.text c.in_ok-behind_queues.ensures.text c.in-None.ensures
