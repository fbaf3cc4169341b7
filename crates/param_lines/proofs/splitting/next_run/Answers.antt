use Rattle.std.proofs.Common.{arith}
use Rattle.param_lines.proofs.Splits.{next_is, no_runs}
use Rattle.param_lines.proofs.splitting.next_run.Goals as goal

pub returns-then-text-eq0-clause-none : goal.returns-then-text-eq0-clause-none
returns-then-text-eq0-clause-none c =
    no_runs c.args.text.now c.past_space-text.result.now c.past_space-text.ensures c.if-text-eq0.true

pub returns-else-text-eq0-clause-found : goal.returns-else-text-eq0-clause-found
returns-else-text-eq0-clause-found c =
    (next_is c.args.text.now c.past_space-text.result.now c.split_run.result.0.now c.split_run.result.1.now c.past_space-text.ensures (omega arith) c.split_run.ensures.front c.split_run.ensures.rest).same

pub returns-else-text-eq0-clause-shorter : goal.returns-else-text-eq0-clause-shorter
returns-else-text-eq0-clause-shorter c =
    (next_is c.args.text.now c.past_space-text.result.now c.split_run.result.0.now c.split_run.result.1.now c.past_space-text.ensures (omega arith) c.split_run.ensures.front c.split_run.ensures.rest).shorter
