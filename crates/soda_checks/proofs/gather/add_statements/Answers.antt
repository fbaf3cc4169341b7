use Rattle.std.proofs.Common.{rules}
use Rattle.soda_checks.proofs.Outlines.{gone_on, ended}
use Rattle.soda_checks.proofs.gather.add_statements.Goals as goal

pub loop-statement-preserved : goal.loop-statement-preserved
loop-statement-preserved c =
    gone_on c.args.outline.now _ _ c.loop-statement.statement-index c.statement-item.result c.args.statements.now
    c.loop-statement.invariant c.loop-statement-test.true c.statement-item.is (search rules)

pub returns : goal.returns
returns c =
    ended c.args.outline.now c.loop-statement.outline c.loop-statement.statement-index c.args.statements.now
    c.loop-statement.invariant c.loop-statement-test.false
