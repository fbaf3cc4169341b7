use Rattle.soda_syntax.proofs.Walk.{goes_on, whole_read, wrong_stop, at_end, plain_read, plain_stop, no_left}
use Rattle.std.proofs.Common.{sym, ◌∙◌}
use Rattle.soda_syntax.proofs.one.read_statement.Goals as goal

pub read_line-requires-clause-read : goal.read_line-requires-clause-read
read_line-requires-clause-read c =
    goes_on c.args.tokens.now c.loop-at.at c.loop-at.stage _ c.index-tokens-at.result c.loop-at-test.true c.index-tokens-at.is
    c.loop-at.invariant.read (cc (c.in_ok-next.ensures, c.in-Goes.is, c.in-Formula.is))

pub returns-in-Whole-clause-found : goal.returns-in-Whole-clause-found
returns-in-Whole-clause-found c =
    whole_read c.args.tokens.now c.loop-at.at c.loop-at.stage c.index-tokens-at.result c.in-Whole.statement c.loop-at-test.true c.index-tokens-at.is
    c.loop-at.invariant.read (cc (c.in_ok-next.ensures, c.in-Whole.is))

pub returns-in-Wrong-clause-wrong : goal.returns-in-Wrong-clause-wrong
returns-in-Wrong-clause-wrong c =
    wrong_stop c.args.tokens.now c.loop-at.at c.loop-at.stage c.index-tokens-at.result c.loop-at-test.true c.index-tokens-at.is
    c.loop-at.invariant.read c.loop-at.invariant.no_formula (cc (c.in_ok-next.ensures, c.in-Wrong.is))

pub loop-at-preserved : goal.loop-at-preserved
loop-at-preserved c = record {
  read = goes_on c.args.tokens.now c.loop-at.at c.loop-at.stage c.in-Goes.after c.index-tokens-at.result c.loop-at-test.true c.index-tokens-at.is
      c.loop-at.invariant.read (cc (c.in_ok-next.ensures, c.in-Goes.is));
  no_formula = no_left c.in-Goes.after c.in_default.not-Formula;
}

pub returns-in-Some-clause-found : goal.returns-in-Some-clause-found
returns-in-Some-clause-found c =
    plain_read c.args.tokens.now _ c.loop-at.stage c.in-Some.statement
    (at_end c.args.tokens.now c.loop-at.at c.loop-at.stage c.loop-at-test.false c.loop-at.invariant.read) (sym c.finish.ensures ∙ c.in-Some.is)

pub returns-in-None-clause-wrong : goal.returns-in-None-clause-wrong
returns-in-None-clause-wrong c =
    plain_stop c.args.tokens.now _ c.loop-at.stage
    (at_end c.args.tokens.now c.loop-at.at c.loop-at.stage c.loop-at-test.false c.loop-at.invariant.read)
    (sym c.finish.ensures ∙ c.in-None.is) c.loop-at.invariant.no_formula
