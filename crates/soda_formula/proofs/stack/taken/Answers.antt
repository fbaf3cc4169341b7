use Rattle.std.proofs.Common.{rules}
use Rattle.soda_formula.proofs.Frames.{reduce-empty, reduce-prefix, reduce-infix, reduce-looser, reduce-bracket}
use Rattle.soda_formula.proofs.stack.taken.Goals as goal

pub returns-in_default : goal.returns-in_default
returns-in_default c = reduce-empty _ _ _ _ (search rules) (search rules)

pub returns-then-infix-level : goal.returns-then-infix-level
returns-then-infix-level c =
    reduce-looser _ _ _ _ _ c.in-Infix.infix c.in-Infix.left _ c.in-Some.ensures c.in-Infix.is c.in_ok-push-in-Infix.ensures.ok c.if-infix-level.true

pub returns-in_ok-unary-in-Prefix : goal.returns-in_ok-unary-in-Prefix
returns-in_ok-unary-in-Prefix c =
    reduce-prefix _ _ _ _ c.in-Prefix.op _ _ c.in-Some.ensures c.in-Prefix.is c.in_ok-unary-in-Prefix.ensures

pub returns-in_ok-binary-in-Infix : goal.returns-in_ok-binary-in-Infix
returns-in_ok-binary-in-Infix c =
    reduce-infix _ _ _ _ c.in-Infix.infix c.in-Infix.left _ _ c.in-Some.ensures c.in-Infix.is c.if-infix-level.false c.in_ok-binary-in-Infix.ensures

pub returns-in_ok-push-in_default-frame : goal.returns-in_ok-push-in_default-frame
returns-in_ok-push-in_default-frame c =
    reduce-bracket _ _ _ _ c.in-Some.frame _ c.in-Some.ensures (search rules) c.in_default-frame.not-Prefix c.in_default-frame.not-Infix
