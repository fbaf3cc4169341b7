use Rattle.std.proofs.Common.{rules, arith, add-one}
use Rattle.soda_formula.proofs.Fronts.{read-none, read-more, stops-large, fed-on, fed-end, found-front, wrong-front, found-all, wrong-all}
use Rattle.soda_formula.proofs.reading.read_formula.Goals as goal

pub loop-i-init : goal.loop-i-init
loop-i-init c =
    read-none _ _ _ c.new-reader.ensures c.none-size.ensures.brackets c.none-size.ensures.counted c.none-size.ensures.place

pub returns-then-is_large-clause-wrong : goal.returns-then-is_large-clause-wrong
returns-then-is_large-clause-wrong c =
    stops-large _ _ _ c.in-On.next _ _ _ c.loop-i.invariant (omega arith) c.index-tokens-i.is
    (fed-on _ _ _ _ c.in-On.is c.in_ok-next.ensures) c.with-size.ensures.brackets c.with-size.ensures.counted c.with-size.ensures.place c.if-is_large.ensures

pub returns-in-End-clause-found : goal.returns-in-End-clause-found
returns-in-End-clause-found c =
    found-front _ _ _ _ _ _ _ c.loop-i.invariant (omega arith) c.index-tokens-i.is (fed-end _ _ _ _ c.in-End.is c.in_ok-next.ensures) c.ended.ensures.found

pub returns-in-End-clause-wrong : goal.returns-in-End-clause-wrong
returns-in-End-clause-wrong c =
    wrong-front _ _ _ _ _ _ _ c.loop-i.invariant (omega arith) c.index-tokens-i.is (fed-end _ _ _ _ c.in-End.is c.in_ok-next.ensures) c.ended.ensures.wrong

pub loop-i-preserved : goal.loop-i-preserved
loop-i-preserved c =
    rw add-one (read-more _ _ _ c.in-On.next _ c.with-size.result _ c.loop-i.invariant (omega arith) c.index-tokens-i.is
    (fed-on _ _ _ _ c.in-On.is c.in_ok-next.ensures) c.with-size.ensures.brackets c.with-size.ensures.counted c.with-size.ensures.place
    (search rules) (search rules))

pub returns-clause-found : goal.returns-clause-found
returns-clause-found c =
    found-all _ c.loop-i.i _ _ _ _ _ c.loop-i.invariant (omega arith) (omega arith) c.in_ok-finish.ensures c.ended-2.ensures.found

pub returns-clause-wrong : goal.returns-clause-wrong
returns-clause-wrong c =
    wrong-all _ c.loop-i.i _ _ _ _ _ c.loop-i.invariant (omega arith) (omega arith) c.in_ok-finish.ensures c.ended-2.ensures.wrong
