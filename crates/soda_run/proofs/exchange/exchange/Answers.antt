use Rattle.std.proofs.Common.{arith, refl}
use Rattle.soda_run.proofs.Exchanged.{exchanged_more}
use Rattle.soda_run.proofs.exchange.exchange.Goals as goal

pub loop-number-init : goal.loop-number-init
loop-number-init c =
    record { inputs = λ j l. absurd (omega arith); left = λ j l m. refl; whole = λ n f x l. f x l }

pub loop-number-preserved : goal.loop-number-preserved
loop-number-preserved c =
    exchanged_more c.args.outputs.now c.args.arrays.now c.loop-number.arrays c.swap.new.self c.loop-number.number (omega arith) (omega (arith, c.requires.few)) (c.requires.there c.loop-number.number (omega arith)) c.requires.behind c.requires.apart c.swap.ensures.by_index c.loop-number.invariant

pub returns-clause-inputs : goal.returns-clause-inputs
returns-clause-inputs c = λ j l. c.loop-number.invariant.inputs j (omega arith)

pub returns-clause-whole : goal.returns-clause-whole
returns-clause-whole c = c.loop-number.invariant.whole
