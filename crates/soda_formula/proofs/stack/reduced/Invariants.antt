use Rattle.std.proofs.Common.{◌≡◌, length}
use Rattle.soda_formula.specs.machine.Steps.{reduce}
use Rattle.soda_formula.specs.Tree.{term_of}
use Rattle.soda_formula.specs.machine.Views.{frames_of}
use Rattle.soda_formula.proofs.stack.reduced.Given as goal

abbrev pub invariant-loop-larger : goal.invariant-loop-larger
invariant-loop-larger l =
    reduce l.level (frames_of l.initial.frames) (term_of l.initial.operand) ≡ reduce l.level (frames_of l.frames) (term_of l.operand)

abbrev pub decreases-loop-larger : goal.decreases-loop-larger
decreases-loop-larger l = length l.frames
