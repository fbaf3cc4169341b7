use Rattle.formula_code.specs.Codes.{HasRoom}
use Rattle.bench_evaluate.proofs.turns.single_turn.Given as goal

abbrev pub invariant-cells : goal.invariant-cells
invariant-cells l = HasRoom l.code l.scratch
