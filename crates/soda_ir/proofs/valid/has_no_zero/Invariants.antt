use Rattle.std.proofs.Common.{◌≡◌, ◌==◌, not, true, take}
use Rattle.std.specs.List.{list_all}
use Rattle.soda_ir.proofs.valid.has_no_zero.Given as goal

abbrev pub invariant-loop-n : goal.invariant-loop-n
invariant-loop-n l = list_all (λ n. not (n == 0)) (take l.n-index l.numbers) ≡ true
