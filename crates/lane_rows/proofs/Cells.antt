-- A fact of every cell is one of each cell of a formula.
use Rattle.std.proofs.Common.{ℕ, List, ℤ}
use Rattle.soda_ir.specs.Formula.{Formula, number, read, param, unary, binary, choice, cast}
use Rattle.soda_eval.specs.Arrays.{Each}

pub each_of_all : (fact : ℕ → List ℤ → Type 0) → ((t : ℕ) (o : List ℤ) → fact t o) → (f : Formula) → Each fact f
each_of_all fact all (number n) = tt
each_of_all fact all (read t o) = all t o
each_of_all fact all (param p k) = tt
each_of_all fact all (unary op a) = each_of_all fact all a
each_of_all fact all (binary op a b) = (each_of_all fact all a, each_of_all fact all b)
each_of_all fact all (choice c a b) = (each_of_all fact all c, each_of_all fact all a, each_of_all fact all b)
each_of_all fact all (cast t a) = each_of_all fact all a
