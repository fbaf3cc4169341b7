-- What crates above cite: one level of a tree, lists of values, tests of reads, distances, inputs and outputs, counts,
-- rounds, and that the live tensors and reads of a sound program can be counted.
pub use Rattle.soda_ir.proofs.Counted.{no_output, same_reads, wanted_last, wanted_step}
pub use Rattle.soda_ir.proofs.Distances.{distance_bound, nonzero, reach_behind, reach_of}
pub use Rattle.soda_ir.proofs.Ends.{IsInput, IsOutput, as_many_outputs, bare_input, input_bare, input_known, input_there, output_at, type_in, with_number, with_output}
pub use Rattle.soda_ir.proofs.GoodReads.{every_both, every_weaker, formula_good, good_length, good_near, good_there, near_at, reads_good}
pub use Rattle.soda_ir.proofs.Groups.{countable}
pub use Rattle.soda_ir.proofs.Lists.{ext, get-listed, get-listed-past, known_list, length-listed, listed-cons, listed_same}
pub use Rattle.soda_ir.proofs.Passing.{count_full, count_rises, count_same}
pub use Rattle.soda_ir.proofs.Reached.{count_below_same, reached_none, reached_step, some_below_same, sum_below_same}
pub use Rattle.soda_ir.proofs.Settled.{past_last, place_kept, ready_more, ready_placed}
use Rattle.std.proofs.Common.{◌≡◌, ℕ, ℤ, refl}
use Rattle.soda_words.specs.IntType.{IntType}
use Rattle.soda_words.specs.declared.operators.UnOp.{UnOp}
use Rattle.soda_words.specs.declared.operators.BinOp.{BinOp}
use Rattle.arrayvec.specs.ArrayVec.{ArrayVec}
use Rattle.soda_ir.specs.declared.expr.Expr.{Expr, Num, Cell, Par, Un, Bin, Select, Cast, the_lemmas}
use Rattle.soda_ir.specs.declared.expr.Expr.TheBlock.{hidden-the_row-Expr-0}
use Rattle.soda_ir.specs.Formula.{number, read, param, unary, binary, choice, cast}
use Rattle.soda_ir.specs.Tree.{formula_of, part_of}
use denote.Hole.Carrier.{hidden}

pub formula_of-Num : (n : ℕ) → formula_of (Num n) ≡ number n
unfolding formula_of
formula_of-Num n = refl

pub formula_of-Cell : (t : ℕ) (o : ArrayVec ℤ) → formula_of (Cell t o) ≡ read t o.items
unfolding formula_of
formula_of-Cell t o = refl

pub formula_of-Par : (p k : ℕ) → formula_of (Par p k) ≡ param p k
unfolding formula_of
formula_of-Par p k = refl

pub formula_of-Un : (op : UnOp) (a : Expr) → formula_of (Un op a) ≡ unary op (formula_of a)
unfolding formula_of part_of hidden-the_row-Expr-0 hidden
formula_of-Un op a = refl

pub formula_of-Bin : (op : BinOp) (a b : Expr) → formula_of (Bin op a b) ≡ binary op (formula_of a) (formula_of b)
unfolding formula_of part_of hidden-the_row-Expr-0 hidden
formula_of-Bin op a b = refl

pub formula_of-Select : (c a b : Expr) → formula_of (Select c a b) ≡ choice (formula_of c) (formula_of a) (formula_of b)
unfolding formula_of part_of hidden-the_row-Expr-0 hidden
formula_of-Select c a b = refl

pub formula_of-Cast : (t : IntType) (a : Expr) → formula_of (Cast t a) ≡ cast t (formula_of a)
unfolding formula_of part_of hidden-the_row-Expr-0 hidden
formula_of-Cast t a = refl

-- the formula of a tree, one level at a time
pub ruleset levels =
    (formula_of-Num, formula_of-Cell, formula_of-Par, formula_of-Un, formula_of-Bin, formula_of-Select, formula_of-Cast, the_lemmas)
