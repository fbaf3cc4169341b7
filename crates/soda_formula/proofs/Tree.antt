-- One level of a tree.
use Rattle.std.proofs.Common.{◌≡◌, ℕ, List, ℤ, refl}
use Rattle.soda_words.specs.declared.operators.UnOp.{UnOp}
use Rattle.soda_words.specs.declared.operators.BinOp.{BinOp}
use Rattle.soda_words.specs.declared.token.Word.{Word as Name}
use Rattle.soda_formula.specs.declared.written.Written.{Written, Number, Cell, Value, Unary, Binary, Choice, Cast, the_lemmas}
use Rattle.soda_formula.specs.declared.written.Written.TheBlock.{hidden-the_row-Written-0}
use Rattle.soda_formula.specs.Terms.{literal, cell, value, unary, binary, choice, cast}
use Rattle.soda_formula.specs.Tree.{term_of, part_of}
use denote.Hole.Carrier.{hidden}

pub term_of-Number : (n : ℕ) → term_of (Number n) ≡ literal n
unfolding term_of
term_of-Number n = refl

pub term_of-Cell : (t : Name) (o : List ℤ) → term_of (Cell t o) ≡ cell t o
unfolding term_of
term_of-Cell t o = refl

pub term_of-Value : (p : Name) (i : List ℕ) → term_of (Value p i) ≡ value p i
unfolding term_of
term_of-Value p i = refl

pub term_of-Unary : (op : UnOp) (a : Written) → term_of (Unary op a) ≡ unary op (term_of a)
unfolding term_of part_of hidden-the_row-Written-0 hidden
term_of-Unary op a = refl

pub term_of-Binary : (op : BinOp) (a b : Written) → term_of (Binary op a b) ≡ binary op (term_of a) (term_of b)
unfolding term_of part_of hidden-the_row-Written-0 hidden
term_of-Binary op a b = refl

pub term_of-Choice : (c a b : Written) → term_of (Choice c a b) ≡ choice (term_of c) (term_of a) (term_of b)
unfolding term_of part_of hidden-the_row-Written-0 hidden
term_of-Choice c a b = refl

pub term_of-Cast : (t : Name) (a : Written) → term_of (Cast t a) ≡ cast t (term_of a)
unfolding term_of part_of hidden-the_row-Written-0 hidden
term_of-Cast t a = refl

pub ruleset levels =
    (term_of-Number, term_of-Cell, term_of-Value, term_of-Unary, term_of-Binary, term_of-Choice, term_of-Cast, the_lemmas)
