-- The compounds of a formula and of a program, in order.
use Rattle.std.specs.Prelude.{ℕ, suc, Bool, ◌==◌, List, [], ◌∷◌, ◌++◌, length, map, if◌then◌else◌}
use Rattle.std.specs.List.{list_all}
use Rattle.soda_ir.specs.Formula.{Formula, number, read, param, unary, binary, choice, cast, by_formula, every}
use Rattle.soda_ir.specs.Program.{PlainProgram, PlainTensor}
use Rattle.soda_ir.specs.Uses.{formula_is}
use Rattle.share_shape.specs.Shifts.{has_cell}

-- a formula with a cell before these
abbrev pub counted_before : Formula → List Formula → List Formula
counted_before f fs = if has_cell f then f ∷ fs else fs

-- the operators, calls and casts with a cell in them: from the outside in, and from left to right
abbrev pub compounds : Formula → List Formula
compounds (number n) = []
compounds (read t o) = []
compounds (param p k) = []
compounds (unary op a) = counted_before (unary op a) (compounds a)
compounds (binary op a b) = counted_before (binary op a b) (compounds a ++ compounds b)
compounds (choice c a b) = counted_before (choice c a b) (compounds c ++ (compounds a ++ compounds b))
compounds (cast t a) = counted_before (cast t a) (compounds a)

-- the compounds of a tensor's formula, if it has one
abbrev pub compounds_of : PlainTensor → List Formula
compounds_of t = by_formula t.formula [] compounds

-- a compound, and the number of the tensor in whose formula it stands
pub record Site : Type 0 where
  pub tensor : ℕ
  pub compound : Formula

abbrev pub site : ℕ → Formula → Site
site k f = record { tensor = k; compound = f }

-- the compounds of these tensors, the first of which has the number k, in text order
abbrev pub sites_from : (k : ℕ) → List PlainTensor → List Site
sites_from k [] = []
sites_from k (t ∷ ts) = map (site k) (compounds_of t) ++ sites_from (suc k) ts

-- all compounds of a program
abbrev pub sites : PlainProgram → List Site
sites p = sites_from 0 p.tensors

-- all offsets of these tensors' formulas have so many components
abbrev pub have_dims : ℕ → List PlainTensor → Bool
have_dims d ts = list_all (formula_is (every (λ t o. length o == d))) ts
