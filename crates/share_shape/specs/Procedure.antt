-- Sharing: shift-equal compounds are read from a local, until no two compounds are shift-equal.
use Rattle.std.specs.Prelude.{ℕ, zero, suc, Bool, List, [], ◌∷◌, ◌++◌, map, length, Option, Some, None, option_map, nat_lt, codes, if◌then◌else◌}
use Rattle.std.specs.Fmt.{decimal}
use Rattle.std.specs.List.{insert, list_any}
use Rattle.soda_words.specs.Names.{is_word}
use Rattle.soda_ir.specs.declared.program.Role.TheVariants.{Local}
use Rattle.soda_ir.specs.Formula.{Formula, number, read, param, unary, binary, choice, cast}
use Rattle.soda_ir.specs.Program.{PlainProgram, PlainTensor}
use Rattle.soda_ir.specs.Valid.{names_of}
use Rattle.soda_eval.specs.Runs.{scope_of}
use Rattle.soda_eval.specs.Values.{typed}
use Rattle.share_shape.specs.Compounds.{Site, sites}
use Rattle.share_shape.specs.Shifts.{are_shift_equal, based, first_offset}

-- the first compound that is shift-equal to another: to one that comes behind it
abbrev pub first_shared : List Site → Option Site
first_shared [] = None
first_shared (s ∷ ss) =
    if list_any (λ r. are_shift_equal s.compound r.compound) ss then Some s else first_shared ss

-- the number of a tensor once another stands at number k
abbrev pub further : (k t : ℕ) → ℕ
further k t = if nat_lt t k then t else suc t

-- the formula once another tensor stands at number k
abbrev pub renumbered : (k : ℕ) → Formula → Formula
renumbered k (number n) = number n
renumbered k (read t o) = read (further k t) o
renumbered k (param p i) = param p i
renumbered k (unary op a) = unary op (renumbered k a)
renumbered k (binary op a b) = binary op (renumbered k a) (renumbered k b)
renumbered k (choice c a b) = choice (renumbered k c) (renumbered k a) (renumbered k b)
renumbered k (cast t a) = cast t (renumbered k a)

-- the cell of tensor k that stands for the formula f where f is shift-equal to c, and else this
abbrev pub cell_for : (k : ℕ) (c f : Formula) → Formula → Formula
cell_for k c f other = if are_shift_equal c f then read k (first_offset f) else other

-- the formula, over the tensors with another at number k, where every compound that is shift-equal to c is the cell of
-- tensor k at the offset of the compound's first cell
abbrev pub replaced : (k : ℕ) (c : Formula) → Formula → Formula
replaced k c (number n) = number n
replaced k c (read t o) = read (further k t) o
replaced k c (param p i) = param p i
replaced k c (unary op a) = cell_for k c (unary op a) (unary op (replaced k c a))
replaced k c (binary op a b) = cell_for k c (binary op a b) (binary op (replaced k c a) (replaced k c b))
replaced k c (choice d a b) =
    cell_for k c (choice d a b) (choice (replaced k c d) (replaced k c a) (replaced k c b))
replaced k c (cast t a) = cell_for k c (cast t a) (cast t (replaced k c a))

-- a tensor, with the compounds of its formula replaced
abbrev pub replaced_in : (k : ℕ) (c : Formula) → PlainTensor → PlainTensor
replaced_in k c t =
    record { name = t.name; ty = t.ty; role = t.role; formula = option_map (replaced k c) t.formula }

-- `share_` and a number
abbrev pub share_name : ℕ → List ℕ
share_name n = codes "share_" ++ decimal n

-- the name with this number is one of these
abbrev pub is_used : List (List ℕ) → ℕ → Bool
is_used names n = list_any (is_word (share_name n)) names

-- the first number from k on that isn't used, of at most n numbers that may be
abbrev pub first_unused : (used : ℕ → Bool) → (k n : ℕ) → ℕ
first_unused used k zero = k
first_unused used k (suc n) = if used k then first_unused used (suc k) n else k

-- the least number from 0 on that gives a name that no param or tensor has: as many can be used as there are names
abbrev pub share_number : PlainProgram → ℕ
share_number p =
    first_unused (is_used (names_of p.params p.tensors)) 0 (length (names_of p.params p.tensors))

-- the local of a compound
abbrev pub local_for : PlainProgram → Site → PlainTensor
local_for p s = record {
  name = share_name (share_number p);
  ty = typed (scope_of p) s.compound;
  role = Local;
  formula = Some (renumbered s.tensor (based s.compound));
}

-- the program with the local just before the statement that holds the compound, and all that are shift-equal to it
-- read from the local
unfoldable pub shared_at : PlainProgram → Site → PlainProgram
shared_at p s = record {
  kernel = p.kernel;
  burst = p.burst;
  unroll = p.unroll;
  iterate = p.iterate;
  border = p.border;
  params = p.params;
  extents = p.extents;
  tensors = insert (map (replaced_in s.tensor s.compound) p.tensors) s.tensor (local_for p s);
}

-- one step, where two compounds are shift-equal
unfoldable pub next_shared : PlainProgram → Option PlainProgram
next_shared p = option_map (shared_at p) (first_shared (sites p))

-- so many steps, or as many as there are
unfoldable pub shared_in : (steps : ℕ) → PlainProgram → PlainProgram
shared_in zero p = p
shared_in (suc n) p = elim (next_shared p) [ None ↦ p | Some q ↦ shared_in n q ]

-- the result: each step leaves fewer compounds, so there are no more steps than compounds
unfoldable pub shared : PlainProgram → PlainProgram
shared p = shared_in (length (sites p)) p
