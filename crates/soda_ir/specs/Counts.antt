-- How many live tensors and reads a program has, over all its iterations.
use Rattle.std.specs.Prelude.{◌≡◌, ℕ, zero, suc, ◌+◌, ◌*◌, ◌≤◌, Bool, true, false, not, ◌&&◌, ◌||◌, ◌==◌, List, [], ◌∷◌, ◌++◌, length, Option, Some, None, slice_get, slice_index_or, map, if◌then◌else◌, pos}
use Rattle.std.specs.List.{list_all, list_any}
use Rattle.std.specs.Ordering.{int_eq}
use Rattle.soda_words.specs.Limits.{most_dims, most_iterate, most_tensors, most_tile}
use Rattle.soda_ir.specs.declared.program.Role.{Role}
use Rattle.soda_ir.specs.declared.program.Role.TheVariants.{Input, Local, Output}
use Rattle.soda_ir.specs.declared.reads.Read.{Read}
use Rattle.soda_ir.specs.Formula.{by_formula, every}
use Rattle.soda_ir.specs.Formula.{Formula, number, read, param, unary, binary, choice, cast}
use Rattle.soda_ir.specs.Points.{linear, size}
use Rattle.soda_ir.specs.Program.{PlainProgram, PlainTensor, extents_at, preserves}
use Rattle.soda_ir.specs.Uses.{formula_is, is_good_cell}

-- some number below n passes
abbrev pub some_below : (ℕ → Bool) → ℕ → Bool
some_below test zero = false
some_below test (suc n) = some_below test n || test n

-- how many numbers below n pass
abbrev pub count_below : (ℕ → Bool) → ℕ → ℕ
count_below test zero = 0
count_below test (suc n) = count_below test n + (if test n then 1 else 0)

-- the sum over the numbers below n
abbrev pub sum_below : (ℕ → ℕ) → ℕ → ℕ
sum_below f zero = 0
sum_below f (suc n) = sum_below f n + f n

abbrev pub is_input_role : Role → Bool
is_input_role Input = true
is_input_role Local = false
is_input_role Output = false

abbrev pub is_output_role : Role → Bool
is_output_role Input = false
is_output_role Local = false
is_output_role Output = true

-- a test of the tensor of a number, which fails where there is none
abbrev pub tensor_is : (PlainTensor → Bool) → PlainProgram → ℕ → Bool
tensor_is test p x = elim (slice_get p.tensors x) [ None ↦ false | Some t ↦ test t ]

abbrev pub is_input : PlainProgram → ℕ → Bool
is_input p x = tensor_is (λ t. is_input_role t.role) p x

abbrev pub is_output : PlainProgram → ℕ → Bool
is_output p x = tensor_is (λ t. is_output_role t.role) p x

-- the tensor is an input, or all that it reads is placed, in at most k rounds
abbrev pub has_place : PlainProgram → (k : ℕ) → ℕ → Bool
has_place p zero x = false
has_place p (suc k) x = tensor_is (λ t. by_formula t.formula true (every (λ y o. has_place p k y))) p x

-- the tensor can be placed. No chain of reads is longer than there are tensors
abbrev pub can_be_placed : PlainProgram → ℕ → Bool
can_be_placed p x = has_place p (length p.tensors) x

-- two reads are one
abbrev pub is_same_read : Read → Read → Bool
is_same_read a b = a.of == b.of && int_eq a.offset b.offset

-- the reads of a formula, from the left
abbrev pub formula_reads : List ℕ → Formula → List Read
formula_reads extents (number n) = []
formula_reads extents (read t o) = record { of = t; offset = linear extents o } ∷ []
formula_reads extents (param p k) = []
formula_reads extents (unary op a) = formula_reads extents a
formula_reads extents (binary op a b) = formula_reads extents a ++ formula_reads extents b
formula_reads extents (choice c a b) =
    formula_reads extents c ++ (formula_reads extents a ++ formula_reads extents b)
formula_reads extents (cast t a) = formula_reads extents a

-- the number of an output among the outputs: how many stand before it
abbrev pub output_number : PlainProgram → ℕ → ℕ
output_number p x = count_below (is_output p) x

-- under preserve an output also reads the input of its number, at its own place
abbrev pub border_reads : PlainProgram → ℕ → List Read
border_reads p x =
    if preserves p && is_output p x then record { of = output_number p x; offset = pos 0 } ∷ [] else []

-- the formula of a tensor, if it has one
abbrev pub formula_in : PlainProgram → ℕ → Option Formula
formula_in p x = slice_index_or (map (λ t. t.formula) p.tensors) x None

-- the reads of a tensor in an iteration, from the left; how many rows an array has is no matter
abbrev pub tensor_reads : PlainProgram → ℕ → List Read
tensor_reads p x = by_formula (formula_in p x) [] (formula_reads (extents_at p 1)) ++ border_reads p x

-- one of these tensors reads another, where each has such reads
abbrev pub reads_in : List (List Read) → (y x : ℕ) → Bool
reads_in graph y x = list_any (λ r. r.of == x) (slice_index_or graph y [])

-- the tensor y reads x, in one iteration
abbrev pub does_read : PlainProgram → (y x : ℕ) → Bool
does_read p y x = list_any (λ r. r.of == x) (tensor_reads p y)

-- a tensor of these n is wanted, or what is wanted reads it, over at most k reads
unfoldable pub is_reached : (reads : ℕ → ℕ → Bool) → (n : ℕ) → (wanted : ℕ → Bool) → (k : ℕ) → ℕ → Bool
is_reached reads n wanted zero x = wanted x
is_reached reads n wanted (suc k) x =
    is_reached reads n wanted k x || some_below (λ y. is_reached reads n wanted k y && reads y x) n

-- the tensor is wanted, or what is wanted reads it, over any number of reads, in one iteration
abbrev pub is_needed : PlainProgram → (wanted : ℕ → Bool) → ℕ → Bool
is_needed p wanted x = is_reached (does_read p) (length p.tensors) wanted (length p.tensors) x

-- an output of the iteration behind which so many come: any of the last one, and before it one whose cells
-- the next one needs as an input
unfoldable pub is_wanted : PlainProgram → (later : ℕ) → ℕ → Bool
is_wanted p zero x = is_output p x
is_wanted p (suc later) x = is_output p x && is_needed p (is_wanted p later) (output_number p x)

-- the tensor is live in the iteration behind which so many come: an output that is wanted, or what a live tensor reads
abbrev pub is_live : PlainProgram → (later : ℕ) → ℕ → Bool
is_live p later x = is_needed p (is_wanted p later) x

-- a local or output that is live in the iteration behind which so many come
abbrev pub is_live_statement : PlainProgram → (later : ℕ) → ℕ → Bool
is_live_statement p later x = not (is_input p x) && is_live p later x

-- how many reads there are, each counted once
abbrev pub distinct_count : List Read → ℕ
distinct_count [] = 0
distinct_count (r ∷ rs) = (if list_any (is_same_read r) rs then 0 else 1) + distinct_count rs

-- the live tensors: each input of the first iteration, and the live locals and outputs of all iterations
unfoldable pub live_count : PlainProgram → ℕ
live_count p =
    count_below (is_input p) (length p.tensors) + sum_below
    (λ later. count_below (is_live_statement p later) (length p.tensors)) p.iterate

-- the reads of all live locals and outputs: each pair of what is read and how far away, once for a reader
unfoldable pub read_count : PlainProgram → ℕ
read_count p =
    sum_below (λ later. sum_below (λ x. if is_live_statement p later x then distinct_count (tensor_reads p x) else 0)
    (length p.tensors)) p.iterate

-- how far away in an array a cell can stand whose offset has a 1 in each dimension, where the last extent is no matter
abbrev pub reach : List ℕ → ℕ
reach [] = 1
reach (n ∷ ns) = 1 + n * reach ns

-- a program whose live tensors and reads can be counted: its cells are there and near, and the other limits are kept
pub record IsCountable (p : PlainProgram) : Type 0 where
  pub cells : list_all (formula_is (every (is_good_cell p))) p.tensors ≡ true
  pub extents : list_all (λ n. not (n == 0)) p.extents ≡ true
  pub few_dims : suc (length p.extents) ≤ most_dims
  pub small_tile : size p.extents ≤ most_tile
  pub few_tensors : length p.tensors ≤ most_tensors
  pub few_iterations : p.iterate ≤ most_iterate
