-- The limits that sharing can pass, and the numbers that pass them.
use Rattle.std.specs.Prelude.{ℕ, List, [], ◌∷◌, ◌++◌, map, length, Option, Some, None, option_map, nat_lt, unsigned_abs, if◌then◌else◌}
use Rattle.soda_words.specs.Limits.{most_live, most_offset, most_reads, most_tensors}
use Rattle.soda_words.specs.Tokens.{or_else}
use Rattle.soda_ir.specs.declared.limit.LimitKind.{LimitKind}
use Rattle.soda_ir.specs.declared.limit.LimitKind.TheVariants.{Offset, Tensors, Live, Reads}
use Rattle.soda_ir.specs.Counts.{live_count, read_count}
use Rattle.soda_ir.specs.Formula.{Formula, number, read, param, unary, binary, choice, cast, by_formula}
use Rattle.soda_ir.specs.Program.{PlainProgram, PlainTensor}

-- a limit, and a number that passes it
pub record Passed : Type 0 where
  pub kind : LimitKind
  pub number : ℕ

-- the magnitudes of the components of a formula's offsets, from the left
abbrev pub magnitudes : Formula → List ℕ
magnitudes (number n) = []
magnitudes (read t o) = map unsigned_abs o
magnitudes (param p k) = []
magnitudes (unary op a) = magnitudes a
magnitudes (binary op a b) = magnitudes a ++ magnitudes b
magnitudes (choice c a b) = magnitudes c ++ (magnitudes a ++ magnitudes b)
magnitudes (cast t a) = magnitudes a

-- those of all formulas, in text order
abbrev pub all_magnitudes : List PlainTensor → List ℕ
all_magnitudes [] = []
all_magnitudes (t ∷ ts) = by_formula t.formula [] magnitudes ++ all_magnitudes ts

-- the first of these numbers that passes the most
abbrev pub first_past : (most : ℕ) → List ℕ → Option ℕ
first_past most [] = None
first_past most (n ∷ ns) = if nat_lt most n then Some n else first_past most ns

-- the number, where it passes the most
abbrev pub past : (most n : ℕ) → Option ℕ
past most n = if nat_lt most n then Some n else None

-- a limit that is passed, by this number
abbrev pub passed_by : LimitKind → Option ℕ → Option Passed
passed_by kind n = option_map (λ k. record { kind = kind; number = k }) n

-- the first of the limits on offsets, tensors, live tensors and reads that the program passes
unfoldable pub limit_passed : PlainProgram → Option Passed
limit_passed p =
    or_else (passed_by Offset (first_past most_offset (all_magnitudes p.tensors)))
    (or_else (passed_by Tensors (past most_tensors (length p.tensors)))
    (or_else (passed_by Live (past most_live (live_count p))) (passed_by Reads (past most_reads (read_count p)))))
