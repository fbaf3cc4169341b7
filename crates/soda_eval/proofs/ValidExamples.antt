-- What a valid program is, at small programs, by computation.
use Rattle.std.proofs.Common.{◌≡◌, ℕ, zero, suc, ◌<◌, true, false, [], ◌∷◌, pos, negsuc, codes, refl, lit≤, arith}
use Rattle.soda_words.specs.declared.operators.UnOp.TheVariants.{Abs, Minus}
use Rattle.soda_words.specs.declared.operators.BinOp.TheVariants.{Add, Sub, Mul, Max}
use Rattle.soda_ir.specs.declared.program.Border.TheVariants.{Ignore, Preserve}
use Rattle.soda_ir.specs.Counts.{can_be_placed, is_reached, is_wanted, live_count, read_count}
use Rattle.soda_eval.specs.Examples.{at, input_of, output_of, sum3, three, uint8}
use Rattle.soda_ir.specs.Formula.{number, read, param, unary, binary, choice, cast}
use Rattle.soda_ir.specs.Program.{PlainProgram, PlainParam}
use Rattle.soda_ir.specs.Valid.{IsSound, IsValid, are_free_names, has_good_uses}
use Rattle.soda_ir.specs.Written.{most_open, token_count}
use Rattle.soda_eval.proofs.Examples.{average, of_tensors, over_bytes, pairs, products}

-- the tokens of `(a(-1) + a(0) + a(1)) / 3`, without the minus sign, and its brackets
average_written : (token_count sum3 average ≡ 18) × (most_open sum3 average ≡ 2)
average_written = (refl, refl)

-- `a(0) - (a(0) - a(1))` and `a(0) - a(0) - a(1)`: a right operand of the same level has brackets, a left one none
right_brackets : (token_count sum3 (binary Sub (at (pos 0)) (binary Sub (at (pos 0)) (at (pos 1)))) ≡ 16) × (token_count sum3 (binary Sub (binary Sub (at (pos 0)) (at (pos 0))) (at (pos 1))) ≡ 14)
right_brackets = (refl, refl)

-- `-(1 + 2)`, `--1` and `abs(1 + 2)`
prefix_brackets : (token_count sum3 (unary Minus (binary Add (number 1) (number 2))) ≡ 6) × (token_count sum3 (unary Minus (unary Minus (number 1))) ≡ 3) × (token_count sum3 (unary Abs (binary Add (number 1) (number 2))) ≡ 6)
prefix_brackets = (refl, refl, refl)

-- `max(1 + 2, 3) * 4`, `select(1, 2, 3)` and `uint8(1)`
calls : (token_count sum3 (binary Mul (binary Max (binary Add (number 1) (number 2)) (number 3)) (number 4)) ≡ 10) × (most_open sum3 (choice (number 1) (number 2) (number 3)) ≡ 1) × (token_count sum3 (cast uint8 (number 1)) ≡ 4)
calls = (refl, refl, refl)

table : PlainParam
table = record { name = codes "c"; ty = uint8; sizes = 2 ∷ 3 ∷ [] }

-- `c[0][1]`
with_table : PlainProgram
with_table = of_tensors 1 Ignore [] (table ∷ []) (input_of (codes "a") ∷ output_of (codes "o") (param 0 1) ∷ [])

table_written : (token_count with_table (param 0 1) ≡ 7) × (most_open with_table (param 0 1) ≡ 1)
unfolding with_table table
table_written = (refl, refl)

places : (has_good_uses with_table (output_of (codes "o") (param 0 5)) ≡ true) × (has_good_uses with_table (output_of (codes "o") (param 0 6)) ≡ false) × (has_good_uses with_table (output_of (codes "o") (param 1 0)) ≡ false)
unfolding with_table table
places = (refl, refl, refl)

-- offsets: near and far, and of another dimension
offsets : (has_good_uses sum3 (output_of (codes "o") (at (negsuc 32767))) ≡ true) × (has_good_uses sum3 (output_of (codes "o") (at (pos 32769))) ≡ false) × (has_good_uses sum3 (output_of (codes "o") (read 0 (pos 0 ∷ pos 0 ∷ []))) ≡ false)
offsets = (refl, refl, refl)

names : (are_free_names (codes "a" ∷ codes "o" ∷ []) ≡ true) × (are_free_names (codes "a" ∷ codes "a" ∷ []) ≡ false) × (are_free_names (codes "min" ∷ []) ≡ false)
names = (refl, refl, refl)

-- a local that reads the one behind it can be placed, and one that reads itself cannot
backwards : PlainProgram
backwards =
    of_tensors 1 Ignore [] [] (input_of (codes "a") ∷ output_of (codes "o") (read 2 (pos 0 ∷ [])) ∷ products ∷ [])

placed_backwards : (can_be_placed backwards 1 ≡ true) × (can_be_placed (over_bytes 1 Ignore [] (read 1 (pos 0 ∷ []))) 1 ≡ false)
unfolding backwards
placed_backwards = (refl, refl)

-- one iteration: the input, the output and its three reads
counts_once : (live_count sum3 ≡ 2) × (read_count sum3 ≡ 3)
unfolding live_count read_count is_wanted is_reached
counts_once = (refl, refl)

-- five of them, and under preserve, where the added read is one of the three
counts_more : (live_count (over_bytes 5 Ignore [] average) ≡ 6) × (read_count (over_bytes 5 Ignore [] average) ≡ 15) × (read_count (over_bytes 2 Preserve [] average) ≡ 6) × (read_count (over_bytes 2 Preserve [] (at (pos 4))) ≡ 4)
unfolding live_count read_count is_wanted is_reached
counts_more = (refl, refl, refl, refl)

-- a formula without cells needs nothing of the iteration before
counts_alone : (live_count (over_bytes 4 Ignore [] (number 7)) ≡ 2) × (read_count (over_bytes 4 Ignore [] (number 7)) ≡ 0)
unfolding live_count read_count is_wanted is_reached
counts_alone = (refl, refl)

-- a local that nothing reads is not live
unread : PlainProgram
unread = of_tensors 1 Ignore [] [] (input_of (codes "a") ∷ products ∷ output_of (codes "o") three ∷ [])

counts_unread : (live_count unread ≡ 2) × (read_count unread ≡ 3) × (live_count (of_tensors 1 Ignore [] [] (input_of (codes "a") ∷ products ∷ pairs ∷ [])) ≡ 3)
unfolding unread live_count read_count is_wanted is_reached
counts_unread = (refl, refl, refl)

-- reads at one distance are one, whatever their offsets: in lines of two cells, (2, 0) and (0, 1)
same_distance : read_count (over_bytes 1 Ignore (2 ∷ []) (binary Add (read 0 (pos 2 ∷ pos 0 ∷ [])) (read 0 (pos 0 ∷ pos 1 ∷ [])))) ≡ 1
unfolding read_count is_wanted is_reached
same_distance = refl

sum3_placed : (x : ℕ) → x < 2 → can_be_placed sum3 x ≡ true
sum3_placed zero h = refl
sum3_placed (suc zero) h = refl
sum3_placed (suc (suc x)) h = absurd (omega arith)

sum3_sound : IsSound sum3
sum3_sound = record {
  limits = record {
    some_lanes = lit≤ tt;
    few_lanes = lit≤ tt;
    some_iterations = lit≤ tt;
    few_iterations = lit≤ tt;
    few_dims = lit≤ tt;
    extents = refl;
    small_tile = lit≤ tt;
    few_tensors = lit≤ tt;
    few_values = lit≤ tt;
    least_burst = lit≤ tt;
    most_burst = lit≤ tt;
  };
  parts = record { kernel = refl; params = refl; names = refl; formulas = refl; uses = refl; small = refl };
  ends = record { inputs_first = refl; some_input = refl; some_output = refl; bursts = refl };
  fits = record { iterated = λ h. refl; preserved = λ h. refl };
  placed = sum3_placed;
}

sum3_valid : IsValid sum3
unfolding live_count read_count is_wanted is_reached
sum3_valid = record { sound = sum3_sound; few_live = lit≤ tt; few_reads = lit≤ tt }
