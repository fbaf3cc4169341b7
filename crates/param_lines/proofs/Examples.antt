-- The definitions at small files, by computation.
use Rattle.std.proofs.Common.{◌≡◌, true, false, [], ◌∷◌, ◌++◌, Some, None, pos, negsuc, codes, refl, replicate}
use Rattle.soda_ir.specs.Program.{PlainParam}
use Rattle.array_bytes.specs.Runs.{runs}
use Rattle.array_bytes.specs.Values.{is_of}
use Rattle.param_lines.specs.Lines.{lines, rows_of}
use Rattle.param_lines.specs.Params.{is_fine_at, values_of}
use Rattle.param_lines.specs.Values.{is_decimal, decimal_value, is_value_of}

-- `param int16: c[2]`
abbrev pair : PlainParam
pair = record { name = codes "c"; ty = record { signed = true; bits = 16 }; sizes = 2 ∷ [] }

-- `param uint1: bit`
abbrev bit : PlainParam
bit = record { name = codes "bit"; ty = record { signed = false; bits = 1 }; sizes = [] }

-- the lines of a text
cut : (lines (codes "a\n\nb") ≡ codes "a" ∷ [] ∷ codes "b" ∷ []) × (lines (codes "a\n") ≡ codes "a" ∷ []) × (lines [] ≡ []) × (lines (codes "\n\n") ≡ [] ∷ [] ∷ [])
cut = (refl, refl, refl, refl)

-- the words of lines, with white space before the first and after the last
words : rows_of (codes " c\t3 \r\n\n-2") ≡ (codes "c" ∷ codes "3" ∷ []) ∷ [] ∷ (codes "-2" ∷ []) ∷ []
unfolding runs
words = refl

-- values: leading zeros, and numbers at the ends of the range and past them
values : (decimal_value (codes "-007") ≡ negsuc 6) × (decimal_value (codes "-0") ≡ pos 0) × (is_decimal (codes "-") ≡ false) × (is_decimal (codes "+1") ≡ false) × (is_decimal (codes "1-") ≡ false) × (is_value_of pair.ty (codes "-32768") ≡ true) × (is_value_of pair.ty (codes "32768") ≡ false) × (is_value_of bit.ty (replicate 70 48 ++ codes "1") ≡ true)
unfolding is_of
values = (refl, refl, refl, refl, refl, refl, refl, refl)

-- a file with each param, in another order than the params
given : (values_of (pair ∷ []) (rows_of (codes "c 3 -2")) ≡ Some (pos 3 ∷ negsuc 1 ∷ [])) × (values_of (pair ∷ bit ∷ []) (rows_of (codes "bit 1\n \nc 3 -2\n")) ≡ Some (pos 3 ∷ negsuc 1 ∷ pos 1 ∷ [])) × (values_of [] (rows_of (codes " \n")) ≡ Some [])
unfolding runs
given = (refl, refl, refl)

-- lines that are fine, and one with too few values, too many, a value out of range, no name of a param, a name again
refused : (is_fine_at (pair ∷ []) (rows_of (codes "c 3 -2")) 0 ≡ true) × (is_fine_at (pair ∷ []) (rows_of (codes "c 3")) 0 ≡ false) × (is_fine_at (pair ∷ []) (rows_of (codes "\nc 3 4 5")) 1 ≡ false) × (is_fine_at (pair ∷ []) (rows_of (codes "c 3 99999")) 0 ≡ false) × (is_fine_at (pair ∷ []) (rows_of (codes "d 3 4")) 0 ≡ false) × (is_fine_at (pair ∷ []) (rows_of (codes "c 1 2\nc 1 2")) 1 ≡ false)
unfolding runs is_of
refused = (refl, refl, refl, refl, refl, refl)

-- a param without a line
lacking : values_of (pair ∷ bit ∷ []) (rows_of (codes "c 1 2")) ≡ None
unfolding runs
lacking = refl
