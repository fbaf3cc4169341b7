-- The definitions at small programs, by computation.
use Rattle.std.proofs.Common.{◌≡◌, ℕ, true, false, List, [], ◌∷◌, Some, None, ℤ, pos, negsuc, codes, replicate, refl}
use Rattle.soda_words.specs.IntType.{IntType, int32}
use Rattle.int_types.specs.Ranges.{wrapped}
use Rattle.int_types.specs.Operators.{binary_value}
use Rattle.soda_words.specs.declared.operators.BinOp.TheVariants.{Add, Mul, Div}
use Rattle.soda_ir.specs.declared.program.Border.{Border}
use Rattle.soda_ir.specs.declared.program.Border.TheVariants.{Ignore, Preserve}
use Rattle.soda_ir.specs.declared.program.Role.TheVariants.{Input, Local, Output}
use Rattle.soda_eval.specs.Arrays.{cell, in_region, whole}
use Rattle.soda_eval.specs.Examples.{at, input_of, output_of, sum3, three, uint8}
use Rattle.soda_ir.specs.Formula.{Formula, number, read, param, binary, cast}
use Rattle.soda_ir.specs.Points.{listed}
use Rattle.soda_eval.specs.Points.{point}
use Rattle.soda_ir.specs.Program.{PlainProgram, PlainTensor, PlainParam}
use Rattle.soda_eval.specs.Runs.{defined_arrays, stencil_of}

abbrev naturals : List ℕ → List ℤ
naturals [] = []
naturals (n ∷ ns) = pos n ∷ naturals ns

abbrev five : List (List ℤ)
five = naturals (1 ∷ 2 ∷ 4 ∷ 8 ∷ 16 ∷ []) ∷ []

sum3_region : listed (λ i. in_region (stencil_of sum3 5) (whole (5 ∷ []) five) 2 1 (point (5 ∷ []) i)) 5 ≡ false ∷ true ∷ true ∷ true ∷ false ∷ []
unfolding in_region
sum3_region = refl

sum3_cells : defined_arrays sum3 5 [] five ≡ naturals (0 ∷ 7 ∷ 14 ∷ 28 ∷ 0 ∷ []) ∷ []
unfolding cell in_region binary_value wrapped
sum3_cells = refl

-- no rows, no cells
sum3_nothing : defined_arrays sum3 0 [] ([] ∷ []) ≡ [] ∷ []
sum3_nothing = refl

-- a program of these tensors
abbrev pub of_tensors : ℕ → Border → List ℕ → List PlainParam → List PlainTensor → PlainProgram
of_tensors iterate border extents params tensors = record {
  kernel = codes "k";
  burst = 8;
  unroll = 1;
  iterate = iterate;
  border = border;
  params = params;
  extents = extents;
  tensors = tensors;
}

-- one output over one input of bytes
abbrev pub over_bytes : ℕ → Border → List ℕ → Formula → PlainProgram
over_bytes iterate border extents f =
    of_tensors iterate border extents [] (input_of (codes "a") ∷ output_of (codes "o") f ∷ [])

abbrev pub average : Formula
average = binary Div three (number 3)

average_cells : defined_arrays (over_bytes 1 Ignore [] average) 5 [] five ≡ naturals (0 ∷ 2 ∷ 4 ∷ 9 ∷ 0 ∷ []) ∷ []
unfolding cell in_region binary_value wrapped
average_cells = refl

-- a sum is not wrapped to the cell's type before it is divided, unless a cast says so
average_is_wide : defined_arrays (over_bytes 1 Ignore [] average) 3 [] (replicate 3 (pos 255) ∷ []) ≡ naturals (0 ∷ 255 ∷ 0 ∷ []) ∷ []
unfolding cell in_region binary_value wrapped
average_is_wide = refl

cast_is_narrow : defined_arrays (over_bytes 1 Ignore [] (binary Div (cast uint8 three) (number 3))) 3 [] (replicate 3 (pos 255) ∷ []) ≡ naturals (0 ∷ 84 ∷ 0 ∷ []) ∷ []
unfolding cell in_region binary_value wrapped
cast_is_narrow = refl

-- a cell far behind
far_cells : defined_arrays (over_bytes 1 Ignore [] (at (negsuc 4))) 7 [] (naturals (1 ∷ 2 ∷ 3 ∷ 4 ∷ 5 ∷ 6 ∷ 7 ∷ []) ∷ []) ≡ naturals (0 ∷ 0 ∷ 0 ∷ 0 ∷ 0 ∷ 1 ∷ 2 ∷ []) ∷ []
unfolding cell in_region wrapped
far_cells = refl

-- twice: what lies outside the first time is outside the region of the second
twice_ignored : defined_arrays (over_bytes 2 Ignore [] average) 5 [] five ≡ naturals (0 ∷ 0 ∷ 5 ∷ 0 ∷ 0 ∷ []) ∷ []
unfolding cell in_region binary_value wrapped
twice_ignored = refl

-- twice, with the input's cells at the border each time
twice_preserved : defined_arrays (over_bytes 2 Preserve [] average) 5 [] five ≡ naturals (1 ∷ 2 ∷ 5 ∷ 9 ∷ 16 ∷ []) ∷ []
unfolding cell in_region binary_value wrapped
twice_preserved = refl

-- two dimensions: reads do not wrap into the next line
two_lines : defined_arrays (over_bytes 1 Ignore (3 ∷ []) (binary Add (read 0 (negsuc 0 ∷ pos 0 ∷ [])) (read 0 (pos 1 ∷ pos 0 ∷ [])))) 2 [] (naturals (1 ∷ 2 ∷ 3 ∷ 4 ∷ 5 ∷ 6 ∷ []) ∷ []) ≡ naturals (0 ∷ 4 ∷ 0 ∷ 0 ∷ 10 ∷ 0 ∷ []) ∷ []
unfolding cell in_region binary_value wrapped
two_lines = refl

-- a local between, whose region bounds the output's
abbrev pub products : PlainTensor
products = record { name = codes "t"; ty = int32; role = Local; formula = Some (binary Mul (at (pos 0)) (at (pos 1))) }

abbrev pub pairs : PlainTensor
pairs = output_of (codes "o") (binary Add (read 1 (pos 0 ∷ [])) (read 1 (pos 1 ∷ [])))

local_between : defined_arrays (of_tensors 1 Ignore [] [] (input_of (codes "a") ∷ products ∷ pairs ∷ [])) 5 [] five ≡ naturals (10 ∷ 40 ∷ 160 ∷ 0 ∷ 0 ∷ []) ∷ []
unfolding cell in_region binary_value wrapped
local_between = refl

abbrev int16 : IntType
int16 = record { signed = true; bits = 16 }

abbrev wide_input : PlainTensor
wide_input = record { name = codes "a"; ty = int16; role = Input; formula = None }

abbrev scaled : PlainTensor
scaled = record { name = codes "o"; ty = int16; role = Output; formula = Some (binary Mul (at (pos 0)) (param 0 1)) }

-- a param's value by its place
scaled_cells : defined_arrays (of_tensors 1 Ignore [] (record { name = codes "c"; ty = int16; sizes = 2 ∷ [] } ∷ []) (wide_input ∷ scaled ∷ [])) 2 (pos 3 ∷ negsuc 1 ∷ []) (naturals (5 ∷ 7 ∷ []) ∷ []) ≡ (negsuc 9 ∷ negsuc 13 ∷ []) ∷ []
unfolding cell in_region binary_value wrapped
scaled_cells = refl
