-- A small program, on which the definitions and the calls are tried.
use Rattle.std.specs.Prelude.{ℕ, false, List, [], ◌∷◌, Some, None, ℤ, pos, negsuc, codes}
use Rattle.soda_words.specs.IntType.{IntType}
use Rattle.soda_words.specs.declared.operators.BinOp.TheVariants.{Add}
use Rattle.soda_ir.specs.Formula.{Formula, read, binary}
use Rattle.soda_ir.specs.Program.{PlainProgram, PlainTensor}
use Rattle.soda_ir.specs.declared.program.Border.TheVariants.{Ignore}
use Rattle.soda_ir.specs.declared.program.Role.TheVariants.{Input, Output}

-- the type of bytes without a sign
abbrev pub uint8 : IntType
uint8 = record { signed = false; bits = 8 }

-- an input of bytes
abbrev pub input_of : List ℕ → PlainTensor
input_of name = record { name = name; ty = uint8; role = Input; formula = None }

-- an output of bytes
abbrev pub output_of : List ℕ → Formula → PlainTensor
output_of name f = record { name = name; ty = uint8; role = Output; formula = Some f }

-- the first input's cell at a distance, in one dimension
abbrev pub at : ℤ → Formula
at d = read 0 (d ∷ [])

-- the sum of a cell and its two neighbours
abbrev pub three : Formula
three = binary Add (binary Add (at (negsuc 0)) (at (pos 0))) (at (pos 1))

-- one output, which is that sum over one input
abbrev pub sum3 : PlainProgram
sum3 = record {
  kernel = codes "sum3";
  burst = 8;
  unroll = 1;
  iterate = 1;
  border = Ignore;
  params = [];
  extents = [];
  tensors = input_of (codes "a") ∷ output_of (codes "o") three ∷ [];
}
