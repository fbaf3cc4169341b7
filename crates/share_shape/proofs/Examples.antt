-- The definitions at small programs, by computation.
use Rattle.std.proofs.Common.{◌≡◌, List, [], ◌∷◌, Some, None, ℤ, pos, codes, refl}
use Rattle.std.specs.Fmt.{digits}
use Rattle.soda_words.specs.IntType.{int32}
use Rattle.soda_words.specs.declared.operators.BinOp.TheVariants.{Add, Mul}
use Rattle.soda_ir.specs.declared.program.Border.TheVariants.{Ignore}
use Rattle.soda_ir.specs.declared.program.Role.TheVariants.{Local}
use Rattle.soda_ir.specs.Formula.{Formula, read, binary}
use Rattle.soda_ir.specs.Program.{PlainProgram, PlainTensor}
use Rattle.soda_eval.specs.Examples.{at, input_of, output_of}
use Rattle.share_shape.specs.Procedure.{shared, shared_in, next_shared, shared_at}

abbrev over : List PlainTensor → PlainProgram
over ts = record {
  kernel = codes "avg";
  burst = 8;
  unroll = 1;
  iterate = 1;
  border = Ignore;
  params = [];
  extents = [];
  tensors = input_of (codes "a") ∷ ts;
}

pair : ℤ → ℤ → Formula
pair d e = binary Add (at d) (at e)

-- `(a(0) + a(1)) * (a(5) + a(6))`
row : shared (over (output_of (codes "o") (binary Mul (pair (pos 0) (pos 1)) (pair (pos 5) (pos 6))) ∷ []))
    ≡ over (record { name = codes "share_0"; ty = int32; role = Local; formula = Some (pair (pos 0) (pos 1)) }
    ∷ output_of (codes "o") (binary Mul (read 1 (pos 0 ∷ [])) (read 1 (pos 5 ∷ []))) ∷ [])
unfolding pair shared shared_in next_shared shared_at digits
row = refl

-- with `a(5) + a(7)` nothing is shared
nothing : next_shared (over (output_of (codes "o") (binary Mul (pair (pos 0) (pos 1)) (pair (pos 5) (pos 7))) ∷ [])) ≡ None
unfolding pair shared shared_in next_shared shared_at
nothing = refl
