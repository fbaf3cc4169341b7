-- What any program that the code holds keeps: its numbers fit their types, and its types are allowed ones.
use Rattle.std.specs.Prelude.{◌^◌, ◌<◌, List, [], ◌∷◌, Some, None}
use Rattle.soda_words.specs.IntType.{IsType}
use Rattle.soda_ir.specs.Formula.{Formula, number, read, param, unary, binary, choice, cast}
use Rattle.soda_ir.specs.Program.{PlainParam, PlainProgram, PlainTensor}

-- each literal is below 2 ^ 64, and each type of a cast is an allowed one
abbrev pub IsSized : Formula → Type 0
IsSized (number n) = n < 2 ^ 64
IsSized (read t o) = Unit {0}
IsSized (param k i) = Unit {0}
IsSized (unary op a) = IsSized a
IsSized (binary op a b) = IsSized a × IsSized b
IsSized (choice c a b) = IsSized c × IsSized a × IsSized b
IsSized (cast t a) = IsType t × IsSized a

-- the same of the formula of a tensor, if it has one, and of its type
abbrev pub IsSizedTensor : PlainTensor → Type 0
IsSizedTensor t = IsType t.ty × (elim t.formula [ None ↦ Unit {0} | Some f ↦ IsSized f ])

abbrev pub AreSizedTensors : List PlainTensor → Type 0
AreSizedTensors [] = Unit {0}
AreSizedTensors (t ∷ ts) = IsSizedTensor t × AreSizedTensors ts

-- the types of the params are allowed ones
abbrev pub AreSizedParams : List PlainParam → Type 0
AreSizedParams [] = Unit {0}
AreSizedParams (q ∷ qs) = IsType q.ty × AreSizedParams qs

-- a whole program
pub record IsSizedProgram (p : PlainProgram) : Type 0 where
  pub params : AreSizedParams p.params
  pub tensors : AreSizedTensors p.tensors
