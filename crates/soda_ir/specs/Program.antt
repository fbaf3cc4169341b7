-- A program as plain data.
use Rattle.std.specs.Prelude.{ℕ, suc, Bool, true, false, List, [], ◌∷◌, ◌++◌, map, Option, option_map}
use Rattle.soda_words.specs.IntType.{IntType}
use Rattle.soda_ir.specs.declared.program.Border.{Border}
use Rattle.soda_ir.specs.declared.program.Border.TheVariants.{Ignore, Preserve}
use Rattle.soda_ir.specs.declared.program.Param.{Param}
use Rattle.soda_ir.specs.declared.program.Parts.{Parts}
use Rattle.soda_ir.specs.declared.program.Role.{Role}
use Rattle.soda_ir.specs.declared.program.Role.TheVariants.{Input, Local, Output}
use Rattle.soda_ir.specs.declared.program.Tensor.{Tensor}
use Rattle.soda_ir.specs.Formula.{Formula}
use Rattle.soda_ir.specs.Tree.{formula_of}

-- a param
pub record PlainParam : Type 0 where
  pub name : List ℕ
  pub ty : IntType
  pub sizes : List ℕ

-- a tensor, with its formula where it is no input
pub record PlainTensor : Type 0 where
  pub name : List ℕ
  pub ty : IntType
  pub role : Role
  pub formula : Option Formula

-- a program: `extents` are the fixed ones, all but the last
pub record PlainProgram : Type 0 where
  pub kernel : List ℕ
  pub burst : ℕ
  pub unroll : ℕ
  pub iterate : ℕ
  pub border : Border
  pub params : List PlainParam
  pub extents : List ℕ
  pub tensors : List PlainTensor

abbrev pub plain_param : Param → PlainParam
plain_param p = record { name = p.name; ty = p.ty; sizes = p.sizes }

abbrev pub plain_tensor : Tensor → PlainTensor
plain_tensor t = record { name = t.name; ty = t.ty; role = t.role; formula = option_map formula_of t.formula }

-- the program that these parts make up
abbrev pub plain : Parts → PlainProgram
plain p = record {
  kernel = p.kernel;
  burst = p.burst;
  unroll = p.unroll;
  iterate = p.iterate;
  border = p.border;
  params = map plain_param p.params;
  extents = p.extents;
  tensors = map plain_tensor p.tensors;
}

-- all extents of an array of so many rows
abbrev pub extents_at : PlainProgram → ℕ → List ℕ
extents_at p rows = p.extents ++ rows ∷ []

-- whether outputs keep the cells of their inputs outside their regions
abbrev pub preserves : PlainProgram → Bool
preserves p = elim p.border [ Ignore ↦ false | Preserve ↦ true ]

-- the types of the inputs
abbrev pub input_types : List PlainTensor → List IntType
input_types [] = []
input_types (t ∷ ts) = elim t.role [ Input ↦ t.ty ∷ input_types ts | Local ↦ input_types ts | Output ↦ input_types ts ]

-- the numbers of the outputs, where the first of these tensors has the number k
abbrev pub outputs_from : ℕ → List PlainTensor → List ℕ
outputs_from k [] = []
outputs_from k (t ∷ ts) =
    elim t.role [
      | Input ↦ outputs_from (suc k) ts
      | Local ↦ outputs_from (suc k) ts
      | Output ↦ k ∷ outputs_from (suc k) ts
    ]

-- the numbers of the outputs of a program, in order
abbrev pub outputs_of : PlainProgram → List ℕ
outputs_of p = outputs_from 0 p.tensors
