-- The arrays that a program defines.
use Rattle.std.specs.Prelude.{◌≡◌, ℕ, suc, ◌+◌, List, [], ◌∷◌, ◌++◌, map, length, replicate, All, Option, Some, None, ℤ}
use Rattle.soda_words.specs.IntType.{IntType}
use Rattle.int_types.specs.Ranges.{InRange}
use Rattle.soda_ir.specs.declared.program.Border.TheVariants.{Ignore, Preserve}
use Rattle.soda_ir.specs.declared.program.Role.TheVariants.{Input, Local, Output}
use Rattle.soda_ir.specs.Points.{size, listed}
use Rattle.soda_ir.specs.Program.{PlainParam, PlainProgram, PlainTensor, extents_at, outputs_of, preserves}
use Rattle.soda_eval.specs.Arrays.{Stencil, Given, whole, after}
use Rattle.soda_eval.specs.Points.{point}
use Rattle.soda_eval.specs.Values.{Scope}

-- the place where each param's values begin, among the values of all params
abbrev pub starts_from : ℕ → List PlainParam → List ℕ
starts_from k [] = []
starts_from k (p ∷ ps) = k ∷ starts_from (k + size p.sizes) ps

-- what a formula of the program can name
abbrev pub scope_of : PlainProgram → Scope
scope_of p =
    record { tensors = map (λ t. t.ty) p.tensors; params = map (λ q. q.ty) p.params; starts = starts_from 0 p.params }

-- how many cells an array of so many rows has
abbrev pub cells_at : PlainProgram → ℕ → ℕ
cells_at p rows = size (extents_at p rows)

-- the input of its number for each output, and None for every other tensor
abbrev pub borders_from : ℕ → List PlainTensor → List (Option ℕ)
borders_from j [] = []
borders_from j (t ∷ ts) =
    elim t.role [
      | Input ↦ None ∷ borders_from j ts
      | Local ↦ None ∷ borders_from j ts
      | Output ↦ Some j ∷ borders_from (suc j) ts
    ]

-- what stands outside a tensor's region: 0, or under preserve the cell of an output's input
abbrev pub borders_of : PlainProgram → List (Option ℕ)
borders_of p = elim p.border [ Ignore ↦ [] | Preserve ↦ borders_from 0 p.tensors ]

-- the program at so many rows
abbrev pub stencil_of : PlainProgram → ℕ → Stencil
stencil_of p rows = record {
  extents = extents_at p rows;
  scope = scope_of p;
  formulas = map (λ t. t.formula) p.tensors;
  outside = borders_of p;
}

-- what stands after t iterations over these input arrays
abbrev pub run_of : PlainProgram → ℕ → List ℤ → List (List ℤ) → ℕ → Given
run_of p rows params inputs t =
    after (preserves p) (outputs_of p) (stencil_of p rows) params t (whole (extents_at p rows) inputs)

-- the output arrays of the last iteration, in order, each listed with the first dimension fastest
abbrev pub defined_arrays : PlainProgram → ℕ → List ℤ → List (List ℤ) → List (List ℤ)
defined_arrays p rows params inputs =
    listed (λ j. listed (λ i. (run_of p rows params inputs p.iterate).cell j (point (extents_at p rows) i))
    (cells_at p rows)) (length (outputs_of p))

-- an array of n cells of the type
pub record IsArray (ty : IntType) (n : ℕ) (cells : List ℤ) : Type 0 where
  pub whole : length cells ≡ n
  pub in_range : All (λ v. InRange ty v) cells

-- one array of n cells for each of these types, in order
abbrev pub HasArrays : ℕ → List IntType → List (List ℤ) → Type 0
HasArrays n [] [] = Unit {0}
HasArrays n [] (a ∷ rest) = ⊥
HasArrays n (t ∷ ts) [] = ⊥
HasArrays n (t ∷ ts) (a ∷ rest) = IsArray t n a × HasArrays n ts rest

-- one value of each of these types, in order
abbrev pub HasValues : List IntType → List ℤ → Type 0
HasValues [] [] = Unit {0}
HasValues [] (v ∷ vs) = ⊥
HasValues (t ∷ ts) [] = ⊥
HasValues (t ∷ ts) (v ∷ vs) = InRange t v × HasValues ts vs

-- the types of all places of the params
abbrev pub place_types : List PlainParam → List IntType
place_types [] = []
place_types (p ∷ ps) = replicate (size p.sizes) p.ty ++ place_types ps
