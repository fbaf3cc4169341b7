-- The inputs whose cells stand outside the regions of outputs: their numbers and types.
use Rattle.std.proofs.Common.{◌≡◌, ℕ, zero, suc, ◌+◌, ◌<◌, Bool, true, false, List, [], ◌∷◌, Option, Some, None, slice_index_or, length, refl, ◌∙◌, arith}
use Rattle.soda_words.specs.IntType.{IntType, int32}
use Rattle.soda_ir.specs.declared.program.Border.{Border}
use Rattle.soda_ir.specs.declared.program.Border.TheVariants.{Ignore, Preserve}
use Rattle.soda_ir.specs.declared.program.Role.{Role}
use Rattle.soda_ir.specs.declared.program.Role.TheVariants.{Input, Local, Output}
use Rattle.soda_ir.specs.Program.{PlainTensor}
use Rattle.soda_ir.specs.Valid.{output_types}
use Rattle.soda_ir.proofs.CallerLemmas.{type_in, with_output}
use Rattle.soda_eval.specs.Runs.{borders_from}

-- j is the number of an output of type t, where the first output has the number m
pub record IsBorder (m : ℕ) (types : List IntType) (j : ℕ) (t : IntType) : Type 0 where
  pub number : ℕ
  pub is : j ≡ m + number
  pub there : number < length types
  pub type : slice_index_or types number int32 ≡ t

abbrev with_border : Role → ℕ → List PlainTensor → List (Option ℕ)
with_border r m ts =
    elim r [ Input ↦ None ∷ borders_from m ts | Local ↦ None ∷ borders_from m ts | Output ↦ Some m ∷ borders_from (suc m) ts ]

some_same : (a b : ℕ) → Some a ≡ Some b → b ≡ a
some_same a b e = cc

border_first : (r : Role) (m j : ℕ) (t : IntType) (ts : List PlainTensor) → slice_index_or (with_border r m ts) 0 None ≡ Some j → IsBorder m (with_output r t (output_types ts)) j t
border_first Input m j t ts e = cc
border_first Local m j t ts e = cc
border_first Output m j t ts e =
    record { number = 0; is = some_same m j e ∙ omega arith; there = omega arith; type = refl }

border_next : (r : Role) (m j x : ℕ) (t u : IntType) (ts : List PlainTensor) → slice_index_or (with_border r m ts) (suc x) None ≡ Some j
    → ((i : ℕ) → slice_index_or (borders_from i ts) x None ≡ Some j → IsBorder i (output_types ts) j u) → IsBorder m (with_output r t (output_types ts)) j u
border_next Input m j x t u ts e rest = rest m e
border_next Local m j x t u ts e rest = rest m e
border_next Output m j x t u ts e rest =
    let b = rest (suc m) e in
    record { number = suc b.number; is = omega (arith, b.is); there = omega (arith, b.there); type = b.type }

pub border_at : (m : ℕ) (ts : List PlainTensor) (x j : ℕ) → slice_index_or (borders_from m ts) x None ≡ Some j → IsBorder m (output_types ts) j (type_in ts x)
border_at m [] x j e = cc
border_at m (t ∷ ts) zero j e = border_first t.role m j t.ty ts e
border_at m (t ∷ ts) (suc x) j e =
    border_next t.role m j x t.ty (type_in ts x) ts e (λ i f. border_at i ts x j f)

-- there are borders under preserve alone
pub border_preserves : (b : Border) (ts : List PlainTensor) (x j : ℕ) → slice_index_or (elim b [ Ignore ↦ [] | Preserve ↦ borders_from 0 ts ]) x None ≡ Some j
    → (elim b [ Ignore ↦ false | Preserve ↦ true ] ≡ true) × (slice_index_or (borders_from 0 ts) x None ≡ Some j)
border_preserves Ignore ts x j e = cc
border_preserves Preserve ts x j e = (refl, e)
