use Rattle.std.proofs.Common.{◌≡◌, ℕ, zero, suc, List, [], ◌∷◌, map, Option, Some, None, slice_get, slice_index_or, refl, sym, ap, ◌∙◌}
use Rattle.soda_words.specs.IntType.{IntType, int32}
use Rattle.soda_ir.specs.declared.program.Tensor.{Tensor}
use Rattle.soda_ir.specs.Program.{PlainTensor, plain_tensor}
use Rattle.design_lines.proofs.text.type_of.Goals as goal

type_there : Option Tensor → IntType
type_there None = int32
type_there (Some t) = t.ty

type_at : (ts : List Tensor) (x : ℕ) → slice_index_or (map (λ (t : PlainTensor). t.ty) (map plain_tensor ts)) x int32 ≡ type_there (slice_get ts x)
unfolding type_there
type_at [] x = refl
type_at (t ∷ ts) zero = refl
type_at (t ∷ ts) (suc x) = type_at ts x

pub returns-in-Some : goal.returns-in-Some
unfolding type_there
returns-in-Some c = ap type_there c.in-Some.ensures.value ∙ sym (type_at c.args.parts.now.tensors c.args.tensor)

pub returns-in-None : goal.returns-in-None
unfolding type_there
returns-in-None c = c.int32.ensures ∙ ap type_there c.in-None.ensures.value ∙ sym (type_at c.args.parts.now.tensors c.args.tensor)
