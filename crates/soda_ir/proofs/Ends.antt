-- The inputs and outputs of a list of tensors: their numbers and types.
use Rattle.std.proofs.Common.{◌≡◌, ℕ, zero, suc, ◌+◌, ◌<◌, Bool, true, false, not, List, [], ◌∷◌, Option, Some, None, slice_get, slice_index_or, map, length, refl, sym, ◌∙◌, ap, arith, if◌then◌else◌}
use Rattle.std.specs.List.{list_all}
use Rattle.std.proofs.lemmas.Bool.{and_parts, false≢true}
use Rattle.soda_words.specs.IntType.{IntType, int32}
use Rattle.soda_ir.specs.declared.program.Role.{Role}
use Rattle.soda_ir.specs.declared.program.Role.TheVariants.{Input, Local, Output}
use Rattle.soda_ir.specs.Counts.{is_input_role}
use Rattle.soda_ir.specs.Formula.{Formula}
use Rattle.soda_ir.specs.Program.{PlainTensor, input_types, outputs_from}
use Rattle.soda_ir.specs.Valid.{has_formula_if_no_input, has_inputs_first, output_types}

-- the tensor of a number is an input
abbrev pub input_at : List PlainTensor → ℕ → Bool
input_at ts x = elim (slice_get ts x) [ None ↦ false | Some t ↦ is_input_role t.role ]

-- the type of the tensor of a number
abbrev pub type_in : List PlainTensor → ℕ → IntType
type_in ts x = slice_index_or (map (λ t. t.ty) ts) x int32

abbrev no_inputs : List PlainTensor → Bool
no_inputs ts = list_all (λ t. not (is_input_role t.role)) ts

-- a list with an input's type before it, or without
abbrev with_input : Role → IntType → List IntType → List IntType
with_input r t ts = elim r [ Input ↦ t ∷ ts | Local ↦ ts | Output ↦ ts ]

none_input : (ts : List PlainTensor) (x : ℕ) → no_inputs ts ≡ true → input_at ts x ≡ true → ⊥
none_input [] x e h = false≢true h
none_input (t ∷ ts) zero e h =
    false≢true (sym (ap not h) ∙ (and_parts (not (is_input_role t.role)) (no_inputs ts) e).0)
none_input (t ∷ ts) (suc x) e h =
    none_input ts x (and_parts (not (is_input_role t.role)) (no_inputs ts) e).1 h

none_by : (r : Role) (t : IntType) (ts : List IntType) → not (is_input_role r) ≡ true → with_input r t ts ≡ ts
none_by Input t ts e = absurd (false≢true e)
none_by Local t ts e = refl
none_by Output t ts e = refl

none_type : (ts : List PlainTensor) → no_inputs ts ≡ true → input_types ts ≡ []
none_type [] e = refl
none_type (t ∷ ts) e =
    let parts = and_parts (not (is_input_role t.role)) (no_inputs ts) e in
    none_by t.role t.ty (input_types ts) parts.0 ∙ none_type ts parts.1

-- an input has its number among the inputs too
pub record IsInput (types : List IntType) (j : ℕ) (t : IntType) : Type 0 where
  pub there : j < length types
  pub type : slice_index_or types j int32 ≡ t

input_first : (r : Role) (t : IntType) (ts : List IntType) → is_input_role r ≡ true → IsInput (with_input r t ts) 0 t
input_first Input t ts e = record { there = omega arith; type = refl }
input_first Local t ts e = absurd (false≢true e)
input_first Output t ts e = absurd (false≢true e)

input_next : (r : Role) (t : IntType) (ts : List PlainTensor) (j : ℕ) → (if is_input_role r then has_inputs_first ts else no_inputs ts) ≡ true → input_at ts j ≡ true
    → (has_inputs_first ts ≡ true → IsInput (input_types ts) j (type_in ts j)) → IsInput (with_input r t (input_types ts)) (suc j) (type_in ts j)
input_next Input t ts j e h rest = let k = rest e in record { there = omega (arith, k.there); type = k.type }
input_next Local t ts j e h rest = absurd (none_input ts j e h)
input_next Output t ts j e h rest = absurd (none_input ts j e h)

pub input_there : (ts : List PlainTensor) (j : ℕ) → has_inputs_first ts ≡ true → input_at ts j ≡ true → IsInput (input_types ts) j (type_in ts j)
input_there [] j e h = absurd (false≢true h)
input_there (t ∷ ts) zero e h = input_first t.role t.ty (input_types ts) h
input_there (t ∷ ts) (suc j) e h = input_next t.role t.ty ts j e h (λ f. input_there ts j f h)

known_first : (r : Role) (t : IntType) (ts : List PlainTensor) → (if is_input_role r then has_inputs_first ts else no_inputs ts) ≡ true → 0 < length (with_input r t (input_types ts)) → is_input_role r ≡ true
known_first Input t ts e h = refl
known_first Local t ts e h = absurd (omega (arith, ap length (none_type ts e)))
known_first Output t ts e h = absurd (omega (arith, ap length (none_type ts e)))

known_next : (r : Role) (t : IntType) (ts : List PlainTensor) (j : ℕ) → (if is_input_role r then has_inputs_first ts else no_inputs ts) ≡ true → suc j < length (with_input r t (input_types ts))
    → (has_inputs_first ts ≡ true → j < length (input_types ts) → input_at ts j ≡ true) → input_at ts j ≡ true
known_next Input t ts j e h rest = rest e (omega arith)
known_next Local t ts j e h rest = absurd (omega (arith, ap length (none_type ts e)))
known_next Output t ts j e h rest = absurd (omega (arith, ap length (none_type ts e)))

-- as many tensors as there are inputs are inputs
pub input_known : (ts : List PlainTensor) (j : ℕ) → has_inputs_first ts ≡ true → j < length (input_types ts) → input_at ts j ≡ true
input_known [] j e h = absurd (omega arith)
input_known (t ∷ ts) zero e h = known_first t.role t.ty ts e h
input_known (t ∷ ts) (suc j) e h = known_next t.role t.ty ts j e h (λ f l. input_known ts j f l)

-- a tensor with no formula is an input
pub bare_input : (ts : List PlainTensor) (x : ℕ) → list_all has_formula_if_no_input ts ≡ true → x < length ts → slice_index_or (map (λ t. t.formula) ts) x None ≡ None → input_at ts x ≡ true
bare_input [] x e l h = absurd (omega arith)
bare_input (t ∷ ts) zero e l h =
    sym (ap (λ (o : Option Formula). elim o [ None ↦ is_input_role t.role | Some f ↦ not (is_input_role t.role) ]) h) ∙ (and_parts (has_formula_if_no_input t) (list_all has_formula_if_no_input ts) e).0
bare_input (t ∷ ts) (suc x) e l h =
    bare_input ts x (and_parts (has_formula_if_no_input t) (list_all has_formula_if_no_input ts) e).1 (omega arith) h

-- an input has no formula
bare_by : (o : Option Formula) (r : Bool) → elim o [ None ↦ r | Some f ↦ not r ] ≡ true → r ≡ true → o ≡ None
bare_by None r e h = refl
bare_by (Some f) r e h = absurd (false≢true (sym (ap not h) ∙ e))

pub input_bare : (ts : List PlainTensor) (x : ℕ) → list_all has_formula_if_no_input ts ≡ true → input_at ts x ≡ true → slice_index_or (map (λ t. t.formula) ts) x None ≡ None
input_bare [] x e h = absurd (false≢true h)
input_bare (t ∷ ts) zero e h =
    bare_by t.formula (is_input_role t.role) (and_parts (has_formula_if_no_input t) (list_all has_formula_if_no_input ts) e).0 h
input_bare (t ∷ ts) (suc x) e h =
    input_bare ts x (and_parts (has_formula_if_no_input t) (list_all has_formula_if_no_input ts) e).1 h

-- x is the number of output j, where the first tensor has the number k
pub record IsOutput (k : ℕ) (ts : List PlainTensor) (j x : ℕ) : Type 0 where
  pub place : ℕ
  pub is : x ≡ k + place
  pub there : place < length ts
  pub type : type_in ts place ≡ slice_index_or (output_types ts) j int32

-- a list with an output's type before it, or without
abbrev pub with_output : Role → IntType → List IntType → List IntType
with_output r t ts = elim r [ Input ↦ ts | Local ↦ ts | Output ↦ t ∷ ts ]

-- a list with an output's number before it, or without
abbrev pub with_number : Role → ℕ → List ℕ → List ℕ
with_number r k xs = elim r [ Input ↦ xs | Local ↦ xs | Output ↦ k ∷ xs ]

-- one tensor further
further : (k j : ℕ) (t : PlainTensor) (ts : List PlainTensor) (x i : ℕ) → IsOutput (suc k) ts j x → slice_index_or (output_types ts) j int32 ≡ slice_index_or (output_types (t ∷ ts)) i int32 → IsOutput k (t ∷ ts) i x
further k j t ts x i o e =
    record { place = suc o.place; is = omega (arith, o.is); there = omega (arith, o.there); type = o.type ∙ e }

output_by : (r : Role) (k j : ℕ) (t : PlainTensor) (ts : List PlainTensor) → t.role ≡ r → j < length (with_output r t.ty (output_types ts))
    → ((i : ℕ) → i < length (output_types ts) → IsOutput (suc k) ts i (slice_index_or (outputs_from (suc k) ts) i 0))
    → IsOutput k (t ∷ ts) j (slice_index_or (with_number r k (outputs_from (suc k) ts)) j 0)
output_by Input k j t ts e l rest =
    further k j t ts _ j (rest j l) (ap (λ (r : Role). slice_index_or (with_output r t.ty (output_types ts)) j int32) (sym e))
output_by Local k j t ts e l rest =
    further k j t ts _ j (rest j l) (ap (λ (r : Role). slice_index_or (with_output r t.ty (output_types ts)) j int32) (sym e))
output_by Output k zero t ts e l rest =
    record {
      place = 0;
      is = omega arith;
      there = omega arith;
      type = ap (λ (r : Role). slice_index_or (with_output r t.ty (output_types ts)) 0 int32) (sym e);
    }
output_by Output k (suc j) t ts e l rest =
    further k j t ts _ (suc j) (rest j (omega arith)) (ap (λ (r : Role). slice_index_or (with_output r t.ty (output_types ts)) (suc j) int32) (sym e))

pub output_at : (k : ℕ) (ts : List PlainTensor) (j : ℕ) → j < length (output_types ts) → IsOutput k ts j (slice_index_or (outputs_from k ts) j 0)
output_at k [] j l = absurd (omega arith)
output_at k (t ∷ ts) j l = output_by t.role k j t ts refl l (λ i h. output_at (suc k) ts i h)

as_many_by : (r : Role) (k : ℕ) (t : IntType) (xs : List ℕ) (ts : List IntType) → length xs ≡ length ts → length (with_number r k xs) ≡ length (with_output r t ts)
as_many_by Input k t xs ts e = e
as_many_by Local k t xs ts e = e
as_many_by Output k t xs ts e = omega arith

-- each output has a number and a type
pub as_many_outputs : (k : ℕ) (ts : List PlainTensor) → length (outputs_from k ts) ≡ length (output_types ts)
as_many_outputs k [] = refl
as_many_outputs k (t ∷ ts) =
    as_many_by t.role k t.ty (outputs_from (suc k) ts) (output_types ts) (as_many_outputs (suc k) ts)
