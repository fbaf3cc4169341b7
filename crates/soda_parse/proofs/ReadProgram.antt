-- The statements of a valid program stand for that program.
use Rattle.std.proofs.Common.{◌≡◌, ℕ, zero, suc, ◌<◌, ◌≤◌, Bool, true, false, nat_le, List, [], ◌∷◌, ◌++◌, length, map, Some, None, Option, refl, sym, ap, ◌∙◌, arith, subst}
use Rattle.std.specs.Prelude.{flat_map, slice_get, unwrap_or}
use Rattle.std.specs.List.{list_all}
use Rattle.soda_checks.specs.Conditions.{first_tile}
use Rattle.soda_checks.specs.Outline.{outline_in, outline_of}
use Rattle.soda_checks.specs.declared.outline.Outline.{Outline}
use Rattle.soda_ir.specs.Formula.{Formula}
use Rattle.soda_ir.specs.Points.{size}
use Rattle.soda_ir.specs.Program.{PlainParam, PlainProgram, PlainTensor, preserves}
use Rattle.soda_ir.specs.Uses.{each_use, is_good_cell, is_good_place}
use Rattle.soda_ir.specs.Valid.{IsValid, has_good_uses, is_good_param, names_of}
use Rattle.soda_ir.specs.declared.program.Border.{Border}
use Rattle.soda_ir.specs.declared.program.Border.TheVariants.{Ignore, Preserve}
use Rattle.soda_parse.specs.Meaning.{border_of, fixed_in, input_of, param_of, program_by, tensor_number, tensors_in}
use Rattle.soda_print.specs.Canonical.{tensor_name}
use Rattle.soda_print.specs.Sized.{AreSizedParams, AreSizedTensors, IsSized, IsSizedProgram}
use Rattle.soda_print.proofs.CallerLemmas.{count_there}
use Rattle.soda_formula.specs.declared.statement.ParamLine.{ParamLine}
use Rattle.soda_parse.proofs.SameTypes.{both_of}
use Rattle.soda_parse.proofs.Back.{AreBack, AreTyped, IsBack, fixed_back, number_is, outline_names, outline_params, outline_tensors, outline_tile, param_lines, params_back, tensor_names}
use Rattle.soda_parse.proofs.Lookups.{Fresh, fresh, fresh_back, fresh_front, place_there}
use Rattle.soda_parse.proofs.ReadBack.{IsParamAt, Knows, formula_back, param_at}
use Rattle.soda_parse.proofs.Statements.{AreOrdered, ordered, statements_of, tile_of, word}
use Rattle.soda_parse.proofs.TypeWords.{typed}
use Rattle.std.proofs.lemmas.Option.{same_Some}
use Rattle.std.proofs.lemmas.Bool.{leb-true}

-- the outline of a program's statements
abbrev pub outline : PlainProgram → Outline
outline p = outline_of (statements_of p)

-- a valid program has its inputs first
pub tensors_ordered : (p : PlainProgram) → IsValid p → AreOrdered p.tensors
tensors_ordered p v = ordered p.tensors v.sound.ends.inputs_first v.sound.parts.formulas

-- the params of the outline are the program's, from line 6 on
pub params_are : (p : PlainProgram) → IsValid p → (outline p).params ≡ param_lines 6 p.params
unfolding outline_of outline_in statements_of
params_are p v = outline_params p 6 p.params (tensors_ordered p v)

-- the tensors of the outline have the program's names, in order
pub names_are : (p : PlainProgram) → IsValid p → tensor_names (outline p) ≡ map (λ (t : PlainTensor). t.name) p.tensors
unfolding outline_of outline_in statements_of
names_are p v = outline_names p 6 p.params (tensors_ordered p v)

-- the first tile of the outline is the program's
pub tile_is : (p : PlainProgram) → IsValid p → first_tile (outline p).inputs ≡ Some (tile_of p)
unfolding outline_of outline_in statements_of
tile_is p v = outline_tile p 6 p.params (tensors_ordered p v) v.sound.ends.some_input

-- the names of a valid program are pairwise different
pub names_fresh : (p : PlainProgram) → IsValid p → Fresh (names_of p.params p.tensors)
names_fresh p v = fresh (names_of p.params p.tensors) v.sound.parts.names

abbrev name_at : Option PlainTensor → List ℕ
name_at o = elim o [ None ↦ [] | Some t ↦ t.name ]

name_there : (ts : List PlainTensor) (k : ℕ) → k < length ts → slice_get (map (λ (t : PlainTensor). t.name) ts) k ≡ Some (name_at (slice_get ts k))
name_there [] k h = absurd (omega arith)
name_there (t ∷ ts) zero h = refl
name_there (t ∷ ts) (suc k) h = name_there ts k (omega arith)

-- a tensor's name stands at its number
pub tensor_there : (p : PlainProgram) (k : ℕ) → k < length p.tensors → slice_get (map (λ (t : PlainTensor). t.name) p.tensors) k ≡ Some (tensor_name p k)
unfolding tensor_name
tensor_there p k h = name_there p.tensors k h

numbered : (p : PlainProgram) → IsValid p → (line k : ℕ) → k < length p.tensors → tensor_number (outline p) (word line (tensor_name p k)) ≡ Some k
numbered p v line k h =
    let f : Fresh (map (λ (t : PlainTensor). t.name) p.tensors) =
    fresh_back (map (λ (q : PlainParam). q.name) p.params) (map (λ (t : PlainTensor). t.name) p.tensors) (names_fresh p v) in
    number_is (outline p) (word line (tensor_name p k)) ∙
    (rw (names_are p v) (place_there (map (λ (t : PlainTensor). t.name) p.tensors) k (tensor_name p k) f (tensor_there p k h)))

valued : (p : PlainProgram) → IsValid p → (line k : ℕ) (q : PlainParam) → slice_get p.params k ≡ Some q → IsParamAt (outline p).params k q (word line q.name)
valued p v line k q e =
    let f : Fresh (map (λ (r : PlainParam). r.name) p.params) =
    fresh_front (map (λ (r : PlainParam). r.name) p.params) (map (λ (t : PlainTensor). t.name) p.tensors) (names_fresh p v) in
    subst (λ (ls : List ParamLine). IsParamAt ls k q (word line q.name)) (sym (params_are p v)) (param_at 6 p.params k q (word line q.name) f e refl)

-- what passes for all passes for the one at a place
pub all_there : {A : Type 0} (test : A → Bool) (xs : List A) (k : ℕ) (x : A) → list_all test xs ≡ true → slice_get xs k ≡ Some x → test x ≡ true
all_there test [] k x h e = cc
all_there test (y ∷ xs) zero x h e = ap test (sym (same_Some y x e)) ∙ (both_of (test y) (list_all test xs) h).0
all_there test (y ∷ xs) (suc k) x h e = all_there test xs k x (both_of (test y) (list_all test xs) h).1 e

two_sizes : (p : PlainProgram) → IsValid p → (k : ℕ) (q : PlainParam) → slice_get p.params k ≡ Some q → length q.sizes ≤ 2
two_sizes p v k q e =
    let good : is_good_param q ≡ true = all_there is_good_param p.params k q v.sound.parts.params e in
    leb-true (length q.sizes) 2 (both_of (nat_le (length q.sizes) 2) _ good).0

few_values : (p : PlainProgram) → IsValid p → (k : ℕ) (q : PlainParam) → slice_get p.params k ≡ Some q → size q.sizes ≤ 65536
few_values p v k q e = omega (arith, count_there p.params k q e, v.sound.limits.few_values)

-- the outline of a valid program's statements knows each name
pub knows : (p : PlainProgram) → IsValid p → Knows (outline p) p
knows p v = record {
  tensors = numbered p v;
  params = valued p v;
  two = two_sizes p v;
  few = few_values p v;
  dims = v.sound.limits.few_dims;
  types = typed;
}

all_typed : (qs : List PlainParam) → AreSizedParams qs → AreTyped qs
all_typed [] h = tt
all_typed (q ∷ qs) h = (typed q.ty h.0, all_typed qs h.1)

body_back : (o : Outline) (p : PlainProgram) (r : Option Formula) → Knows o p →
    (elim r as (λ v. Bool) [ None ↦ true | Some f ↦ each_use (is_good_cell p) (is_good_place p) f ]) ≡ true →
    (elim r as (λ v. Type 0) [ None ↦ Unit {0} | Some f ↦ IsSized f ]) → (elim r as (λ v. Type 0) [ None ↦ Unit {0} | Some f ↦ IsBack o p f ])
body_back o p None h u s = tt
body_back o p (Some f) h u s = formula_back o p f h u s

all_back : (o : Outline) (p : PlainProgram) (ts : List PlainTensor) → Knows o p → AreSizedTensors ts → list_all (has_good_uses p) ts ≡ true → AreBack o p ts
all_back o p [] h s u = tt
all_back o p (t ∷ ts) h s u =
    let both = both_of (has_good_uses p t) (list_all (has_good_uses p) ts) u in
    ((typed t.ty s.0.0, body_back o p t.formula h both.0 s.0.1), all_back o p ts h s.1 both.1)

border_back : (b : Border) → border_of (elim b as (λ v. Bool) [ Ignore ↦ false | Preserve ↦ true ]) ≡ b
border_back Ignore = refl
border_back Preserve = refl

abbrev with_parts : PlainProgram → Border → List PlainParam → List ℕ → List PlainTensor → PlainProgram
with_parts p b qs ns ts =
    record { kernel = p.kernel; burst = p.burst; unroll = p.unroll; iterate = p.iterate; border = b; params = qs; extents = ns; tensors = ts }

same_parts : (p : PlainProgram) (b : Border) (qs : List PlainParam) (ns : List ℕ) (ts : List PlainTensor) → b ≡ p.border → qs ≡ p.params → ns ≡ p.extents →
    ts ≡ p.tensors → with_parts p b qs ns ts ≡ p
same_parts p b qs ns ts e f g h =
    ap (λ (x : Border). with_parts p x qs ns ts) e
    ∙ (ap (λ (x : List PlainParam). with_parts p p.border x ns ts) f
    ∙ (ap (λ (x : List ℕ). with_parts p p.border p.params x ts) g
    ∙ ap (λ (x : List PlainTensor). with_parts p p.border p.params p.extents x) h))

tensors_are : (o : Outline) (p : PlainProgram) → IsValid p → AreBack o p p.tensors →
    map input_of (outline p).inputs ++ flat_map (tensors_in o) (statements_of p) ≡ p.tensors
unfolding outline_of outline_in statements_of
tensors_are o p v h = outline_tensors o p 6 p.params (tensors_ordered p v) h

extents_are : (p : PlainProgram) → IsValid p → flat_map fixed_in (unwrap_or (first_tile (outline p).inputs) []) ≡ p.extents
extents_are p v = rw (tile_is p v) (fixed_back p.extents)

params_read : (p : PlainProgram) → IsValid p → IsSizedProgram p → map param_of (outline p).params ≡ p.params
params_read p v s = rw (params_are p v) (params_back 6 p.params (all_typed p.params s.params))

-- the program of the statements is the program
by_parts : (p : PlainProgram) → program_by (outline p) (statements_of p) ≡
    with_parts p (border_of (preserves p)) (map param_of (outline p).params) (flat_map fixed_in (unwrap_or (first_tile (outline p).inputs) []))
    (map input_of (outline p).inputs ++ flat_map (tensors_in (outline p)) (statements_of p))
unfolding outline_of outline_in statements_of
by_parts p = refl

-- the statements of a valid program stand for it
pub program_back : (p : PlainProgram) → IsValid p → IsSizedProgram p → program_by (outline p) (statements_of p) ≡ p
program_back p v s =
    let back : AreBack (outline p) p p.tensors = all_back (outline p) p p.tensors (knows p v) s.tensors v.sound.parts.uses in
    by_parts p ∙ same_parts p _ _ _ _ (border_back p.border) (params_read p v s) (extents_are p v) (tensors_are (outline p) p v back)
