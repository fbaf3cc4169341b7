-- No condition refuses the statements of a valid program.
use Rattle.std.proofs.Common.{◌≡◌, ◌≢◌, ℕ, suc, ◌+◌, ◌*◌, ◌<◌, ◌≤◌, ◌==◌, ◌&&◌, Bool, true, false, not, nat_le, nat_lt, List, [], ◌∷◌, ◌++◌, length, map, Some, None, Option, refl, sym, ap, ◌∙◌, arith, length-append, mul_assoc, mul-one, one-mul}
use Rattle.std.specs.Prelude.{find, option_map, slice_get, unwrap_or}
use Rattle.std.specs.List.{list_all}
use Rattle.std.proofs.lemmas.Bool.Decides.{nat_tests}
use Rattle.std.proofs.lemmas.Nat.{mul-le}
use Rattle.soda_words.specs.IntType.{IntType}
use Rattle.soda_checks.specs.Conditions.{has_wrong_tile, is_same_tile, is_tile, wrong_tile}
use Rattle.soda_checks.specs.Outline.{outline_in, outline_of}
use Rattle.soda_checks.specs.declared.outline.Defined.{Defined}
use Rattle.soda_checks.specs.declared.outline.Outline.{Outline}
use Rattle.soda_ir.specs.Counts.{can_be_placed}
use Rattle.soda_ir.specs.Points.{size}
use Rattle.soda_ir.specs.Program.{PlainParam, PlainProgram, PlainTensor, input_types, preserves}
use Rattle.soda_ir.specs.Valid.{IsValid, is_good_param, output_types, value_count}
use Rattle.soda_parse.specs.ProgramConditions.{are_same_types, bad_burst, circular_from, first_past, iterate_mismatch, offset_past, outputs_fit, param_products, partial_products, preserve_mismatch, unless_within, values_past}
use Rattle.soda_parse.specs.Meaning.{tile_items}
use Rattle.soda_parse.specs.Text.{count_refusal, late_refusal, names_refusal, refusal_by, shape_refusal, size_refusal, statement_refusal, use_refusal}
use Rattle.soda_print.specs.Sized.{IsSizedProgram}
use Rattle.soda_print.proofs.CallerLemmas.{count_cons, positive}
use Rattle.soda_formula.specs.declared.statement.Extent.{Extent}
use Rattle.soda_formula.specs.declared.statement.Extent.TheVariants.{Fixed, Open}
use Rattle.soda_formula.specs.declared.statement.InputLine.{InputLine}
use Rattle.soda_parse.proofs.FineNames.{are_tensors, dims_are, names_fine, uses_fine}
use Rattle.soda_parse.proofs.FineSites.{far_none, nonzero}
use Rattle.soda_parse.proofs.Kept.{KeepsNames, KeepsRest, KeepsShape, KeepsSizes}
use Rattle.soda_parse.proofs.ReadProgram.{names_are, outline, program_back, tensors_ordered, tile_is}
use Rattle.soda_parse.proofs.SameTypes.{both_of, decided}
use Rattle.soda_parse.proofs.Statements.{AreDefined, none_defined, a_local, an_output, AreOrdered, no_input, an_input, declared_from, statements_of, tensors_from, tile_of}
use Rattle.soda_parse.proofs.Truths.{le_true}
use Rattle.std.proofs.lemmas.List.{length-map}

-- each local and output can be placed
none_circular : (p : PlainProgram) (n : ℕ) (ds : List Defined) → ((x : ℕ) → x < length p.tensors → can_be_placed p x ≡ true) →
    n + length ds ≤ length p.tensors → circular_from p n ds ≡ None
none_circular p n [] h le = refl
none_circular p n (d ∷ ds) h le = rw (h n (omega arith)) (none_circular p (suc n) ds h (omega arith))

tensors_many : (p : PlainProgram) → IsValid p → length (outline p).inputs + length (outline p).defined ≡ length p.tensors
tensors_many p v =
    let is : List (List ℕ) = map (λ (i : InputLine). i.name.text) (outline p).inputs in
    let ds : List (List ℕ) = map (λ (d : Defined). d.name.text) (outline p).defined in
    let all : length (is ++ ds) ≡ length p.tensors = ap length (names_are p v) ∙ length-map p.tensors (λ (t : PlainTensor). t.name) in
    omega (
      arith,
      all,
      length-append is ds,
      length-map (outline p).inputs (λ (i : InputLine). i.name.text),
      length-map (outline p).defined (λ (d : Defined). d.name.text),
    )

-- the outputs fit the inputs where they have to
same_types : (ts us : List IntType) → ts ≡ us → are_same_types ts us ≡ true
same_types ts us e = sym (decided true ts us (λ h. e, λ h. refl))

mismatch_none : (runs_once fit : Bool) → (runs_once ≡ false → fit ≡ true) → (not runs_once && not fit) ≡ false
mismatch_none true fit h = refl
mismatch_none false fit h = ap not (h refl)

apart : (n : ℕ) → (n == 1) ≡ false → n ≢ 1
apart n e = grind (arith, nat_tests)

iterates_fine : (p : PlainProgram) → IsValid p → iterate_mismatch p ≡ false
iterates_fine p v =
    mismatch_none (p.iterate == 1) (outputs_fit p) (λ e. same_types (input_types p.tensors) (output_types p.tensors)
    (v.sound.fits.iterated (apart p.iterate e)))

preserve_none : (keeps fit : Bool) → (keeps ≡ true → fit ≡ true) → (keeps && not fit) ≡ false
preserve_none true fit h = ap not (h refl)
preserve_none false fit h = refl

preserves_fine : (p : PlainProgram) → IsValid p → preserve_mismatch p ≡ false
preserves_fine p v =
    preserve_none (preserves p) (outputs_fit p) (λ e. same_types (input_types p.tensors) (output_types p.tensors) (v.sound.fits.preserved e))

-- the tile of each input
is_tile_fixed : (ns : List ℕ) → list_all nonzero ns ≡ true → is_tile (map (λ n. Fixed n) ns ++ Open ∷ []) ≡ true
is_tile_fixed [] h = refl
is_tile_fixed (n ∷ ns) h = let both = both_of (nonzero n) (list_all nonzero ns) h in rw both.0 (is_tile_fixed ns both.1)

self_equal : (n : ℕ) → (n == n) ≡ true
self_equal n = grind (arith, nat_tests)

same_tile : (es : List Extent) → is_same_tile es es ≡ true
same_tile [] = refl
same_tile (Open ∷ es) = same_tile es
same_tile (Fixed n ∷ es) = rw (self_equal n) (same_tile es)

tile_good : (p : PlainProgram) → IsValid p → not (is_tile (tile_of p) && is_same_tile (tile_of p) (tile_of p)) ≡ false
tile_good p v = rw (is_tile_fixed p.extents v.sound.limits.extents, same_tile (tile_of p)) refl

defined_tiles : (p : PlainProgram) (line : ℕ) {ts : List PlainTensor} → AreDefined ts →
    find (has_wrong_tile (tile_of p)) (outline_of (tensors_from p line ts)).inputs ≡ None
unfolding outline_of outline_in
defined_tiles p line none_defined = refl
defined_tiles p line (a_local n ty f more) = defined_tiles p (suc line) more
defined_tiles p line (an_output n ty f more) = defined_tiles p (suc line) more

tensor_tiles : (p : PlainProgram) (line : ℕ) {ts : List PlainTensor} → not (is_tile (tile_of p) && is_same_tile (tile_of p) (tile_of p)) ≡ false →
    AreOrdered ts → find (has_wrong_tile (tile_of p)) (outline_of (tensors_from p line ts)).inputs ≡ None
unfolding outline_of outline_in
tensor_tiles p line h (no_input d) = defined_tiles p line d
tensor_tiles p line h (an_input n ty more) = rw h (tensor_tiles p (suc line) h more)

tiles : (p : PlainProgram) (line : ℕ) (qs : List PlainParam) {ts : List PlainTensor} →
    not (is_tile (tile_of p) && is_same_tile (tile_of p) (tile_of p)) ≡ false → AreOrdered ts →
    find (has_wrong_tile (tile_of p)) (outline_of (declared_from p line qs ts)).inputs ≡ None
unfolding outline_of outline_in
tiles p line [] h d = tensor_tiles p line h d
tiles p line (q ∷ qs) h d = tiles p (suc line) qs h d

all_tiles : (p : PlainProgram) → IsValid p → find (has_wrong_tile (tile_of p)) (outline p).inputs ≡ None
unfolding outline_of outline_in statements_of
all_tiles p v = tiles p 6 p.params (tile_good p v) (tensors_ordered p v)

abbrev wrong_beside : Outline → Option (List Extent) → Option ℕ
wrong_beside o None = option_map (λ i. i.name.line) (slice_get o.inputs 0)
wrong_beside o (Some tile) = option_map (λ i. i.name.line) (find (has_wrong_tile tile) o.inputs)

tiles_fine : (p : PlainProgram) → IsValid p → wrong_tile (outline p) ≡ None
tiles_fine p v =
    ap (wrong_beside (outline p)) (tile_is p v) ∙ ap (option_map (λ (i : InputLine). i.name.line)) (all_tiles p v)

shape_fine : (p : PlainProgram) → IsValid p → KeepsShape (outline p) p
shape_fine p v = record {
  placed = none_circular p (length (outline p).inputs) (outline p).defined v.sound.placed (omega (arith, tensors_many p v));
  iterates = iterates_fine p v;
  preserves = preserves_fine p v;
  tile = tiles_fine p v;
}

-- limits
within : (least most n : ℕ) → least ≤ n → n ≤ most → unless_within least most n ≡ None
within least most n h k = rw (le_true least n h, le_true n most k) refl

not_past : (most n : ℕ) → n ≤ most → nat_lt most n ≡ false
not_past most n h = grind (arith, nat_tests)

one_product : (n k : ℕ) (ks : List ℕ) → list_all nonzero ks ≡ true → n * k ≤ n * (k * size ks)
one_product n k ks h =
    let more : 1 ≤ size ks = positive ks h in
    let all : (n * k) * 1 ≤ (n * k) * size ks = mul-le (n * k) 1 (n * k) (size ks) (omega arith) more in
    omega (arith, all, mul_assoc n k (size ks), mul-one (n * k))

-- no partial product passes the most, where the product doesn't
products_none : (most n : ℕ) (ks : List ℕ) → list_all nonzero ks ≡ true → n * size ks ≤ most → first_past most (partial_products n ks) ≡ None
products_none most n [] h le = refl
products_none most n (k ∷ ks) h le =
    let both = both_of (nonzero k) (list_all nonzero ks) h in
    let here : n * k ≤ n * (k * size ks) = one_product n k ks both.1 in
    rw (not_past most (n * k) (omega arith)) (products_none most (n * k) ks both.1 (omega (arith, mul_assoc n k (size ks))))

sums_none : (most b n : ℕ) (ks : List ℕ) → list_all nonzero ks ≡ true → b + n * size ks ≤ most →
    first_past most (map (λ m. b + m) (partial_products n ks)) ≡ None
sums_none most b n [] h le = refl
sums_none most b n (k ∷ ks) h le =
    let both = both_of (nonzero k) (list_all nonzero ks) h in
    let here : n * k ≤ n * (k * size ks) = one_product n k ks both.1 in
    rw (not_past most (b + n * k) (omega arith)) (sums_none most b (n * k) ks both.1 (omega (arith, mul_assoc n k (size ks))))

param_none : (most b : ℕ) (ks : List ℕ) → list_all nonzero ks ≡ true → b + size ks ≤ most → first_past most (map (λ m. b + m) (param_products ks)) ≡ None
param_none most b [] h le = rw (not_past most (b + 1) le) refl
param_none most b (k ∷ ks) h le = sums_none most b 1 (k ∷ ks) h (omega (arith, one-mul (size (k ∷ ks))))

values_none : (b : ℕ) (qs : List PlainParam) → list_all is_good_param qs ≡ true → b + value_count qs ≤ 65536 → values_past b qs ≡ None
values_none b [] h le = refl
values_none b (q ∷ qs) h le =
    let both = both_of (is_good_param q) (list_all is_good_param qs) h in
    let good = both_of (nat_le (length q.sizes) 2) (list_all nonzero q.sizes) both.0 in
    let all : value_count (q ∷ qs) ≡ size q.sizes + value_count qs = count_cons q qs in
    rw (param_none 65536 b q.sizes good.1 (omega arith)) (values_none (b + size q.sizes) qs both.1 (omega arith))

dims_fine : (p : PlainProgram) → IsValid p → unless_within 0 4 (length (tile_items (outline p))) ≡ None
dims_fine p v =
    let many : length (tile_items (outline p)) ≡ suc (length p.extents) = ap (λ (t : Option (List Extent)). length (unwrap_or t [])) (tile_is p v) ∙
    dims_are p in
    rw many (within 0 4 (suc (length p.extents)) (omega arith) v.sound.limits.few_dims)

offsets_fine : (p : PlainProgram) → IsValid p → offset_past (outline p) ≡ None
unfolding outline_of outline_in statements_of
offsets_fine p v = far_none (outline p) p 6 [] p.params (are_tensors p v) (tensors_ordered p v) v.sound.parts.uses

sizes_fine : (p : PlainProgram) → IsValid p → KeepsSizes (outline p) p
sizes_fine p v = record {
  unroll = within 1 64 p.unroll v.sound.limits.some_lanes v.sound.limits.few_lanes;
  iterate = within 1 64 p.iterate v.sound.limits.some_iterations v.sound.limits.few_iterations;
  dims = dims_fine p v;
  tile = products_none 16777216 1 p.extents v.sound.limits.extents (omega (arith, one-mul (size p.extents), v.sound.limits.small_tile));
  offsets = offsets_fine p v;
  tensors = within 0 512 (length p.tensors) (omega arith) v.sound.limits.few_tensors;
  params = values_none 0 p.params v.sound.parts.params (omega (arith, v.sound.limits.few_values));
}

burst_fine : (p : PlainProgram) → IsValid p → bad_burst p ≡ None
burst_fine p v =
    rw (le_true 8 p.burst v.sound.limits.least_burst, le_true p.burst 8192 v.sound.limits.most_burst, v.sound.ends.bursts) refl

rest_fine : (p : PlainProgram) → IsValid p → KeepsRest (outline p) p
rest_fine p v = record {
  live = within 0 512 _ (omega arith) v.few_live;
  reads = within 0 16384 _ (omega arith) v.few_reads;
  burst = burst_fine p v;
  uses = uses_fine p v;
}

-- no refusal where no condition fails
no_names : (o : Outline) → KeepsNames o → names_refusal o ≡ None
unfolding names_refusal
no_names o k = rw (k.missing, k.twice, k.floats, k.widths, k.names, k.known, k.dims) refl

no_shape : (o : Outline) (p : PlainProgram) → KeepsShape o p → shape_refusal o p ≡ None
unfolding shape_refusal
no_shape o p k = rw (k.placed, k.iterates, k.preserves, k.tile) refl

no_size : (o : Outline) (p : PlainProgram) → KeepsSizes o p → size_refusal o p ≡ None
unfolding size_refusal
no_size o p k = rw (k.unroll, k.iterate, k.dims, k.tile, k.offsets, k.tensors, k.params) refl

no_count : (o : Outline) (p : PlainProgram) → KeepsRest o p → count_refusal p ≡ None
unfolding count_refusal
no_count o p k = rw (k.live, k.reads) refl

no_use : (o : Outline) (p : PlainProgram) → KeepsRest o p → use_refusal o p ≡ None
unfolding use_refusal
no_use o p k = rw (k.burst, k.uses) refl

no_refusal : (o : Outline) (p : PlainProgram) → KeepsNames o → KeepsShape o p → KeepsSizes o p → KeepsRest o p → refusal_by o p ≡ None
unfolding refusal_by late_refusal
no_refusal o p n h s r = rw (no_names o n, no_shape o p h, no_size o p s, no_count o p r, no_use o p r) refl

-- the statements of a valid program are not refused
pub not_refused : (p : PlainProgram) → IsValid p → IsSizedProgram p → statement_refusal (statements_of p) ≡ None
not_refused p v s =
    ap (refusal_by (outline p)) (program_back p v s) ∙ no_refusal (outline p) p (names_fine p v s) (shape_fine p v) (sizes_fine p v) (rest_fine p v)
