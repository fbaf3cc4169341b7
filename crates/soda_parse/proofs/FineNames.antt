-- The names and settings of a program's statements are fine.
use Rattle.std.proofs.Common.{◌≡◌, ℕ, suc, ◌<◌, ◌==◌, ◌&&◌, ◌||◌, Bool, true, false, not, List, [], ◌∷◌, ◌++◌, length, map, Some, None, Option, refl, sym, ap, ◌∙◌, arith, pos}
use Rattle.std.specs.Prelude.{find, option_map, slice_get, is_none}
use Rattle.std.specs.List.{list_any}
use Rattle.std.proofs.lemmas.Bool.Decides.{nat_tests}
use Rattle.std.proofs.lemmas.List.Folds.{list_any-append}
use Rattle.std.proofs.Math.Dec.{eqb-suc-zero}
use Rattle.soda_words.specs.IntType.{IntType, IsType}
use Rattle.soda_checks.specs.Conditions.{are_below, first_by, has_output, has_wrong_dims, is_tensor, is_unknown, is_wrong_site, line_where, missing, name_twice, param_use, site_line, taken_behind, twice, twice_behind, unknown_name, wrong_dims, wrong_dims_beside}
use Rattle.soda_checks.specs.Outline.{is_one_of, is_same, outline_in, outline_of}
use Rattle.soda_checks.specs.Types.{is_float, type_of}
use Rattle.soda_checks.specs.declared.outline.Defined.{Defined}
use Rattle.soda_checks.specs.declared.outline.Setting.{Setting}
use Rattle.soda_ir.specs.Counts.{is_output_role}
use Rattle.soda_ir.specs.Points.{size}
use Rattle.soda_ir.specs.Program.{PlainParam, PlainProgram, PlainTensor}
use Rattle.soda_ir.specs.Valid.{IsValid, names_of}
use Rattle.soda_print.specs.Canonical.{indexes, tensor_name, type_text}
use Rattle.soda_print.specs.Sized.{IsSizedProgram}
use Rattle.soda_checks.specs.declared.outline.Site.TheVariants.{Value}
use Rattle.soda_formula.specs.declared.statement.Extent.{Extent}
use Rattle.soda_formula.specs.declared.statement.Extent.TheVariants.{Fixed, Open}
use Rattle.soda_formula.specs.declared.statement.InputLine.{InputLine}
use Rattle.soda_formula.specs.declared.statement.ParamLine.{ParamLine}
use Rattle.soda_words.specs.Names.{is_name, is_reserved, is_word}
use Rattle.soda_words.specs.declared.token.Word.{Word}
use Rattle.soda_parse.proofs.FineSites.{AreTensors, Passes, sites_none, types_none}
use Rattle.soda_parse.proofs.Kept.{KeepsNames}
use Rattle.soda_parse.proofs.Lookups.{Fresh, any_mapped, one_there, there_front, there_mapped}
use Rattle.soda_parse.proofs.ReadBack.{IsIndexed, IsParamAt, indexed, sizes_on}
use Rattle.soda_parse.proofs.ReadProgram.{knows, names_are, names_fresh, outline, tensor_there, tensors_ordered, tile_is}
use Rattle.soda_parse.proofs.SameTypes.{both_of}
use Rattle.soda_parse.proofs.Statements.{AreDefined, none_defined, a_local, an_output, AreOrdered, no_input, an_input, declared_from, statements_of, tensors_from, tile_of, word, zeros}
use Rattle.soda_parse.proofs.TypeWords.{no_float, type_known}
use Rattle.std.proofs.lemmas.Bool.{not-true}
use Rattle.soda_parse.proofs.Truths.{or_second, neither_of}
use Rattle.soda_words.proofs.CallerLemmas.{is_word-turned}

-- the settings are those five
defined_settings : (p : PlainProgram) (line : ℕ) {ts : List PlainTensor} → AreDefined ts → (outline_of (tensors_from p line ts)).settings ≡ []
unfolding outline_of outline_in
defined_settings p line none_defined = refl
defined_settings p line (a_local n ty f more) = defined_settings p (suc line) more
defined_settings p line (an_output n ty f more) = defined_settings p (suc line) more

tensor_settings : (p : PlainProgram) (line : ℕ) {ts : List PlainTensor} → AreOrdered ts → (outline_of (tensors_from p line ts)).settings ≡ []
unfolding outline_of outline_in
tensor_settings p line (no_input d) = defined_settings p line d
tensor_settings p line (an_input n ty more) = tensor_settings p (suc line) more

no_settings : (p : PlainProgram) (line : ℕ) (qs : List PlainParam) {ts : List PlainTensor} → AreOrdered ts →
    (outline_of (declared_from p line qs ts)).settings ≡ []
unfolding outline_of outline_in
no_settings p line [] d = tensor_settings p line d
no_settings p line (q ∷ qs) d = no_settings p (suc line) qs d

abbrev first_settings : PlainProgram → List Setting
first_settings p = (outline_of (statements_of (record p { params = []; tensors = [] }))).settings

none_twice : (p : PlainProgram) → IsValid p → twice (outline p) ≡ None
unfolding outline_of outline_in statements_of
none_twice p v =
    ap (λ (ss : List Setting). twice_behind [] (first_settings p ++ ss)) (no_settings p 6 p.params (tensors_ordered p v))

some_inputs : (is : List InputLine) (t : List Extent) → first_by (λ i. i.tile) is ≡ Some t → (length is == 0) ≡ false
some_inputs [] t e = cc
some_inputs (i ∷ is) t e = eqb-suc-zero (length is)

outputs_there : (p : PlainProgram) (line : ℕ) {ts : List PlainTensor} → AreDefined ts → list_any (λ t. is_output_role t.role) ts ≡ true →
    has_output (outline_of (tensors_from p line ts)).defined ≡ true
unfolding outline_of outline_in
outputs_there p line none_defined h = h
outputs_there p line (a_local n ty f more) h = outputs_there p (suc line) more h
outputs_there p line (an_output n ty f more) h = refl

outputs_behind : (p : PlainProgram) (line : ℕ) {ts : List PlainTensor} → AreOrdered ts → list_any (λ t. is_output_role t.role) ts ≡ true →
    has_output (outline_of (tensors_from p line ts)).defined ≡ true
unfolding outline_of outline_in
outputs_behind p line (no_input d) h = outputs_there p line d h
outputs_behind p line (an_input n ty more) h = outputs_behind p (suc line) more h

some_output : (p : PlainProgram) (line : ℕ) (qs : List PlainParam) {ts : List PlainTensor} → AreOrdered ts →
    list_any (λ t. is_output_role t.role) ts ≡ true → has_output (outline_of (declared_from p line qs ts)).defined ≡ true
unfolding outline_of outline_in
some_output p line [] d h = outputs_behind p line d h
some_output p line (q ∷ qs) d h = some_output p (suc line) qs d h

output_there : (p : PlainProgram) → IsValid p → has_output (outline p).defined ≡ true
unfolding outline_of outline_in statements_of
output_there p v = some_output p 6 p.params (tensors_ordered p v) v.sound.ends.some_output

none_missing : (p : PlainProgram) → IsValid p → missing (outline p) ≡ None
unfolding outline_of outline_in statements_of
none_missing p v =
    let some = some_inputs (outline p).inputs (tile_of p) (tile_is p v) in
    let there = output_there p v in
    rw (some, there) refl

-- the declared names, in order
defined_declared : (p : PlainProgram) (line : ℕ) {ts : List PlainTensor} → AreDefined ts →
    map (λ (w : Word). w.text) (outline_of (tensors_from p line ts)).declared ≡ map (λ (t : PlainTensor). t.name) ts
unfolding outline_of outline_in
defined_declared p line none_defined = refl
defined_declared p line (a_local n ty f more) = ap (λ (ws : List (List ℕ)). n ∷ ws) (defined_declared p (suc line) more)
defined_declared p line (an_output n ty f more) = ap (λ (ws : List (List ℕ)). n ∷ ws) (defined_declared p (suc line) more)

tensor_declared : (p : PlainProgram) (line : ℕ) {ts : List PlainTensor} → AreOrdered ts →
    map (λ (w : Word). w.text) (outline_of (tensors_from p line ts)).declared ≡ map (λ (t : PlainTensor). t.name) ts
unfolding outline_of outline_in
tensor_declared p line (no_input d) = defined_declared p line d
tensor_declared p line (an_input n ty more) = ap (λ (ws : List (List ℕ)). n ∷ ws) (tensor_declared p (suc line) more)

names_declared : (p : PlainProgram) (line : ℕ) (qs : List PlainParam) {ts : List PlainTensor} → AreOrdered ts →
    map (λ (w : Word). w.text) (outline_of (declared_from p line qs ts)).declared ≡ names_of qs ts
unfolding outline_of outline_in
names_declared p line [] d = tensor_declared p line d
names_declared p line (q ∷ qs) d = ap (λ (ws : List (List ℕ)). q.name ∷ ws) (names_declared p (suc line) qs d)

declared_are : (p : PlainProgram) → IsValid p → map (λ (w : Word). w.text) (outline p).declared ≡ names_of p.params p.tensors
unfolding outline_of outline_in statements_of
declared_are p v = names_declared p 6 p.params (tensors_ordered p v)

-- different names are none declared before
abbrev texts : List Word → List (List ℕ)
texts ws = map (λ (w : Word). w.text) ws

abbrev Apart : List Word → List (List ℕ) → Type 0
Apart [] ws = Unit {0}
Apart (e ∷ es) ws = (list_any (is_word e.text) ws ≡ false) × Apart es ws

apart_tail : (es : List Word) (w : List ℕ) (ws : List (List ℕ)) → Apart es (w ∷ ws) → Apart es ws
apart_tail [] w ws h = tt
apart_tail (e ∷ es) w ws h = ((neither_of (is_word e.text w) (list_any (is_word e.text) ws) h.0).1, apart_tail es w ws h.1)

apart_end : (es : List Word) (w : Word) (ws : List (List ℕ)) → Apart es ws → list_any (is_word w.text) ws ≡ false → Apart (es ++ w ∷ []) ws
apart_end [] w ws h e = (e, tt)
apart_end (x ∷ es) w ws h e = (h.0, apart_end es w ws h.1 e)

none_alike : (es : List Word) (w : Word) (ws : List (List ℕ)) → Apart es (w.text ∷ ws) → is_one_of es w ≡ false
none_alike [] w ws h = refl
none_alike (e ∷ es) w ws h =
    let other : is_word w.text e.text ≡ false = is_word-turned w.text e.text ∙ (neither_of (is_word e.text w.text) (list_any (is_word e.text) ws) h.0).0 in
    rw other (none_alike es w ws h.1)

none_taken : (earlier ws : List Word) → Fresh (texts ws) → Apart earlier (texts ws) → taken_behind earlier ws ≡ None
none_taken earlier [] f a = refl
none_taken earlier (w ∷ ws) f a =
    let free = both_of (is_name w.text) (not (is_reserved w.text)) f.0 in
    let more = none_taken (earlier ++ w ∷ []) ws f.2 (apart_end earlier w (texts ws) (apart_tail earlier w.text (texts ws) a) f.1) in
    rw (not-true (is_reserved w.text) free.1, none_alike earlier w (texts ws) a) more

names_once : (p : PlainProgram) → IsValid p → name_twice (outline p) ≡ None
names_once p v =
    let f : Fresh (texts (outline p).declared) = rw (declared_are p v) (names_fresh p v) in
    none_taken [] (outline p).declared f tt

-- a name is declared, and a tensor's is one of a tensor
known_text : (p : PlainProgram) → IsValid p → (w : Word) → list_any (is_word w.text) (names_of p.params p.tensors) ≡ true →
    is_one_of (outline p).declared w ≡ true
known_text p v w h =
    any_mapped (is_word w.text) (λ (x : Word). x.text) (outline p).declared ∙ (ap (list_any (is_word w.text)) (declared_are p v) ∙ h)

tensor_named : (p : PlainProgram) (k : ℕ) → k < length p.tensors → list_any (is_word (tensor_name p k)) (names_of p.params p.tensors) ≡ true
tensor_named p k h =
    let qs : List (List ℕ) = map (λ (q : PlainParam). q.name) p.params in
    let ts : List (List ℕ) = map (λ (t : PlainTensor). t.name) p.tensors in
    list_any-append (is_word (tensor_name p k)) qs ts
    ∙ or_second (list_any (is_word (tensor_name p k)) qs) (list_any (is_word (tensor_name p k)) ts) (one_there ts k (tensor_name p k) (tensor_there p k h))

param_named : (p : PlainProgram) (k : ℕ) (q : PlainParam) → slice_get p.params k ≡ Some q → list_any (is_word q.name) (names_of p.params p.tensors) ≡ true
param_named p k q e =
    one_there (names_of p.params p.tensors) k q.name (there_front (map (λ (r : PlainParam). r.name) p.params)
    (map (λ (t : PlainTensor). t.name) p.tensors) k q.name (there_mapped (λ (r : PlainParam). r.name) p.params k q e))

-- each tensor's name is one of a tensor of the outline
pub are_tensors : (p : PlainProgram) → IsValid p → AreTensors (outline p) p
are_tensors p v line k h =
    let w : Word = word line (tensor_name p k) in
    let is : List (List ℕ) = map (λ (i : InputLine). i.name.text) (outline p).inputs in
    let ds : List (List ℕ) = map (λ (d : Defined). d.name.text) (outline p).defined in
    let one : list_any (is_word w.text) (is ++ ds) ≡ true = ap (list_any (is_word w.text)) (names_are p v) ∙
    one_there (map (λ (t : PlainTensor). t.name) p.tensors) k (tensor_name p k) (tensor_there p k h) in
    ap (λ (b : Bool). b || list_any (λ (d : Defined). is_same w d.name) (outline p).defined)
    (any_mapped (is_word w.text) (λ (i : InputLine). i.name.text) (outline p).inputs)
    ∙ (ap (λ (b : Bool). list_any (is_word w.text) is || b) (any_mapped (is_word w.text) (λ (d : Defined). d.name.text) (outline p).defined)
    ∙ (sym (list_any-append (is_word w.text) is ds) ∙ one))

pass_unknown : (p : PlainProgram) → IsValid p → Passes (is_unknown (outline p).declared) p
pass_unknown p v = record {
  cells = λ line k ds there. ap not (known_text p v (word line (tensor_name p k)) (tensor_named p k there.within));
  values = λ line k i q e h. ap not (known_text p v (word line q.name) (param_named p k q e));
  lefts = λ w. refl;
  sizes = λ line n e. refl;
}

same_length : (a b : ℕ) → a ≡ b → not (a == b) ≡ false
same_length a b e = grind (arith, nat_tests)

zeros_many : (ns : List ℕ) → length (map (λ n. pos 0) ns ++ pos 0 ∷ []) ≡ suc (length ns)
zeros_many [] = refl
zeros_many (n ∷ ns) = ap suc (zeros_many ns)

tile_many : (ns : List ℕ) → length (map (λ n. Fixed n) ns ++ Open ∷ []) ≡ suc (length ns)
tile_many [] = refl
tile_many (n ∷ ns) = ap suc (tile_many ns)

-- a tile has one item more than there are fixed extents
pub dims_are : (p : PlainProgram) → length (tile_of p) ≡ suc (length p.extents)
dims_are p = tile_many p.extents

and_false : (a b : Bool) → b ≡ false → (a && b) ≡ false
and_false true b e = e
and_false false b e = refl

pass_dims : (p : PlainProgram) → IsValid p → Passes (has_wrong_dims (outline p) (length (tile_of p))) p
pass_dims p v = record {
  cells = λ line k ds there. and_false (is_tensor (outline p) (word line (tensor_name p k))) _ (same_length (length ds) (length (tile_of p)) (there.many ∙
      sym (dims_are p)));
  values = λ line k i q e h. refl;
  lefts = λ w. same_length (length (zeros p)) (length (tile_of p)) (zeros_many p.extents ∙ sym (dims_are p));
  sizes = λ line n e. refl;
}

abbrev wrong_by : List ℕ → Option ParamLine → Bool
wrong_by is r = elim r as (λ (x : Option ParamLine). Bool) [ None ↦ true | Some q ↦ not (are_below is q.sizes) ]

good_value : (p : PlainProgram) → IsValid p → (line k i : ℕ) (q : PlainParam) → slice_get p.params k ≡ Some q → i < size q.sizes →
    is_wrong_site (outline p) (Value (word line q.name) (indexes q.sizes i)) ≡ false
good_value p v line k i q e h =
    let at : IsParamAt (outline p).params k q (word line q.name) = (knows p v).params line k q e in
    let ix : IsIndexed (sizes_on at.line q.sizes) (indexes q.sizes i) i = indexed at.line q.sizes i ((knows p v).two k q e) h in
    ap (wrong_by (indexes q.sizes i)) at.found ∙ ap not ix.below

pass_uses : (p : PlainProgram) → IsValid p → Passes (is_wrong_site (outline p)) p
pass_uses p v = record {
  cells = λ line k ds there. ap not (are_tensors p v line k there.within);
  values = good_value p v;
  lefts = λ w. refl;
  sizes = λ line n e. e;
}

mapped_none : {A B : Type 0} (f : A → B) (a : Option A) → a ≡ None → option_map f a ≡ None
mapped_none f a e = ap (option_map f) e

-- each name in a formula is declared
pub all_known : (p : PlainProgram) → IsValid p → unknown_name (outline p) ≡ None
unfolding outline_of outline_in statements_of
all_known p v =
    ap (option_map site_line) (sites_none (is_unknown (outline p).declared) p 6 p.params (pass_unknown p v)
    (tensors_ordered p v) v.sound.parts.params v.sound.parts.uses)

dims_by : (p : PlainProgram) → IsValid p → find (has_wrong_dims (outline p) (length (tile_of p))) (outline p).sites ≡ None
unfolding outline_of outline_in statements_of
dims_by p v =
    sites_none (has_wrong_dims (outline p) (length (tile_of p))) p 6 p.params (pass_dims p v) (tensors_ordered p v) v.sound.parts.params v.sound.parts.uses

-- each left side and cell has as many offsets as the tile has items
pub dims_fine : (p : PlainProgram) → IsValid p → wrong_dims (outline p) ≡ None
dims_fine p v = ap (wrong_dims_beside (outline p)) (tile_is p v) ∙ ap (option_map site_line) (dims_by p v)

uses_by : (p : PlainProgram) → IsValid p → find (is_wrong_site (outline p)) (outline p).sites ≡ None
unfolding outline_of outline_in statements_of
uses_by p v =
    sites_none (is_wrong_site (outline p)) p 6 p.params (pass_uses p v) (tensors_ordered p v) v.sound.parts.params v.sound.parts.uses

-- each param is used with as many indexes as it has sizes, each below its size
pub uses_fine : (p : PlainProgram) → IsValid p → param_use (outline p) ≡ None
uses_fine p v = ap (option_map site_line) (uses_by p v)

types_by : (test : Word → Bool) (p : PlainProgram) → IsValid p → IsSizedProgram p →
    ((line : ℕ) (t : IntType) → IsType t → test (word line (type_text t)) ≡ false) → line_where test (outline p).types ≡ None
unfolding outline_of outline_in statements_of
types_by test p v s h =
    ap (option_map (λ (w : Word). w.line)) (types_none test p 6 p.params h (tensors_ordered p v) s.params s.tensors)

-- the conditions on names and types hold
pub names_fine : (p : PlainProgram) → IsValid p → IsSizedProgram p → KeepsNames (outline p)
names_fine p v s = record {
  missing = none_missing p v;
  twice = none_twice p v;
  floats = types_by (λ w. is_float w.text) p v s (λ line t h. no_float t);
  widths = types_by (λ w. is_none (type_of w.text)) p v s (λ line t h. ap is_none (type_known t h));
  names = names_once p v;
  known = all_known p v;
  dims = dims_fine p v;
}
