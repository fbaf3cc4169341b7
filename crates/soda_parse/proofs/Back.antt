-- What the statements of a program say is the program again: the parts of their outline.
use Rattle.std.proofs.Common.{◌≡◌, ℕ, suc, true, false, List, [], ◌∷◌, ◌++◌, map, Some, None, refl, sym, ap, ◌∙◌}
use Rattle.std.specs.Prelude.{flat_map, position}
use Rattle.std.specs.List.{list_any}
use Rattle.soda_words.specs.IntType.{IntType}
use Rattle.soda_checks.specs.Conditions.{first_tile}
use Rattle.soda_checks.specs.Outline.{outline_in, outline_of}
use Rattle.soda_checks.specs.declared.outline.Defined.{Defined}
use Rattle.soda_checks.specs.declared.outline.Outline.{Outline}
use Rattle.soda_ir.specs.Counts.{is_input_role}
use Rattle.soda_ir.specs.Formula.{Formula}
use Rattle.soda_ir.specs.Program.{PlainParam, PlainProgram, PlainTensor}
use Rattle.soda_ir.specs.declared.program.Role.TheVariants.{Input, Local, Output}
use Rattle.soda_parse.specs.Meaning.{fixed_in, formula_of as meant, input_of, int_type, param_of, tensors_in, tensor_number}
use Rattle.soda_print.specs.Canonical.{type_text}
use Rattle.soda_formula.specs.declared.statement.Extent.TheVariants.{Fixed, Open}
use Rattle.soda_formula.specs.declared.statement.InputLine.{InputLine}
use Rattle.soda_formula.specs.declared.statement.ParamLine.{ParamLine}
use Rattle.soda_formula.specs.declared.statement.Size.{Size}
use Rattle.soda_words.specs.declared.token.Word.{Word}
use Rattle.soda_words.specs.Names.{is_word}
use Rattle.soda_parse.proofs.Lookups.{place_in_two, place_mapped}
use Rattle.soda_parse.proofs.Statements.{AreDefined, none_defined, a_local, an_output, AreOrdered, no_input, an_input, declared_from, param_on, tensors_from, tile_of, word, written, zeros}
use Rattle.std.proofs.lemmas.List.{length-map}

-- the lines of params, from a line on
abbrev pub param_lines : ℕ → List PlainParam → List ParamLine
param_lines line [] = []
param_lines line (q ∷ qs) = param_on line q ∷ param_lines (suc line) qs

defined_params : (p : PlainProgram) (line : ℕ) {ts : List PlainTensor} → AreDefined ts → (outline_of (tensors_from p line ts)).params ≡ []
unfolding outline_of outline_in
defined_params p line none_defined = refl
defined_params p line (a_local n ty f more) = defined_params p (suc line) more
defined_params p line (an_output n ty f more) = defined_params p (suc line) more

tensor_params : (p : PlainProgram) (line : ℕ) {ts : List PlainTensor} → AreOrdered ts → (outline_of (tensors_from p line ts)).params ≡ []
unfolding outline_of outline_in
tensor_params p line (no_input d) = defined_params p line d
tensor_params p line (an_input n ty more) = tensor_params p (suc line) more

-- the params of the outline
pub outline_params : (p : PlainProgram) (line : ℕ) (qs : List PlainParam) {ts : List PlainTensor} → AreOrdered ts →
    (outline_of (declared_from p line qs ts)).params ≡ param_lines line qs
unfolding outline_of outline_in
outline_params p line [] d = tensor_params p line d
outline_params p line (q ∷ qs) d = ap (λ (rs : List ParamLine). param_on line q ∷ rs) (outline_params p (suc line) qs d)

defined_inputs : (p : PlainProgram) (line : ℕ) {ts : List PlainTensor} → AreDefined ts → (outline_of (tensors_from p line ts)).inputs ≡ []
unfolding outline_of outline_in
defined_inputs p line none_defined = refl
defined_inputs p line (a_local n ty f more) = defined_inputs p (suc line) more
defined_inputs p line (an_output n ty f more) = defined_inputs p (suc line) more

no_sources : {ts : List PlainTensor} → AreDefined ts → list_any (λ t. is_input_role t.role) ts ≡ false
no_sources none_defined = refl
no_sources (a_local n ty f more) = no_sources more
no_sources (an_output n ty f more) = no_sources more

tile_first : (p : PlainProgram) (line : ℕ) {ts : List PlainTensor} → AreOrdered ts → list_any (λ t. is_input_role t.role) ts ≡ true →
    first_tile (outline_of (tensors_from p line ts)).inputs ≡ Some (tile_of p)
unfolding outline_of outline_in
tile_first p line (no_input d) h = let none = no_sources d in cc
tile_first p line (an_input n ty more) h = refl

-- the first tile of the outline
pub outline_tile : (p : PlainProgram) (line : ℕ) (qs : List PlainParam) {ts : List PlainTensor} → AreOrdered ts →
    list_any (λ t. is_input_role t.role) ts ≡ true → first_tile (outline_of (declared_from p line qs ts)).inputs ≡ Some (tile_of p)
unfolding outline_of outline_in
outline_tile p line [] d h = tile_first p line d h
outline_tile p line (q ∷ qs) d h = outline_tile p (suc line) qs d h

-- the fixed extents of a tile are those that it was written of
pub fixed_back : (ns : List ℕ) → flat_map fixed_in (map (λ n. Fixed n) ns ++ Open ∷ []) ≡ ns
fixed_back [] = refl
fixed_back (n ∷ ns) = ap (λ (ms : List ℕ). n ∷ ms) (fixed_back ns)

-- the type of a word is read back
abbrev pub IsTyped : IntType → Type 0
IsTyped ty = (line : ℕ) → int_type (word line (type_text ty)) ≡ ty

sizes_back : (line : ℕ) (ns : List ℕ) → map (λ (s : Size). s.value) (map (λ n. record { line = line; value = n }) ns) ≡ ns
sizes_back line [] = refl
sizes_back line (n ∷ ns) = ap (λ (ms : List ℕ). n ∷ ms) (sizes_back line ns)

-- each of these params has a type that may be
abbrev pub AreTyped : List PlainParam → Type 0
AreTyped [] = Unit {0}
AreTyped (q ∷ qs) = IsTyped q.ty × AreTyped qs

param_back : (line : ℕ) (q : PlainParam) → IsTyped q.ty → param_of (param_on line q) ≡ q
param_back line q h =
    let one : ◌≡◌ {A = PlainParam} (param_of (param_on line q)) (record {
      name = q.name;
      ty = q.ty;
      sizes =
          map (λ (s : Size). s.value) (map (λ n. record { line = line; value = n }) q.sizes);
    }) =
    ap (λ (ty : IntType). record {
      name = q.name;
      ty = ty;
      sizes = map (λ (s : Size). s.value) (map (λ n. record {
        line = line;
        value =
            n;
      }) q.sizes);
    }) (h line) in
    one ∙ ap (λ (ns : List ℕ). record { name = q.name; ty = q.ty; sizes = ns }) (sizes_back line q.sizes)

-- the params of lines that were written of params are these
pub params_back : (line : ℕ) (qs : List PlainParam) → AreTyped qs → map param_of (param_lines line qs) ≡ qs
params_back line [] h = refl
params_back line (q ∷ qs) h =
    ap (λ (r : PlainParam). r ∷ map param_of (param_lines (suc line) qs)) (param_back line q h.0)
    ∙ ap (λ (rs : List PlainParam). q ∷ rs) (params_back (suc line) qs h.1)

-- a formula is read back as it was, on any line
abbrev pub IsBack : Outline → PlainProgram → Formula → Type 0
IsBack o p f = (line : ℕ) → meant o (zeros p) (written p line f) ≡ f

-- a tensor's type and formula, if it has one, are read back
abbrev pub IsTensorBack : Outline → PlainProgram → PlainTensor → Type 0
IsTensorBack o p t = IsTyped t.ty × (elim t.formula [ None ↦ Unit {0} | Some f ↦ IsBack o p f ])

-- the inputs, locals and outputs of this outline are these tensors, named in order
abbrev pub AreBack : Outline → PlainProgram → List PlainTensor → Type 0
AreBack o p [] = Unit {0}
AreBack o p (t ∷ ts) = IsTensorBack o p t × AreBack o p ts

made : (n : List ℕ) (role : _) (ty uy : IntType) (f g : Formula) (rest ts : List PlainTensor) → uy ≡ ty → g ≡ f → rest ≡ ts →
    ◌≡◌ {A = List PlainTensor} (record { name = n; ty = uy; role = role; formula = Some g } ∷ rest) (record {
      name = n;
      ty = ty;
      role = role;
      formula =
          Some f;
    } ∷ ts)
made n role ty uy f g rest ts a b c = rw (a, b, c) refl

defined_back : (o : Outline) (p : PlainProgram) (line : ℕ) {ts : List PlainTensor} → AreDefined ts → AreBack o p ts →
    flat_map (tensors_in o) (tensors_from p line ts) ≡ ts
defined_back o p line none_defined h = refl
defined_back o p line (a_local {ts} n ty f more) h =
    made n Local ty _ f _ _ ts (h.0.0 line) (h.0.1 line) (defined_back o p (suc line) more h.1)
defined_back o p line (an_output {ts} n ty f more) h =
    made n Output ty _ f _ _ ts (h.0.0 line) (h.0.1 line) (defined_back o p (suc line) more h.1)

abbrev source : List ℕ → IntType → PlainTensor
source n ty = record { name = n; ty = ty; role = Input; formula = None }

tensors_back : (o : Outline) (p : PlainProgram) (line : ℕ) {ts : List PlainTensor} → AreOrdered ts → AreBack o p ts →
    map input_of (outline_of (tensors_from p line ts)).inputs ++ flat_map (tensors_in o) (tensors_from p line ts) ≡ ts
unfolding outline_of outline_in
tensors_back o p line {ts} (no_input d) h =
    ap (λ (is : List InputLine). map input_of is ++ flat_map (tensors_in o) (tensors_from p line ts)) (defined_inputs p line d) ∙ defined_back o p line d h
tensors_back o p line (an_input {ts} n ty more) h =
    ap (λ (u : IntType). source n u ∷ (map input_of (outline_of (tensors_from p (suc line) ts)).inputs ++ flat_map (tensors_in o)
    (tensors_from p (suc line) ts))) (h.0.0 line)
    ∙ ap (λ (us : List PlainTensor). source n ty ∷ us) (tensors_back o p (suc line) more h.1)

-- the tensors of the statements
pub outline_tensors : (o : Outline) (p : PlainProgram) (line : ℕ) (qs : List PlainParam) {ts : List PlainTensor} → AreOrdered ts → AreBack o p ts →
    map input_of (outline_of (declared_from p line qs ts)).inputs ++ flat_map (tensors_in o) (declared_from p line qs ts) ≡ ts
unfolding outline_of outline_in
outline_tensors o p line [] d h = tensors_back o p line d h
outline_tensors o p line (q ∷ qs) d h = outline_tensors o p (suc line) qs d h

-- the names of the inputs, and of the locals and outputs behind them
abbrev pub tensor_names : Outline → List (List ℕ)
tensor_names o = map (λ (i : InputLine). i.name.text) o.inputs ++ map (λ (d : Defined). d.name.text) o.defined

defined_names : (p : PlainProgram) (line : ℕ) {ts : List PlainTensor} → AreDefined ts →
    map (λ (d : Defined). d.name.text) (outline_of (tensors_from p line ts)).defined ≡ map (λ (t : PlainTensor). t.name) ts
unfolding outline_of outline_in
defined_names p line none_defined = refl
defined_names p line (a_local n ty f more) = ap (λ (ws : List (List ℕ)). n ∷ ws) (defined_names p (suc line) more)
defined_names p line (an_output n ty f more) = ap (λ (ws : List (List ℕ)). n ∷ ws) (defined_names p (suc line) more)

ordered_names : (p : PlainProgram) (line : ℕ) {ts : List PlainTensor} → AreOrdered ts →
    tensor_names (outline_of (tensors_from p line ts)) ≡ map (λ (t : PlainTensor). t.name) ts
unfolding outline_of outline_in
ordered_names p line {ts} (no_input d) =
    ap (λ (is : List InputLine). map (λ (i : InputLine). i.name.text) is ++ map (λ (d : Defined). d.name.text)
    (outline_of (tensors_from p line ts)).defined) (defined_inputs p line d) ∙ defined_names p line d
ordered_names p line (an_input n ty more) = ap (λ (ws : List (List ℕ)). n ∷ ws) (ordered_names p (suc line) more)

-- the tensors' names
pub outline_names : (p : PlainProgram) (line : ℕ) (qs : List PlainParam) {ts : List PlainTensor} → AreOrdered ts →
    tensor_names (outline_of (declared_from p line qs ts)) ≡ map (λ (t : PlainTensor). t.name) ts
unfolding outline_of outline_in
outline_names p line [] d = ordered_names p line d
outline_names p line (q ∷ qs) d = outline_names p (suc line) qs d

-- the number of a tensor is the place of its name
pub number_is : (o : Outline) (w : Word) → tensor_number o w ≡ position (is_word w.text) (tensor_names o)
number_is o w =
    let a = place_mapped (is_word w.text) (λ (i : InputLine). i.name.text) o.inputs in
    let b = place_mapped (is_word w.text) (λ (d : Defined). d.name.text) o.defined in
    let both = place_in_two (is_word w.text) (map (λ (i : InputLine). i.name.text) o.inputs) (map (λ (d : Defined). d.name.text) o.defined) in
    rw (a, b, sym (length-map o.inputs (λ (i : InputLine). i.name.text))) both
