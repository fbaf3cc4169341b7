-- The statements that the canonical text of a program says.
use Rattle.std.proofs.Common.{◌≡◌, ℕ, suc, Bool, true, not, List, [], ◌∷◌, ◌++◌, map, Some, None, Option, ℤ, pos}
use Rattle.std.specs.Prelude.{slice_get}
use Rattle.std.specs.List.{list_all}
use Rattle.soda_words.specs.IntType.{IntType}
use Rattle.soda_formula.specs.Terms.{Term, literal, cell, value, unary as unary_term, binary as binary_term, choice as choice_term, cast as cast_term}
use Rattle.soda_ir.specs.Counts.{is_input_role}
use Rattle.soda_ir.specs.Formula.{Formula, number, read, param as value_of, unary, binary, choice, cast}
use Rattle.soda_ir.specs.Program.{PlainParam, PlainProgram, PlainTensor, preserves}
use Rattle.soda_ir.specs.Valid.{has_formula_if_no_input, has_inputs_first}
use Rattle.soda_ir.specs.declared.program.Role.{Role}
use Rattle.soda_ir.specs.declared.program.Role.TheVariants.{Input, Local, Output}
use Rattle.soda_print.specs.Canonical.{indexes, tensor_name, type_text}
use Rattle.soda_formula.specs.Statements.{PlainFormulaLine, PlainStatement, kernel, burst_width, unroll_factor, iterate, border, param, input, local, output}
use Rattle.soda_formula.specs.declared.statement.Extent.{Extent}
use Rattle.soda_formula.specs.declared.statement.Extent.TheVariants.{Fixed, Open}
use Rattle.soda_formula.specs.declared.statement.InputLine.{InputLine}
use Rattle.soda_formula.specs.declared.statement.ParamLine.{ParamLine}
use Rattle.soda_words.specs.declared.token.Word.{Word}
use Rattle.soda_parse.proofs.SameTypes.{both_of}

-- a word on a line
abbrev pub word : ℕ → List ℕ → Word
word line w = record { line = line; text = w }

-- the value of a param at a place, as it is written
abbrev pub written_value : (line place : ℕ) → Option PlainParam → Term
written_value line i None = literal 0
written_value line i (Some q) = value (word line q.name) (indexes q.sizes i)

-- a formula as it is written on a line
abbrev pub written : PlainProgram → (line : ℕ) → Formula → Term
written p line (number n) = literal n
written p line (read t o) = cell (word line (tensor_name p t)) o
written p line (value_of k i) = written_value line i (slice_get p.params k)
written p line (unary op a) = unary_term op (written p line a)
written p line (binary op a b) = binary_term op (written p line a) (written p line b)
written p line (choice c a b) = choice_term (written p line c) (written p line a) (written p line b)
written p line (cast t a) = cast_term (word line (type_text t)) (written p line a)

-- the line of a param
abbrev pub param_on : ℕ → PlainParam → ParamLine
param_on line q = record { ty = word line (type_text q.ty); name = word line q.name; sizes = map (λ n. record { line = line; value = n }) q.sizes }

-- the tile of each input: the fixed extents, and `*`
abbrev pub tile_of : PlainProgram → List Extent
tile_of p = map (λ n. Fixed n) p.extents ++ Open ∷ []

-- the left side of each formula: a zero for each dimension
abbrev pub zeros : PlainProgram → List ℤ
zeros p = map (λ n. pos 0) p.extents ++ pos 0 ∷ []

-- an input on this line
abbrev pub input_on : PlainProgram → ℕ → IntType → List ℕ → InputLine
input_on p line ty name = record { ty = word line (type_text ty); name = word line name; tile = Some (tile_of p) }

-- a local or output on this line, with zeros on its left side
abbrev pub formula_on : PlainProgram → ℕ → IntType → List ℕ → Formula → PlainFormulaLine
formula_on p line ty name f = record { ty = word line (type_text ty); name = word line name; left = zeros p; formula = written p line f }

-- a formula's statement: an output's, and else a local's
abbrev pub with_formula : Role → PlainFormulaLine → PlainStatement
with_formula Output f = output f
with_formula _ f = local f

-- the statement of a tensor: an input where it has no formula
abbrev pub tensor_on : PlainProgram → ℕ → PlainTensor → PlainStatement
tensor_on p line t =
    elim t.formula [ None ↦ input (input_on p line t.ty t.name) | Some f ↦ with_formula t.role (formula_on p line t.ty t.name f) ]

-- the statements of tensors, from a line on
abbrev pub tensors_from : PlainProgram → ℕ → List PlainTensor → List PlainStatement
tensors_from p line [] = []
tensors_from p line (t ∷ ts) = tensor_on p line t ∷ tensors_from p (suc line) ts

-- the statements of params and then of tensors, from a line on
abbrev pub declared_from : PlainProgram → ℕ → List PlainParam → List PlainTensor → List PlainStatement
declared_from p line [] ts = tensors_from p line ts
declared_from p line (q ∷ qs) ts = param (param_on line q) ∷ declared_from p (suc line) qs ts

-- the statements of a program
unfoldable pub statements_of : PlainProgram → List PlainStatement
statements_of p =
    kernel 1 p.kernel ∷ burst_width 2 p.burst ∷ unroll_factor 3 p.unroll ∷ iterate 4 p.iterate ∷ border 5 (preserves p) ∷ declared_from p 6 p.params p.tensors

-- locals and outputs
pub data AreDefined : List PlainTensor → Type 0 where
  none_defined : AreDefined []
  a_local : {ts : List PlainTensor} (name : List ℕ) (ty : IntType) (f : Formula) → AreDefined ts →
      AreDefined (record { name = name; ty = ty; role = Local; formula = Some f } ∷ ts)
  an_output : {ts : List PlainTensor} (name : List ℕ) (ty : IntType) (f : Formula) → AreDefined ts →
      AreDefined (record { name = name; ty = ty; role = Output; formula = Some f } ∷ ts)

-- inputs, and behind them locals and outputs
pub data AreOrdered : List PlainTensor → Type 0 where
  no_input : {ts : List PlainTensor} → AreDefined ts → AreOrdered ts
  an_input : {ts : List PlainTensor} (name : List ℕ) (ty : IntType) → AreOrdered ts →
      AreOrdered (record { name = name; ty = ty; role = Input; formula = None } ∷ ts)

abbrev no_inputs : List PlainTensor → Bool
no_inputs ts = list_all (λ u. not (is_input_role u.role)) ts

one_defined : (n : List ℕ) (ty : IntType) (r : Role) (o : Option Formula) (ts : List PlainTensor) → not (is_input_role r) ≡ true →
    has_formula_if_no_input (record { name = n; ty = ty; role = r; formula = o }) ≡ true → AreDefined ts →
    AreDefined (record { name = n; ty = ty; role = r; formula = o } ∷ ts)
one_defined n ty Input o ts h k more = cc
one_defined n ty Local None ts h k more = cc
one_defined n ty Local (Some f) ts h k more = a_local n ty f more
one_defined n ty Output None ts h k more = cc
one_defined n ty Output (Some f) ts h k more = an_output n ty f more

defined : (ts : List PlainTensor) → no_inputs ts ≡ true → list_all has_formula_if_no_input ts ≡ true → AreDefined ts
defined [] h k = none_defined
defined (t ∷ ts) h k =
    let a = both_of (not (is_input_role t.role)) (no_inputs ts) h in
    let b = both_of (has_formula_if_no_input t) (list_all has_formula_if_no_input ts) k in
    one_defined t.name t.ty t.role t.formula ts a.0 b.0 (defined ts a.1 b.1)

one_ordered : (n : List ℕ) (ty : IntType) (r : Role) (o : Option Formula) (ts : List PlainTensor) →
    has_inputs_first (record { name = n; ty = ty; role = r; formula = o } ∷ ts) ≡ true →
    has_formula_if_no_input (record { name = n; ty = ty; role = r; formula = o }) ≡ true → (has_inputs_first ts ≡ true → AreOrdered ts) →
    (no_inputs ts ≡ true → AreDefined ts) → AreOrdered (record { name = n; ty = ty; role = r; formula = o } ∷ ts)
one_ordered n ty Input None ts h k more last = an_input n ty (more h)
one_ordered n ty Input (Some f) ts h k more last = cc
one_ordered n ty Local o ts h k more last = no_input (one_defined n ty Local o ts refl_true k (last h))
  where
    refl_true : true ≡ true
    refl_true = cc
one_ordered n ty Output o ts h k more last = no_input (one_defined n ty Output o ts refl_true k (last h))
  where
    refl_true : true ≡ true
    refl_true = cc

-- the tensors of a valid program are such
pub ordered : (ts : List PlainTensor) → has_inputs_first ts ≡ true → list_all has_formula_if_no_input ts ≡ true → AreOrdered ts
ordered [] h k = no_input none_defined
ordered (t ∷ ts) h k =
    let b = both_of (has_formula_if_no_input t) (list_all has_formula_if_no_input ts) k in
    one_ordered t.name t.ty t.role t.formula ts h b.0 (λ i. ordered ts i b.1) (λ i. defined ts i b.1)
