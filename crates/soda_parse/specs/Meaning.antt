-- The program that statements stand for.
use Rattle.std.specs.Prelude.{ℕ, ◌+◌, ◌*◌, Bool, false, ◌&&◌, nat_le, nat_lt, List, [], ◌∷◌, ◌++◌, map, length, Option, Some, None, option_map, unwrap_or, find, flat_map, position, if◌then◌else◌, ℤ, ◌-ℤ◌}
use Rattle.soda_words.specs.IntType.{IntType, int32}
use Rattle.soda_checks.specs.Conditions.{are_below, first_by, first_tile}
use Rattle.soda_checks.specs.Outline.{is_same, outline_of}
use Rattle.soda_checks.specs.Types.{type_of}
use Rattle.soda_checks.specs.declared.outline.Outline.{Outline}
use Rattle.soda_formula.specs.Terms.{Term, literal, cell, value, unary, binary, choice, cast}
use Rattle.soda_ir.specs.Formula.{Formula, number as number_formula, read as read_formula, param as param_formula, unary as unary_formula, binary as binary_formula, choice as choice_formula, cast as cast_formula}
use Rattle.soda_ir.specs.Program.{PlainProgram, PlainTensor, PlainParam}
use Rattle.soda_ir.specs.Uses.{is_near}
use Rattle.soda_ir.specs.declared.program.Border.{Border}
use Rattle.soda_ir.specs.declared.program.Border.TheVariants.{Ignore, Preserve}
use Rattle.soda_ir.specs.declared.program.Role.{Role}
use Rattle.soda_ir.specs.declared.program.Role.TheVariants.{Input, Local, Output}
use Rattle.soda_formula.specs.Statements.{PlainStatement, PlainFormulaLine, kernel, local, output}
use Rattle.soda_formula.specs.declared.statement.Extent.{Extent}
use Rattle.soda_formula.specs.declared.statement.Extent.TheVariants.{Fixed, Open}
use Rattle.soda_formula.specs.declared.statement.InputLine.{InputLine}
use Rattle.soda_formula.specs.declared.statement.ParamLine.{ParamLine}
use Rattle.soda_formula.specs.declared.statement.Size.{Size}
use Rattle.soda_words.specs.Limits.{most_dims, most_values}
use Rattle.soda_words.specs.Tokens.{or_else}
use Rattle.soda_words.specs.declared.token.Word.{Word}

-- the type of a word; int32 where it is none, which no accepted text has
abbrev pub int_type : Word → IntType
int_type w = unwrap_or (type_of w.text) int32

-- the number of a tensor: inputs first, then locals and outputs, each in text order
abbrev pub tensor_number : Outline → Word → Option ℕ
tensor_number o w =
    or_else (position (λ i. is_same w i.name) o.inputs)
    (option_map (λ k. length o.inputs + k) (position (λ d. is_same w d.name) o.defined))

-- an offset with the left side subtracted
abbrev pub shifted : List ℤ → List ℤ → List ℤ
shifted [] left = []
shifted (d ∷ ds) [] = d ∷ shifted ds []
shifted (d ∷ ds) (l ∷ ls) = (d -ℤ l) ∷ shifted ds ls

-- at most as many components as there are dimensions, each within the limit on offsets
abbrev pub is_offset : List ℤ → Bool
is_offset ds = nat_le (length ds) most_dims && is_near ds

-- an offset that may be; none where it may not, which no accepted text has
abbrev pub offset_or_none : List ℤ → List ℤ
offset_or_none ds = if is_offset ds then ds else []

-- the place that indexes name among the values of a param, which has at most two sizes: the last index changes fastest
abbrev pub place_at : List Size → List ℕ → ℕ
place_at [] is = 0
place_at (s ∷ []) [] = 0
place_at (s ∷ []) (i ∷ is) = i
place_at (s ∷ t ∷ ss) [] = 0
place_at (s ∷ t ∷ ss) (i ∷ []) = 0
place_at (s ∷ t ∷ ss) (i ∷ j ∷ is) = i * t.value + j

-- a place that may be; 0 where it may not, which no accepted text has
abbrev pub place_or_0 : ℕ → ℕ
place_or_0 n = if nat_lt n most_values then n else 0

-- the place of a param's value
abbrev pub place_of : List Size → List ℕ → ℕ
place_of sizes is = if are_below is sizes then place_or_0 (place_at sizes is) else 0

-- the cell of a tensor; 0 where the name is of none, which no accepted text has
abbrev pub cell_formula : Option ℕ → List ℤ → Formula
cell_formula None offset = number_formula 0
cell_formula (Some k) offset = read_formula k offset

-- the value of a param; 0 where the name is of none, which no accepted text has
abbrev pub value_formula : Option ℕ → Option ParamLine → List ℕ → Formula
value_formula None q is = number_formula 0
value_formula (Some k) None is = number_formula 0
value_formula (Some k) (Some q) is = param_formula k (place_of q.sizes is)

-- the value of the param of this name
abbrev pub named_value : List ParamLine → Word → List ℕ → Formula
named_value params w is =
    value_formula (position (λ q. is_same w q.name) params) (find (λ q. is_same w q.name) params) is

-- the formula that a written one stands for, behind these offsets on the left side, which are subtracted
abbrev pub formula_of : Outline → List ℤ → Term → Formula
formula_of o left (literal n) = number_formula n
formula_of o left (cell t offsets) = cell_formula (tensor_number o t) (offset_or_none (shifted offsets left))
formula_of o left (value p is) = named_value o.params p is
formula_of o left (unary op a) = unary_formula op (formula_of o left a)
formula_of o left (binary op a b) = binary_formula op (formula_of o left a) (formula_of o left b)
formula_of o left (choice c a b) = choice_formula (formula_of o left c) (formula_of o left a) (formula_of o left b)
formula_of o left (cast t a) = cast_formula (int_type t) (formula_of o left a)

-- the param of a line
abbrev pub param_of : ParamLine → PlainParam
param_of p = record { name = p.name.text; ty = int_type p.ty; sizes = map (λ s. s.value) p.sizes }

-- the input of a line
abbrev pub input_of : InputLine → PlainTensor
input_of i = record { name = i.name.text; ty = int_type i.ty; role = Input; formula = None }

-- the tensor of a line with a formula
abbrev pub tensor_of : Outline → Role → PlainFormulaLine → PlainTensor
tensor_of o role f = record {
  name = f.name.text;
  ty = int_type f.ty;
  role = role;
  formula = Some (formula_of o f.left f.formula);
}

-- the tensor of a local or output
abbrev pub tensors_in : Outline → PlainStatement → List PlainTensor
tensors_in o (local f) = tensor_of o Local f ∷ []
tensors_in o (output f) = tensor_of o Output f ∷ []
tensors_in o _ = []

-- the name of the program that a statement gives
abbrev pub kernel_in : PlainStatement → Option (List ℕ)
kernel_in (kernel l w) = Some w
kernel_in _ = None

-- the number of a fixed extent
abbrev pub fixed_in : Extent → List ℕ
fixed_in (Fixed n) = n ∷ []
fixed_in Open = []

-- the items of the first tile, and none where no input has one
abbrev pub tile_items : Outline → List Extent
tile_items o = unwrap_or (first_tile o.inputs) []

-- what the first statement of a kind says
abbrev pub first_or : {A : Type 0} → List A → A → A
first_or [] a = a
first_or (b ∷ rest) a = b

-- what stands outside the outputs' regions
abbrev pub border_of : Bool → Border
border_of preserve = if preserve then Preserve else Ignore

-- the program of statements that have this outline
abbrev pub program_by : Outline → List PlainStatement → PlainProgram
program_by o ss = record {
  kernel = unwrap_or (first_by kernel_in ss) [];
  burst = first_or o.bursts 0;
  unroll = first_or o.unrolls 0;
  iterate = first_or o.iterates 1;
  border = border_of (first_or o.preserves false);
  params = map param_of o.params;
  extents = flat_map fixed_in (tile_items o);
  tensors = map input_of o.inputs ++ flat_map (tensors_in o) ss;
}

-- the program that statements stand for
abbrev pub program_of : List PlainStatement → PlainProgram
program_of ss = program_by (outline_of ss) ss
