-- The canonical text of a program.
use Rattle.std.specs.Prelude.{ℕ, ◌/◌, ◌%◌, Bool, ◌==◌, List, [], ◌∷◌, ◌++◌, map, flat_map, codes, Some, None, slice_get, if◌then◌else◌}
use Rattle.std.specs.Fmt.{decimal, signed_decimal}
use Rattle.soda_words.specs.IntType.{IntType}
use Rattle.soda_words.specs.OperatorTable.{Row, binary_row, operand_level, unary_row}
use Rattle.soda_words.specs.declared.operators.UnOp.{UnOp}
use Rattle.soda_words.specs.declared.operators.BinOp.{BinOp}
use Rattle.soda_ir.specs.Formula.{Formula, number, read, param, unary, binary, choice, cast}
use Rattle.soda_ir.specs.Program.{PlainParam, PlainProgram, PlainTensor}
use Rattle.soda_ir.specs.Written.{left_pairs, operand_pairs, right_pairs}
use Rattle.soda_ir.specs.declared.program.Border.{Border}
use Rattle.soda_ir.specs.declared.program.Border.TheVariants.{Ignore, Preserve}
use Rattle.soda_ir.specs.declared.program.Role.{Role}
use Rattle.soda_ir.specs.declared.program.Role.TheVariants.{Input, Local, Output}

-- each text behind a comma and a blank
abbrev pub behind_commas : List (List ℕ) → List ℕ
behind_commas ws = flat_map (λ w. codes ", " ++ w) ws

-- a list of texts, parted by a comma and a blank
abbrev pub parted : List (List ℕ) → List ℕ
parted [] = []
parted (w ∷ ws) = w ++ behind_commas ws

-- a list of texts in round brackets
abbrev pub listed : List (List ℕ) → List ℕ
listed ws = codes "(" ++ (parted ws ++ codes ")")

-- so many pairs of round brackets round a text: one or none
abbrev pub opening : ℕ → List ℕ
opening pairs = if pairs == 0 then [] else codes "("

abbrev pub closing : ℕ → List ℕ
closing pairs = if pairs == 0 then [] else codes ")"

abbrev pub in_pairs : ℕ → List ℕ → List ℕ
in_pairs pairs w = opening pairs ++ (w ++ closing pairs)

-- a type: the word of its sign, and its width
unfoldable pub type_text : IntType → List ℕ
type_text t = (if t.signed then codes "int" else codes "uint") ++ decimal t.bits

-- how an operator of one operand is written
abbrev pub unary_word : UnOp → List ℕ
unary_word op = (unary_row op).spelling

-- how an operator of two operands is written
abbrev pub binary_word : BinOp → List ℕ
binary_word op = (binary_row op).spelling

-- an operator of this row is written as a call
abbrev pub is_call : Row → Bool
is_call r = r.level == operand_level

-- an operator of one operand: a call, or the operator in front of its operand, in so many pairs of brackets
unfoldable pub unary_text : UnOp → (pairs : ℕ) → List ℕ → List ℕ
unary_text op pairs a =
    if is_call (unary_row op) then unary_word op ++ listed (a ∷ []) else unary_word op ++ in_pairs pairs a

-- an operator between its operands, with a blank on each side
abbrev pub infix_text : (word left right : List ℕ) → List ℕ
infix_text word left right = left ++ (codes " " ++ (word ++ (codes " " ++ right)))

-- an operator of two operands: a call, or the operator between them, each in so many pairs of brackets
unfoldable pub binary_text : BinOp → (left right : ℕ) → List ℕ → List ℕ → List ℕ
binary_text op left right a b =
    if is_call (binary_row op) then binary_word op ++ listed (a ∷ b ∷ [])
    else infix_text (binary_word op) (in_pairs left a) (in_pairs right b)

-- the name of a tensor, and nothing past the last
unfoldable pub tensor_name : PlainProgram → ℕ → List ℕ
tensor_name p k = elim (slice_get p.tensors k) [ None ↦ [] | Some t ↦ t.name ]

-- the indexes of a place among the values of a param of at most two sizes, none of them 0: the last changes fastest
abbrev pub indexes : (sizes : List ℕ) (place : ℕ) → List ℕ
indexes [] i = []
indexes (n ∷ []) i = i ∷ []
indexes (n ∷ m ∷ ns) i = if m == 0 then [] else i / m ∷ i % m ∷ []

-- each index in square brackets
abbrev pub indexes_text : List ℕ → List ℕ
indexes_text is = flat_map (λ i. codes "[" ++ (decimal i ++ codes "]")) is

-- a param's value at a place, and nothing past the last param
unfoldable pub value_text : PlainProgram → (number place : ℕ) → List ℕ
value_text p k i = elim (slice_get p.params k) [ None ↦ [] | Some q ↦ q.name ++ indexes_text (indexes q.sizes i) ]

-- a formula
abbrev pub formula_text : PlainProgram → Formula → List ℕ
formula_text p (number n) = decimal n
formula_text p (read t o) = tensor_name p t ++ listed (map signed_decimal o)
formula_text p (param k i) = value_text p k i
formula_text p (unary op a) = unary_text op (operand_pairs op a) (formula_text p a)
formula_text p (binary op a b) =
    binary_text op (left_pairs op a) (right_pairs op b) (formula_text p a) (formula_text p b)
formula_text p (choice c a b) =
    codes "select" ++ listed (formula_text p c ∷ formula_text p a ∷ formula_text p b ∷ [])
formula_text p (cast t a) = type_text t ++ listed (formula_text p a ∷ [])

-- a statement's word, its type and its name
abbrev pub headed : (word : List ℕ) → IntType → (name : List ℕ) → List ℕ
headed word ty name = word ++ (codes " " ++ (type_text ty ++ (codes ": " ++ name)))

-- the line of a param, with each size in square brackets
abbrev pub param_line : PlainParam → List ℕ
param_line q = headed (codes "param") q.ty q.name ++ indexes_text q.sizes

unfoldable pub role_word : Role → List ℕ
role_word Input = codes "input"
role_word Local = codes "local"
role_word Output = codes "output"

-- the items of a tile: the fixed extents, and `*`
abbrev pub tile_items : (extents : List ℕ) → List (List ℕ)
tile_items extents = map decimal extents ++ codes "*" ∷ []

-- the tile of an input
abbrev pub tile_text : PlainProgram → List ℕ
tile_text p = listed (tile_items p.extents)

-- a zero for each dimension
abbrev pub left_items : (extents : List ℕ) → List (List ℕ)
left_items extents = map (λ n. codes "0") extents ++ codes "0" ∷ []

-- the left side of a formula
abbrev pub left_text : PlainProgram → List ℕ
left_text p = listed (left_items p.extents)

-- the line of a tensor: an input with its tile, a local or output with its formula
abbrev pub tensor_line : PlainProgram → PlainTensor → List ℕ
tensor_line p t =
    headed (role_word t.role) t.ty t.name
    ++ (elim t.formula [ None ↦ tile_text p | Some f ↦ left_text p ++ (codes " = " ++ formula_text p f) ])

unfoldable pub border_word : Border → List ℕ
border_word Ignore = codes "ignore"
border_word Preserve = codes "preserve"

-- the lines of the settings
abbrev pub setting_lines : PlainProgram → List (List ℕ)
setting_lines p =
    (codes "kernel: " ++ p.kernel)
    ∷ (codes "burst width: " ++ decimal p.burst)
    ∷ (codes "unroll factor: " ++ decimal p.unroll)
    ∷ (codes "iterate: " ++ decimal p.iterate)
    ∷ (codes "border: " ++ border_word p.border)
    ∷ []

-- the lines: the settings, the params, and the tensors, of which the inputs stand first in a valid program
abbrev pub canonical_lines : PlainProgram → List (List ℕ)
canonical_lines p = setting_lines p ++ (map param_line p.params ++ map (tensor_line p) p.tensors)

-- each line ended by a line feed
abbrev pub ended : List (List ℕ) → List ℕ
ended ws = flat_map (λ w. w ++ codes "\n") ws

-- the canonical text
unfoldable pub canonical : PlainProgram → List ℕ
canonical p = ended (canonical_lines p)
