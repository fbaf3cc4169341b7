-- The lines of a canonical text have bytes alone that show.
use Rattle.std.proofs.Common.{◌≡◌, ℕ, suc, ◌<◌, ◌≤◌, ◌^◌, ◌==◌, Bool, true, false, ◌&&◌, inl, inr, nat_le, nat_lt, lit<, lit≤, List, [], ◌∷◌, ◌++◌, map, length, Option, Some, None, ℤ, pos, negsuc, unsigned_abs, refl, ap, ◌∙◌, arith, codes, if◌then◌else◌}
use Rattle.std.specs.Fmt.{decimal, signed_decimal}
use Rattle.std.specs.List.{list_all}
use Rattle.std.proofs.lemmas.Bool.Decides.{nat_tests}
use Rattle.std.proofs.lemmas.Fmt.{digits_decimal}
use Rattle.std.proofs.lemmas.Bool.{and_from, and_parts, or_cases}
use Rattle.soda_words.specs.declared.operators.UnOp.{UnOp}
use Rattle.soda_words.specs.declared.operators.UnOp.TheVariants.{Plus, Minus, Flip, Not, Abs}
use Rattle.soda_words.specs.declared.operators.BinOp.{BinOp}
use Rattle.soda_words.specs.declared.operators.BinOp.TheVariants.{LogOr, LogAnd, BitOr, BitXor, BitAnd, Eq, Ne, Lt, Le, Gt, Ge, Add, Sub, Mul, Div, Rem, Min, Max}
use Rattle.soda_ir.specs.Formula.{Formula, number, read, param, unary, binary, choice, cast}
use Rattle.soda_ir.specs.Program.{PlainParam, PlainProgram, PlainTensor}
use Rattle.soda_ir.specs.Written.{left_pairs, operand_pairs, right_pairs}
use Rattle.soda_words.proofs.CallerLemmas.{digits_words, own}
use Rattle.soda_words.specs.Names.{begins_name, is_digit, is_letter, is_name, is_word_byte}
use Rattle.soda_print.specs.Canonical.{behind_commas, binary_text, binary_word, border_word, canonical_lines, formula_text, headed, in_pairs, indexes, indexes_text, left_text, listed, param_line, parted, role_word, setting_lines, tensor_line, tensor_name, tile_text, type_text, unary_text, value_text}
use Rattle.soda_print.proofs.Read.{AreParams, AreSettings, AreTensors, IsBody, IsReadBack, border_named, role_named}
use Rattle.soda_words.specs.IntType.{IntType}
use Rattle.soda_print.proofs.Tokens.{are_word_bytes}
use Rattle.soda_print.proofs.Tokenized.{AreSmall, AreWords, IsValueThere, IsWritable, value_is}

-- a byte that shows: no control byte, and none of 127 or more
abbrev pub is_printable : ℕ → Bool
is_printable b = nat_le 32 b && nat_lt b 127

abbrev pub are_printable : List ℕ → Bool
are_printable bs = list_all is_printable bs

pub printable_append : (v w : List ℕ) → are_printable v ≡ true → are_printable w ≡ true → are_printable (v ++ w) ≡ true
printable_append [] w h k = k
printable_append (b ∷ v) w h k =
    and_from (is_printable b) (are_printable (v ++ w)) ((and_parts (is_printable b) (are_printable v) h).0)
    (printable_append v w ((and_parts (is_printable b) (are_printable v) h).1) k)

between : (low high b : ℕ) → nat_le low b ≡ true → nat_le b high ≡ true → 32 ≤ low → high < 127 → is_printable b ≡ true
between low high b h k l m = and_from (nat_le 32 b) (nat_lt b 127) (grind (arith, nat_tests)) (grind (arith, nat_tests))

just : (b : ℕ) → b == 95 ≡ true → is_printable b ≡ true
just b h = and_from (nat_le 32 b) (nat_lt b 127) (grind (arith, nat_tests)) (grind (arith, nat_tests))

within : (low high b : ℕ) → (nat_le low b && nat_le b high) ≡ true → 32 ≤ low → high < 127 → is_printable b ≡ true
within low high b h l m = let both = and_parts (nat_le low b) (nat_le b high) h in between low high b both.0 both.1 l m

letter_printable : (b : ℕ) → is_letter b ≡ true → is_printable b ≡ true
letter_printable b h = elim (or_cases (nat_le 65 b && nat_le b 90) (nat_le 97 b && nat_le b 122) h) [
  | inl p ↦ within 65 90 b p (lit≤ tt) (lit< tt)
  | inr q ↦ within 97 122 b q (lit≤ tt) (lit< tt)
]

begin_printable : (b : ℕ) → begins_name b ≡ true → is_printable b ≡ true
begin_printable b h = elim (or_cases (is_letter b) (b == 95) h) [ inl p ↦ letter_printable b p | inr q ↦ just b q ]

word_printable : (b : ℕ) → is_word_byte b ≡ true → is_printable b ≡ true
word_printable b h =
    elim (or_cases (begins_name b) (is_digit b) h) [ inl p ↦ begin_printable b p | inr q ↦ within 48 57 b q (lit≤ tt) (lit< tt) ]

words_printable : (w : List ℕ) → are_word_bytes w ≡ true → are_printable w ≡ true
words_printable [] h = refl
words_printable (b ∷ w) h =
    and_from (is_printable b) (are_printable w) (word_printable b ((and_parts (is_word_byte b) (are_word_bytes w) h).0))
    (words_printable w ((and_parts (is_word_byte b) (are_word_bytes w) h).1))

pub name_printable : (w : List ℕ) → is_name w ≡ true → are_printable w ≡ true
name_printable [] h = cc
name_printable (b ∷ w) h =
    let lead : (begins_name b && are_word_bytes w) ≡ true = (and_parts (begins_name b && are_word_bytes w) (nat_lt (length w) 64) h).0 in
    and_from (is_printable b) (are_printable w) (begin_printable b ((and_parts (begins_name b) (are_word_bytes w) lead).0))
    (words_printable w ((and_parts (begins_name b) (are_word_bytes w) lead).1))

pub number_printable : (n : ℕ) → n < 2 ^ 64 → are_printable (decimal n) ≡ true
number_printable n h = words_printable (decimal n) (digits_words (decimal n) (digits_decimal own n h))

-- each text of a list
abbrev pub AllPrintable : List (List ℕ) → Type 0
AllPrintable [] = Unit {0}
AllPrintable (w ∷ ws) = (are_printable w ≡ true) × AllPrintable ws

commas_printable : (ws : List (List ℕ)) → AllPrintable ws → are_printable (behind_commas ws) ≡ true
commas_printable [] h = refl
commas_printable (w ∷ ws) h = printable_append w (behind_commas ws) h.0 (commas_printable ws h.1)

parted_printable : (ws : List (List ℕ)) → AllPrintable ws → are_printable (parted ws) ≡ true
parted_printable [] h = refl
parted_printable (w ∷ ws) h = printable_append w (behind_commas ws) h.0 (commas_printable ws h.1)

listed_printable : (ws : List (List ℕ)) → AllPrintable ws → are_printable (listed ws) ≡ true
listed_printable ws h = printable_append (parted ws) (codes ")") (parted_printable ws h) refl

pair_printable : (none : Bool) (w : List ℕ) → are_printable w ≡ true
    → are_printable ((if none then [] else codes "(") ++ (w ++ (if none then [] else codes ")"))) ≡ true
pair_printable true w h = printable_append w [] h refl
pair_printable false w h = printable_append w (codes ")") h refl

in_pairs_printable : (pairs : ℕ) (w : List ℕ) → are_printable w ≡ true → are_printable (in_pairs pairs w) ≡ true
in_pairs_printable pairs w h = pair_printable (pairs == 0) w h

component_printable : (d : ℤ) → unsigned_abs d < 2 ^ 64 → are_printable (signed_decimal d) ≡ true
component_printable (pos n) h = number_printable n h
component_printable (negsuc n) h = number_printable (suc n) h

components_printable : (ds : List ℤ) → AreSmall ds → AllPrintable (map signed_decimal ds)
components_printable [] h = tt
components_printable (d ∷ ds) h = (component_printable d h.0, components_printable ds h.1)

index_printable : (is : List ℕ) → AreWords is → are_printable (indexes_text is) ≡ true
index_printable [] h = refl
index_printable (i ∷ is) h =
    printable_append (codes "[" ++ (decimal i ++ codes "]")) (indexes_text is) (printable_append (decimal i) (codes "]") (number_printable i h.0) refl)
    (index_printable is h.1)

value_printable : (p : PlainProgram) (k i : ℕ) → IsValueThere p k i → are_printable (value_text p k i) ≡ true
value_printable p k i h =
    ap (λ (w : List ℕ). are_printable w) (value_is p k i h.param h.there)
    ∙ printable_append h.param.name (indexes_text (indexes h.param.sizes i)) (name_printable h.param.name h.name)
    (index_printable (indexes h.param.sizes i) h.small)

unary_printable : (op : UnOp) (pairs : ℕ) (w : List ℕ) → are_printable w ≡ true → are_printable (unary_text op pairs w) ≡ true
unfolding unary_text
unary_printable Plus pairs w h = in_pairs_printable pairs w h
unary_printable Minus pairs w h = in_pairs_printable pairs w h
unary_printable Flip pairs w h = in_pairs_printable pairs w h
unary_printable Not pairs w h = in_pairs_printable pairs w h
unary_printable Abs pairs w h = listed_printable (w ∷ []) (h, tt)

binary_printable : (op : BinOp) (left right : ℕ) (v w : List ℕ) → are_printable v ≡ true → are_printable w ≡ true
    → are_printable (binary_text op left right v w) ≡ true
unfolding binary_text
binary_printable LogOr left right v w h k = printable_append (in_pairs left v) (codes " " ++ (binary_word LogOr ++ (codes " " ++ in_pairs right w)))
    (in_pairs_printable left v h) (in_pairs_printable right w k)
binary_printable LogAnd left right v w h k = printable_append (in_pairs left v) (codes " " ++ (binary_word LogAnd ++ (codes " " ++ in_pairs right w)))
    (in_pairs_printable left v h) (in_pairs_printable right w k)
binary_printable BitOr left right v w h k = printable_append (in_pairs left v) (codes " " ++ (binary_word BitOr ++ (codes " " ++ in_pairs right w)))
    (in_pairs_printable left v h) (in_pairs_printable right w k)
binary_printable BitXor left right v w h k = printable_append (in_pairs left v) (codes " " ++ (binary_word BitXor ++ (codes " " ++ in_pairs right w)))
    (in_pairs_printable left v h) (in_pairs_printable right w k)
binary_printable BitAnd left right v w h k = printable_append (in_pairs left v) (codes " " ++ (binary_word BitAnd ++ (codes " " ++ in_pairs right w)))
    (in_pairs_printable left v h) (in_pairs_printable right w k)
binary_printable Eq left right v w h k = printable_append (in_pairs left v) (codes " " ++ (binary_word Eq ++ (codes " " ++ in_pairs right w)))
    (in_pairs_printable left v h) (in_pairs_printable right w k)
binary_printable Ne left right v w h k = printable_append (in_pairs left v) (codes " " ++ (binary_word Ne ++ (codes " " ++ in_pairs right w)))
    (in_pairs_printable left v h) (in_pairs_printable right w k)
binary_printable Lt left right v w h k = printable_append (in_pairs left v) (codes " " ++ (binary_word Lt ++ (codes " " ++ in_pairs right w)))
    (in_pairs_printable left v h) (in_pairs_printable right w k)
binary_printable Le left right v w h k = printable_append (in_pairs left v) (codes " " ++ (binary_word Le ++ (codes " " ++ in_pairs right w)))
    (in_pairs_printable left v h) (in_pairs_printable right w k)
binary_printable Gt left right v w h k = printable_append (in_pairs left v) (codes " " ++ (binary_word Gt ++ (codes " " ++ in_pairs right w)))
    (in_pairs_printable left v h) (in_pairs_printable right w k)
binary_printable Ge left right v w h k = printable_append (in_pairs left v) (codes " " ++ (binary_word Ge ++ (codes " " ++ in_pairs right w)))
    (in_pairs_printable left v h) (in_pairs_printable right w k)
binary_printable Add left right v w h k = printable_append (in_pairs left v) (codes " " ++ (binary_word Add ++ (codes " " ++ in_pairs right w)))
    (in_pairs_printable left v h) (in_pairs_printable right w k)
binary_printable Sub left right v w h k = printable_append (in_pairs left v) (codes " " ++ (binary_word Sub ++ (codes " " ++ in_pairs right w)))
    (in_pairs_printable left v h) (in_pairs_printable right w k)
binary_printable Mul left right v w h k = printable_append (in_pairs left v) (codes " " ++ (binary_word Mul ++ (codes " " ++ in_pairs right w)))
    (in_pairs_printable left v h) (in_pairs_printable right w k)
binary_printable Div left right v w h k = printable_append (in_pairs left v) (codes " " ++ (binary_word Div ++ (codes " " ++ in_pairs right w)))
    (in_pairs_printable left v h) (in_pairs_printable right w k)
binary_printable Rem left right v w h k = printable_append (in_pairs left v) (codes " " ++ (binary_word Rem ++ (codes " " ++ in_pairs right w)))
    (in_pairs_printable left v h) (in_pairs_printable right w k)
binary_printable Min left right v w h k = listed_printable (v ∷ w ∷ []) (h, (k, tt))
binary_printable Max left right v w h k = listed_printable (v ∷ w ∷ []) (h, (k, tt))

-- a formula's text
pub formula_printable : (p : PlainProgram) (f : Formula) → IsWritable p f → are_printable (formula_text p f) ≡ true
formula_printable p (number n) h = number_printable n h
formula_printable p (read t o) h =
    printable_append (tensor_name p t) (listed (map signed_decimal o)) (name_printable (tensor_name p t) h.0)
    (listed_printable (map signed_decimal o) (components_printable o h.1))
formula_printable p (param k i) h = value_printable p k i h
formula_printable p (unary op a) h = unary_printable op (operand_pairs op a) (formula_text p a) (formula_printable p a h)
formula_printable p (binary op a b) h =
    binary_printable op (left_pairs op a) (right_pairs op b) (formula_text p a) (formula_text p b) (formula_printable p a h.0) (formula_printable p b h.1)
formula_printable p (choice c a b) h =
    listed_printable (formula_text p c ∷ formula_text p a ∷ formula_text p b ∷ [])
    (formula_printable p c h.0, (formula_printable p a h.1, (formula_printable p b h.2, tt)))
formula_printable p (cast t a) h =
    printable_append (type_text t) (listed (formula_text p a ∷ [])) (name_printable (type_text t) h.0)
    (listed_printable (formula_text p a ∷ []) (formula_printable p a h.1, tt))

all_append : (vs ws : List (List ℕ)) → AllPrintable vs → AllPrintable ws → AllPrintable (vs ++ ws)
all_append [] ws h k = k
all_append (v ∷ vs) ws h k = (h.0, all_append vs ws h.1 k)

settings_printable : (p : PlainProgram) → AreSettings p → AllPrintable (setting_lines p)
settings_printable p h = (
  name_printable p.kernel h.kernel,
  (
    number_printable p.burst h.burst,
    (number_printable p.unroll h.unroll, (number_printable p.iterate h.iterate, (name_printable (border_word p.border) (border_named p.border), tt))),
  ),
)

head_printable : (word : List ℕ) (ty : IntType) (name : List ℕ) → is_name word ≡ true → is_name (type_text ty) ≡ true → is_name name ≡ true
    → are_printable (headed word ty name) ≡ true
head_printable word ty name h k n =
    printable_append word (codes " " ++ (type_text ty ++ (codes ": " ++ name))) (name_printable word h)
    (printable_append (type_text ty) (codes ": " ++ name) (name_printable (type_text ty) k) (name_printable name n))

params_printable : (qs : List PlainParam) → AreParams qs → AllPrintable (map param_line qs)
params_printable [] h = tt
params_printable (q ∷ qs) h = (
  printable_append (headed (codes "param") q.ty q.name) (indexes_text q.sizes) (head_printable (codes "param") q.ty q.name refl h.0.ty h.0.name)
      (index_printable q.sizes h.0.sizes),
  params_printable qs h.1,
)

tile_printable : (ns : List ℕ) → AreWords ns → AllPrintable (map decimal ns ++ codes "*" ∷ [])
tile_printable [] h = (refl, tt)
tile_printable (n ∷ ns) h = (number_printable n h.0, tile_printable ns h.1)

zeros_printable : (ns : List ℕ) → AllPrintable (map (λ n. codes "0") ns ++ codes "0" ∷ [])
zeros_printable [] = (refl, tt)
zeros_printable (n ∷ ns) = (refl, zeros_printable ns)

body_printable : (p : PlainProgram) (o : Option Formula) → IsBody p o
    → are_printable (elim o as (λ v. List ℕ) [ None ↦ tile_text p | Some f ↦ left_text p ++ (codes " = " ++ formula_text p f) ]) ≡ true
body_printable p None h = listed_printable (map decimal p.extents ++ codes "*" ∷ []) (tile_printable p.extents h)
body_printable p (Some f) h =
    printable_append (left_text p) (codes " = " ++ formula_text p f)
    (listed_printable (map (λ n. codes "0") p.extents ++ codes "0" ∷ []) (zeros_printable p.extents)) (formula_printable p f h)

tensors_printable : (p : PlainProgram) (ts : List PlainTensor) → AreTensors p ts → AllPrintable (map (tensor_line p) ts)
tensors_printable p [] h = tt
tensors_printable p (t ∷ ts) h = (
  printable_append (headed (role_word t.role) t.ty t.name) _ (head_printable (role_word t.role) t.ty t.name (role_named t.role) h.0.ty h.0.name)
      (body_printable p t.formula h.0.body),
  tensors_printable p ts h.1,
)

-- each byte of each line of the canonical text shows
pub lines_printable : (p : PlainProgram) → IsReadBack p → AllPrintable (canonical_lines p)
lines_printable p h =
    all_append (setting_lines p) (map param_line p.params ++ map (tensor_line p) p.tensors) (settings_printable p h.settings)
    (all_append (map param_line p.params) (map (tensor_line p) p.tensors) (params_printable p.params h.params)
    (tensors_printable p p.tensors h.tensors))
