-- The tokens of a formula's text.
use Rattle.std.proofs.Common.{◌≡◌, ℕ, suc, ◌<◌, ◌^◌, ◌==◌, Bool, true, false, List, [], ◌∷◌, ◌++◌, map, Option, Some, None, slice_get, subst, ℤ, pos, negsuc, unsigned_abs, refl, sym, ap, ◌∙◌, append_assoc, append-nil, codes, if◌then◌else◌}
use Rattle.std.specs.Fmt.{decimal, signed_decimal}
use Rattle.soda_words.specs.declared.operators.UnOp.{UnOp}
use Rattle.soda_words.specs.declared.operators.UnOp.TheVariants.{Plus, Minus, Flip, Not, Abs}
use Rattle.soda_words.specs.declared.operators.BinOp.{BinOp}
use Rattle.soda_words.specs.declared.operators.BinOp.TheVariants.{LogOr, LogAnd, BitOr, BitXor, BitAnd, Eq, Ne, Lt, Le, Gt, Ge, Add, Sub, Mul, Div, Rem, Min, Max}
use Rattle.soda_words.specs.Names.{is_name}
use Rattle.soda_words.specs.Tokens.{front_of, tokens_behind}
use Rattle.soda_words.specs.declared.symbol.Symbol.TheVariants.{BarBar, AmpAmp, EqualEqual, BangEqual, LessEqual, GreaterEqual, Bar, Caret, Amp, Less, Greater, PlusSign, MinusSign, Star, Slash, Percent, Tilde, Bang, OpenRound, CloseRound, OpenSquare, CloseSquare, Comma}
use Rattle.soda_words.specs.declared.token.Placed.{Placed}
use Rattle.soda_words.specs.declared.token.Token.{Token}
use Rattle.soda_words.specs.declared.token.Token.TheVariants.{Name, Number, Sign}
use Rattle.soda_ir.specs.Formula.{Formula, number, read, param, unary, binary, choice, cast}
use Rattle.soda_ir.specs.Program.{PlainParam, PlainProgram}
use Rattle.soda_ir.specs.Written.{left_pairs, operand_pairs, right_pairs}
use Rattle.soda_print.specs.Canonical.{behind_commas, binary_text, binary_word, formula_text, in_pairs, indexes, indexes_text, listed, parted, tensor_name, type_text, unary_text, value_text}
use Rattle.soda_print.proofs.Tokens.{BeginsOther, Stops, bang_first, blank_first, close_first, close_square_first, comma_first, minus_first, name_begins, name_first, number_begins, number_first, on_line, open_first, open_square_first, plus_first, tilde_first}

-- these are the tokens of a text, whatever follows
abbrev pub Always : ℕ → List ℕ → List Token → Type 0
Always line w ts =
    (rest : List ℕ) → tokens_behind 0 line (w ++ rest) ≡ map (on_line line) ts ++ tokens_behind 0 line rest

-- the same, where a word ends behind it
abbrev pub Lexes : ℕ → List ℕ → List Token → Type 0
Lexes line w ts =
    (rest : List ℕ) → Stops rest → tokens_behind 0 line (w ++ rest) ≡ map (on_line line) ts ++ tokens_behind 0 line rest

-- a word ends where this text begins
abbrev pub Parts : List ℕ → Type 0
Parts w = (rest : List ℕ) → Stops (w ++ rest)

map-append : {A B : Type 0} (f : A → B) (xs ys : List A) → map f (xs ++ ys) ≡ map f xs ++ map f ys
map-append f [] ys = refl
map-append f (x ∷ xs) ys = ap (λ zs. f x ∷ zs) (map-append f xs ys)

pub joined : (line : ℕ) (v w rest : List ℕ) (ts us : List Token)
    → tokens_behind 0 line (v ++ (w ++ rest)) ≡ map (on_line line) ts ++ tokens_behind 0 line (w ++ rest)
    → tokens_behind 0 line (w ++ rest) ≡ map (on_line line) us ++ tokens_behind 0 line rest
    → tokens_behind 0 line ((v ++ w) ++ rest) ≡ map (on_line line) (ts ++ us) ++ tokens_behind 0 line rest
joined line v w rest ts us h k =
    ap (λ (bs : List ℕ). tokens_behind 0 line bs) (append_assoc v w rest) ∙ h
    ∙ ap (λ (ps : List Placed). map (on_line line) ts ++ ps) k
    ∙ sym (append_assoc (map (on_line line) ts) (map (on_line line) us) (tokens_behind 0 line rest))
    ∙ sym (ap (λ (ps : List Placed). ps ++ tokens_behind 0 line rest) (map-append (on_line line) ts us))

-- one text behind another
pub mark_then : (line : ℕ) (v w : List ℕ) (ts us : List Token) → Always line v ts → Lexes line w us → Lexes line (v ++ w) (ts ++ us)
mark_then line v w ts us h k rest s = joined line v w rest ts us (h (w ++ rest)) (k rest s)

pub then_mark : (line : ℕ) (v w : List ℕ) (ts us : List Token) → Lexes line v ts → Always line w us → Parts w → Always line (v ++ w) (ts ++ us)
then_mark line v w ts us h k p rest = joined line v w rest ts us (h (w ++ rest) (p rest)) (k rest)

pub mark_mark : (line : ℕ) (v w : List ℕ) (ts us : List Token) → Always line v ts → Always line w us → Always line (v ++ w) (ts ++ us)
mark_mark line v w ts us h k rest = joined line v w rest ts us (h (w ++ rest)) (k rest)

pub always_lexes : (line : ℕ) (w : List ℕ) (ts : List Token) → Always line w ts → Lexes line w ts
always_lexes line w ts h rest s = h rest

nothing : (line : ℕ) → Always line [] []
nothing line rest = refl

an_open : (line : ℕ) → Always line (codes "(") (Sign OpenRound ∷ [])
an_open line rest = open_first rest line

a_close : (line : ℕ) → Always line (codes ")") (Sign CloseRound ∷ [])
a_close line rest = close_first rest line

a_comma : (line : ℕ) → Always line (codes ", ") (Sign Comma ∷ [])
a_comma line rest =
    comma_first (32 ∷ rest) line ∙ ap (λ (ts : List Placed). on_line line (Sign Comma) ∷ ts) (blank_first rest line)

pub a_name : (line : ℕ) (w : List ℕ) → is_name w ≡ true → Lexes line w (Name w ∷ [])
a_name line w h rest s = name_first w rest line h s

pub a_number : (line n : ℕ) → n < 2 ^ 64 → Lexes line (decimal n) (Number n ∷ [])
a_number line n h rest s = number_first n rest line h s

-- texts and their tokens, one by one
abbrev pub AllLex : ℕ → List (List ℕ) → List (List Token) → Type 0
AllLex line [] [] = Unit {0}
AllLex line [] (us ∷ uss) = ⊥
AllLex line (w ∷ ws) [] = ⊥
AllLex line (w ∷ ws) (us ∷ uss) = Lexes line w us × AllLex line ws uss

-- the tokens of a list
abbrev pub behind_comma_tokens : List (List Token) → List Token
behind_comma_tokens [] = []
behind_comma_tokens (ts ∷ tss) = (Sign Comma ∷ ts) ++ behind_comma_tokens tss

abbrev pub parted_tokens : List (List Token) → List Token
parted_tokens [] = []
parted_tokens (ts ∷ tss) = ts ++ behind_comma_tokens tss

abbrev pub listed_tokens : List (List Token) → List Token
listed_tokens tss = (Sign OpenRound ∷ []) ++ (parted_tokens tss ++ (Sign CloseRound ∷ []))

commas_part : (ws : List (List ℕ)) (rest : List ℕ) → Stops rest → Stops (behind_commas ws ++ rest)
commas_part [] rest s = s
commas_part (w ∷ ws) rest s = refl

behind_commas_lex : (line : ℕ) (ws : List (List ℕ)) (tss : List (List Token)) → AllLex line ws tss
    → Lexes line (behind_commas ws) (behind_comma_tokens tss)
behind_commas_lex line [] [] h rest s = refl
behind_commas_lex line [] (ts ∷ tss) h rest s = absurd h
behind_commas_lex line (w ∷ ws) [] h rest s = absurd h
behind_commas_lex line (w ∷ ws) (ts ∷ tss) h rest s =
    let here : Lexes line (codes ", " ++ w) (Sign Comma ∷ ts) = mark_then line (codes ", ") w (Sign Comma ∷ []) ts (a_comma line) h.0 in
    joined line (codes ", " ++ w) (behind_commas ws) rest (Sign Comma ∷ ts) (behind_comma_tokens tss)
    (here (behind_commas ws ++ rest) (commas_part ws rest s)) (behind_commas_lex line ws tss h.1 rest s)

parted_lex : (line : ℕ) (ws : List (List ℕ)) (tss : List (List Token)) → AllLex line ws tss → Lexes line (parted ws) (parted_tokens tss)
parted_lex line [] [] h rest s = refl
parted_lex line [] (ts ∷ tss) h rest s = absurd h
parted_lex line (w ∷ ws) [] h rest s = absurd h
parted_lex line (w ∷ ws) (ts ∷ tss) h rest s =
    joined line w (behind_commas ws) rest ts (behind_comma_tokens tss) (h.0 (behind_commas ws ++ rest) (commas_part ws rest s))
    (behind_commas_lex line ws tss h.1 rest s)

-- a list in round brackets
pub listed_lex : (line : ℕ) (ws : List (List ℕ)) (tss : List (List Token)) → AllLex line ws tss → Always line (listed ws) (listed_tokens tss)
listed_lex line ws tss h =
    mark_mark line (codes "(") (parted ws ++ codes ")") (Sign OpenRound ∷ []) (parted_tokens tss ++ (Sign CloseRound ∷ [])) (an_open line)
    (then_mark line (parted ws) (codes ")") (parted_tokens tss) (Sign CloseRound ∷ []) (parted_lex line ws tss h) (a_close line) (λ rest. refl))

-- the tokens of a component
abbrev pub component_tokens : ℤ → List Token
component_tokens (pos n) = Number n ∷ []
component_tokens (negsuc n) = Sign MinusSign ∷ Number (suc n) ∷ []

component_lex : (line : ℕ) (d : ℤ) → unsigned_abs d < 2 ^ 64 → Lexes line (signed_decimal d) (component_tokens d)
component_lex line (pos n) h = a_number line n h
component_lex line (negsuc n) h =
    λ rest s. minus_first (decimal (suc n) ++ rest) line
    ∙ ap (λ (ts : List Placed). on_line line (Sign MinusSign) ∷ ts) (number_first (suc n) rest line h s)

-- each component is below 2 ^ 64 in magnitude
abbrev pub AreSmall : List ℤ → Type 0
AreSmall [] = Unit {0}
AreSmall (d ∷ ds) = (unsigned_abs d < 2 ^ 64) × AreSmall ds

components_lex : (line : ℕ) (ds : List ℤ) → AreSmall ds → AllLex line (map signed_decimal ds) (map component_tokens ds)
components_lex line [] h = tt
components_lex line (d ∷ ds) h = (component_lex line d h.0, components_lex line ds h.1)

-- a call of this word
abbrev pub call_tokens : List ℕ → List (List Token) → List Token
call_tokens w tss = (Name w ∷ []) ++ listed_tokens tss

pub call_lex : (line : ℕ) (w : List ℕ) (ws : List (List ℕ)) (tss : List (List Token)) → is_name w ≡ true → AllLex line ws tss
    → Lexes line (w ++ listed ws) (call_tokens w tss)
call_lex line w ws tss n h =
    always_lexes line (w ++ listed ws) (call_tokens w tss)
    (then_mark line w (listed ws) (Name w ∷ []) (listed_tokens tss) (a_name line w n) (listed_lex line ws tss h) (λ rest. refl))

-- the tokens of a pair of brackets, if there is one
abbrev pub pair_tokens : ℕ → List Token → List Token
pair_tokens pairs ts =
    (if pairs == 0 then [] else Sign OpenRound ∷ []) ++ (ts ++ (if pairs == 0 then [] else Sign CloseRound ∷ []))

pair_lex : (none : Bool) (line : ℕ) (w : List ℕ) (ts : List Token) → Lexes line w ts
    → Lexes line ((if none then [] else codes "(") ++ (w ++ (if none then [] else codes ")")))
    ((if none then [] else Sign OpenRound ∷ []) ++ (ts ++ (if none then [] else Sign CloseRound ∷ [])))
pair_lex true line w ts h = rw (append-nil w, append-nil ts) h
pair_lex false line w ts h =
    always_lexes line (codes "(" ++ (w ++ codes ")")) ((Sign OpenRound ∷ []) ++ (ts ++ (Sign CloseRound ∷ [])))
    (mark_mark line (codes "(") (w ++ codes ")") (Sign OpenRound ∷ []) (ts ++ (Sign CloseRound ∷ [])) (an_open line)
    (then_mark line w (codes ")") ts (Sign CloseRound ∷ []) h (a_close line) (λ rest. refl)))

pub in_pairs_lex : (line pairs : ℕ) (w : List ℕ) (ts : List Token) → Lexes line w ts → Lexes line (in_pairs pairs w) (pair_tokens pairs ts)
in_pairs_lex line pairs w ts h = pair_lex (pairs == 0) line w ts h

-- the token of an operator of two operands that stands between them
abbrev pub infix_token : BinOp → Token
infix_token LogOr = Sign BarBar
infix_token LogAnd = Sign AmpAmp
infix_token BitOr = Sign Bar
infix_token BitXor = Sign Caret
infix_token BitAnd = Sign Amp
infix_token Eq = Sign EqualEqual
infix_token Ne = Sign BangEqual
infix_token Lt = Sign Less
infix_token Le = Sign LessEqual
infix_token Gt = Sign Greater
infix_token Ge = Sign GreaterEqual
infix_token Add = Sign PlusSign
infix_token Sub = Sign MinusSign
infix_token Mul = Sign Star
infix_token Div = Sign Slash
infix_token Rem = Sign Percent
infix_token Min = Name (codes "min")
infix_token Max = Name (codes "max")

between : (line : ℕ) (op : BinOp) (rest : List ℕ)
    → tokens_behind 0 line (codes " " ++ (binary_word op ++ (codes " " ++ rest))) ≡ on_line line (infix_token op) ∷ tokens_behind 0 line rest
unfolding tokens_behind front_of
between line LogOr rest = refl
between line LogAnd rest = refl
between line BitOr rest = refl
between line BitXor rest = refl
between line BitAnd rest = refl
between line Eq rest = refl
between line Ne rest = refl
between line Lt rest = refl
between line Le rest = refl
between line Gt rest = refl
between line Ge rest = refl
between line Add rest = refl
between line Sub rest = refl
between line Mul rest = refl
between line Div rest = refl
between line Rem rest = refl
between line Min rest = refl
between line Max rest = refl

-- an operator between its operands
infix_lex : (line : ℕ) (op : BinOp) (v w : List ℕ) (ts us : List Token) → Lexes line v ts → Lexes line w us
    → Lexes line (v ++ (codes " " ++ (binary_word op ++ (codes " " ++ w)))) (ts ++ (infix_token op ∷ us))
infix_lex line op v w ts us h k rest s =
    let tail : List ℕ = codes " " ++ (binary_word op ++ (codes " " ++ w)) in
    let same : tail ++ rest ≡ codes " " ++ (binary_word op ++ (codes " " ++ (w ++ rest))) = ap (λ (bs : List ℕ). 32 ∷ bs)
    (append_assoc (binary_word op) (codes " " ++ w) rest) in
    let there : tokens_behind 0 line (tail ++ rest) ≡ map (on_line line) (infix_token op ∷ us) ++ tokens_behind 0 line rest = ap
    (λ (bs : List ℕ). tokens_behind 0 line bs) same ∙ between line op (w ++ rest)
    ∙ ap (λ (ps : List Placed). on_line line (infix_token op) ∷ ps) (k rest s) in
    joined line v tail rest ts (infix_token op ∷ us) (h (tail ++ rest) refl) there

-- the tokens of an operator of two operands
abbrev pub binary_tokens : BinOp → (left right : ℕ) → List Token → List Token → List Token
binary_tokens LogOr left right ts us = pair_tokens left ts ++ (infix_token LogOr ∷ pair_tokens right us)
binary_tokens LogAnd left right ts us = pair_tokens left ts ++ (infix_token LogAnd ∷ pair_tokens right us)
binary_tokens BitOr left right ts us = pair_tokens left ts ++ (infix_token BitOr ∷ pair_tokens right us)
binary_tokens BitXor left right ts us = pair_tokens left ts ++ (infix_token BitXor ∷ pair_tokens right us)
binary_tokens BitAnd left right ts us = pair_tokens left ts ++ (infix_token BitAnd ∷ pair_tokens right us)
binary_tokens Eq left right ts us = pair_tokens left ts ++ (infix_token Eq ∷ pair_tokens right us)
binary_tokens Ne left right ts us = pair_tokens left ts ++ (infix_token Ne ∷ pair_tokens right us)
binary_tokens Lt left right ts us = pair_tokens left ts ++ (infix_token Lt ∷ pair_tokens right us)
binary_tokens Le left right ts us = pair_tokens left ts ++ (infix_token Le ∷ pair_tokens right us)
binary_tokens Gt left right ts us = pair_tokens left ts ++ (infix_token Gt ∷ pair_tokens right us)
binary_tokens Ge left right ts us = pair_tokens left ts ++ (infix_token Ge ∷ pair_tokens right us)
binary_tokens Add left right ts us = pair_tokens left ts ++ (infix_token Add ∷ pair_tokens right us)
binary_tokens Sub left right ts us = pair_tokens left ts ++ (infix_token Sub ∷ pair_tokens right us)
binary_tokens Mul left right ts us = pair_tokens left ts ++ (infix_token Mul ∷ pair_tokens right us)
binary_tokens Div left right ts us = pair_tokens left ts ++ (infix_token Div ∷ pair_tokens right us)
binary_tokens Rem left right ts us = pair_tokens left ts ++ (infix_token Rem ∷ pair_tokens right us)
binary_tokens Min left right ts us = call_tokens (codes "min") (ts ∷ us ∷ [])
binary_tokens Max left right ts us = call_tokens (codes "max") (ts ∷ us ∷ [])

binary_lex : (line : ℕ) (op : BinOp) (left right : ℕ) (v w : List ℕ) (ts us : List Token) → Lexes line v ts → Lexes line w us
    → Lexes line (binary_text op left right v w) (binary_tokens op left right ts us)
unfolding binary_text
binary_lex line LogOr left right v w ts us h k = infix_lex line LogOr (in_pairs left v) (in_pairs right w) (pair_tokens left ts)
    (pair_tokens right us) (in_pairs_lex line left v ts h) (in_pairs_lex line right w us k)
binary_lex line LogAnd left right v w ts us h k = infix_lex line LogAnd (in_pairs left v) (in_pairs right w) (pair_tokens left ts)
    (pair_tokens right us) (in_pairs_lex line left v ts h) (in_pairs_lex line right w us k)
binary_lex line BitOr left right v w ts us h k = infix_lex line BitOr (in_pairs left v) (in_pairs right w) (pair_tokens left ts)
    (pair_tokens right us) (in_pairs_lex line left v ts h) (in_pairs_lex line right w us k)
binary_lex line BitXor left right v w ts us h k = infix_lex line BitXor (in_pairs left v) (in_pairs right w) (pair_tokens left ts)
    (pair_tokens right us) (in_pairs_lex line left v ts h) (in_pairs_lex line right w us k)
binary_lex line BitAnd left right v w ts us h k = infix_lex line BitAnd (in_pairs left v) (in_pairs right w) (pair_tokens left ts)
    (pair_tokens right us) (in_pairs_lex line left v ts h) (in_pairs_lex line right w us k)
binary_lex line Eq left right v w ts us h k = infix_lex line Eq (in_pairs left v) (in_pairs right w) (pair_tokens left ts) (pair_tokens right us)
    (in_pairs_lex line left v ts h) (in_pairs_lex line right w us k)
binary_lex line Ne left right v w ts us h k = infix_lex line Ne (in_pairs left v) (in_pairs right w) (pair_tokens left ts) (pair_tokens right us)
    (in_pairs_lex line left v ts h) (in_pairs_lex line right w us k)
binary_lex line Lt left right v w ts us h k = infix_lex line Lt (in_pairs left v) (in_pairs right w) (pair_tokens left ts) (pair_tokens right us)
    (in_pairs_lex line left v ts h) (in_pairs_lex line right w us k)
binary_lex line Le left right v w ts us h k = infix_lex line Le (in_pairs left v) (in_pairs right w) (pair_tokens left ts) (pair_tokens right us)
    (in_pairs_lex line left v ts h) (in_pairs_lex line right w us k)
binary_lex line Gt left right v w ts us h k = infix_lex line Gt (in_pairs left v) (in_pairs right w) (pair_tokens left ts) (pair_tokens right us)
    (in_pairs_lex line left v ts h) (in_pairs_lex line right w us k)
binary_lex line Ge left right v w ts us h k = infix_lex line Ge (in_pairs left v) (in_pairs right w) (pair_tokens left ts) (pair_tokens right us)
    (in_pairs_lex line left v ts h) (in_pairs_lex line right w us k)
binary_lex line Add left right v w ts us h k = infix_lex line Add (in_pairs left v) (in_pairs right w) (pair_tokens left ts) (pair_tokens right us)
    (in_pairs_lex line left v ts h) (in_pairs_lex line right w us k)
binary_lex line Sub left right v w ts us h k = infix_lex line Sub (in_pairs left v) (in_pairs right w) (pair_tokens left ts) (pair_tokens right us)
    (in_pairs_lex line left v ts h) (in_pairs_lex line right w us k)
binary_lex line Mul left right v w ts us h k = infix_lex line Mul (in_pairs left v) (in_pairs right w) (pair_tokens left ts) (pair_tokens right us)
    (in_pairs_lex line left v ts h) (in_pairs_lex line right w us k)
binary_lex line Div left right v w ts us h k = infix_lex line Div (in_pairs left v) (in_pairs right w) (pair_tokens left ts) (pair_tokens right us)
    (in_pairs_lex line left v ts h) (in_pairs_lex line right w us k)
binary_lex line Rem left right v w ts us h k = infix_lex line Rem (in_pairs left v) (in_pairs right w) (pair_tokens left ts) (pair_tokens right us)
    (in_pairs_lex line left v ts h) (in_pairs_lex line right w us k)
binary_lex line Min left right v w ts us h k = call_lex line (codes "min") (v ∷ w ∷ []) (ts ∷ us ∷ []) refl (h, (k, tt))
binary_lex line Max left right v w ts us h k = call_lex line (codes "max") (v ∷ w ∷ []) (ts ∷ us ∷ []) refl (h, (k, tt))

-- the tokens of an operator of one operand
abbrev pub unary_tokens : UnOp → (pairs : ℕ) → List Token → List Token
unary_tokens Plus pairs ts = Sign PlusSign ∷ pair_tokens pairs ts
unary_tokens Minus pairs ts = Sign MinusSign ∷ pair_tokens pairs ts
unary_tokens Flip pairs ts = Sign Tilde ∷ pair_tokens pairs ts
unary_tokens Not pairs ts = Sign Bang ∷ pair_tokens pairs ts
unary_tokens Abs pairs ts = call_tokens (codes "abs") (ts ∷ [])

begins_more : (v w : List ℕ) → BeginsOther v → BeginsOther (v ++ w)
begins_more [] w h = absurd h
begins_more (b ∷ bs) w h = h

pair_begins : (none : Bool) (w : List ℕ) → BeginsOther w → BeginsOther ((if none then [] else codes "(") ++ (w ++ (if none then [] else codes ")")))
pair_begins true w h = begins_more w [] h
pair_begins false w h = refl

in_pairs_begin : (pairs : ℕ) (w : List ℕ) → BeginsOther w → BeginsOther (in_pairs pairs w)
in_pairs_begin pairs w h = pair_begins (pairs == 0) w h

bang_before : (line : ℕ) (w rest : List ℕ) → BeginsOther w
    → tokens_behind 0 line (33 ∷ (w ++ rest)) ≡ on_line line (Sign Bang) ∷ tokens_behind 0 line (w ++ rest)
bang_before line [] rest h = absurd h
bang_before line (b ∷ bs) rest h = bang_first b (bs ++ rest) line h

sign_lex : (line : ℕ) (t : Token) (w : List ℕ) (pairs : ℕ) (ts : List Token) (b : ℕ) → Lexes line w ts
    → ((rest : List ℕ) → tokens_behind 0 line (b ∷ (in_pairs pairs w ++ rest)) ≡ on_line line t ∷ tokens_behind 0 line (in_pairs pairs w ++ rest))
    → Lexes line (b ∷ in_pairs pairs w) (t ∷ pair_tokens pairs ts)
sign_lex line t w pairs ts b h lead =
    λ rest s. lead rest ∙ ap (λ (ps : List Placed). on_line line t ∷ ps) (in_pairs_lex line pairs w ts h rest s)

unary_lex : (line : ℕ) (op : UnOp) (pairs : ℕ) (w : List ℕ) (ts : List Token) → BeginsOther w → Lexes line w ts
    → Lexes line (unary_text op pairs w) (unary_tokens op pairs ts)
unfolding unary_text
unary_lex line Plus pairs w ts n h = sign_lex line (Sign PlusSign) w pairs ts 43 h (λ rest. plus_first (in_pairs pairs w ++ rest) line)
unary_lex line Minus pairs w ts n h = sign_lex line (Sign MinusSign) w pairs ts 45 h (λ rest. minus_first (in_pairs pairs w ++ rest) line)
unary_lex line Flip pairs w ts n h = sign_lex line (Sign Tilde) w pairs ts 126 h (λ rest. tilde_first (in_pairs pairs w ++ rest) line)
unary_lex line Not pairs w ts n h = sign_lex line (Sign Bang) w pairs ts 33 h
    (λ rest. bang_before line (in_pairs pairs w) rest (in_pairs_begin pairs w n))
unary_lex line Abs pairs w ts n h = call_lex line (codes "abs") (w ∷ []) (ts ∷ []) refl (h, tt)

-- the tokens of indexes
abbrev pub index_tokens : List ℕ → List Token
index_tokens [] = []
index_tokens (i ∷ is) = (Sign OpenSquare ∷ Number i ∷ Sign CloseSquare ∷ []) ++ index_tokens is

-- each index is below 2 ^ 64
abbrev pub AreWords : List ℕ → Type 0
AreWords [] = Unit {0}
AreWords (i ∷ is) = (i < 2 ^ 64) × AreWords is

index_lex : (line i : ℕ) → i < 2 ^ 64 → Always line (codes "[" ++ (decimal i ++ codes "]")) (Sign OpenSquare ∷ Number i ∷ Sign CloseSquare ∷ [])
index_lex line i h =
    mark_mark line (codes "[") (decimal i ++ codes "]") (Sign OpenSquare ∷ []) (Number i ∷ Sign CloseSquare ∷ [])
    (λ rest. open_square_first rest line) (then_mark line (decimal i) (codes "]") (Number i ∷ []) (Sign CloseSquare ∷ []) (a_number line i h)
    (λ rest. close_square_first rest line) (λ rest. refl))

pub indexes_lex : (line : ℕ) (is : List ℕ) → AreWords is → Always line (indexes_text is) (index_tokens is)
indexes_lex line [] h = nothing line
indexes_lex line (i ∷ is) h =
    mark_mark line (codes "[" ++ (decimal i ++ codes "]")) (indexes_text is) (Sign OpenSquare ∷ Number i ∷ Sign CloseSquare ∷ []) (index_tokens is)
    (index_lex line i h.0) (indexes_lex line is h.1)

pub indexes_part : (is : List ℕ) (rest : List ℕ) → Stops rest → Stops (indexes_text is ++ rest)
indexes_part [] rest s = s
indexes_part (i ∷ is) rest s = refl

value_lex : (line : ℕ) (w : List ℕ) (is : List ℕ) → is_name w ≡ true → AreWords is → Lexes line (w ++ indexes_text is) (Name w ∷ index_tokens is)
value_lex line w is n h rest s =
    joined line w (indexes_text is) rest (Name w ∷ []) (index_tokens is) (a_name line w n (indexes_text is ++ rest) (indexes_part is rest s))
    (indexes_lex line is h rest)

-- the tokens of a param's value
abbrev pub value_tokens : PlainProgram → (number place : ℕ) → List Token
value_tokens p k i = elim (slice_get p.params k) [ None ↦ [] | Some q ↦ Name q.name ∷ index_tokens (indexes q.sizes i) ]

-- a param is there, and its name and indexes are good ones
pub record IsValueThere (p : PlainProgram) (k i : ℕ) : Type 0 where
  pub param : PlainParam
  pub there : slice_get p.params k ≡ Some param
  pub name : is_name param.name ≡ true
  pub small : AreWords (indexes param.sizes i)

-- the tokens of a formula as it is written
abbrev pub formula_tokens : PlainProgram → Formula → List Token
formula_tokens p (number n) = Number n ∷ []
formula_tokens p (read t o) = (Name (tensor_name p t) ∷ []) ++ listed_tokens (map component_tokens o)
formula_tokens p (param k i) = value_tokens p k i
formula_tokens p (unary op a) = unary_tokens op (operand_pairs op a) (formula_tokens p a)
formula_tokens p (binary op a b) =
    binary_tokens op (left_pairs op a) (right_pairs op b) (formula_tokens p a) (formula_tokens p b)
formula_tokens p (choice c a b) =
    call_tokens (codes "select") (formula_tokens p c ∷ formula_tokens p a ∷ formula_tokens p b ∷ [])
formula_tokens p (cast t a) = call_tokens (type_text t) (formula_tokens p a ∷ [])

-- each name of a formula is a good one, and each number below 2 ^ 64
abbrev pub IsWritable : PlainProgram → Formula → Type 0
IsWritable p (number n) = n < 2 ^ 64
IsWritable p (read t o) = (is_name (tensor_name p t) ≡ true) × AreSmall o
IsWritable p (param k i) = IsValueThere p k i
IsWritable p (unary op a) = IsWritable p a
IsWritable p (binary op a b) = IsWritable p a × IsWritable p b
IsWritable p (choice c a b) = IsWritable p c × IsWritable p a × IsWritable p b
IsWritable p (cast t a) = (is_name (type_text t) ≡ true) × IsWritable p a

pub value_is : (p : PlainProgram) (k i : ℕ) (q : PlainParam) → slice_get p.params k ≡ Some q
    → value_text p k i ≡ q.name ++ indexes_text (indexes q.sizes i)
unfolding value_text
value_is p k i q e =
    ap (λ (o : Option PlainParam). elim o as (λ v. List ℕ) [ None ↦ [] | Some r ↦ r.name ++ indexes_text (indexes r.sizes i) ]) e

value_tokens_are : (p : PlainProgram) (k i : ℕ) (q : PlainParam) → slice_get p.params k ≡ Some q
    → value_tokens p k i ≡ Name q.name ∷ index_tokens (indexes q.sizes i)
value_tokens_are p k i q e =
    ap (λ (o : Option PlainParam). elim o as (λ v. List Token) [ None ↦ [] | Some r ↦ Name r.name ∷ index_tokens (indexes r.sizes i) ]) e

value_begins : (p : PlainProgram) (k i : ℕ) → IsValueThere p k i → BeginsOther (value_text p k i)
value_begins p k i h =
    let own : BeginsOther (h.param.name ++ indexes_text (indexes h.param.sizes i)) = begins_more h.param.name (indexes_text (indexes h.param.sizes i))
    (name_begins h.param.name h.name) in
    subst BeginsOther (sym (value_is p k i h.param h.there)) own

value_text_lex : (p : PlainProgram) (line k i : ℕ) → IsValueThere p k i → Lexes line (value_text p k i) (value_tokens p k i)
value_text_lex p line k i h =
    let own : Lexes line (h.param.name ++ indexes_text (indexes h.param.sizes i))
    (Name h.param.name ∷ index_tokens (indexes h.param.sizes i)) = value_lex line h.param.name (indexes h.param.sizes i) h.name h.small in
    let text : Lexes line (value_text p k i) (Name h.param.name ∷ index_tokens (indexes h.param.sizes i)) = subst
    (λ (w : List ℕ). Lexes line w (Name h.param.name ∷ index_tokens (indexes h.param.sizes i))) (sym (value_is p k i h.param h.there)) own in
    subst (λ (ts : List Token). Lexes line (value_text p k i) ts) (sym (value_tokens_are p k i h.param h.there)) text

binary_begins : (op : BinOp) (left right : ℕ) (v w : List ℕ) → BeginsOther v → BeginsOther (binary_text op left right v w)
unfolding binary_text
binary_begins LogOr left right v w h = begins_more (in_pairs left v) _ (in_pairs_begin left v h)
binary_begins LogAnd left right v w h = begins_more (in_pairs left v) _ (in_pairs_begin left v h)
binary_begins BitOr left right v w h = begins_more (in_pairs left v) _ (in_pairs_begin left v h)
binary_begins BitXor left right v w h = begins_more (in_pairs left v) _ (in_pairs_begin left v h)
binary_begins BitAnd left right v w h = begins_more (in_pairs left v) _ (in_pairs_begin left v h)
binary_begins Eq left right v w h = begins_more (in_pairs left v) _ (in_pairs_begin left v h)
binary_begins Ne left right v w h = begins_more (in_pairs left v) _ (in_pairs_begin left v h)
binary_begins Lt left right v w h = begins_more (in_pairs left v) _ (in_pairs_begin left v h)
binary_begins Le left right v w h = begins_more (in_pairs left v) _ (in_pairs_begin left v h)
binary_begins Gt left right v w h = begins_more (in_pairs left v) _ (in_pairs_begin left v h)
binary_begins Ge left right v w h = begins_more (in_pairs left v) _ (in_pairs_begin left v h)
binary_begins Add left right v w h = begins_more (in_pairs left v) _ (in_pairs_begin left v h)
binary_begins Sub left right v w h = begins_more (in_pairs left v) _ (in_pairs_begin left v h)
binary_begins Mul left right v w h = begins_more (in_pairs left v) _ (in_pairs_begin left v h)
binary_begins Div left right v w h = begins_more (in_pairs left v) _ (in_pairs_begin left v h)
binary_begins Rem left right v w h = begins_more (in_pairs left v) _ (in_pairs_begin left v h)
binary_begins Min left right v w h = refl
binary_begins Max left right v w h = refl

unary_begins : (op : UnOp) (pairs : ℕ) (w : List ℕ) → BeginsOther (unary_text op pairs w)
unfolding unary_text
unary_begins Plus pairs w = refl
unary_begins Minus pairs w = refl
unary_begins Flip pairs w = refl
unary_begins Not pairs w = refl
unary_begins Abs pairs w = refl

formula_begins : (p : PlainProgram) (f : Formula) → IsWritable p f → BeginsOther (formula_text p f)
formula_begins p (number n) h = number_begins n h
formula_begins p (read t o) h = begins_more (tensor_name p t) _ (name_begins (tensor_name p t) h.0)
formula_begins p (param k i) h = value_begins p k i h
formula_begins p (unary op a) h = unary_begins op (operand_pairs op a) (formula_text p a)
formula_begins p (binary op a b) h =
    binary_begins op (left_pairs op a) (right_pairs op b) (formula_text p a) (formula_text p b) (formula_begins p a h.0)
formula_begins p (choice c a b) h = refl
formula_begins p (cast t a) h = begins_more (type_text t) _ (name_begins (type_text t) h.0)

-- the text of a formula has these tokens
pub formula_lex : (p : PlainProgram) (line : ℕ) (f : Formula) → IsWritable p f → Lexes line (formula_text p f) (formula_tokens p f)
formula_lex p line (number n) h = a_number line n h
formula_lex p line (read t o) h =
    always_lexes line (tensor_name p t ++ listed (map signed_decimal o)) ((Name (tensor_name p t) ∷ []) ++ listed_tokens (map component_tokens o))
    (then_mark line (tensor_name p t) (listed (map signed_decimal o)) (Name (tensor_name p t) ∷ []) (listed_tokens (map component_tokens o))
    (a_name line (tensor_name p t) h.0) (listed_lex line (map signed_decimal o) (map component_tokens o) (components_lex line o h.1))
    (λ rest. refl))
formula_lex p line (param k i) h = value_text_lex p line k i h
formula_lex p line (unary op a) h =
    unary_lex line op (operand_pairs op a) (formula_text p a) (formula_tokens p a) (formula_begins p a h) (formula_lex p line a h)
formula_lex p line (binary op a b) h =
    binary_lex line op (left_pairs op a) (right_pairs op b) (formula_text p a) (formula_text p b) (formula_tokens p a) (formula_tokens p b)
    (formula_lex p line a h.0) (formula_lex p line b h.1)
formula_lex p line (choice c a b) h =
    call_lex line (codes "select") (formula_text p c ∷ formula_text p a ∷ formula_text p b ∷ [])
    (formula_tokens p c ∷ formula_tokens p a ∷ formula_tokens p b ∷ []) refl
    (formula_lex p line c h.0, (formula_lex p line a h.1, (formula_lex p line b h.2, tt)))
formula_lex p line (cast t a) h =
    call_lex line (type_text t) (formula_text p a ∷ []) (formula_tokens p a ∷ []) h.0 (formula_lex p line a h.1, tt)
