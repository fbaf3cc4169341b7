-- The tokens of a formula as it is written are that formula.
use Rattle.std.proofs.Common.{◌≡◌, ℕ, zero, suc, ◌<◌, ◌≤◌, ◌^◌, ◌==◌, ◌&&◌, ◌||◌, Bool, true, false, not, nat_lt, inl, inr, List, [], ◌∷◌, ◌++◌, length, map, Some, None, Option, refl, sym, ap, ◌∙◌, arith, append_assoc, append-nil, codes, subst, ℤ, pos, negsuc}
use Rattle.std.specs.Prelude.{slice_get, if◌then◌else◌}
use Rattle.std.specs.Fmt.{decimal}
use Rattle.std.proofs.lemmas.Bool.Decides.{eqb_tells, nat_tests}
use Rattle.soda_words.specs.OperatorTable.{binary_row, unary_row}
use Rattle.soda_words.specs.IntType.{IntType, IsType}
use Rattle.soda_words.specs.declared.operators.UnOp.{UnOp}
use Rattle.soda_words.specs.declared.operators.UnOp.TheVariants.{Plus, Minus, Flip, Not, Abs}
use Rattle.soda_words.specs.declared.operators.BinOp.{BinOp}
use Rattle.soda_words.specs.declared.operators.BinOp.TheVariants.{LogOr, LogAnd, BitOr, BitXor, BitAnd, Eq, Ne, Lt, Le, Gt, Ge, Add, Sub, Mul, Div, Rem, Min, Max}
use Rattle.soda_formula.specs.Terms.{Term, unary as unary_term, binary as binary_term, choice as choice_term, cast as cast_term}
use Rattle.soda_formula.specs.Grammar.{symbol_on, name_on, AreParted, last_item, item_before, InRound, IsComponent, ahead, back, AreOffsets, AreIndexes, no_index, index_before, infix_of, call_text, IsTerm, tighter, joined, prefixed, a_literal, bracketed, a_cast, an_abs, a_call, a_choice, a_cell, a_value, IsFormula}
use Rattle.soda_ir.specs.Formula.{Formula, number, read, param as value_of, unary, binary, choice, cast}
use Rattle.soda_ir.specs.Points.{size}
use Rattle.soda_ir.specs.Program.{PlainParam, PlainProgram}
use Rattle.soda_ir.specs.Uses.{each_use, is_good_cell, is_good_place}
use Rattle.soda_ir.specs.Written.{left_pairs, level_of, operand_pairs, pairs_round, right_pairs}
use Rattle.soda_print.specs.Canonical.{indexes, tensor_name, type_text}
use Rattle.soda_print.specs.Sized.{IsSized}
use Rattle.soda_words.proofs.CallerLemmas.{number_is}
use Rattle.soda_print.proofs.CallerLemmas.{behind_comma_tokens, binary_tokens, call_tokens, component_tokens, formula_tokens, index_tokens, listed_tokens, on_line, pair_tokens, unary_tokens}
use Rattle.soda_words.specs.Names.{is_cast_word, is_reserved, is_some_digits}
use Rattle.soda_words.specs.Tokens.{begins_with_zero, value_behind}
use Rattle.soda_words.specs.declared.symbol.Symbol.{Symbol}
use Rattle.soda_words.specs.declared.symbol.Symbol.TheVariants.{BarBar, AmpAmp, EqualEqual, BangEqual, LessEqual, GreaterEqual, Bar, Caret, Amp, Less, Greater, PlusSign, MinusSign, Star, Slash, Percent, Tilde, Bang, OpenRound, CloseRound, Comma}
use Rattle.soda_words.specs.declared.token.Placed.{Placed}
use Rattle.soda_words.specs.declared.token.Token.{Token}
use Rattle.soda_words.specs.declared.token.Token.TheVariants.{Name, Sign}
use Rattle.soda_parse.proofs.ReadBack.{cell_there}
use Rattle.soda_parse.proofs.SameTypes.{both_of}
use Rattle.soda_parse.proofs.Statements.{word, written, written_value}

-- tokens on one line
abbrev pub on : ℕ → List Token → List Placed
on line ts = map (on_line line) ts

-- tokens on a line are those of both parts on it
pub on_both : (line : ℕ) (ts us : List Token) → on line (ts ++ us) ≡ on line ts ++ on line us
on_both line [] us = refl
on_both line (t ∷ ts) us = ap (λ (ps : List Placed). on_line line t ∷ ps) (on_both line ts us)

-- a formula of a level is one of each looser level
pub loosen : {ts : List Placed} {a : Term} (l m : ℕ) → m ≤ l → IsTerm l ts a → IsTerm m ts a
loosen {ts} {a} zero m h t = let e : 0 ≡ m = omega arith in subst (λ (k : ℕ). IsTerm k ts a) e t
loosen {ts} {a} (suc l) m h t =
    elim (eqb_tells (suc l) m) [ inl e ↦ subst (λ (k : ℕ). IsTerm k ts a) e.1 t | inr n ↦ loosen l m (let ne = n.1 in omega arith) (tighter t) ]

in_brackets : (line : ℕ) (toks : List Token) (a : Term) → IsTerm 0 (on line toks) a →
    IsTerm 10 (on line ((Sign OpenRound ∷ []) ++ (toks ++ (Sign CloseRound ∷ [])))) a
in_brackets line toks a t =
    subst (λ (ps : List Placed). IsTerm 10 (symbol_on line OpenRound ∷ ps) a) (sym (on_both line toks (Sign CloseRound ∷ []))) (bracketed line line t)

paired_by : (b : Bool) (line level least : ℕ) (toks : List Token) (a : Term) → nat_lt level least ≡ b → least ≤ 10 → IsTerm level (on line toks) a →
    IsTerm least (on line (pair_tokens (if b then 1 else 0) toks)) a
paired_by true line level least toks a e h t =
    loosen 10 least h (in_brackets line toks a (loosen level 0 (omega arith) t))
paired_by false line level least toks a e h t =
    let le : least ≤ level = grind (arith, nat_tests) in
    subst (λ (us : List Token). IsTerm least (on line us) a) (sym (append-nil toks)) (loosen level least le t)

-- an operand, in brackets where it binds looser than asked
paired : (line least : ℕ) (f : Formula) (toks : List Token) (a : Term) → least ≤ 10 → IsTerm (level_of f) (on line toks) a →
    IsTerm least (on line (pair_tokens (pairs_round least f) toks)) a
paired line least f toks a h t = paired_by (nat_lt (level_of f) least) line (level_of f) least toks a refl h t

infix_term : (line k : ℕ) (s : Symbol) (op : BinOp) (f g : Formula) (ts us : List Token) (a b : Term) → infix_of s ≡ Some (record { level = k; op = op }) →
    k ≤ 9 → IsTerm (level_of f) (on line ts) a → IsTerm (level_of g) (on line us) b →
    IsTerm k (on line (pair_tokens (pairs_round k f) ts ++ (Sign s ∷ pair_tokens (pairs_round (suc k) g) us))) (binary_term op a b)
infix_term line k s op f g ts us a b e h t u =
    subst (λ (ps : List Placed). IsTerm k ps (binary_term op a b)) (sym (on_both line (pair_tokens (pairs_round k f) ts)
    (Sign s ∷ pair_tokens (pairs_round (suc k) g) us))) (joined line s op e (paired line k f ts a (omega arith) t)
    (paired line (suc k) g us b (omega arith) u))

one_inside : (line : ℕ) (ts : List Token) → on line ((ts ++ []) ++ (Sign CloseRound ∷ [])) ≡ on line ts ++ symbol_on line CloseRound ∷ []
one_inside line ts = ap (λ (us : List Token). on line (us ++ (Sign CloseRound ∷ []))) (append-nil ts) ∙ on_both line ts (Sign CloseRound ∷ [])

two_inside : (line : ℕ) (ts us : List Token) → on line ((ts ++ ((Sign Comma ∷ us) ++ [])) ++ (Sign CloseRound ∷ [])) ≡
    on line ts ++ symbol_on line Comma ∷ (on line us ++ symbol_on line CloseRound ∷ [])
two_inside line ts us =
    ap (on line) (append_assoc ts ((Sign Comma ∷ us) ++ []) (Sign CloseRound ∷ []))
    ∙ (on_both line ts (((Sign Comma ∷ us) ++ []) ++ (Sign CloseRound ∷ [])) ∙
    ap (λ (ps : List Placed). on line ts ++ symbol_on line Comma ∷ ps) (one_inside line us))

three_inside : (line : ℕ) (ts us vs : List Token) → on line ((ts ++ ((Sign Comma ∷ us) ++ ((Sign Comma ∷ vs) ++ []))) ++ (Sign CloseRound ∷ [])) ≡
    on line ts ++ symbol_on line Comma ∷ (on line us ++ symbol_on line Comma ∷ (on line vs ++ symbol_on line CloseRound ∷ []))
three_inside line ts us vs =
    ap (on line) (append_assoc ts ((Sign Comma ∷ us) ++ ((Sign Comma ∷ vs) ++ [])) (Sign CloseRound ∷ []))
    ∙ (on_both line ts (((Sign Comma ∷ us) ++ ((Sign Comma ∷ vs) ++ [])) ++ (Sign CloseRound ∷ [])) ∙
    ap (λ (ps : List Placed). on line ts ++ symbol_on line Comma ∷ ps) (two_inside line us vs))

call_term : (line : ℕ) (op : BinOp) (w : List ℕ) (ts us : List Token) (a b : Term) → call_text op ≡ Some w → IsTerm 0 (on line ts) a →
    IsTerm 0 (on line us) b → IsTerm 10 (on line (call_tokens w (ts ∷ us ∷ []))) (binary_term op a b)
call_term line op w ts us a b e t u =
    subst (λ (ps : List Placed). IsTerm 10 (name_on line w ∷ symbol_on line OpenRound ∷ ps) (binary_term op a b)) (sym (two_inside line ts us))
    (a_call line line line line op w e t u)

binary_by : (line : ℕ) (op : BinOp) (f g : Formula) (ts us : List Token) (a b : Term) → IsTerm (level_of f) (on line ts) a →
    IsTerm (level_of g) (on line us) b →
    IsTerm (binary_row op).level (on line (binary_tokens op (left_pairs op f) (right_pairs op g) ts us)) (binary_term op a b)
binary_by line LogOr f g ts us a b t u = infix_term line 0 BarBar LogOr f g ts us a b refl (omega arith) t u
binary_by line LogAnd f g ts us a b t u = infix_term line 1 AmpAmp LogAnd f g ts us a b refl (omega arith) t u
binary_by line BitOr f g ts us a b t u = infix_term line 2 Bar BitOr f g ts us a b refl (omega arith) t u
binary_by line BitXor f g ts us a b t u = infix_term line 3 Caret BitXor f g ts us a b refl (omega arith) t u
binary_by line BitAnd f g ts us a b t u = infix_term line 4 Amp BitAnd f g ts us a b refl (omega arith) t u
binary_by line Eq f g ts us a b t u = infix_term line 5 EqualEqual Eq f g ts us a b refl (omega arith) t u
binary_by line Ne f g ts us a b t u = infix_term line 5 BangEqual Ne f g ts us a b refl (omega arith) t u
binary_by line Lt f g ts us a b t u = infix_term line 6 Less Lt f g ts us a b refl (omega arith) t u
binary_by line Le f g ts us a b t u = infix_term line 6 LessEqual Le f g ts us a b refl (omega arith) t u
binary_by line Gt f g ts us a b t u = infix_term line 6 Greater Gt f g ts us a b refl (omega arith) t u
binary_by line Ge f g ts us a b t u = infix_term line 6 GreaterEqual Ge f g ts us a b refl (omega arith) t u
binary_by line Add f g ts us a b t u = infix_term line 7 PlusSign Add f g ts us a b refl (omega arith) t u
binary_by line Sub f g ts us a b t u = infix_term line 7 MinusSign Sub f g ts us a b refl (omega arith) t u
binary_by line Mul f g ts us a b t u = infix_term line 8 Star Mul f g ts us a b refl (omega arith) t u
binary_by line Div f g ts us a b t u = infix_term line 8 Slash Div f g ts us a b refl (omega arith) t u
binary_by line Rem f g ts us a b t u = infix_term line 8 Percent Rem f g ts us a b refl (omega arith) t u
binary_by line Min f g ts us a b t u =
    call_term line Min (codes "min") ts us a b refl (loosen (level_of f) 0 (omega arith) t) (loosen (level_of g) 0 (omega arith) u)
binary_by line Max f g ts us a b t u =
    call_term line Max (codes "max") ts us a b refl (loosen (level_of f) 0 (omega arith) t) (loosen (level_of g) 0 (omega arith) u)

unary_by : (line : ℕ) (op : UnOp) (f : Formula) (ts : List Token) (a : Term) → IsTerm (level_of f) (on line ts) a →
    IsTerm (unary_row op).level (on line (unary_tokens op (operand_pairs op f) ts)) (unary_term op a)
unary_by line Plus f ts a t = prefixed line PlusSign Plus refl (paired line 9 f ts a (omega arith) t)
unary_by line Minus f ts a t = prefixed line MinusSign Minus refl (paired line 9 f ts a (omega arith) t)
unary_by line Flip f ts a t = prefixed line Tilde Flip refl (paired line 9 f ts a (omega arith) t)
unary_by line Not f ts a t = prefixed line Bang Not refl (paired line 9 f ts a (omega arith) t)
unary_by line Abs f ts a t =
    subst (λ (ps : List Placed). IsTerm 10 (name_on line (codes "abs") ∷ symbol_on line OpenRound ∷ ps) (unary_term Abs a)) (sym (one_inside line ts))
    (an_abs line line line (loosen (level_of f) 0 (omega arith) t))

-- items on a line, one for each list of tokens
abbrev pub AreItems : {A : Type 0} (IsItem : List Placed → A → Type 0) → ℕ → List (List Token) → List A → Type 0
AreItems IsItem line [] [] = Unit {0}
AreItems IsItem line [] (a ∷ as') = ⊥
AreItems IsItem line (t ∷ ts) [] = ⊥
AreItems IsItem line (t ∷ ts) (a ∷ as') = IsItem (on line t) a × AreItems IsItem line ts as'

parted : {A : Type 0} (IsItem : List Placed → A → Type 0) (line : ℕ) (t : List Token) (ts : List (List Token)) (a : A) (others : List A) →
    IsItem (on line t) a → AreItems IsItem line ts others → AreParted IsItem (on line (t ++ behind_comma_tokens ts)) (a ∷ others)
parted IsItem line t [] a [] h k =
    subst (λ (us : List Token). AreParted IsItem (on line us) (a ∷ [])) (sym (append-nil t)) (last_item h)
parted IsItem line t [] a (b ∷ others) h k = absurd k
parted IsItem line t (u ∷ ts) a [] h k = absurd k
parted IsItem line t (u ∷ ts) a (b ∷ others) h k =
    subst (λ (ps : List Placed). AreParted IsItem ps (a ∷ b ∷ others)) (sym (on_both line t ((Sign Comma ∷ u) ++ behind_comma_tokens ts)))
    (item_before line h (parted IsItem line u ts b others k.0 k.1))

-- a list of one item or more in round brackets
pub in_round : {A : Type 0} (IsItem : List Placed → A → Type 0) (line : ℕ) (t : List Token) (ts : List (List Token)) (a : A) (others : List A) →
    IsItem (on line t) a → AreItems IsItem line ts others → InRound (AreParted IsItem) (on line (listed_tokens (t ∷ ts))) (a ∷ others)
in_round IsItem line t ts a others h k = record {
  opened = line;
  inside = on line (t ++ behind_comma_tokens ts);
  closed = line;
  is = ap (λ (ps : List Placed). symbol_on line OpenRound ∷ ps) (on_both line (t ++ behind_comma_tokens ts) (Sign CloseRound ∷ []));
  item = parted IsItem line t ts a others h k;
}

component : (line : ℕ) (d : ℤ) → IsComponent (on line (component_tokens d)) d
component line (pos n) = ahead line n
component line (negsuc n) = back line line (suc n)

components : (line : ℕ) (ds : List ℤ) → AreItems IsComponent line (map component_tokens ds) ds
components line [] = tt
components line (d ∷ ds) = (component line d, components line ds)

-- written components are offsets
pub offsets : (line : ℕ) (ds : List ℤ) (n : ℕ) → length ds ≡ suc n → AreOffsets (on line (listed_tokens (map component_tokens ds))) ds
offsets line [] n e = absurd (omega arith)
offsets line (d ∷ ds) n e = in_round IsComponent line (component_tokens d) (map component_tokens ds) d ds (component line d) (components line ds)

-- written indexes are indexes
pub numbers : (line : ℕ) (is : List ℕ) → AreIndexes (on line (index_tokens is)) is
numbers line [] = no_index
numbers line (i ∷ is) = index_before line line i line (numbers line is)

few_by : (z : Bool) (i j : ℕ) → length (if z then [] else i ∷ j ∷ []) ≤ 2
few_by true i j = omega arith
few_by false i j = omega arith

few_indexes : (ns : List ℕ) (i : ℕ) → length (indexes ns i) ≤ 2
few_indexes [] i = omega arith
few_indexes (n ∷ []) i = omega arith
few_indexes (n ∷ m ∷ ns) i = few_by (m == 0) _ _

cast_by : (s : Bool) (n : ℕ) → is_some_digits (decimal n) ≡ true → is_cast_word ((if s then codes "int" else codes "uint") ++ decimal n) ≡ true
cast_by true n e = rw e refl
cast_by false n e = rw e refl

-- the word of a type is a cast word
pub cast_word : (t : IntType) → IsType t → is_cast_word (type_text t) ≡ true
unfolding type_text
cast_word t h =
    let small : t.bits < 2 ^ 64 = omega (arith, h.most) in
    let a = both_of (is_some_digits (decimal t.bits) && (not (begins_with_zero (decimal t.bits)) || length (decimal t.bits) == 1))
    (nat_lt (value_behind 0 (decimal t.bits)) (2 ^ 64)) (number_is t.bits small) in
    cast_by t.signed t.bits (both_of (is_some_digits (decimal t.bits)) (not (begins_with_zero (decimal t.bits)) || length (decimal t.bits) == 1) a.0).0

-- no name of a tensor or param is reserved
pub record IsFree (p : PlainProgram) : Type 0 where
  pub tensors : (k : ℕ) → k < length p.tensors → is_reserved (tensor_name p k) ≡ false
  pub params : (k : ℕ) (q : PlainParam) → slice_get p.params k ≡ Some q → is_reserved q.name ≡ false

abbrev value_by : ℕ → Option PlainParam → List Token
value_by i r = elim r [ None ↦ [] | Some q ↦ Name q.name ∷ index_tokens (indexes q.sizes i) ]

value_term : (p : PlainProgram) (line k i : ℕ) (r : Option PlainParam) → IsFree p → slice_get p.params k ≡ r →
    (elim r as (λ v. Bool) [ None ↦ false | Some q ↦ nat_lt i (size q.sizes) ]) ≡ true → IsTerm 10 (on line (value_by i r)) (written_value line i r)
value_term p line k i None h e u = cc
value_term p line k i (Some q) h e u =
    a_value (word line q.name) (h.params k q e) (numbers line (indexes q.sizes i)) (few_indexes q.sizes i)

-- the tokens of a formula
pub formula_term : (p : PlainProgram) (line : ℕ) (f : Formula) → IsFree p → each_use (is_good_cell p) (is_good_place p) f ≡ true → IsSized f →
    IsTerm (level_of f) (on line (formula_tokens p f)) (written p line f)
formula_term p line (number n) h u s = a_literal line n
formula_term p line (read k ds) h u s =
    let there = cell_there p k ds u in
    a_cell (word line (tensor_name p k)) (h.tensors k there.within) (offsets line ds (length p.extents) there.many)
formula_term p line (value_of k i) h u s = value_term p line k i (slice_get p.params k) h refl u
formula_term p line (unary op a) h u s =
    unary_by line op a (formula_tokens p a) (written p line a) (formula_term p line a h u s)
formula_term p line (binary op a b) h u s =
    let both = both_of (each_use (is_good_cell p) (is_good_place p) a) (each_use (is_good_cell p) (is_good_place p) b) u in
    binary_by line op a b (formula_tokens p a) (formula_tokens p b) (written p line a) (written p line b) (formula_term p line a h both.0 s.0)
    (formula_term p line b h both.1 s.1)
formula_term p line (choice c a b) h u s =
    let e : Formula → Bool = each_use (is_good_cell p) (is_good_place p) in
    let both = both_of (e c && e a) (e b) u in
    let front = both_of (e c) (e a) both.0 in
    subst (λ (ps : List Placed). IsTerm 10 (name_on line (codes "select") ∷ symbol_on line OpenRound ∷ ps)
    (choice_term (written p line c) (written p line a) (written p line b))) (sym
    (three_inside line (formula_tokens p c) (formula_tokens p a) (formula_tokens p b)))
    (a_choice line line line line line (loosen (level_of c) 0 (omega arith) (formula_term p line c h front.0 s.0))
    (loosen (level_of a) 0 (omega arith) (formula_term p line a h front.1 s.1)) (loosen (level_of b) 0 (omega arith) (formula_term p line b h both.1 s.2)))
formula_term p line (cast t a) h u s =
    subst (λ (ps : List Placed). IsTerm 10 (name_on line (type_text t) ∷ symbol_on line OpenRound ∷ ps)
    (cast_term (word line (type_text t)) (written p line a))) (sym (one_inside line (formula_tokens p a)))
    (a_cast (word line (type_text t)) line line (cast_word t s.0) (loosen (level_of a) 0 (omega arith) (formula_term p line a h u s.1)))

-- the written tokens of a formula are this formula
pub is_formula : (p : PlainProgram) (line : ℕ) (f : Formula) → IsFree p → each_use (is_good_cell p) (is_good_place p) f ≡ true → IsSized f →
    IsFormula (on line (formula_tokens p f)) (written p line f)
is_formula p line f h u s = loosen (level_of f) 0 (omega arith) (formula_term p line f h u s)
