-- A formula as it is written has no more tokens and open brackets than are counted of it.
use Rattle.std.proofs.Common.{◌≡◌, inl, inr, ℕ, suc, ◌+◌, ◌*◌, ◌≤◌, ◌&&◌, Bool, true, false, List, [], ◌∷◌, ◌++◌, length, map, Some, None, Option, refl, sym, ◌∙◌, subst, arith, append-nil, codes}
use Rattle.std.specs.Prelude.{max, nat_le, nat_lt, slice_get, if◌then◌else◌}
use Rattle.std.proofs.lemmas.Bool.Decides.{nat_tests}
use Rattle.soda_words.specs.declared.operators.UnOp.{UnOp}
use Rattle.soda_words.specs.declared.operators.UnOp.TheVariants.{Plus, Minus, Flip, Not, Abs}
use Rattle.soda_words.specs.declared.operators.BinOp.{BinOp}
use Rattle.soda_words.specs.declared.operators.BinOp.TheVariants.{LogOr, LogAnd, BitOr, BitXor, BitAnd, Eq, Ne, Lt, Le, Gt, Ge, Add, Sub, Mul, Div, Rem, Min, Max}
use Rattle.soda_formula.specs.Grammar.{symbol_on, number_on}
use Rattle.soda_formula.specs.Reading.{Place, outside, behind_name, counted_tokens_from, open_behind, open_brackets_from, place_behind}
use Rattle.soda_ir.specs.Formula.{Formula, number, read, param as value_of, unary, binary, choice, cast}
use Rattle.soda_ir.specs.Points.{size}
use Rattle.soda_ir.specs.Program.{PlainParam, PlainProgram}
use Rattle.soda_ir.specs.Uses.{each_use, is_good_cell, is_good_place}
use Rattle.soda_ir.specs.Written.{left_pairs, most_open, pairs_round, right_pairs, token_count}
use Rattle.soda_print.specs.Canonical.{indexes, tensor_name, type_text}
use Rattle.soda_print.specs.Sized.{IsSized}
use Rattle.soda_print.proofs.CallerLemmas.{call_tokens, component_tokens, formula_tokens, index_tokens, listed_tokens, pair_tokens, parted_tokens, few_indexes}
use Rattle.soda_syntax.proofs.CallerLemmas.{IsSmallFormula}
use Rattle.soda_words.specs.Names.{is_reserved}
use Rattle.soda_words.specs.declared.symbol.Symbol.{Symbol}
use Rattle.soda_words.specs.declared.symbol.Symbol.TheVariants.{BarBar, AmpAmp, EqualEqual, BangEqual, LessEqual, GreaterEqual, Bar, Caret, Amp, Less, Greater, PlusSign, MinusSign, Star, Slash, Percent, Tilde, Bang, OpenRound, CloseRound, Comma}
use Rattle.soda_words.specs.declared.token.Placed.{Placed}
use Rattle.soda_words.specs.declared.token.Token.{Token}
use Rattle.soda_words.specs.declared.token.Token.TheVariants.{Name, Sign}
use Rattle.soda_parse.proofs.ReadBack.{cell_there}
use Rattle.soda_parse.proofs.SameTypes.{both_of}
use Rattle.soda_parse.proofs.WrittenFormulas.{IsFree, cast_word, numbers, offsets, on, on_both}
use Rattle.std.proofs.lemmas.Bool.{leb-true}
use Rattle.soda_parse.proofs.TokenCounts.{peak, peak_least, IsPassing, passes, one_if_some, comma_passes, cast_reserved}
use Rattle.soda_parse.proofs.WrittenCosts.{Costs, costs_more, costs_joined, costs_round, costs_sign, costs_named, costs_cell, costs_value}

-- operands and operators
pair_costs : (b : Bool) (n m line : ℕ) (toks : List Token) → Costs n m (on line toks) →
    Costs (2 * (if b then 1 else 0) + n) ((if b then 1 else 0) + m) (on line (pair_tokens (if b then 1 else 0) toks))
pair_costs true n m line toks t =
    subst (λ (ps : List Placed). Costs (2 * 1 + n) (1 + m) (symbol_on line OpenRound ∷ ps)) (sym (on_both line toks (Sign CloseRound ∷ [])))
    (costs_more (n + 2) (m + 1) (2 * 1 + n) (1 + m) _ (costs_round n m line line (on line toks) t) (omega arith) (omega arith))
pair_costs false n m line toks t =
    subst (λ (us : List Token). Costs (2 * 0 + n) (0 + m) (on line us)) (sym (append-nil toks))
    (costs_more n m (2 * 0 + n) (0 + m) (on line toks) t (omega arith) (omega arith))

infix_costs : (line l r n m a b : ℕ) (s : Symbol) (ts us : List Token) → IsPassing s → Costs (2 * l + n) (l + m) (on line (pair_tokens l ts)) →
    Costs (2 * r + a) (r + b) (on line (pair_tokens r us)) →
    Costs (1 + (2 * l + n) + (2 * r + a)) (0 + max (l + m) (r + b)) (on line (pair_tokens l ts ++ (Sign s ∷ pair_tokens r us)))
infix_costs line l r n m a b s ts us pass t u =
    subst (Costs (1 + (2 * l + n) + (2 * r + a)) (0 + max (l + m) (r + b))) (sym (on_both line (pair_tokens l ts) (Sign s ∷ pair_tokens r us)))
    (costs_more (2 * l + n + 1 + (2 * r + a)) (max (l + m) (r + b)) _ _ _ (costs_joined (2 * l + n) (l + m) (2 * r + a) (r + b) line s _ _ pass t u)
    (omega arith) (omega arith))

last_costs : (n m line : ℕ) (toks : List Token) → Costs n m (on line toks) → Costs n m (on line (toks ++ []))
last_costs n m line toks t = subst (λ (us : List Token). Costs n m (on line us)) (sym (append-nil toks)) t

comma_costs : (n m a b line : ℕ) (ts us : List Token) → Costs n m (on line ts) → Costs a b (on line us) →
    Costs (n + 1 + a) (max m b) (on line (ts ++ (Sign Comma ∷ us)))
comma_costs n m a b line ts us t u =
    subst (Costs (n + 1 + a) (max m b)) (sym (on_both line ts (Sign Comma ∷ us))) (costs_joined n m a b line Comma (on line ts) (on line us) comma_passes t u)

call_costs : (n m line : ℕ) (w : List ℕ) (tss : List (List Token)) → is_reserved w ≡ true → Costs n m (on line (parted_tokens tss)) →
    Costs (1 + (n + 2)) (m + 1) (on line (call_tokens w tss))
call_costs n m line w tss e t =
    costs_named (n + 2) (m + 1) line w (on line (listed_tokens tss)) e (subst (λ (ps : List Placed). Costs (n + 2) (m + 1) (symbol_on line OpenRound ∷ ps))
    (sym (on_both line (parted_tokens tss) (Sign CloseRound ∷ []))) (costs_round n m line line (on line (parted_tokens tss)) t))

-- a formula costs what is counted of it
abbrev CostsFormula : PlainProgram → ℕ → Formula → Type 0
CostsFormula p line f = Costs (token_count p f) (most_open p f) (on line (formula_tokens p f))

operand_costs : (p : PlainProgram) (line least : ℕ) (f : Formula) → CostsFormula p line f →
    Costs (2 * pairs_round least f + token_count p f) (pairs_round least f + most_open p f) (on line (pair_tokens (pairs_round least f) (formula_tokens p f)))
operand_costs p line least f t = pair_costs (nat_lt _ least) (token_count p f) (most_open p f) line (formula_tokens p f) t

between_costs : (p : PlainProgram) (line k : ℕ) (s : Symbol) (f g : Formula) → ((i : ℕ) → open_behind i (Sign s) ≡ i) →
    place_behind behind_name (Sign s) ≡ outside → CostsFormula p line f → CostsFormula p line g →
    Costs (1 + (2 * pairs_round k f + token_count p f) + (2 * pairs_round (suc k) g + token_count p g))
    (0 + max (pairs_round k f + most_open p f) (pairs_round (suc k) g + most_open p g))
    (on line (pair_tokens (pairs_round k f) (formula_tokens p f) ++ (Sign s ∷ pair_tokens (pairs_round (suc k) g) (formula_tokens p g))))
between_costs p line k s f g h e t u =
    infix_costs line (pairs_round k f) (pairs_round (suc k) g) (token_count p f) (most_open p f) (token_count p g) (most_open p g) s (formula_tokens p f)
    (formula_tokens p g) (passes s h e) (operand_costs p line k f t) (operand_costs p line (suc k) g u)

two_costs : (p : PlainProgram) (line : ℕ) (w : List ℕ) (l r : ℕ) (f g : Formula) → is_reserved w ≡ true → CostsFormula p line f → CostsFormula p line g →
    Costs (4 + (2 * l + token_count p f) + (2 * r + token_count p g)) (1 + max (l + most_open p f) (r + most_open p g))
    (on line (call_tokens w (formula_tokens p f ∷ formula_tokens p g ∷ [])))
two_costs p line w l r f g e t u =
    let inside =
    comma_costs (token_count p f) (most_open p f) (token_count p g) (most_open p g) line (formula_tokens p f) (formula_tokens p g ++ []) t
    (last_costs (token_count p g) (most_open p g) line (formula_tokens p g) u) in
    costs_more _ _ _ _ _ (call_costs (token_count p f + 1 + token_count p g) (max (most_open p f) (most_open p g)) line w
    (formula_tokens p f ∷ formula_tokens p g ∷ []) e inside) (omega arith) (omega arith)

binary_costs : (p : PlainProgram) (line : ℕ) (op : BinOp) (f g : Formula) → CostsFormula p line f → CostsFormula p line g → CostsFormula p line (binary op f g)
binary_costs p line LogOr f g t u = between_costs p line 0 BarBar f g (λ k. refl) refl t u
binary_costs p line LogAnd f g t u = between_costs p line 1 AmpAmp f g (λ k. refl) refl t u
binary_costs p line BitOr f g t u = between_costs p line 2 Bar f g (λ k. refl) refl t u
binary_costs p line BitXor f g t u = between_costs p line 3 Caret f g (λ k. refl) refl t u
binary_costs p line BitAnd f g t u = between_costs p line 4 Amp f g (λ k. refl) refl t u
binary_costs p line Eq f g t u = between_costs p line 5 EqualEqual f g (λ k. refl) refl t u
binary_costs p line Ne f g t u = between_costs p line 5 BangEqual f g (λ k. refl) refl t u
binary_costs p line Lt f g t u = between_costs p line 6 Less f g (λ k. refl) refl t u
binary_costs p line Le f g t u = between_costs p line 6 LessEqual f g (λ k. refl) refl t u
binary_costs p line Gt f g t u = between_costs p line 6 Greater f g (λ k. refl) refl t u
binary_costs p line Ge f g t u = between_costs p line 6 GreaterEqual f g (λ k. refl) refl t u
binary_costs p line Add f g t u = between_costs p line 7 PlusSign f g (λ k. refl) refl t u
binary_costs p line Sub f g t u = between_costs p line 7 MinusSign f g (λ k. refl) refl t u
binary_costs p line Mul f g t u = between_costs p line 8 Star f g (λ k. refl) refl t u
binary_costs p line Div f g t u = between_costs p line 8 Slash f g (λ k. refl) refl t u
binary_costs p line Rem f g t u = between_costs p line 8 Percent f g (λ k. refl) refl t u
binary_costs p line Min f g t u = two_costs p line (codes "min") (left_pairs Min f) (right_pairs Min g) f g refl t u
binary_costs p line Max f g t u = two_costs p line (codes "max") (left_pairs Max f) (right_pairs Max g) f g refl t u

prefix_costs : (p : PlainProgram) (line : ℕ) (s : Symbol) (f : Formula) → ((i : ℕ) → open_behind i (Sign s) ≡ i) →
    place_behind behind_name (Sign s) ≡ outside → CostsFormula p line f →
    Costs (1 + 2 * pairs_round 9 f + token_count p f) (0 + pairs_round 9 f + most_open p f)
    (on line (Sign s ∷ pair_tokens (pairs_round 9 f) (formula_tokens p f)))
prefix_costs p line s f h e t =
    costs_more _ _ _ _ _ (costs_sign (2 * pairs_round 9 f + token_count p f) (pairs_round 9 f + most_open p f) line s
    (on line (pair_tokens (pairs_round 9 f) (formula_tokens p f))) (passes s h e) (operand_costs p line 9 f t)) (omega arith) (omega arith)

one_costs : (p : PlainProgram) (line : ℕ) (w : List ℕ) (f : Formula) → is_reserved w ≡ true → CostsFormula p line f →
    Costs (1 + (token_count p f + 2)) (most_open p f + 1) (on line (call_tokens w (formula_tokens p f ∷ [])))
one_costs p line w f e t =
    call_costs (token_count p f) (most_open p f) line w (formula_tokens p f ∷ []) e (last_costs (token_count p f) (most_open p f) line (formula_tokens p f) t)

unary_costs : (p : PlainProgram) (line : ℕ) (op : UnOp) (f : Formula) → CostsFormula p line f → CostsFormula p line (unary op f)
unary_costs p line Plus f t = prefix_costs p line PlusSign f (λ k. refl) refl t
unary_costs p line Minus f t = prefix_costs p line MinusSign f (λ k. refl) refl t
unary_costs p line Flip f t = prefix_costs p line Tilde f (λ k. refl) refl t
unary_costs p line Not f t = prefix_costs p line Bang f (λ k. refl) refl t
unary_costs p line Abs f t =
    costs_more _ _ (token_count p (unary Abs f)) (most_open p (unary Abs f)) _ (one_costs p line (codes "abs") f refl t) (omega arith) (omega arith)

one_more : (a b : ℕ) → a ≤ b → one_if_some a ≤ one_if_some b
one_more a b h = grind (arith, nat_tests)

abbrev count_by : Option PlainParam → ℕ
count_by r = elim r as (λ (x : Option PlainParam). ℕ) [ None ↦ 0 | Some q ↦ length q.sizes ]

abbrev tokens_by : ℕ → Option PlainParam → List Token
tokens_by i r = elim r [ None ↦ [] | Some q ↦ Name q.name ∷ index_tokens (indexes q.sizes i) ]

value_costs : (p : PlainProgram) (line k i : ℕ) (r : Option PlainParam) → IsFree p → slice_get p.params k ≡ r →
    (elim r as (λ v. Bool) [ None ↦ false | Some q ↦ nat_lt i (size q.sizes) ]) ≡ true →
    Costs (1 + 3 * count_by r) (one_if_some (count_by r)) (on line (tokens_by i r))
value_costs p line k i None h e u = cc
value_costs p line k i (Some q) h e u =
    let few = few_indexes q.sizes i in
    costs_more _ _ _ _ _ (costs_value line q.name (on line (index_tokens (indexes q.sizes i))) (indexes q.sizes i) (h.params k q e)
    (numbers line (indexes q.sizes i))) (omega arith) (one_more (length (indexes q.sizes i)) (length q.sizes) few)

number_costs : (line n : ℕ) → Costs 1 0 (number_on line n ∷ [])
number_costs line n = record { counts = λ rest closed. omega arith; opens = λ k rest. omega (arith, peak_least k rest) }

formula_costs : (p : PlainProgram) (line : ℕ) (f : Formula) → IsFree p → each_use (is_good_cell p) (is_good_place p) f ≡ true → IsSized f →
    CostsFormula p line f
formula_costs p line (number n) h u s = number_costs line n
formula_costs p line (read k ds) h u s =
    let there = cell_there p k ds u in
    costs_cell line (tensor_name p k) (on line (listed_tokens (map component_tokens ds))) ds (h.tensors k there.within)
    (offsets line ds (length p.extents) there.many)
formula_costs p line (value_of k i) h u s = value_costs p line k i (slice_get p.params k) h refl u
formula_costs p line (unary op a) h u s = unary_costs p line op a (formula_costs p line a h u s)
formula_costs p line (binary op a b) h u s =
    let both = both_of (each_use (is_good_cell p) (is_good_place p) a) (each_use (is_good_cell p) (is_good_place p) b) u in
    binary_costs p line op a b (formula_costs p line a h both.0 s.0) (formula_costs p line b h both.1 s.1)
formula_costs p line (choice c a b) h u s =
    let e : Formula → Bool = each_use (is_good_cell p) (is_good_place p) in
    let both = both_of (e c && e a) (e b) u in
    let front = both_of (e c) (e a) both.0 in
    let rest =
    comma_costs (token_count p a) (most_open p a) (token_count p b) (most_open p b) line (formula_tokens p a) (formula_tokens p b ++ [])
    (formula_costs p line a h front.1 s.1) (last_costs (token_count p b) (most_open p b) line (formula_tokens p b) (formula_costs p line b h both.1 s.2)) in
    let inside =
    comma_costs (token_count p c) (most_open p c) (token_count p a + 1 + token_count p b) (max (most_open p a) (most_open p b)) line (formula_tokens p c)
    (formula_tokens p a ++ (Sign Comma ∷ (formula_tokens p b ++ []))) (formula_costs p line c h front.0 s.0) rest in
    costs_more _ _ _ _ _ (call_costs _ _ line (codes "select") (formula_tokens p c ∷ formula_tokens p a ∷ formula_tokens p b ∷ []) refl inside)
    (omega arith) (omega arith)
formula_costs p line (cast t a) h u s =
    costs_more _ _ _ _ _ (one_costs p line (type_text t) a (cast_reserved (type_text t) (cast_word t s.0)) (formula_costs p line a h u s.1)) (omega arith)
    (omega arith)

-- fronts cost no more
front_counts : (place : Place) (ts rest : List Placed) → counted_tokens_from place ts ≤ counted_tokens_from place (ts ++ rest)
front_counts place [] rest = omega arith
front_counts place (t ∷ ts) rest = omega (arith, front_counts (place_behind place t.token) ts rest)

front_opens : (k : ℕ) (ts rest : List Placed) → open_brackets_from k ts ≤ peak k (ts ++ rest)
front_opens k [] rest = peak_least k rest
front_opens k (t ∷ ts) rest = omega (arith, front_opens (open_behind k t.token) ts rest)

not_large : (n m : ℕ) (ts : List Placed) → Costs n m ts → n ≤ 1500 → m ≤ 64 → IsSmallFormula ts
not_large n m ts t few low p y e (inl over) =
    let all : peak 0 (p ++ y) ≤ 64 = subst (λ (us : List Placed). peak 0 us ≤ 64) (append-nil ts ∙ e) (omega (arith, t.opens 0 [])) in
    omega (arith, front_opens 0 p y)
not_large n m ts t few low p y e (inr over) =
    let all : counted_tokens_from outside (p ++ y) ≤ 1500 = subst (λ (us : List Placed). counted_tokens_from outside us ≤ 1500) (append-nil ts ∙
    e) (omega (arith, t.counts [] refl)) in
    omega (arith, front_counts outside p y)

-- a formula that is small as counted is small as written
pub small_tokens : (p : PlainProgram) (line : ℕ) (f : Formula) → IsFree p → each_use (is_good_cell p) (is_good_place p) f ≡ true → IsSized f →
    (nat_le (token_count p f) 1500 && nat_le (most_open p f) 64) ≡ true → IsSmallFormula (on line (formula_tokens p f))
small_tokens p line f h u s small =
    let both = both_of (nat_le (token_count p f) 1500) (nat_le (most_open p f) 64) small in
    not_large (token_count p f) (most_open p f) (on line (formula_tokens p f)) (formula_costs p line f h u s) (leb-true _ _ both.0) (leb-true _ _ both.1)
