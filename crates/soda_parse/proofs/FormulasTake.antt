-- A formula of a text has as many tokens and open brackets as the canonical text writes for it.
use Rattle.std.proofs.Common.{◌≡◌, ℕ, suc, ◌+◌, ◌*◌, ◌≤◌, ◌==◌, Bool, true, false, not, List, [], ◌∷◌, ◌++◌, length, map, Some, None, Option, refl, sym, ap, ◌∙◌, subst, arith, cond, append_assoc, ℤ}
use Rattle.std.specs.Prelude.{codes, find, max, nat_lt, option_map, position, slice_get, if◌then◌else◌}
use Rattle.std.proofs.lemmas.Bool.Decides.{nat_tests}
use Rattle.std.proofs.lemmas.Grind.{common_steps}
use Rattle.std.proofs.lemmas.List.Folds.{find_at}
use Rattle.std.proofs.lemmas.Option.{slice_get-map}
use Rattle.soda_words.specs.OperatorTable.{binary_row, unary_row}
use Rattle.soda_words.specs.declared.operators.UnOp.{UnOp}
use Rattle.soda_words.specs.declared.operators.BinOp.{BinOp}
use Rattle.soda_words.specs.declared.operators.BinOp.TheVariants.{Min, Max}
use Rattle.soda_words.specs.Names.{is_reserved}
use Rattle.soda_words.specs.declared.symbol.Symbol.{Symbol}
use Rattle.soda_words.specs.declared.symbol.Symbol.TheVariants.{BarBar, AmpAmp, EqualEqual, BangEqual, LessEqual, GreaterEqual, Bar, Caret, Amp, Less, Greater, PlusSign, MinusSign, Star, Slash, Percent, Tilde, Bang, CloseRound, Comma}
use Rattle.soda_words.specs.declared.token.Placed.{Placed}
use Rattle.soda_words.specs.declared.token.Word.{Word}
use Rattle.soda_formula.specs.Terms.{Term}
use Rattle.soda_formula.specs.Grammar.{symbol_on, number_on, Infix, infix_of, prefix_of, call_text, IsTerm, tighter, joined, prefixed, a_literal, bracketed, a_cast, an_abs, a_call, a_choice, a_cell, a_value}
use Rattle.soda_checks.specs.Conditions.{are_below, is_wrong_site, is_wrong_value}
use Rattle.soda_checks.specs.Outline.{is_same, uses_in}
use Rattle.soda_checks.specs.declared.outline.Outline.{Outline}
use Rattle.soda_checks.specs.declared.outline.Site.TheVariants.{Value}
use Rattle.soda_ir.specs.Formula.{Formula, unary as unary_formula, binary as binary_formula}
use Rattle.soda_ir.specs.Program.{PlainProgram, PlainParam}
use Rattle.soda_ir.specs.Written.{index_count, most_open, pairs_round, token_count, least_bare, operator_tokens, call_pairs}
use Rattle.soda_parse.specs.Meaning.{cell_formula, formula_of, is_offset, named_value, offset_or_none, param_of, shifted, tensor_number, value_formula}
use Rattle.soda_parse.proofs.SameTypes.{both_of}
use Rattle.soda_parse.proofs.Tiling.{none_here, false_not}
use Rattle.soda_formula.specs.declared.statement.ParamLine.{ParamLine}
use Rattle.soda_formula.specs.declared.statement.Size.{Size}
use Rattle.soda_parse.proofs.Offsets.{shifted_length}
use Rattle.soda_parse.proofs.Uses.{none_in_both}
use Rattle.soda_parse.proofs.TokenCounts.{peak_least, IsPassing, passes, one_if_some, comma_passes, cast_reserved}
use Rattle.soda_parse.proofs.WrittenTakes.{Takes, takes_less, takes_joined, takes_round, takes_sign, takes_named, takes_cell, takes_value}

-- what an operator between two operands is
record GoodInfix (s : Symbol) (r : Infix) : Type 0 where
  pub level : (binary_row r.op).level ≡ r.level
  pub bare : (r.level == 10) ≡ false
  pub passing : IsPassing s

abbrev InfixFacts : Symbol → Option Infix → Type 0
InfixFacts s None = Unit {0}
InfixFacts s (Some r) = GoodInfix s r

infix_facts : (s : Symbol) → InfixFacts s (infix_of s)
infix_facts BarBar = record { level = refl; bare = refl; passing = passes BarBar (λ k. refl) refl }
infix_facts AmpAmp = record { level = refl; bare = refl; passing = passes AmpAmp (λ k. refl) refl }
infix_facts Bar = record { level = refl; bare = refl; passing = passes Bar (λ k. refl) refl }
infix_facts Caret = record { level = refl; bare = refl; passing = passes Caret (λ k. refl) refl }
infix_facts Amp = record { level = refl; bare = refl; passing = passes Amp (λ k. refl) refl }
infix_facts EqualEqual = record { level = refl; bare = refl; passing = passes EqualEqual (λ k. refl) refl }
infix_facts BangEqual = record { level = refl; bare = refl; passing = passes BangEqual (λ k. refl) refl }
infix_facts Less = record { level = refl; bare = refl; passing = passes Less (λ k. refl) refl }
infix_facts LessEqual = record { level = refl; bare = refl; passing = passes LessEqual (λ k. refl) refl }
infix_facts Greater = record { level = refl; bare = refl; passing = passes Greater (λ k. refl) refl }
infix_facts GreaterEqual = record { level = refl; bare = refl; passing = passes GreaterEqual (λ k. refl) refl }
infix_facts PlusSign = record { level = refl; bare = refl; passing = passes PlusSign (λ k. refl) refl }
infix_facts MinusSign = record { level = refl; bare = refl; passing = passes MinusSign (λ k. refl) refl }
infix_facts Star = record { level = refl; bare = refl; passing = passes Star (λ k. refl) refl }
infix_facts Slash = record { level = refl; bare = refl; passing = passes Slash (λ k. refl) refl }
infix_facts Percent = record { level = refl; bare = refl; passing = passes Percent (λ k. refl) refl }
infix_facts _ = tt

-- what a prefix operator is
record GoodPrefix (s : Symbol) (op : UnOp) : Type 0 where
  pub level : (unary_row op).level ≡ 9
  pub passing : IsPassing s

abbrev PrefixFacts : Symbol → Option UnOp → Type 0
PrefixFacts s None = Unit {0}
PrefixFacts s (Some op) = GoodPrefix s op

prefix_facts : (s : Symbol) → PrefixFacts s (prefix_of s)
prefix_facts PlusSign = record { level = refl; passing = passes PlusSign (λ k. refl) refl }
prefix_facts MinusSign = record { level = refl; passing = passes MinusSign (λ k. refl) refl }
prefix_facts Tilde = record { level = refl; passing = passes Tilde (λ k. refl) refl }
prefix_facts Bang = record { level = refl; passing = passes Bang (λ k. refl) refl }
prefix_facts _ = tt

-- what a call of two operands is
record GoodCall (op : BinOp) (text : List ℕ) : Type 0 where
  pub level : (binary_row op).level ≡ 10
  pub reserved : is_reserved text ≡ true

abbrev CallFacts : BinOp → Option (List ℕ) → Type 0
CallFacts op None = Unit {0}
CallFacts op (Some text) = GoodCall op text

call_facts : (op : BinOp) → CallFacts op (call_text op)
call_facts Min = record { level = refl; reserved = refl }
call_facts Max = record { level = refl; reserved = refl }
call_facts _ = tt

-- one pair of brackets, where a level is below another
abbrev pairs_by : ℕ → ℕ → ℕ
pairs_by level least = if nat_lt level least then 1 else 0

pairs_none : (f : Formula) → pairs_round 0 f ≡ 0
pairs_none f = grind (arith, nat_tests)

pairs_most : (least : ℕ) (f : Formula) → pairs_round least f ≤ 1
pairs_most least f = grind (arith, nat_tests)

pairs_more : (least : ℕ) (f : Formula) → pairs_round least f ≤ pairs_round (suc least) f
pairs_more least f = grind (arith, nat_tests)

not_below : (n : ℕ) → nat_lt n n ≡ false
not_below n = grind (arith, nat_tests)

-- what an operator of two operands takes, as it is written
abbrev pair_tokens : (level : ℕ) (f g : Formula) (m n : ℕ) → ℕ
pair_tokens level f g m n = operator_tokens level 4 + (2 * pairs_round (least_bare level level) f + m) + (2 * pairs_round (least_bare level (suc level)) g + n)

abbrev pair_opens : (level : ℕ) (f g : Formula) (m n : ℕ) → ℕ
pair_opens level f g m n = call_pairs level + max (pairs_round (least_bare level level) f + m) (pairs_round (least_bare level (suc level)) g + n)

bare_tokens : (level : ℕ) (f g : Formula) (m n : ℕ) → (level == 10) ≡ false → pair_tokens level f g m n ≡
    1 + (2 * pairs_round level f + m) + (2 * pairs_round (suc level) g + n)
bare_tokens level f g m n e =
    ap (λ (b : Bool). (if b then 4 else 1) + (2 * pairs_round (if b then 0 else level) f + m) + (2 * pairs_round (if b then 0 else suc level) g + n)) e

bare_opens : (level : ℕ) (f g : Formula) (m n : ℕ) → (level == 10) ≡ false → pair_opens level f g m n ≡
    0 + max (pairs_round level f + m) (pairs_round (suc level) g + n)
bare_opens level f g m n e =
    ap (λ (b : Bool). (if b then 1 else 0) + max (pairs_round (if b then 0 else level) f + m) (pairs_round (if b then 0 else suc level) g + n)) e

-- an operator between two operands that are written as they were
infix_tokens : (p : PlainProgram) (op : BinOp) (level : ℕ) (f g : Formula) → (binary_row op).level ≡ level → (level == 10) ≡ false →
    token_count p (binary_formula op f g) + 2 * pairs_round level (binary_formula op f g) ≤ token_count p f + 2 * pairs_round level f + 1 +
    (token_count p g + 2 * pairs_round (suc level) g)
infix_tokens p op level f g e bare =
    let same : token_count p (binary_formula op f g) ≡ pair_tokens level f g (token_count p f) (token_count p g) =
    ap (λ (l : ℕ). pair_tokens l f g (token_count p f) (token_count p g)) e in
    let none : pairs_round level (binary_formula op f g) ≡ 0 = ap (λ (l : ℕ). pairs_by l level) e ∙ ap (λ (b : Bool). if b then 1 else 0) (not_below level) in
    omega (arith, same, bare_tokens level f g (token_count p f) (token_count p g) bare, none)

infix_opens : (p : PlainProgram) (op : BinOp) (level : ℕ) (f g : Formula) → (binary_row op).level ≡ level → (level == 10) ≡ false →
    most_open p (binary_formula op f g) + pairs_round level (binary_formula op f g) ≤ max (most_open p f + pairs_round level f)
    (most_open p g + pairs_round (suc level) g)
infix_opens p op level f g e bare =
    let same : most_open p (binary_formula op f g) ≡ pair_opens level f g (most_open p f) (most_open p g) =
    ap (λ (l : ℕ). pair_opens l f g (most_open p f) (most_open p g)) e in
    let none : pairs_round level (binary_formula op f g) ≡ 0 = ap (λ (l : ℕ). pairs_by l level) e ∙ ap (λ (b : Bool). if b then 1 else 0) (not_below level) in
    omega (arith, same, bare_opens level f g (most_open p f) (most_open p g) bare, none)

-- a call of two operands
call_tokens : (p : PlainProgram) (op : BinOp) (f g : Formula) → (binary_row op).level ≡ 10 →
    token_count p (binary_formula op f g) + 2 * pairs_round 10 (binary_formula op f g) ≤ 1 +
    (token_count p f + 2 * pairs_round 0 f + 1 + (token_count p g + 2 * pairs_round 0 g) + 2)
call_tokens p op f g e =
    let same : token_count p (binary_formula op f g) ≡ pair_tokens 10 f g (token_count p f) (token_count p g) =
    ap (λ (l : ℕ). pair_tokens l f g (token_count p f) (token_count p g)) e in
    let none : pairs_round 10 (binary_formula op f g) ≡ 0 = ap (λ (l : ℕ). pairs_by l 10) e in
    omega (arith, same, none)

call_opens : (p : PlainProgram) (op : BinOp) (f g : Formula) → (binary_row op).level ≡ 10 →
    most_open p (binary_formula op f g) + pairs_round 10 (binary_formula op f g) ≤ max (most_open p f + pairs_round 0 f) (most_open p g + pairs_round 0 g) + 1
call_opens p op f g e =
    let same : most_open p (binary_formula op f g) ≡ pair_opens 10 f g (most_open p f) (most_open p g) =
    ap (λ (l : ℕ). pair_opens l f g (most_open p f) (most_open p g)) e in
    let none : pairs_round 10 (binary_formula op f g) ≡ 0 = ap (λ (l : ℕ). pairs_by l 10) e in
    omega (arith, same, none)

-- a prefix operator
abbrev one_tokens : (level : ℕ) (f : Formula) (m : ℕ) → ℕ
one_tokens level f m = operator_tokens level 3 + 2 * pairs_round (least_bare level 9) f + m

abbrev one_opens : (level : ℕ) (f : Formula) (m : ℕ) → ℕ
one_opens level f m = call_pairs level + pairs_round (least_bare level 9) f + m

prefix_tokens : (p : PlainProgram) (op : UnOp) (f : Formula) → (unary_row op).level ≡ 9 →
    token_count p (unary_formula op f) + 2 * pairs_round 9 (unary_formula op f) ≤ 1 + (token_count p f + 2 * pairs_round 9 f)
prefix_tokens p op f e =
    let same : token_count p (unary_formula op f) ≡ one_tokens 9 f (token_count p f) = ap (λ (l : ℕ). one_tokens l f (token_count p f)) e in
    let none : pairs_round 9 (unary_formula op f) ≡ 0 = ap (λ (l : ℕ). pairs_by l 9) e in
    omega (arith, same, none)

prefix_opens : (p : PlainProgram) (op : UnOp) (f : Formula) → (unary_row op).level ≡ 9 →
    most_open p (unary_formula op f) + pairs_round 9 (unary_formula op f) ≤ most_open p f + pairs_round 9 f
prefix_opens p op f e =
    let same : most_open p (unary_formula op f) ≡ one_opens 9 f (most_open p f) = ap (λ (l : ℕ). one_opens l f (most_open p f)) e in
    let none : pairs_round 9 (unary_formula op f) ≡ 0 = ap (λ (l : ℕ). pairs_by l 9) e in
    omega (arith, same, none)

-- a cell
offset_length : (ds : List ℤ) → length (offset_or_none ds) ≤ length ds
offset_length ds = elim (is_offset ds) as (λ (b : Bool). length (cond b ds []) ≤ length ds) [ true ↦ omega arith | false ↦ omega arith ]

cell_tokens : (p : PlainProgram) (n : Option ℕ) (ds : List ℤ) (many : ℕ) → length ds ≤ many →
    token_count p (cell_formula n ds) + 2 * pairs_round 10 (cell_formula n ds) ≤ 2 + 2 * many
cell_tokens p None ds many le = omega arith
cell_tokens p (Some k) ds many le = omega arith

cell_opens : (p : PlainProgram) (n : Option ℕ) (ds : List ℤ) → most_open p (cell_formula n ds) + pairs_round 10 (cell_formula n ds) ≤ 1
cell_opens p None ds = omega arith
cell_opens p (Some k) ds = omega arith

-- a value
below_many : (is : List ℕ) (ss : List Size) → are_below is ss ≡ true → length is ≡ length ss
below_many [] [] e = refl
below_many [] (s ∷ ss) e = cc
below_many (i ∷ is) [] e = cc
below_many (i ∷ is) (s ∷ ss) e = ap suc (below_many is ss (both_of (nat_lt i s.value) (are_below is ss) e).1)

sizes_many : (ss : List Size) → length (map (λ (s : Size). s.value) ss) ≡ length ss
sizes_many [] = refl
sizes_many (s ∷ ss) = ap suc (sizes_many ss)

abbrev count_of : Option PlainParam → ℕ
count_of r = elim r as (λ (x : Option PlainParam). ℕ) [ None ↦ 0 | Some q ↦ length q.sizes ]

abbrev wrong_by : List ℕ → Option ParamLine → Bool
wrong_by is r = elim r as (λ (x : Option ParamLine). Bool) [ None ↦ true | Some q ↦ not (are_below is q.sizes) ]

found_at : (test : ParamLine → Bool) (params : List ParamLine) (k : ℕ) (q : ParamLine) → position test params ≡ Some k → find test params ≡ Some q →
    slice_get params k ≡ Some q
found_at test params k q e f = let at = find_at test params in grind (arith, common_steps)

indexes_many : (o : Outline) (p : PlainProgram) (w : Word) (is : List ℕ) (k : ℕ) (q : ParamLine) → p.params ≡ map param_of o.params →
    position (λ q. is_same w q.name) o.params ≡ Some k → find (λ q. is_same w q.name) o.params ≡ Some q → is_wrong_value o.params w is ≡ false →
    index_count p k ≡ length is
indexes_many o p w is k q same e f wrong =
    let there : slice_get p.params k ≡ Some (param_of q) = ap (λ (ps : List PlainParam). slice_get ps k) same ∙
    (slice_get-map param_of o.params k ∙ ap (option_map param_of) (found_at (λ q. is_same w q.name) o.params k q e f)) in
    let good : not (are_below is q.sizes) ≡ false = sym (ap (wrong_by is) f) ∙ wrong in
    let many = below_many is q.sizes (false_not (are_below is q.sizes) good) in
    ap count_of there ∙ (sizes_many q.sizes ∙ sym many)

-- what a name without offsets takes
record ValueTakes (p : PlainProgram) (n : ℕ) (f : Formula) : Type 0 where
  pub tokens : token_count p f + 2 * pairs_round 10 f ≤ 1 + 3 * n
  pub opens : most_open p f + pairs_round 10 f ≤ one_if_some n

value_by : (o : Outline) (p : PlainProgram) (w : Word) (is : List ℕ) (a : Option ℕ) (b : Option ParamLine) → p.params ≡ map param_of o.params →
    position (λ q. is_same w q.name) o.params ≡ a → find (λ q. is_same w q.name) o.params ≡ b → is_wrong_value o.params w is ≡ false →
    ValueTakes p (length is) (value_formula a b is)
value_by o p w is None b same e f wrong = record { tokens = omega arith; opens = omega arith }
value_by o p w is (Some k) None same e f wrong = record { tokens = omega arith; opens = omega arith }
value_by o p w is (Some k) (Some q) same e f wrong =
    let many = indexes_many o p w is k q same e f wrong in
    let opened : one_if_some (index_count p k) ≡ one_if_some (length is) = ap one_if_some many in
    record { tokens = omega (arith, many); opens = omega (arith, opened) }

value_takes : (o : Outline) (p : PlainProgram) (w : Word) (is : List ℕ) → p.params ≡ map param_of o.params → is_wrong_value o.params w is ≡ false →
    ValueTakes p (length is) (named_value o.params w is)
value_takes o p w is same wrong =
    value_by o p w is (position (λ q. is_same w q.name) o.params) (find (λ q. is_same w q.name) o.params) same refl refl wrong

-- a formula takes what the canonical text writes for it, with the brackets that its place asks for
pub takes : (o : Outline) (p : PlainProgram) (left : List ℤ) → p.params ≡ map param_of o.params → (level : ℕ) (ts : List Placed) (t : Term) →
    IsTerm level ts t → find (is_wrong_site o) (uses_in t) ≡ None →
    Takes (token_count p (formula_of o left t) + 2 * pairs_round level (formula_of o left t))
    (most_open p (formula_of o left t) + pairs_round level (formula_of o left t)) ts
takes o p left same level ts t (tighter h) none =
    let more = pairs_more level (formula_of o left t) in
    takes_less _ _ _ _ ts (takes o p left same (suc level) ts t h none) (omega (arith, more)) (omega (arith, more))
takes o p left same level ts t (joined {ts = us} {us = vs} {a = a} {b = b} line s op e x y) none =
    let facts : GoodInfix s (record { level = level; op = op }) = subst (InfixFacts s) e (infix_facts s) in
    let both = none_in_both (is_wrong_site o) (uses_in a) (uses_in b) none in
    takes_less _ _ _ _ _ (takes_joined _ _ _ _ line s us vs facts.passing (takes o p left same level us a x both.0)
    (takes o p left same (suc level) vs b y both.1)) (infix_tokens p op level (formula_of o left a) (formula_of o left b) facts.level facts.bare)
    (infix_opens p op level (formula_of o left a) (formula_of o left b) facts.level facts.bare)
takes o p left same level ts t (prefixed {ts = us} {a = a} line s op e x) none =
    let facts : GoodPrefix s op = subst (PrefixFacts s) e (prefix_facts s) in
    takes_less _ _ _ _ _ (takes_sign _ _ line s us facts.passing (takes o p left same 9 us a x none))
    (prefix_tokens p op (formula_of o left a) facts.level) (prefix_opens p op (formula_of o left a) facts.level)
takes o p left same level ts t (a_literal line n) none = record {
  counts = λ rest closed. omega arith;
  opens = λ k rest. omega (arith, peak_least k (number_on line n ∷ rest));
  closes = λ k rest. omega arith;
}
takes o p left same level ts t (bracketed {ts = us} opened closed x) none =
    takes_less _ _ _ _ _ (takes_round _ _ opened closed us (takes o p left same 0 us t x none)) (omega (
      arith,
      pairs_most 10 (formula_of o left t),
    )) (omega (arith, pairs_most 10 (formula_of o left t)))
takes o p left same level ts t (a_cast {ts = us} {a = a} type opened closed e x) none =
    takes_less _ _ _ _ _ (takes_named _ _ type.line type.text _ (cast_reserved type.text e)
    (takes_round _ _ opened closed us (takes o p left same 0 us a x none))) (omega arith) (omega arith)
takes o p left same level ts t (an_abs {ts = us} {a = a} line opened closed x) none =
    takes_less _ _ _ _ _ (takes_named _ _ line (codes "abs") _ refl (takes_round _ _ opened closed us (takes o p left same 0 us a x none))) (omega (
      arith,
      pairs_none (formula_of o left a),
    )) (omega (arith, pairs_none (formula_of o left a)))
takes o p left same level ts t (a_call {ts = us} {us = vs} {a = a} {b = b} line opened comma closed op text e x y) none =
    let facts : GoodCall op text = subst (CallFacts op) e (call_facts op) in
    let both = none_in_both (is_wrong_site o) (uses_in a) (uses_in b) none in
    let inside = takes_joined _ _ _ _ comma Comma us vs comma_passes (takes o p left same 0 us a x both.0) (takes o p left same 0 vs b y both.1) in
    let round = takes_round _ _ opened closed (us ++ symbol_on comma Comma ∷ vs) inside in
    let order : (us ++ symbol_on comma Comma ∷ vs) ++ symbol_on closed CloseRound ∷ [] ≡
    us ++ symbol_on comma Comma ∷ (vs ++ symbol_on closed CloseRound ∷ []) =
    append_assoc us (symbol_on comma Comma ∷ vs) (symbol_on closed CloseRound ∷ []) in
    takes_less _ _ _ _ _ (takes_named _ _ line text _ facts.reserved (rw order at round))
    (call_tokens p op (formula_of o left a) (formula_of o left b) facts.level) (call_opens p op (formula_of o left a) (formula_of o left b) facts.level)
takes o p left same level ts t (a_choice {ts = us} {us = vs} {vs = ws} {a = a} {b = b} {c = c} line opened first second closed x y z) none =
    let both = none_in_both (is_wrong_site o) (uses_in a) (uses_in b ++ uses_in c) none in
    let two = none_in_both (is_wrong_site o) (uses_in b) (uses_in c) both.1 in
    let last = takes_joined _ _ _ _ second Comma vs ws comma_passes (takes o p left same 0 vs b y two.0) (takes o p left same 0 ws c z two.1) in
    let inside = takes_joined _ _ _ _ first Comma us (vs ++ symbol_on second Comma ∷ ws) comma_passes (takes o p left same 0 us a x both.0) last in
    let round = takes_round _ _ opened closed (us ++ symbol_on first Comma ∷ (vs ++ symbol_on second Comma ∷ ws)) inside in
    let inner : (vs ++ symbol_on second Comma ∷ ws) ++ symbol_on closed CloseRound ∷ [] ≡
    vs ++ symbol_on second Comma ∷ (ws ++ symbol_on closed CloseRound ∷ []) =
    append_assoc vs (symbol_on second Comma ∷ ws) (symbol_on closed CloseRound ∷ []) in
    let order : (us ++ symbol_on first Comma ∷ (vs ++ symbol_on second Comma ∷ ws)) ++ symbol_on closed CloseRound ∷ [] ≡
    us ++ symbol_on first Comma ∷ (vs ++ symbol_on second Comma ∷ (ws ++ symbol_on closed CloseRound ∷ [])) =
    append_assoc us (symbol_on first Comma ∷ (vs ++ symbol_on second Comma ∷ ws)) (symbol_on closed CloseRound ∷ []) ∙
    ap (λ (l : List Placed). us ++ symbol_on first Comma ∷ l) inner in
    takes_less _ _ _ _ _ (takes_named _ _ line (codes "select") _ refl (rw order at round)) (omega arith) (omega arith)
takes o p left same level ts t (a_cell {ts = us} {offsets = ds} w e are) none =
    let few : length (offset_or_none (shifted ds left)) ≤ length ds = omega (arith, offset_length (shifted ds left), shifted_length ds left) in
    takes_less _ _ _ _ _ (takes_cell w us ds e are) (cell_tokens p (tensor_number o w) (offset_or_none (shifted ds left)) (length ds) few)
    (cell_opens p (tensor_number o w) (offset_or_none (shifted ds left)))
takes o p left same level ts t (a_value {ts = us} {indexes = is} w e are le) none =
    let here = none_here (is_wrong_site o) (Value w is) [] none in
    let v = value_takes o p w is same here.0 in
    takes_less _ _ _ _ _ (takes_value w us is e are) v.tokens v.opens
