-- The tensors of an accepted text are small as the canonical text writes them.
use Rattle.std.proofs.Common.{◌≡◌, inl, inr, ℕ, ◌<◌, ◌≤◌, ◌&&◌, Bool, true, List, [], ◌∷◌, ◌++◌, length, map, take, drop, None, refl, sym, ap, ◌∙◌, subst, arith, append_assoc, ℤ}
use Rattle.std.specs.Prelude.{find, flat_map, nat_le}
use Rattle.std.specs.List.{list_all}
use Rattle.std.proofs.Math.Seq.{take-length, take-append_seam}
use Rattle.std.proofs.lemmas.List.{take-append-drop}
use Rattle.std.proofs.lemmas.List.Folds.{list_all-append}
use Rattle.soda_words.specs.Tokens.{tokens_of}
use Rattle.soda_words.specs.declared.token.Placed.{Placed}
use Rattle.soda_formula.specs.Terms.{Term}
use Rattle.soda_formula.specs.Grammar.{IsFormula}
use Rattle.soda_formula.specs.Reading.{BeginsFormula, IsLarge, outside, counted_tokens_from, open_brackets_from}
use Rattle.soda_checks.specs.Conditions.{is_wrong_site}
use Rattle.soda_checks.specs.Outline.{outline_in, outline_of, uses_in}
use Rattle.soda_checks.specs.declared.outline.Outline.{Outline}
use Rattle.soda_checks.specs.declared.outline.Site.TheVariants.{Left}
use Rattle.soda_ir.specs.Program.{PlainProgram}
use Rattle.soda_ir.specs.Valid.{is_small}
use Rattle.soda_ir.specs.Written.{most_open, token_count}
use Rattle.soda_parse.specs.Meaning.{formula_of, param_of, tensors_in}
use Rattle.soda_parse.proofs.Tiling.{none_here}
use Rattle.soda_syntax.specs.Grammar.{AreStatements, IsStatement, a_kernel, a_burst_width, an_unroll_factor, an_iterate, ignored_border, preserved_border, a_cluster, a_param, an_input, a_local, an_output, no_statement, statement_before}
use Rattle.soda_formula.specs.Statements.{PlainStatement}
use Rattle.soda_syntax.specs.SyntaxError.{EndsInFormula, IsHead, IsSyntax, IsTooLarge}
use Rattle.soda_parse.proofs.Truths.{le_true}
use Rattle.std.specs.Cmp.Derive.{both_true}
use Rattle.soda_parse.proofs.Uses.{none_in_both}
use Rattle.soda_parse.proofs.TokenCounts.{peak}
use Rattle.soda_parse.proofs.WrittenTakes.{peak_most}
use Rattle.soda_parse.proofs.FormulasTake.{takes}

append_none : (ts : List Placed) → ts ++ [] ≡ ts
append_none [] = refl
append_none (t ∷ ts) = ap (λ (us : List Placed). t ∷ us) (append_none ts)

few_counted : (ts : List Placed) → ((j : ℕ) → IsLarge (take j ts) → ⊥) → counted_tokens_from outside ts ≤ 1500
few_counted ts small =
    let whole : IsLarge ts → ⊥ = subst (λ (us : List Placed). IsLarge us → ⊥) (take-length ts) (small (length ts)) in
    let no : 1500 < counted_tokens_from outside ts → ⊥ = λ lt. whole (inr lt) in
    omega (arith, no)

few_open : (ts : List Placed) → ((j : ℕ) → IsLarge (take j ts) → ⊥) → peak 0 ts ≤ 64
few_open ts small = peak_most 64 0 ts (λ j. let no : 64 < open_brackets_from 0 (take j ts) → ⊥ = λ lt. small j (inl lt) in omega (arith, no))

-- a formula of a text none of whose prefixes is too large is small as the canonical text writes it
pub small_formula : (o : Outline) (p : PlainProgram) (left : List ℤ) (t : Term) (ts : List Placed) → p.params ≡ map param_of o.params →
    find (is_wrong_site o) (uses_in t) ≡ None → IsFormula ts t → ((j : ℕ) → IsLarge (take j ts) → ⊥) →
    (nat_le (token_count p (formula_of o left t)) 1500 && nat_le (most_open p (formula_of o left t)) 64) ≡ true
small_formula o p left t ts same none is small =
    let taken = takes o p left same 0 ts t is none in
    let whole = append_none ts in
    let counted = ap (counted_tokens_from outside) whole in
    let highest = ap (peak 0) whole in
    let few : token_count p (formula_of o left t) ≤ 1500 = omega (arith, taken.counts [] refl, counted, few_counted ts small) in
    let shallow : most_open p (formula_of o left t) ≤ 64 = omega (arith, taken.opens 0 [], highest, few_open ts small) in
    both_true (le_true (token_count p (formula_of o left t)) 1500 few) (le_true (most_open p (formula_of o left t)) 64 shallow)

-- more statements behind statements
statements_both : (ts us : List Placed) (ss rs : List PlainStatement) → AreStatements ts ss → AreStatements us rs → AreStatements (ts ++ us) (ss ++ rs)
statements_both ts us ss rs no_statement more = more
statements_both ts us ss rs (statement_before {ts = one} {us = others} {s = s} {ss = qs} is rest) more =
    rw (append_assoc one others us) (statement_before is (statements_both others us qs rs rest more))

-- no front of a text ends in a formula that is too large
abbrev NoneLarge : List Placed → Type 0
NoneLarge whole = (front rest : List Placed) → front ++ rest ≡ whole → IsTooLarge front → ⊥

none_large : (whole : List Placed) → ((k : ℕ) → IsTooLarge (take k whole) → ⊥) → NoneLarge whole
none_large whole small front rest e large =
    let same : front ≡ take (length front) whole = sym (take-append_seam front rest) ∙ ap (take (length front)) e in
    small (length front) (subst IsTooLarge same large)

-- no front of a formula of a text is too large
part_small : (before head us behind : List Placed) (done : List PlainStatement) (t : Term) → AreStatements before done → IsHead head → IsFormula us t →
    NoneLarge (before ++ ((head ++ us) ++ behind)) → (j : ℕ) → IsLarge (take j us) → ⊥
part_small before head us behind done t are headed is small j large =
    let parts : take j us ++ drop j us ≡ us = take-append-drop j us in
    let begun : BeginsFormula (take j us) = (drop j us, t, subst (λ (vs : List Placed). IsFormula vs t) (sym parts) is) in
    let ends : EndsInFormula (before ++ (head ++ take j us)) (take j us) = record {
      before = before;
      statements = done;
      head = head;
      is = refl;
      whole =
          are;
      left = headed;
      begun = begun;
    } in
    let inner : (head ++ take j us) ++ (drop j us ++ behind) ≡ (head ++ us) ++ behind = append_assoc head (take j us) (drop j us ++ behind) ∙
    (ap (λ (l : List Placed). head ++ l) (sym (append_assoc (take j us) (drop j us) behind) ∙ ap (λ (l : List Placed). l ++ behind) parts) ∙
    sym (append_assoc head us behind)) in
    let all : (before ++ (head ++ take j us)) ++ (drop j us ++ behind) ≡ before ++ ((head ++ us) ++ behind) =
    append_assoc before (head ++ take j us) (drop j us ++ behind) ∙ ap (λ (l : List Placed). before ++ l) inner in
    small (before ++ (head ++ take j us)) (drop j us ++ behind) all (record { part = take j us; within = ends; large = large })

-- the tensors of a statement behind others are small
one_small : (o : Outline) (p : PlainProgram) (before ts behind : List Placed) (done : List PlainStatement) (s : PlainStatement) →
    p.params ≡ map param_of o.params → AreStatements before done → IsStatement ts s → NoneLarge (before ++ (ts ++ behind)) →
    find (is_wrong_site o) (outline_in s).sites ≡ None → list_all (is_small p) (tensors_in o s) ≡ true
unfolding outline_in
one_small o p before ts behind done s same are (a_kernel l c a t) small none = refl
one_small o p before ts behind done s same are (a_burst_width l m c a w) small none = refl
one_small o p before ts behind done s same are (an_unroll_factor l m c a w) small none = refl
one_small o p before ts behind done s same are (an_iterate l c a t) small none = refl
one_small o p before ts behind done s same are (ignored_border l c a) small none = refl
one_small o p before ts behind done s same are (preserved_border l c a) small none = refl
one_small o p before ts behind done s same are (a_cluster l c a t) small none = refl
one_small o p before ts behind done s same are (a_param l c t d m x y) small none = refl
one_small o p before ts behind done s same are (an_input l c t d b m x) small none = refl
one_small o p before ts behind done s same are (a_local {ts = head} {us = us} {left = left} {a = a} type defined h f) small none =
    let uses = none_here (is_wrong_site o) (Left defined left) (uses_in a) none in
    both_true (small_formula o p left a us same uses.1 f (part_small before head us behind done a are (type, defined, left, inl h) f small)) refl
one_small o p before ts behind done s same are (an_output {ts = head} {us = us} {left = left} {a = a} type defined h f) small none =
    let uses = none_here (is_wrong_site o) (Left defined left) (uses_in a) none in
    both_true (small_formula o p left a us same uses.1 f (part_small before head us behind done a are (type, defined, left, inr h) f small)) refl

all_of_both : {A : Type 0} (test : A → Bool) (xs ys : List A) → list_all test xs ≡ true → list_all test ys ≡ true → list_all test (xs ++ ys) ≡ true
all_of_both test xs ys e f = list_all-append test xs ys ∙ both_true e f

sites_first : (s : PlainStatement) (ss : List PlainStatement) → (outline_of (s ∷ ss)).sites ≡ (outline_in s).sites ++ (outline_of ss).sites
unfolding outline_of
sites_first s ss = refl

all_small : (o : Outline) (p : PlainProgram) (before ts : List Placed) (done ss : List PlainStatement) → p.params ≡ map param_of o.params →
    AreStatements before done → AreStatements ts ss → NoneLarge (before ++ ts) → find (is_wrong_site o) (outline_of ss).sites ≡ None →
    list_all (is_small p) (flat_map (tensors_in o) ss) ≡ true
all_small o p before ts done ss same are no_statement small none = refl
all_small o p before ts done ss same are (statement_before {ts = one} {us = others} {s = s} {ss = rest} is more) small none =
    let both = none_in_both (is_wrong_site o) (outline_in s).sites (outline_of rest).sites (ap (find (is_wrong_site o)) (sym (sites_first s rest)) ∙ none) in
    let grown : AreStatements (before ++ one) (done ++ s ∷ []) =
    statements_both before one done (s ∷ []) are (subst (λ (l : List Placed). AreStatements l (s ∷ [])) (append_none one) (statement_before is no_statement)) in
    let order : before ++ (one ++ others) ≡ (before ++ one) ++ others = sym (append_assoc before one others) in
    all_of_both (is_small p) (tensors_in o s) (flat_map (tensors_in o) rest) (one_small o p before one others done s same are is small both.0)
    (all_small o p (before ++ one) others (done ++ s ∷ []) rest same grown more (subst NoneLarge order small) both.1)

-- each tensor of a text's program is small as the canonical text writes it
pub small_tensors : (o : Outline) (p : PlainProgram) (bytes : List ℕ) (ss : List PlainStatement) → p.params ≡ map param_of o.params →
    find (is_wrong_site o) (outline_of ss).sites ≡ None → IsSyntax (tokens_of bytes) ss → list_all (is_small p) (flat_map (tensors_in o) ss) ≡ true
small_tensors o p bytes ss same none syn =
    all_small o p [] (tokens_of bytes) [] ss same no_statement syn.statements (none_large (tokens_of bytes) syn.small) none
