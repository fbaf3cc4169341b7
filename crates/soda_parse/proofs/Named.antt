-- The names of an accepted text are names, and its params have at most two sizes.
use Rattle.std.proofs.Common.{◌≡◌, ℕ, zero, suc, ◌≤◌, Bool, true, false, not, List, [], ◌∷◌, ◌++◌, length, map, Some, None, Option, refl, arith, cond, subst, ◌==◌}
use Rattle.std.specs.Prelude.{find, nat_le, unwrap_or}
use Rattle.std.specs.List.{list_all, list_any}
use Rattle.std.proofs.lemmas.Bool.Decides.{nat_tests}
use Rattle.std.proofs.lemmas.List.{length-map}
use Rattle.soda_checks.specs.Conditions.{first_by, is_kind, is_wrong_site}
use Rattle.soda_checks.specs.Outline.{outline_in, outline_of, uses_in}
use Rattle.soda_checks.specs.declared.outline.Outline.{Outline}
use Rattle.soda_checks.specs.declared.outline.SettingKind.TheVariants.{Kernel}
use Rattle.soda_checks.specs.declared.outline.Site.{Site}
use Rattle.soda_checks.specs.declared.outline.Site.TheVariants.{Size as SiteSize, Left}
use Rattle.soda_ir.specs.Valid.{is_good_param}
use Rattle.soda_parse.specs.Meaning.{kernel_in, param_of}
use Rattle.soda_parse.proofs.Tiling.{none_here}
use Rattle.soda_parse.proofs.Uses.{none_in_both}
use Rattle.soda_syntax.specs.Grammar.{AreStatements, IsStatement, a_kernel, a_burst_width, an_unroll_factor, an_iterate, ignored_border, preserved_border, a_cluster, a_param, an_input, a_local, an_output, no_statement, statement_before}
use Rattle.soda_formula.specs.Statements.{PlainStatement, kernel, burst_width, unroll_factor, iterate, border, cluster, param, input, local, output}
use Rattle.soda_formula.specs.declared.statement.Size.{Size}
use Rattle.soda_words.specs.Names.{is_name, is_word_byte}
use Rattle.soda_words.specs.Symbols.{double_of}
use Rattle.soda_words.specs.Tokens.{Front, double_front, first_line, first_word, front_of, is_number, is_white, line_behind, value_behind, placed, sign_or_bad, symbol_front, tokens_behind, tokens_of, word_token}
use Rattle.soda_words.specs.declared.symbol.Symbol.{Symbol}
use Rattle.soda_words.specs.declared.token.Placed.{Placed}
use Rattle.soda_words.specs.declared.token.Token.{Token}
use Rattle.soda_words.specs.declared.token.Token.TheVariants.{Name, Number, Sign, Bad}

-- a token that is a name is one
abbrev IsFine : Token → Type 0
IsFine (Name w) = is_name w ≡ true
IsFine (Number n) = Unit {0}
IsFine (Sign s) = Unit {0}
IsFine Bad = Unit {0}

abbrev AreFine : List Placed → Type 0
AreFine [] = Unit {0}
AreFine (t ∷ ts) = IsFine t.token × AreFine ts

fine_number : (b : Bool) (n : ℕ) → IsFine (cond b (Number n) Bad)
fine_number true n = tt
fine_number false n = tt

fine_word_token : (w : List ℕ) (b : Bool) (t : Token) → is_name w ≡ b → IsFine t → IsFine (cond b (Name w) t)
fine_word_token w true t e f = e
fine_word_token w false t e f = f

-- the token of a front, if there is one
abbrev MayBeFine : Option Token → Type 0
MayBeFine None = Unit {0}
MayBeFine (Some t) = IsFine t

either_front : (b : Bool) (f g : Front) → MayBeFine f.token → MayBeFine g.token → MayBeFine (cond b f g).token
either_front true f g h k = h
either_front false f g h k = k

fine_sign : (o : Option Symbol) → IsFine (sign_or_bad o)
fine_sign None = tt
fine_sign (Some s) = tt

fine_double : (b : ℕ) (o : Option Symbol) → MayBeFine (double_front b o).token
fine_double b None = fine_sign _
fine_double b (Some s) = tt

fine_symbol : (b : ℕ) (bs : List ℕ) → MayBeFine (symbol_front b bs).token
fine_symbol b [] = fine_sign _
fine_symbol b (c ∷ bs) = fine_double b (double_of b c)

abbrev comment_front : List ℕ → Front
comment_front bs = record { token = None; more = length (first_line bs) }

abbrev word_front : ℕ → List ℕ → Front
word_front b bs = record { token = Some (word_token (b ∷ first_word bs)); more = length (first_word bs) }

fine_front : (b : ℕ) (bs : List ℕ) → MayBeFine (front_of b bs).token
unfolding front_of
fine_front b bs =
    let word : MayBeFine (word_front b bs).token =
    fine_word_token (b ∷ first_word bs) (is_name (b ∷ first_word bs)) (cond (is_number (b ∷ first_word bs))
    (Number (value_behind 0 (b ∷ first_word bs))) Bad) refl (fine_number (is_number (b ∷ first_word bs)) (value_behind 0 (b ∷ first_word bs))) in
    either_front (is_white b) (record {
      token = None;
      more =
          0;
    }) (cond (b == 35) (comment_front bs) (cond (is_word_byte b) (word_front b bs) (symbol_front b bs))) tt
    (either_front (b == 35) (comment_front bs) (cond (is_word_byte b) (word_front b bs) (symbol_front b bs)) tt
    (either_front (is_word_byte b) (word_front b bs) (symbol_front b bs) word (fine_symbol b bs)))

fine_both : (xs ys : List Placed) → AreFine xs → AreFine ys → AreFine (xs ++ ys)
fine_both [] ys h k = k
fine_both (x ∷ xs) ys h k = (h.0, fine_both xs ys h.1 k)

fine_placed : (line : ℕ) (o : Option Token) → MayBeFine o → AreFine (placed line o)
fine_placed line None h = tt
fine_placed line (Some t) h = (h, tt)

tokens_fine : (k line : ℕ) (bs : List ℕ) → AreFine (tokens_behind k line bs)
unfolding tokens_behind
tokens_fine k line [] = tt
tokens_fine zero line (b ∷ bs) =
    fine_both (placed line (front_of b bs).token) _ (fine_placed line (front_of b bs).token (fine_front b bs))
    (tokens_fine (front_of b bs).more (line_behind line b) bs)
tokens_fine (suc k) line (b ∷ bs) = tokens_fine k (line_behind line b) bs

fine_left : (xs ys : List Placed) → AreFine (xs ++ ys) → AreFine xs
fine_left [] ys h = tt
fine_left (x ∷ xs) ys h = (h.0, fine_left xs ys h.1)

fine_right : (xs ys : List Placed) → AreFine (xs ++ ys) → AreFine ys
fine_right [] ys h = h
fine_right (x ∷ xs) ys h = fine_right xs ys h.1

-- the names that a statement declares are names, and a param has at most two sizes
abbrev IsNamed : PlainStatement → Type 0
IsNamed (kernel l w) = is_name w ≡ true
IsNamed (param p) = (is_name p.name.text ≡ true) × (length p.sizes ≤ 2)
IsNamed (input i) = is_name i.name.text ≡ true
IsNamed (local f) = is_name f.name.text ≡ true
IsNamed (output f) = is_name f.name.text ≡ true
IsNamed (burst_width l n) = Unit {0}
IsNamed (unroll_factor l n) = Unit {0}
IsNamed (iterate l n) = Unit {0}
IsNamed (border l b) = Unit {0}
IsNamed (cluster l) = Unit {0}

-- each name that these statements declare is a name
abbrev pub AreNamed : List PlainStatement → Type 0
AreNamed [] = Unit {0}
AreNamed (s ∷ ss) = IsNamed s × AreNamed ss

named : (ts : List Placed) (s : PlainStatement) → IsStatement ts s → AreFine ts → IsNamed s
named ts s (a_kernel l c a t) h = h.1.1.0
named ts s (a_burst_width l m c a w) h = tt
named ts s (an_unroll_factor l m c a w) h = tt
named ts s (an_iterate l c a t) h = tt
named ts s (ignored_border l c a) h = tt
named ts s (preserved_border l c a) h = tt
named ts s (a_cluster l c a t) h = tt
named ts s (a_param l c t d m x y) h = (h.1.1.1.0, y)
named ts s (an_input {bank = bank} l c t d b m x) h = (fine_right bank _ h.1).1.1.0
named ts s (a_local {ts = head} {us = us} t d i f) h =
    let g : AreFine head = fine_left head us h in
    let k = subst AreFine i.is g in
    (subst AreFine i.side.is k.1).1.1.0
named ts s (an_output {ts = head} {us = us} t d i f) h =
    let g : AreFine head = fine_left head us h in
    let k = subst AreFine i.is g in
    (subst AreFine i.side.is (fine_right i.bank i.rest k.1)).1.1.0

-- statements of fine tokens declare names
pub all_named : (ts : List Placed) (ss : List PlainStatement) → AreStatements ts ss → AreFine ts → AreNamed ss
all_named ts ss no_statement h = tt
all_named ts ss (statement_before {ts = front} {us = back} {s = s} {ss = rest} one more) h =
    (named front s one (fine_left front back h), all_named back rest more (fine_right front back h))

-- the names that an accepted text declares are names
pub names_named : (bytes : List ℕ) (ss : List PlainStatement) → AreStatements (tokens_of bytes) ss → AreNamed ss
names_named bytes ss are = all_named (tokens_of bytes) ss are (tokens_fine 0 1 bytes)

-- the declared words of an outline are names
pub declared_named : (ss : List PlainStatement) → AreNamed ss → list_all (λ w. is_name w.text) (outline_of ss).declared ≡ true
unfolding outline_of outline_in
declared_named [] h = refl
declared_named (kernel l w ∷ ss) h = declared_named ss h.1
declared_named (burst_width l n ∷ ss) h = declared_named ss h.1
declared_named (unroll_factor l n ∷ ss) h = declared_named ss h.1
declared_named (iterate l n ∷ ss) h = declared_named ss h.1
declared_named (border l p ∷ ss) h = declared_named ss h.1
declared_named (cluster l ∷ ss) h = declared_named ss h.1
declared_named (param p ∷ ss) h = rw h.0.0 (declared_named ss h.1)
declared_named (input i ∷ ss) h = rw h.0 (declared_named ss h.1)
declared_named (local f ∷ ss) h = rw h.0 (declared_named ss h.1)
declared_named (output f ∷ ss) h = rw h.0 (declared_named ss h.1)

-- the name of the program is a name
pub kernel_named : (ss : List PlainStatement) → AreNamed ss → list_any (is_kind Kernel) (outline_of ss).settings ≡ true →
    is_name (unwrap_or (first_by kernel_in ss) []) ≡ true
unfolding outline_of outline_in
kernel_named [] h e = cc
kernel_named (kernel l w ∷ ss) h e = h.0
kernel_named (burst_width l n ∷ ss) h e = kernel_named ss h.1 e
kernel_named (unroll_factor l n ∷ ss) h e = kernel_named ss h.1 e
kernel_named (iterate l n ∷ ss) h e = kernel_named ss h.1 e
kernel_named (border l p ∷ ss) h e = kernel_named ss h.1 e
kernel_named (cluster l ∷ ss) h e = kernel_named ss h.1 e
kernel_named (param p ∷ ss) h e = kernel_named ss h.1 e
kernel_named (input i ∷ ss) h e = kernel_named ss h.1 e
kernel_named (local f ∷ ss) h e = kernel_named ss h.1 e
kernel_named (output f ∷ ss) h e = kernel_named ss h.1 e

nonzero_sizes : (o : Outline) (sizes : List Size) (ys : List Site) → find (is_wrong_site o) (map (λ s. SiteSize s) sizes ++ ys) ≡ None →
    (list_all (λ n. not (n == 0)) (map (λ s. s.value) sizes) ≡ true) × (find (is_wrong_site o) ys ≡ None)
nonzero_sizes o [] ys e = (refl, e)
nonzero_sizes o (s ∷ ss) ys e =
    let here = none_here (is_wrong_site o) (SiteSize s) (map (λ t. SiteSize t) ss ++ ys) e in
    let rest = nonzero_sizes o ss ys here.1 in
    (rw (here.0, rest.0) refl, rest.1)

past_line : (o : Outline) (xs ys : List Site) (x : Site) → find (is_wrong_site o) (x ∷ (xs ++ ys)) ≡ None → find (is_wrong_site o) ys ≡ None
past_line o xs ys x e = (none_in_both (is_wrong_site o) xs ys (none_here (is_wrong_site o) x (xs ++ ys) e).1).1

-- each param has at most two sizes, none of them 0
pub params_good : (o : Outline) (ss : List PlainStatement) → AreNamed ss → find (is_wrong_site o) (outline_of ss).sites ≡ None →
    list_all is_good_param (map param_of (outline_of ss).params) ≡ true
unfolding outline_of outline_in
params_good o [] h e = refl
params_good o (kernel l w ∷ ss) h e = params_good o ss h.1 e
params_good o (burst_width l n ∷ ss) h e = params_good o ss h.1 e
params_good o (unroll_factor l n ∷ ss) h e = params_good o ss h.1 e
params_good o (iterate l n ∷ ss) h e = params_good o ss h.1 e
params_good o (border l p ∷ ss) h e = params_good o ss h.1 e
params_good o (cluster l ∷ ss) h e = params_good o ss h.1 e
params_good o (param p ∷ ss) h e =
    let sizes = nonzero_sizes o p.sizes (outline_of ss).sites e in
    let two : nat_le (length (map (λ s. s.value) p.sizes)) 2 ≡ true = grind (arith, nat_tests, length-map p.sizes (λ s. s.value), h.0.1) in
    rw (two, sizes.0) (params_good o ss h.1 sizes.1)
params_good o (input i ∷ ss) h e = params_good o ss h.1 e
params_good o (local f ∷ ss) h e = params_good o ss h.1 (past_line o (uses_in f.formula) (outline_of ss).sites (Left f.name f.left) e)
params_good o (output f ∷ ss) h e = params_good o ss h.1 (past_line o (uses_in f.formula) (outline_of ss).sites (Left f.name f.left) e)
