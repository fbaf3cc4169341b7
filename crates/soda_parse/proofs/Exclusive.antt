-- A text is accepted as one program, or refused for one cause.
use Rattle.std.proofs.Common.{◌≡◌, inl, inr, ℕ, suc, ◌<◌, ◌≤◌, List, ◌++◌, length, take, drop, Some, None, refl, sym, ap, ◌∙◌, arith}
use Rattle.std.proofs.lemmas.List.{take-append-drop}
use Rattle.std.proofs.lemmas.Option.{slice_get_within}
use Rattle.std.specs.Prelude.{slice_get, Result, Ok, Err, IfOk}
use Rattle.soda_checks.specs.Outline.{outline_of}
use Rattle.soda_ir.specs.Program.{PlainProgram}
use Rattle.soda_parse.specs.Fails.{IfRefused, unread}
use Rattle.soda_parse.specs.declared.reading.ParseFail.{ParseFail}
use Rattle.soda_parse.specs.declared.reading.ParseFail.TheVariants.{Refused, Memory}
use Rattle.soda_syntax.specs.Fails.{IfRefused as IfUnread}
use Rattle.soda_syntax.specs.declared.reading.SyntaxFail.{SyntaxFail}
use Rattle.soda_syntax.specs.declared.reading.SyntaxFail.TheVariants.{Refused as SyntaxRefused, Memory as SyntaxMemory}
use Rattle.soda_parse.specs.Meaning.{program_by}
use Rattle.soda_parse.specs.Text.{Accepts, Refuses, too_long, no_ascii, no_syntax, not_valid, statement_refusal}
use Rattle.soda_parse.specs.declared.refusal.Refusal.{Refusal}
use Rattle.soda_parse.specs.declared.refusal.Refusal.TheVariants.{Syntax, NotAscii}
use Rattle.soda_syntax.proofs.CallerLemmas.{statements_are_one}
use Rattle.soda_formula.specs.Statements.{PlainStatement}
use Rattle.soda_syntax.specs.SyntaxError.{IsGoodStart, IsSyntax, IsSyntaxError, IsWrongAt}
use Rattle.soda_words.specs.Tokens.{not_ascii, tokens_of}
use Rattle.soda_words.specs.declared.token.Placed.{Placed}

-- each front of statements begins a text
good_front : (ts : List Placed) (ss : List PlainStatement) (k : ℕ) → IsSyntax ts ss → IsGoodStart (take k ts)
good_front ts ss k syn = record {
  begins = (drop k ts, ss, (let whole : take k ts ++ drop k ts ≡ ts = take-append-drop k ts in rw whole syn.statements));
  small = syn.small k;
}

syntax_or_error : (bytes : List ℕ) (ss : List PlainStatement) (line : ℕ) → IsSyntax (tokens_of bytes) ss → IsSyntaxError bytes line → ⊥
syntax_or_error bytes ss line syn (inl w) = w.first.wrong (good_front (tokens_of bytes) ss (suc w.number) syn)
syntax_or_error bytes ss line syn (inr e) = e.no_text ss syn.statements

one_number : (bytes : List ℕ) (l m : ℕ) (v : IsWrongAt bytes l) (w : IsWrongAt bytes m) → v.number ≡ w.number
one_number bytes l m v w =
    let not_less : v.number < w.number → ⊥ = λ lt. v.first.wrong (w.first.good (suc v.number) (omega arith)) in
    let not_more : w.number < v.number → ⊥ = λ lt. w.first.wrong (v.first.good (suc w.number) (omega arith)) in
    omega (arith, not_less, not_more)

line_is_one : (bytes : List ℕ) (l m : ℕ) → IsSyntaxError bytes l → IsSyntaxError bytes m → l ≡ m
line_is_one bytes l m (inl v) (inl w) =
    let same : Some v.token ≡ Some w.token = sym v.there ∙ (ap (slice_get (tokens_of bytes)) (one_number bytes l m v w) ∙ w.there) in
    let token : v.token ≡ w.token = cc in
    v.is ∙ (ap (λ (t : Placed). t.line) token ∙ sym w.is)
line_is_one bytes l m (inl v) (inr e) =
    absurd (v.first.wrong (e.good (suc v.number) (slice_get_within (tokens_of bytes) v.number v.token v.there)))
line_is_one bytes l m (inr e) (inl w) =
    absurd (w.first.wrong (e.good (suc w.number) (slice_get_within (tokens_of bytes) w.number w.token w.there)))
line_is_one bytes l m (inr e) (inr f) = e.is ∙ sym f.is

-- an accepted text is refused for no cause
pub never_both : (most : ℕ) (bytes : List ℕ) (p : PlainProgram) (r : Refusal) → Accepts most bytes p → Refuses most bytes r → ⊥
never_both most bytes p r a (too_long lt) = omega (arith, a.short)
never_both most bytes p r a (no_ascii {line = l} le e) = let h : None ≡ Some l = sym a.ascii ∙ e in cc
never_both most bytes p r a (no_syntax {line = l} le e s) = syntax_or_error bytes a.statements l a.syntax_kept s
never_both most bytes p r a (not_valid {r = s} ss le e syn f) =
    let same : a.statements ≡ ss = statements_are_one (tokens_of bytes) a.statements ss a.syntax_kept.statements syn.statements in
    let h : None ≡ Some s = sym a.valid ∙ (ap statement_refusal same ∙ f) in cc

-- a text stands for one program
pub program_is_one : (most : ℕ) (bytes : List ℕ) (p q : PlainProgram) → Accepts most bytes p → Accepts most bytes q → p ≡ q
program_is_one most bytes p q a b =
    let same : a.statements ≡ b.statements = statements_are_one (tokens_of bytes) a.statements b.statements a.syntax_kept.statements b.syntax_kept.statements in
    a.is ∙ (ap (λ (ss : List PlainStatement). program_by (outline_of ss) ss) same ∙ sym b.is)

-- a text is refused for one cause
pub refusal_is_one : (most : ℕ) (bytes : List ℕ) (r s : Refusal) → Refuses most bytes r → Refuses most bytes s → r ≡ s
refusal_is_one most bytes r s (too_long lt) (too_long gt) = refl
refusal_is_one most bytes r s (too_long lt) (no_ascii le e) = absurd (omega arith)
refusal_is_one most bytes r s (too_long lt) (no_syntax le e x) = absurd (omega arith)
refusal_is_one most bytes r s (too_long lt) (not_valid ss le e x y) = absurd (omega arith)
refusal_is_one most bytes r s (no_ascii le e) (too_long lt) = absurd (omega arith)
refusal_is_one most bytes r s (no_ascii {line = l} le e) (no_ascii {line = m} me f) =
    let h : Some l ≡ Some m = sym e ∙ f in let same : l ≡ m = cc in ap (λ (n : ℕ). NotAscii n) same
refusal_is_one most bytes r s (no_ascii {line = l} le e) (no_syntax me f x) = let h : Some l ≡ None = sym e ∙ f in cc
refusal_is_one most bytes r s (no_ascii {line = l} le e) (not_valid ss me f x y) = let h : Some l ≡ None = sym e ∙ f in cc
refusal_is_one most bytes r s (no_syntax le e x) (too_long lt) = absurd (omega arith)
refusal_is_one most bytes r s (no_syntax le e x) (no_ascii {line = m} me f) = let h : None ≡ Some m = sym e ∙ f in cc
refusal_is_one most bytes r s (no_syntax {line = l} le e x) (no_syntax {line = m} me f y) = ap (λ (n : ℕ). Syntax n) (line_is_one bytes l m x y)
refusal_is_one most bytes r s (no_syntax {line = l} le e x) (not_valid ss me f y z) = absurd (syntax_or_error bytes ss l y x)
refusal_is_one most bytes r s (not_valid ss le e x y) (too_long lt) = absurd (omega arith)
refusal_is_one most bytes r s (not_valid ss le e x y) (no_ascii {line = m} me f) = let h : None ≡ Some m = sym e ∙ f in cc
refusal_is_one most bytes r s (not_valid ss le e x y) (no_syntax {line = m} me f z) = absurd (syntax_or_error bytes ss m x z)
refusal_is_one most bytes r s (not_valid {r = t} ss le e x y) (not_valid {r = u} rs me f v w) =
    let same : ss ≡ rs = statements_are_one (tokens_of bytes) ss rs x.statements v.statements in
    let h : Some t ≡ Some u = sym y ∙ (ap statement_refusal same ∙ w) in cc

-- the same of an answer
pub only_one : {A : Type 0} (f : A → PlainProgram) (most : ℕ) (bytes : List ℕ) (r : Result A ParseFail) → IfOk r (λ p. Accepts most bytes (f p)) →
    IfOk r (λ p. (q : PlainProgram) → Accepts most bytes q → q ≡ f p)
only_one f most bytes (Ok p) a = λ q b. program_is_one most bytes q (f p) b a
only_one f most bytes (Err e) a = tt

-- where the answer is a program, no cause refuses the text
pub none_refused : {A : Type 0} (f : A → PlainProgram) (most : ℕ) (bytes : List ℕ) (r : Result A ParseFail) → IfOk r (λ p. Accepts most bytes (f p)) →
    IfOk r (λ p. (s : Refusal) → Refuses most bytes s → ⊥)
none_refused f most bytes (Ok p) a = λ s b. never_both most bytes (f p) s a b
none_refused f most bytes (Err e) a = tt

-- where the answer is a cause, each cause that refuses the text is this one
pub only_cause : {A : Type 0} (most : ℕ) (bytes : List ℕ) (r : Result A ParseFail) → IfRefused r (Refuses most bytes) →
    IfRefused r (λ c. (s : Refusal) → Refuses most bytes s → s ≡ c)
only_cause most bytes (Ok p) a = tt
only_cause most bytes (Err (Refused c)) a = λ s b. refusal_is_one most bytes s c b a
only_cause most bytes (Err Memory) a = tt

-- where the answer is a cause, the text is accepted as no program
pub none_accepted : {A : Type 0} (most : ℕ) (bytes : List ℕ) (r : Result A ParseFail) → IfRefused r (Refuses most bytes) →
    IfRefused r (λ c. (q : PlainProgram) → Accepts most bytes q → ⊥)
none_accepted most bytes (Ok p) a = tt
none_accepted most bytes (Err (Refused c)) a = λ q b. never_both most bytes q c b a
none_accepted most bytes (Err Memory) a = tt

-- a text whose statements were not read is refused for its syntax
pub syntax_refused : (A B : Type 0) (most : ℕ) (bytes : List ℕ) (fail : SyntaxFail) → length bytes ≤ most → not_ascii bytes ≡ None →
    IfUnread {A = B} (Err fail) (IsSyntaxError bytes) → IfRefused {A = A} (Err (unread fail)) (Refuses most bytes)
syntax_refused A B most bytes (SyntaxRefused line) short ascii e = no_syntax short ascii e
syntax_refused A B most bytes SyntaxMemory short ascii e = tt
