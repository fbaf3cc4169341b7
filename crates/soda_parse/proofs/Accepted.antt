-- The canonical text of a program is accepted as that program, and as no other.
use Rattle.std.proofs.Common.{◌≡◌, ℕ, List, Result, Ok, Err, sym, subst}
use Rattle.std.specs.Prelude.{IfOk}
use Rattle.soda_ir.specs.Program.{PlainProgram}
use Rattle.soda_ir.specs.Valid.{IsValid}
use Rattle.soda_parse.specs.Text.{Accepts}
use Rattle.soda_print.specs.Canonical.{canonical}
use Rattle.soda_print.specs.Sized.{IsSizedProgram}
use Rattle.soda_print.proofs.CallerLemmas.{canonical_ascii, canonical_read, canonical_short, readable}
use Rattle.soda_syntax.specs.SyntaxError.{IsSyntax}
use Rattle.soda_words.specs.declared.token.Placed.{Placed}
use Rattle.soda_parse.proofs.Exclusive.{program_is_one}
use Rattle.soda_parse.proofs.FineProgram.{not_refused}
use Rattle.soda_parse.proofs.ReadProgram.{program_back}
use Rattle.soda_parse.proofs.Statements.{statements_of}
use Rattle.soda_parse.proofs.WrittenLines.{written_lines}

-- the canonical text is accepted as its program
pub accepted : (p : PlainProgram) → IsValid p → IsSizedProgram p → Accepts 67108864 (canonical p) p
accepted p v s = record {
  short = canonical_short p v s;
  ascii = canonical_ascii p (readable p v s);
  statements = statements_of p;
  syntax_kept = subst (λ (ts : List Placed). IsSyntax ts (statements_of p)) (sym (canonical_read p v s)) (written_lines p v s);
  valid = not_refused p v s;
  is = sym (program_back p v s);
}

-- the canonical text of a valid program whose numbers fit is accepted as it
pub accepted_text : (bytes : List ℕ) (p : PlainProgram) → IsValid p → IsSizedProgram p → bytes ≡ canonical p → Accepts 67108864 bytes p
accepted_text bytes p v s e = subst (λ (w : List ℕ). Accepts 67108864 w p) (sym e) (accepted p v s)

-- no other program has this text
pub alone : (bytes : List ℕ) (p q : PlainProgram) → IsValid p → IsSizedProgram p → bytes ≡ canonical p → IsValid q → IsSizedProgram q →
    canonical q ≡ bytes → q ≡ p
alone bytes p q v s e w t f = program_is_one 67108864 bytes q p (accepted_text bytes q w t (sym f)) (accepted_text bytes p v s e)

-- the same of an answer
pub text_read_back : {A E : Type 0} (bytes_of : A → List ℕ) (r : Result A E) (p : PlainProgram) → IfOk r (λ t. bytes_of t ≡ canonical p) →
    IfOk r (λ t. IsValid p) → IfOk r (λ t. IsSizedProgram p) → IfOk r (λ t. Accepts 67108864 (bytes_of t) p)
text_read_back bytes_of (Ok t) p e v s = accepted_text (bytes_of t) p v s e
text_read_back bytes_of (Err f) p e v s = tt

-- bytes that are a program's canonical text are accepted as no other program
pub text_of_one : {A E : Type 0} (bytes_of : A → List ℕ) (r : Result A E) (p : PlainProgram) → IfOk r (λ t. bytes_of t ≡ canonical p) →
    IfOk r (λ t. IsValid p) → IfOk r (λ t. IsSizedProgram p) → IfOk r (λ t. (q : PlainProgram) → Accepts 67108864 (bytes_of t) q → q ≡ p)
text_of_one bytes_of (Ok t) p e v s = λ q a. program_is_one 67108864 (bytes_of t) q p a (accepted_text (bytes_of t) p v s e)
text_of_one bytes_of (Err f) p e v s = tt

-- bytes that are a program's canonical text are the canonical text of no other
pub text_alone : {A E : Type 0} (bytes_of : A → List ℕ) (r : Result A E) (p : PlainProgram) → IfOk r (λ t. bytes_of t ≡ canonical p) →
    IfOk r (λ t. IsValid p) → IfOk r (λ t. IsSizedProgram p) → IfOk r (λ t. (q : PlainProgram) → IsValid q → IsSizedProgram q → canonical q ≡ bytes_of t →
    q ≡ p)
text_alone bytes_of (Ok t) p e v s = λ q w u f. alone (bytes_of t) p q v s e w u f
text_alone bytes_of (Err f) p e v s = tt
