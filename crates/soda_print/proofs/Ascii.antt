-- The canonical text has bytes below 128 alone.
use Rattle.std.proofs.Common.{◌≡◌, ℕ, ◌==◌, Bool, true, false, ◌&&◌, not, nat_le, nat_lt, List, [], ◌∷◌, ◌++◌, Some, None, refl, ap, ◌∙◌, arith, codes, if◌then◌else◌}
use Rattle.std.specs.List.{list_all}
use Rattle.std.proofs.lemmas.Bool.Decides.{nat_tests}
use Rattle.std.proofs.lemmas.Bool.{and_from, and_parts}
use Rattle.std.proofs.lemmas.List.Folds.{list_all-append}
use Rattle.soda_ir.specs.Program.{PlainProgram}
use Rattle.soda_words.specs.Tokens.{in_comment_behind, line_behind, not_ascii, not_ascii_from}
use Rattle.soda_print.specs.Canonical.{canonical, canonical_lines, ended}
use Rattle.soda_print.proofs.Printable.{AllPrintable, are_printable, is_printable, lines_printable}
use Rattle.soda_print.proofs.Read.{IsReadBack}

abbrev are_ascii : List ℕ → Bool
are_ascii bs = list_all (λ b. nat_lt b 128) bs

not_high : (b : ℕ) → nat_lt b 128 ≡ true → nat_le 128 b ≡ false
not_high b h = grind (arith, nat_tests)

-- such bytes are no byte of 128 or more
pub ascii_none : (bs : List ℕ) (c : Bool) (line : ℕ) → are_ascii bs ≡ true → not_ascii_from c line bs ≡ None
ascii_none [] c line h = refl
ascii_none (b ∷ bs) c line h =
    let low : nat_le 128 b ≡ false = not_high b ((and_parts (nat_lt b 128) (are_ascii bs) h).0) in
    ap (λ t. if (t && not c) then Some line else not_ascii_from (in_comment_behind c b) (line_behind line b) bs) low
    ∙ ascii_none bs (in_comment_behind c b) (line_behind line b) ((and_parts (nat_lt b 128) (are_ascii bs) h).1)

ascii_append : (v w : List ℕ) → are_ascii v ≡ true → are_ascii w ≡ true → are_ascii (v ++ w) ≡ true
ascii_append v w h k = list_all-append (λ b. nat_lt b 128) v w ∙ and_from (are_ascii v) (are_ascii w) h k

low : (b : ℕ) → is_printable b ≡ true → nat_lt b 128 ≡ true
low b h = let less : nat_lt b 127 ≡ true = (and_parts (nat_le 32 b) (nat_lt b 127) h).1 in grind (arith, nat_tests)

printable_ascii : (w : List ℕ) → are_printable w ≡ true → are_ascii w ≡ true
printable_ascii [] h = refl
printable_ascii (b ∷ w) h =
    let both = and_parts (is_printable b) (are_printable w) h in and_from (nat_lt b 128) (are_ascii w) (low b both.0) (printable_ascii w both.1)

-- each line of a list of lines, with its line feed
ended_ascii : (ws : List (List ℕ)) → AllPrintable ws → are_ascii (ended ws) ≡ true
ended_ascii [] h = refl
ended_ascii (w ∷ ws) h =
    ascii_append (w ++ codes "\n") (ended ws) (ascii_append w (codes "\n") (printable_ascii w h.0) refl) (ended_ascii ws h.1)

-- no byte of the canonical text is one of 128 or more
pub canonical_ascii : (p : PlainProgram) → IsReadBack p → not_ascii (canonical p) ≡ None
unfolding canonical
canonical_ascii p h = ascii_none (ended (canonical_lines p)) false 1 (ended_ascii (canonical_lines p) (lines_printable p h))
