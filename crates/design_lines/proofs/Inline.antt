-- Lines of bytes that show hold no line feed.
use Rattle.std.proofs.Common.{◌≡◌, ℕ, ◌<◌, ◌^◌, ◌==◌, Bool, true, false, ◌&&◌, not, nat_le, nat_lt, List, [], ◌∷◌, ◌++◌, refl, ◌∙◌, arith}
use Rattle.std.specs.Fmt.{decimal}
use Rattle.std.specs.List.{list_all}
use Rattle.std.proofs.lemmas.Bool.Decides.{nat_tests}
use Rattle.std.proofs.lemmas.Bool.{and_from, and_parts}
use Rattle.std.proofs.lemmas.List.Folds.{list_all-append}
use Rattle.soda_ir.specs.Program.{PlainProgram}
use Rattle.soda_print.specs.Canonical.{canonical_lines}
use Rattle.soda_print.proofs.CallerLemmas.{AllPrintable, IsReadBack, are_printable, is_printable, lines_printable, number_printable}

-- a text without a line feed
abbrev pub is_inline : List ℕ → Bool
is_inline bs = list_all (λ b. not (b == 10)) bs

pub inline_append : (v w : List ℕ) → is_inline v ≡ true → is_inline w ≡ true → is_inline (v ++ w) ≡ true
inline_append v w h k = list_all-append (λ b. not (b == 10)) v w ∙ and_from (is_inline v) (is_inline w) h k

above : (b : ℕ) → nat_le 32 b ≡ true → not (b == 10) ≡ true
above b h = grind (arith, nat_tests)

pub printable_inline : (w : List ℕ) → are_printable w ≡ true → is_inline w ≡ true
printable_inline [] h = refl
printable_inline (b ∷ w) h =
    let both = and_parts (is_printable b) (are_printable w) h in
    and_from (not (b == 10)) (is_inline w) (above b ((and_parts (nat_le 32 b) (nat_lt b 127) both.0).0)) (printable_inline w both.1)

pub number_inline : (n : ℕ) → n < 2 ^ 64 → is_inline (decimal n) ≡ true
number_inline n h = printable_inline (decimal n) (number_printable n h)

-- each text of a list
abbrev pub AllInline : List (List ℕ) → Type 0
AllInline [] = Unit {0}
AllInline (w ∷ ws) = (is_inline w ≡ true) × AllInline ws

lines_inline : (ws : List (List ℕ)) → AllPrintable ws → AllInline ws
lines_inline [] h = tt
lines_inline (w ∷ ws) h = (printable_inline w h.0, lines_inline ws h.1)

-- no line of the canonical text holds a line feed
pub canonical_inline : (p : PlainProgram) → IsReadBack p → AllInline (canonical_lines p)
canonical_inline p h = lines_inline (canonical_lines p) (lines_printable p h)
