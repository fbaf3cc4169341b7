-- The lines of a program are told from what follows them.
use Rattle.std.proofs.Common.{◌≡◌, ℕ, ◌≤◌, true, List, [], ◌∷◌, ◌++◌, length, refl, sym, ap, ◌∙◌, codes, arith, append_assoc, length-append}
use Rattle.std.specs.Fmt.{decimal}
use Rattle.std.proofs.lemmas.Fmt.{decimal_injective}
use Rattle.std.proofs.lemmas.List.{append_cancel_left}
use Rattle.soda_ir.specs.Program.{PlainProgram}
use Rattle.soda_print.specs.Canonical.{canonical, canonical_lines, ended}
use Rattle.soda_print.proofs.CallerLemmas.{canonical_short, readable}
use Rattle.design_lines.specs.Lines.{IsWritten, program_line, program_lines}
use Rattle.design_lines.proofs.Apart.{line_apart, lines_apart}
use Rattle.design_lines.proofs.Inline.{canonical_inline, is_inline, inline_append, number_inline}

-- a text has at least as many bytes as lines
pub as_many_bytes : (ws : List (List ℕ)) → length ws ≤ length (ended ws)
as_many_bytes [] = omega arith
as_many_bytes (w ∷ ws) = omega (arith, length-append (w ++ codes "\n") (ended ws), length-append w (codes "\n"), as_many_bytes ws)

-- a program has few lines
pub few_lines : (p : PlainProgram) → IsWritten p → length (canonical_lines p) ≤ 67108864
unfolding canonical
few_lines p h =
    let short : length (ended (canonical_lines p)) ≤ 67108864 = canonical_short p h.valid h.sized in
    omega (arith, as_many_bytes (canonical_lines p))

pub program_line_inline : (p : PlainProgram) → IsWritten p → is_inline (program_line p) ≡ true
program_line_inline p h =
    let few = few_lines p h in
    inline_append (codes "program ") (decimal (length (canonical_lines p))) refl (number_inline (length (canonical_lines p)) (omega arith))

-- no two programs have one canonical text
abbrev pub AreAlone : Type 0
AreAlone = (p q : PlainProgram) → IsWritten p → IsWritten q → canonical p ≡ canonical q → p ≡ q

-- programs with the same lines are one
same_program : AreAlone → (p q : PlainProgram) → IsWritten p → IsWritten q → canonical_lines p ≡ canonical_lines q → p ≡ q
unfolding canonical
same_program alone p q hp hq e = alone p q hp hq (ap ended e)

-- no two programs have the same lines, whatever follows them
pub program_apart : AreAlone → (p q : PlainProgram) (x y : List ℕ) → IsWritten p → IsWritten q
    → ended (program_lines p) ++ x ≡ ended (program_lines q) ++ y → (p ≡ q) × (x ≡ y)
program_apart alone p q x y hp hq e =
    let flat : (program_line p ++ codes "\n") ++ (ended (canonical_lines p) ++ x) ≡ (program_line q ++ codes "\n") ++ (ended (canonical_lines q) ++ y) =
    sym (append_assoc (program_line p ++ codes "\n") (ended (canonical_lines p)) x) ∙ (e ∙ append_assoc (program_line q ++ codes "\n") (ended (canonical_lines q)) y) in
    let first = line_apart (program_line p) (program_line q) (ended (canonical_lines p) ++ x) (ended (canonical_lines q) ++ y)
    (program_line_inline p hp) (program_line_inline q hq) flat in
    let few_p = few_lines p hp in
    let few_q = few_lines q hq in
    let many : length (canonical_lines p) ≡ length (canonical_lines q) =
    decimal_injective (length (canonical_lines p)) (length (canonical_lines q)) (omega arith) (omega arith)
    (append_cancel_left (codes "program ") (decimal (length (canonical_lines p))) (decimal (length (canonical_lines q))) first.0) in
    let rest = lines_apart (canonical_lines p) (canonical_lines q) x y (canonical_inline p (readable p hp.valid hp.sized)) (canonical_inline q (readable q hq.valid hq.sized))
    many first.1 in
    (same_program alone p q hp hq rest.0, rest.1)
