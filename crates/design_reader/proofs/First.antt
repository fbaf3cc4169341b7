-- The lines of a program in a text, and a text from its first line on.
use Rattle.std.proofs.Common.{◌≡◌, ℕ, ◌≤◌, List, ◌++◌, length, sym, ap, subst, ◌∙◌, codes, append_assoc, Result, Ok, Err, IfOk}
use Rattle.std.specs.Fmt.{decimal}
use Rattle.design_lines.specs.Lines.{IsWritten, program_lines}
use Rattle.design_lines.specs.PlanLines.{plan_lines}
use Rattle.design_reader.specs.Limits.{most_design_text}
use Rattle.design_reader.specs.Refused.{IsRefusedBehind, IsRefusedLine, at_program as line_at_program, behind_program as line_behind_program}
use Rattle.design_reader.specs.Stops.{IfRefused}
use Rattle.design_reader.specs.declared.fail.TextFail.{TextFail}
use Rattle.design_reader.specs.machine.Pieces.{IsCut, IsDesignBehind, IsRefusedFirst, IsTextBehind, at_program, behind_program}
use Rattle.module_text.specs.Designs.{Held, plain_design}
use Rattle.module_text.specs.Texts.{IsDesignText, design_text, lines_behind, version_1}
use Rattle.soda_ir.specs.Program.{PlainProgram, plain}
use Rattle.soda_ir.specs.declared.program.Parts.{Parts}
use Rattle.soda_print.specs.Canonical.{canonical, canonical_lines, ended}
use Rattle.soda_print.proofs.CallerLemmas.{ended-append}
use Rattle.design_reader.proofs.Behind.{refused_more}

-- a text goes on with the lines of the program that it is cut behind
pub program_text : (p : PlainProgram) (text front rest : List ℕ) (lines : ℕ) → IsCut text lines front rest → canonical p ≡ front → length (canonical_lines p) ≡ lines
    → text ≡ ended (program_lines p) ++ rest
unfolding canonical
program_text p text front rest lines h is many =
    h.text_is ∙ ap (λ n. ((codes "program " ++ decimal n) ++ codes "\n") ++ (front ++ rest)) (sym many)
    ∙ ap (λ (z : List ℕ). ((codes "program " ++ decimal (length (canonical_lines p))) ++ codes "\n") ++ (z ++ rest)) (sym is)
    ∙ sym (append_assoc ((codes "program " ++ decimal (length (canonical_lines p))) ++ codes "\n") (ended (canonical_lines p)) rest)

-- no program's lines stand where the lines that are cut off are no program's
pub no_program : (text front rest : List ℕ) (lines line : ℕ) → IsCut text lines front rest
    → (line ≡ 2) × ((p : PlainProgram) → IsWritten p → canonical p ≡ front → length (canonical_lines p) ≡ lines → ⊥) → IsRefusedFirst text line
no_program text front rest lines line h none =
    subst (IsRefusedFirst text) (sym none.0) (at_program (λ p w g. let k = h.only p w g in none.1 p w k.0 k.1))

-- a design behind its program
pub told_behind : (r : Result Held TextFail) (parts : Parts) (text rest : List ℕ) → IsWritten (plain parts) → text ≡ ended (program_lines (plain parts)) ++ rest
    → IfOk r (λ d. d.program ≡ parts) → IfOk r (λ d. IsDesignBehind rest (plain_design d)) → IfOk r (λ d. IsTextBehind text (plain_design d))
told_behind (Err e) parts text rest w is same h = tt
told_behind (Ok d) parts text rest w is same h = record {
  written = subst (λ (x : Parts). IsWritten (plain x)) (sym same) w;
  rest = rest;
  behind = h;
  text_is = is ∙ ap (λ (x : Parts). ended (program_lines (plain x)) ++ rest) (sym same);
}

-- a refusal behind a program
pub refused_behind : (r : Result Held TextFail) (p : PlainProgram) (text rest : List ℕ) → IsWritten p → text ≡ ended (program_lines p) ++ rest
    → IfRefused r (IsRefusedBehind version_1 p rest) → IfRefused r (IsRefusedFirst text)
refused_behind r p text rest w is h =
    refused_more r (IsRefusedBehind version_1 p rest) (IsRefusedFirst text) (λ n k. behind_program p rest w is k) h

-- the text of a design, from its first line on
pub told_text : (r : Result Held TextFail) (bytes text : List ℕ) → bytes ≡ (codes "soda 1" ++ codes "\n") ++ text → IfOk r (λ d. IsTextBehind text (plain_design d))
    → IfOk r (λ d. IsDesignText version_1 bytes (plain_design d))
unfolding design_text
told_text (Err e) bytes text is h = tt
told_text (Ok d) bytes text is h =
    let p = plain d.program in
    let a = program_lines p in
    let b = plan_lines p d.delays d.hold d.need in
    let c = lines_behind version_1 (plain_design d) in
    let lines : ended a ++ ended (b ++ c) ≡ ended ((a ++ b) ++ c) = sym (ended-append a (b ++ c)) ∙ ap ended (sym (append_assoc a b c)) in
    record {
      design = h.behind.design;
      program = h.written;
      text = is ∙ ap (λ (z : List ℕ). (codes "soda 1" ++ codes "\n") ++ z) (h.text_is ∙ ap (λ (z : List ℕ). ended a ++ z) h.behind.text_is ∙ lines);
    }

-- a refusal from the first line on
pub refused_line : (bytes text : List ℕ) (line : ℕ) → length bytes ≤ most_design_text → bytes ≡ (codes "soda 1" ++ codes "\n") ++ text → IsRefusedFirst text line
    → IsRefusedLine version_1 bytes line
refused_line bytes text line short is (at_program none) = line_at_program text short is none
refused_line bytes text line short is (behind_program p rest w e h) =
    line_behind_program p rest short w
    (is ∙ ap (λ (z : List ℕ). (codes "soda 1" ++ codes "\n") ++ z) e ∙ sym (append_assoc (codes "soda 1" ++ codes "\n") (ended (program_lines p)) rest)) h
