-- Pieces of text behind one another.
use Rattle.std.proofs.Common.{◌≡◌, ◌≢◌, ℕ, ◌<◌, ◌≤◌, ◌^◌, true, false, Option, Some, None, MatchOption, List, [], ◌∷◌, ◌++◌, length, get_or, take, drop, sym, ap, ◌∙◌, codes, arith, append_assoc, append-nil, true≢false, Bor}
use Rattle.std.specs.Fmt.{decimal}
use Rattle.std.specs.List.{list_all}
use Rattle.std.proofs.lemmas.List.{append_cancel_left, take-append-drop}
use Rattle.soda_words.proofs.CallerLemmas.{number_is, number_written}
use Rattle.soda_words.specs.Names.{is_digit}
use Rattle.soda_words.specs.Tokens.{is_number, value_behind}
use Rattle.std.proofs.lemmas.Bool.{not-true}
use Rattle.design_lines.specs.Lines.{GoesOn}
use Rattle.design_lines.specs.machine.Reading.{begins_apart, two_numbered}
use Rattle.design_lines.proofs.Apart.{decimal_digits, runs_apart, two_flat}
use Rattle.design_lines.proofs.Runs.{run_before}

-- a text that goes on with a line is that line, its line feed, and more
pub one_line : (w text : List ℕ) → GoesOn (w ∷ []) text → (rest : List ℕ) × (text ≡ (w ++ codes "\n") ++ rest)
one_line w text g = (g.0, g.1 ∙ ap (λ (z : List ℕ). z ++ g.0) (append-nil (w ++ codes "\n")))

-- a line, by what stands behind its words
pub line_after : (line text r : List ℕ) (o : Option (Bor (List ℕ))) → text ≡ line ++ r
    → MatchOption o ((rest : List ℕ) → r ≢ codes "\n" ++ rest) (λ x. r ≡ codes "\n" ++ x.now)
    → MatchOption o (GoesOn (line ∷ []) text → ⊥) (λ x. text ≡ (line ++ codes "\n") ++ x.now)
line_after line text r None is none = λ g.
    let l = one_line line text g in
    none l.0 (append_cancel_left line r (codes "\n" ++ l.0) (sym is ∙ (l.1 ∙ append_assoc line (codes "\n") l.0)))
line_after line text r (Some x) is there = is ∙ ap (λ (z : List ℕ). line ++ z) there ∙ sym (append_assoc line (codes "\n") x.now)

-- no line, where its words do not stand there
pub no_line : (line text : List ℕ) → ((rest : List ℕ) → text ≢ line ++ rest) → GoesOn (line ∷ []) text → ⊥
no_line line text none g = let l = one_line line text g in none (codes "\n" ++ l.0) (l.1 ∙ append_assoc line (codes "\n") l.0)

-- what a text has behind its first digits, where a number and a piece stand there
pub run_of : (text piece rest : List ℕ) (k n : ℕ) → k ≤ length text → list_all is_digit (take k text) ≡ true
    → (k < length text → is_digit (get_or text k 0) ≡ false) → begins_apart piece ≡ true → text ≡ decimal n ++ (piece ++ rest)
    → (take k text ≡ decimal n) × (drop k text ≡ piece ++ rest)
run_of text piece rest k n within digits stop apart e =
    let run : take k text ≡ decimal n = run_before text k (decimal n) piece rest digits stop (decimal_digits n) apart within e in
    let both : decimal n ++ drop k text ≡ decimal n ++ (piece ++ rest) =
    ap (λ (z : List ℕ). z ++ drop k text) (sym run) ∙ (take-append-drop k text ∙ e) in
    (run, append_cancel_left (decimal n) (drop k text) (piece ++ rest) both)

-- no number, where the first digits are none
pub no_number : (ds : List ℕ) (n : ℕ) → is_number ds ≡ false → n < 2 ^ 64 → ds ≡ decimal n → ⊥
no_number ds n none small e = true≢false (sym (number_is n small) ∙ (ap is_number (sym e) ∙ none))

-- two numbers at the end of a line, one after the other
pub two_first : (front between text r : List ℕ) (a b : ℕ) → text ≡ front ++ r → GoesOn (two_numbered front between a b ∷ []) text
    → (rest : List ℕ) × (r ≡ decimal a ++ (between ++ (decimal b ++ (codes "\n" ++ rest))))
two_first front between text r a b is g =
    let l = one_line (two_numbered front between a b) text g in
    (l.0, append_cancel_left front r (decimal a ++ (between ++ (decimal b ++ 10 ∷ l.0))) (sym is ∙ (l.1 ∙ two_flat front between a b l.0)))

-- and put together
pub two_whole : (front between text r₁ r₂ r₃ : List ℕ) (a b : ℕ) → text ≡ front ++ r₁ → r₁ ≡ decimal a ++ (between ++ r₂) → r₂ ≡ decimal b ++ (codes "\n" ++ r₃)
    → text ≡ (two_numbered front between a b ++ codes "\n") ++ r₃
two_whole front between text r₁ r₂ r₃ a b h₁ h₂ h₃ =
    h₁ ∙ ap (λ (z : List ℕ). front ++ z) (h₂ ∙ ap (λ (z : List ℕ). decimal a ++ (between ++ z)) h₃) ∙ sym (two_flat front between a b r₃)

-- the second number, where the first is told
pub two_second : (between r₁ r₂ rest : List ℕ) (n a b : ℕ) → begins_apart between ≡ true → r₁ ≡ decimal n ++ (between ++ r₂)
    → r₁ ≡ decimal a ++ (between ++ (decimal b ++ (codes "\n" ++ rest))) → r₂ ≡ decimal b ++ (codes "\n" ++ rest)
two_second [] r₁ r₂ rest n a b apart told e = absurd (true≢false (sym apart))
two_second (c ∷ between) r₁ r₂ rest n a b apart told e =
    let parts = runs_apart is_digit (decimal n) (decimal a) c c (between ++ r₂) (between ++ (decimal b ++ 10 ∷ rest)) (decimal_digits n) (decimal_digits a)
    (not-true (is_digit c) apart) (not-true (is_digit c) apart) (sym told ∙ e) in
    append_cancel_left (c ∷ between) r₂ (decimal b ++ 10 ∷ rest) parts.1

-- a number and a piece, put together
pub number_whole : (text ds dr piece rest : List ℕ) (k n : ℕ) → ds ≡ take k text → dr ≡ drop k text → is_number ds ≡ true → n ≡ value_behind 0 ds
    → dr ≡ piece ++ rest → (n < 2 ^ 64) × (text ≡ decimal n ++ (piece ++ rest))
number_whole text ds dr piece rest k n front back is value more =
    let w = number_written ds is in
    let small : value_behind 0 ds < 2 ^ 64 = w.1 in
    let whole : ds ++ dr ≡ text = ap (λ (z : List ℕ). z ++ dr) front ∙ ap (λ (z : List ℕ). take k text ++ z) back ∙ take-append-drop k text in
    (omega arith, sym whole ∙ ap (λ (z : List ℕ). z ++ dr) (w.0 ∙ ap decimal (sym value)) ∙ ap (λ (z : List ℕ). decimal n ++ z) more)
