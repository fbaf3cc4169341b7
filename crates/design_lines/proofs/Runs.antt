-- Runs of digits, and the numbers that they write.
use Rattle.std.proofs.Common.{◌≡◌, ℕ, zero, suc, ◌<◌, ◌≤◌, Bool, true, false, not, List, [], ◌∷◌, ◌++◌, length, get_or, take, refl, sym, ap, ◌∙◌, arith, true≢false}
use Rattle.std.specs.List.{list_all}
use Rattle.std.proofs.lemmas.Bool.{and_parts, not-true}
use Rattle.soda_words.specs.Names.{is_digit}
use Rattle.design_lines.specs.machine.Reading.{begins_apart}

digit_no : (b c : ℕ) → is_digit b ≡ true → is_digit c ≡ false → b ≡ c → ⊥
digit_no b c h k e = true≢false (sym h ∙ (ap is_digit e ∙ k))

-- the longest run of digits is the digits that something else follows
pub run_is : (text : List ℕ) (k : ℕ) (ds : List ℕ) (c : ℕ) (rest : List ℕ) → list_all is_digit (take k text) ≡ true
    → (k < length text → is_digit (get_or text k 0) ≡ false) → list_all is_digit ds ≡ true → is_digit c ≡ false → k ≤ length text → text ≡ ds ++ c ∷ rest
    → take k text ≡ ds
run_is [] k [] c rest run stop digits apart within e = cc
run_is [] k (d ∷ ds) c rest run stop digits apart within e = cc
run_is (b ∷ text) zero [] c rest run stop digits apart within e = refl
run_is (b ∷ text) zero (d ∷ ds) c rest run stop digits apart within e =
    let first : d ≡ b = cc in
    absurd (digit_no d b ((and_parts (is_digit d) (list_all is_digit ds) digits).0) (stop (omega arith)) first)
run_is (b ∷ text) (suc k) [] c rest run stop digits apart within e =
    let first : b ≡ c = cc in
    absurd (digit_no b c ((and_parts (is_digit b) (list_all is_digit (take k text)) run).0) apart first)
run_is (b ∷ text) (suc k) (d ∷ ds) c rest run stop digits apart within e =
    let first : b ≡ d = cc in
    let later : text ≡ ds ++ c ∷ rest = cc in
    let more = run_is text k ds c rest ((and_parts (is_digit b) (list_all is_digit (take k text)) run).1) (λ lt. stop (omega arith))
    ((and_parts (is_digit d) (list_all is_digit ds) digits).1) apart (omega arith) later in
    ap (λ z. z ∷ take k text) first ∙ ap (λ zs. d ∷ zs) more

-- the same, where a piece follows that begins with no digit
pub run_before : (text : List ℕ) (k : ℕ) (ds piece rest : List ℕ) → list_all is_digit (take k text) ≡ true
    → (k < length text → is_digit (get_or text k 0) ≡ false) → list_all is_digit ds ≡ true → begins_apart piece ≡ true → k ≤ length text
    → text ≡ ds ++ (piece ++ rest) → take k text ≡ ds
run_before text k ds [] rest run stop digits apart within e = absurd (true≢false (sym apart))
run_before text k ds (c ∷ piece) rest run stop digits apart within e =
    run_is text k ds c (piece ++ rest) run stop digits (not-true (is_digit c) apart) within e
