-- Texts of which parts can be told: a run of bytes that a byte of another kind ends, a line, a number.
use Rattle.std.proofs.Common.{◌≡◌, ℕ, zero, suc, ◌/◌, ◌%◌, ◌==◌, Bool, true, false, not, List, [], ◌∷◌, ◌++◌, length, refl, sym, ap, ◌∙◌, codes, arith, append_assoc, true≢false}
use Rattle.std.specs.Fmt.{decimal, digit_glyph, digits, digits_onto}
use Rattle.std.specs.List.{list_all}
use Rattle.std.proofs.lemmas.Bool.{and_from, and_parts, cond_both}
use Rattle.std.proofs.lemmas.Bool.Decides.{nat_tests}
use Rattle.std.proofs.lemmas.List.{append_cancel_left}
use Rattle.soda_print.specs.Canonical.{ended}
use Rattle.soda_words.specs.Names.{is_digit}
use Rattle.design_lines.specs.machine.Reading.{two_numbered}
use Rattle.design_lines.proofs.Inline.{AllInline, is_inline}

apart_here : (b : ℕ) (p : ℕ → Bool) (c : ℕ) → p b ≡ true → p c ≡ false → b ≡ c → ⊥
apart_here b p c h k e = true≢false (sym h ∙ (ap p e ∙ k))

-- runs of bytes that pass a test are told from what follows them, which begins with a byte that doesn't
pub runs_apart : (p : ℕ → Bool) (v w : List ℕ) (c d : ℕ) (x y : List ℕ) → list_all p v ≡ true → list_all p w ≡ true → p c ≡ false → p d ≡ false
    → v ++ c ∷ x ≡ w ++ d ∷ y → (v ≡ w) × (c ∷ x ≡ d ∷ y)
runs_apart p [] [] c d x y hv hw hc hd e = (refl, e)
runs_apart p [] (b ∷ w) c d x y hv hw hc hd e =
    let here : b ≡ c = cc in
    absurd (apart_here b p c ((and_parts (p b) (list_all p w) hw).0) hc here)
runs_apart p (a ∷ v) [] c d x y hv hw hc hd e =
    let here : a ≡ d = cc in
    absurd (apart_here a p d ((and_parts (p a) (list_all p v) hv).0) hd here)
runs_apart p (a ∷ v) (b ∷ w) c d x y hv hw hc hd e =
    let first : a ≡ b = cc in
    let later : v ++ c ∷ x ≡ w ++ d ∷ y = cc in
    let rest = runs_apart p v w c d x y ((and_parts (p a) (list_all p v) hv).1) ((and_parts (p b) (list_all p w) hw).1) hc hd later in
    (ap (λ z. z ∷ v) first ∙ ap (λ vs. b ∷ vs) rest.0, rest.1)

-- a line is told from what follows it
pub line_apart : (v w x y : List ℕ) → is_inline v ≡ true → is_inline w ≡ true → (v ++ codes "\n") ++ x ≡ (w ++ codes "\n") ++ y → (v ≡ w) × (x ≡ y)
line_apart v w x y hv hw e =
    let flat : v ++ 10 ∷ x ≡ w ++ 10 ∷ y = sym (append_assoc v (codes "\n") x) ∙ (e ∙ append_assoc w (codes "\n") y) in
    let parts = runs_apart (λ b. not (b == 10)) v w 10 10 x y hv hw refl refl flat in
    let rest : x ≡ y = append_cancel_left (codes "\n") x y (parts.1) in
    (parts.0, rest)

-- as many lines as there are others are told from what follows them
pub lines_apart : (vs ws : List (List ℕ)) (x y : List ℕ) → AllInline vs → AllInline ws → length vs ≡ length ws → ended vs ++ x ≡ ended ws ++ y
    → (vs ≡ ws) × (x ≡ y)
lines_apart [] [] x y hv hw many e = (refl, e)
lines_apart [] (w ∷ ws) x y hv hw many e = absurd (omega arith)
lines_apart (v ∷ vs) [] x y hv hw many e = absurd (omega arith)
lines_apart (v ∷ vs) (w ∷ ws) x y hv hw many e =
    let flat : (v ++ codes "\n") ++ (ended vs ++ x) ≡ (w ++ codes "\n") ++ (ended ws ++ y) =
    sym (append_assoc (v ++ codes "\n") (ended vs) x) ∙ (e ∙ append_assoc (w ++ codes "\n") (ended ws) y) in
    let first = line_apart v w (ended vs ++ x) (ended ws ++ y) hv.0 hw.0 flat in
    let rest = lines_apart vs ws x y hv.1 hw.1 (omega arith) first.1 in
    (ap (λ z. z ∷ vs) first.0 ∙ ap (λ zs. w ∷ zs) rest.0, rest.1)

digit_glyphs : (n : ℕ) → is_digit (digit_glyph false (n % 10)) ≡ true
digit_glyphs n = grind (arith, nat_tests)

onto_digits : (k n : ℕ) (acc : List ℕ) → list_all is_digit acc ≡ true → list_all is_digit (digits_onto k 10 false n acc) ≡ true
onto_digits zero n acc h = h
onto_digits (suc k) n acc h =
    let more : list_all is_digit (digit_glyph false (n % 10) ∷ acc) ≡ true = and_from (is_digit (digit_glyph false (n % 10))) (list_all is_digit acc) (digit_glyphs n) h in
    cond_both (n / 10 == 0) (digit_glyph false (n % 10) ∷ acc) (digits_onto k 10 false (n / 10) (digit_glyph false (n % 10) ∷ acc))
    (λ (ds : List ℕ). list_all is_digit ds ≡ true) (λ _. more) (λ _. onto_digits k (n / 10) (digit_glyph false (n % 10) ∷ acc) more)

-- a number is written in digits
pub decimal_digits : (n : ℕ) → list_all is_digit (decimal n) ≡ true
unfolding digits
decimal_digits n = onto_digits 64 n [] refl

-- such a line and what follows it, part by part
pub two_flat : (front between : List ℕ) (a b : ℕ) (x : List ℕ)
    → (two_numbered front between a b ++ codes "\n") ++ x ≡ front ++ (decimal a ++ (between ++ (decimal b ++ 10 ∷ x)))
two_flat front between a b x = simp append_assoc

-- both numbers of such a line are told, and what follows it
pub two_apart : (front : List ℕ) (c : ℕ) (between : List ℕ) (a b m n : ℕ) (x y : List ℕ) → is_digit c ≡ false
    → (two_numbered front (c ∷ between) a b ++ codes "\n") ++ x ≡ (two_numbered front (c ∷ between) m n ++ codes "\n") ++ y
    → (decimal a ≡ decimal m) × (decimal b ≡ decimal n) × (x ≡ y)
two_apart front c between a b m n x y hc e =
    let flat : front ++ (decimal a ++ (c ∷ (between ++ (decimal b ++ 10 ∷ x)))) ≡ front ++ (decimal m ++ (c ∷ (between ++ (decimal n ++ 10 ∷ y)))) =
    sym (two_flat front (c ∷ between) a b x) ∙ (e ∙ two_flat front (c ∷ between) m n y) in
    let inner = append_cancel_left front (decimal a ++ (c ∷ (between ++ (decimal b ++ 10 ∷ x)))) (decimal m ++ (c ∷ (between ++ (decimal n ++ 10 ∷ y)))) flat in
    let one = runs_apart is_digit (decimal a) (decimal m) c c (between ++ (decimal b ++ 10 ∷ x)) (between ++ (decimal n ++ 10 ∷ y))
    (decimal_digits a) (decimal_digits m) hc hc inner in
    let later : decimal b ++ 10 ∷ x ≡ decimal n ++ 10 ∷ y = append_cancel_left (c ∷ between) (decimal b ++ 10 ∷ x) (decimal n ++ 10 ∷ y) one.1 in
    let two = runs_apart is_digit (decimal b) (decimal n) 10 10 x y (decimal_digits b) (decimal_digits n) refl refl later in
    (one.0, two.0, append_cancel_left (codes "\n") x y two.1)
