-- Numbered lines that are written in turn.
use Rattle.std.proofs.Common.{◌≡◌, ℕ, suc, ◌+◌, ◌<◌, ◌≤◌, List, [], ◌∷◌, ◌++◌, length, take, get_or, codes, refl, sym, ap, ◌∙◌, arith, append-nil, append_assoc}
use Rattle.std.proofs.lemmas.Grind.{flat_map-append}
use Rattle.std.proofs.lemmas.List.{length-take, take_more}
use Rattle.soda_print.specs.Canonical.{ended}
use Rattle.design_lines.specs.PlanLines.{numbered}

abbrev on_line : List ℕ → List ℕ
on_line w = w ++ codes "\n"

-- one more of a list has the next number
numbered_end : {A B : Type 0} (f : ℕ → A → B) (k : ℕ) (xs : List A) (x : A) → numbered f k (xs ++ x ∷ []) ≡ numbered f k xs ++ f (k + length xs) x ∷ []
numbered_end f k [] x = ap (λ n. f n x ∷ []) (omega arith)
numbered_end f k (y ∷ ys) x =
    ap (λ zs. f k y ∷ zs) (numbered_end f (suc k) ys x ∙ ap (λ n. numbered f (suc k) ys ++ f n x ∷ []) (omega arith))

ended_end : (vs : List (List ℕ)) (w : List ℕ) → ended (vs ++ w ∷ []) ≡ ended vs ++ (w ++ codes "\n")
ended_end vs w = flat_map-append on_line vs (w ∷ []) ∙ ap (λ (zs : List ℕ). ended vs ++ zs) (append-nil (w ++ codes "\n"))

-- one more line
pub written_more : {A : Type 0} (f : ℕ → A → List ℕ) (xs : List A) (i : ℕ) (d : A) (text now more line : List ℕ)
    → now ≡ text ++ ended (numbered f 0 (take i xs)) → i < length xs → line ≡ f i (get_or xs i d) → more ≡ now ++ (line ++ codes "\n")
    → more ≡ text ++ ended (numbered f 0 (take (i + 1) xs))
written_more f xs i d text now more line was lt here is =
    let before = numbered f 0 (take i xs) in
    let place : 0 + length (take i xs) ≡ i = simp length-take (omega arith) in
    let next : numbered f 0 (take (i + 1) xs) ≡ before ++ line ∷ [] =
    ap (numbered f 0) (take_more xs i d lt) ∙ numbered_end f 0 (take i xs) (get_or xs i d)
    ∙ ap (λ n. before ++ f n (get_or xs i d) ∷ []) place ∙ ap (λ w. before ++ w ∷ []) (sym here) in
    is ∙ ap (λ (zs : List ℕ). zs ++ (line ++ codes "\n")) was ∙ append_assoc text (ended before) (line ++ codes "\n")
    ∙ ap (λ (zs : List ℕ). text ++ zs) (sym (ap ended next ∙ ended_end before line))

-- two lists of lines and a last line
pub three_parts : (t t₁ t₂ t₃ w : List ℕ) (a b : List (List ℕ)) → t₁ ≡ t ++ ended a → t₂ ≡ t₁ ++ ended b → t₃ ≡ t₂ ++ (w ++ codes "\n")
    → t₃ ≡ t ++ ended (a ++ (b ++ w ∷ []))
three_parts t t₁ t₂ t₃ w a b h₁ h₂ h₃ =
    let last : List ℕ = w ++ codes "\n" in
    let two : t₂ ≡ t ++ (ended a ++ ended b) = h₂ ∙ ap (λ (zs : List ℕ). zs ++ ended b) h₁ ∙ append_assoc t (ended a) (ended b) in
    let all : t₃ ≡ t ++ ((ended a ++ ended b) ++ last) = h₃ ∙ ap (λ (zs : List ℕ). zs ++ last) two ∙ append_assoc t (ended a ++ ended b) last in
    all ∙ ap (λ (zs : List ℕ). t ++ zs) (append_assoc (ended a) (ended b) last
    ∙ sym (flat_map-append on_line a (b ++ w ∷ []) ∙ ap (λ (zs : List ℕ). ended a ++ zs) (ended_end b w)))

pub ruleset appended = (append-nil, append_assoc)
