-- Numbered lines, in parts.
use Rattle.std.proofs.Common.{◌≡◌, ℕ, suc, ◌+◌, ◌<◌, List, [], ◌∷◌, ◌++◌, length, take, get_or, codes, sym, ap, ◌∙◌, arith, append-nil, append_assoc}
use Rattle.std.proofs.lemmas.List.{length-take, take_more}
use Rattle.soda_print.specs.Canonical.{ended}
use Rattle.soda_print.proofs.CallerLemmas.{ended-append}
use Rattle.design_lines.specs.PlanLines.{numbered}

-- what is numbered in two parts
pub numbered-append : {A B : Type 0} (f : ℕ → A → B) (k : ℕ) (xs ys : List A)
    → numbered f k (xs ++ ys) ≡ numbered f k xs ++ numbered f (k + length xs) ys
numbered-append f k [] ys = ap (λ n. numbered f n ys) (omega arith)
numbered-append f k (x ∷ xs) ys =
    ap (λ zs. f k x ∷ zs) (numbered-append f (suc k) xs ys ∙ ap (λ n. numbered f (suc k) xs ++ numbered f n ys) (omega arith))

-- the line of one more
pub numbered_more : {A : Type 0} (f : ℕ → A → List ℕ) (xs : List A) (i : ℕ) (d : A) → i < length xs
    → ended (numbered f 0 (take (i + 1) xs)) ≡ ended (numbered f 0 (take i xs)) ++ (f i (get_or xs i d) ++ codes "\n")
numbered_more f xs i d lt =
    let x = get_or xs i d in
    let place : 0 + length (take i xs) ≡ i = omega (arith, length-take i xs) in
    ap (λ ys. ended (numbered f 0 ys)) (take_more xs i d lt)
    ∙ ap ended (numbered-append f 0 (take i xs) (x ∷ []))
    ∙ ap (λ n. ended (numbered f 0 (take i xs) ++ f n x ∷ [])) place
    ∙ ended-append (numbered f 0 (take i xs)) (f i x ∷ [])
    ∙ ap (λ (w : List ℕ). ended (numbered f 0 (take i xs)) ++ w) (append-nil (f i x ++ codes "\n"))

-- a text with one more line
pub written_more : {A : Type 0} (f : ℕ → A → List ℕ) (xs : List A) (i : ℕ) (d : A) (text now more : List ℕ)
    → now ≡ text ++ ended (numbered f 0 (take i xs)) → i < length xs → more ≡ now ++ (f i (get_or xs i d) ++ codes "\n")
    → more ≡ text ++ ended (numbered f 0 (take (i + 1) xs))
written_more f xs i d text now more was lt is =
    let line : List ℕ = f i (get_or xs i d) ++ codes "\n" in
    is ∙ ap (λ (zs : List ℕ). zs ++ line) was ∙ append_assoc text (ended (numbered f 0 (take i xs))) line
    ∙ ap (λ (zs : List ℕ). text ++ zs) (sym (numbered_more f xs i d lt))
