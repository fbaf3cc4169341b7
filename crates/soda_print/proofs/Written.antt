-- Lines that are written in turn.
use Rattle.std.proofs.Common.{◌≡◌, ℕ, ◌+◌, ◌<◌, List, [], ◌∷◌, ◌++◌, length, take, get_or, map, ap, sym, refl, ◌∙◌, codes, append-nil, append_assoc}
use Rattle.std.proofs.lemmas.List.{take_more}
use Rattle.soda_ir.specs.Program.{PlainProgram}
use Rattle.soda_print.specs.Canonical.{canonical, ended, param_line, setting_lines, tensor_line}

pub ended-append : (vs ws : List (List ℕ)) → ended (vs ++ ws) ≡ ended vs ++ ended ws
ended-append [] ws = refl
ended-append (v ∷ vs) ws =
    ap (λ (xs : List ℕ). (v ++ codes "\n") ++ xs) (ended-append vs ws) ∙ sym (append_assoc (v ++ codes "\n") (ended vs) (ended ws))

ended_end : {A B : Type 0} (f : B → List ℕ) (g : A → B) (xs : List A) (x : A)
    → ended (map f (map g (xs ++ x ∷ []))) ≡ ended (map f (map g xs)) ++ (f (g x) ++ codes "\n")
ended_end f g [] x = append-nil (f (g x) ++ codes "\n")
ended_end f g (y ∷ ys) x =
    ap (λ (zs : List ℕ). (f (g y) ++ codes "\n") ++ zs) (ended_end f g ys x)
    ∙ sym (append_assoc (f (g y) ++ codes "\n") (ended (map f (map g ys))) (f (g x) ++ codes "\n"))

-- one more line
pub written_more : {A B : Type 0} (f : B → List ℕ) (g : A → B) (xs : List A) (i : ℕ) (x : A) (text now more : List ℕ)
    → now ≡ text ++ ended (map f (map g (take i xs))) → i < length xs → x ≡ get_or xs i x → more ≡ now ++ (f (g x) ++ codes "\n")
    → more ≡ text ++ ended (map f (map g (take (i + 1) xs)))
written_more f g xs i x text now more was lt here is =
    let line : List ℕ = f (g x) ++ codes "\n" in
    let next : take (i + 1) xs ≡ take i xs ++ x ∷ [] = take_more xs i x lt ∙ ap (λ y. take i xs ++ y ∷ []) (sym here) in
    is ∙ ap (λ (zs : List ℕ). zs ++ line) was ∙ append_assoc text (ended (map f (map g (take i xs)))) line
    ∙ ap (λ (zs : List ℕ). text ++ zs) (sym (ap (λ ys. ended (map f (map g ys))) next ∙ ended_end f g (take i xs) x))

-- five lines
pub five_lines : (t t₁ t₂ t₃ t₄ t₅ a b c d e : List ℕ) → t₁ ≡ t ++ (a ++ codes "\n") → t₂ ≡ t₁ ++ (b ++ codes "\n") → t₃ ≡ t₂ ++ (c ++ codes "\n")
    → t₄ ≡ t₃ ++ (d ++ codes "\n") → t₅ ≡ t₄ ++ (e ++ codes "\n")
    → t₅ ≡ t ++ ended (a ∷ b ∷ c ∷ d ∷ e ∷ [])
five_lines t t₁ t₂ t₃ t₄ t₅ a b c d e h₁ h₂ h₃ h₄ h₅ = rw (h₅, h₄, h₃, h₂, h₁) (simp (append_assoc, append-nil))

three : (a b c : List (List ℕ)) (t t₁ t₂ t₃ : List ℕ) → t ≡ [] → t₁ ≡ t ++ ended a → t₂ ≡ t₁ ++ ended b → t₃ ≡ t₂ ++ ended c
    → t₃ ≡ ended (a ++ (b ++ c))
three a b c t t₁ t₂ t₃ h h₁ h₂ h₃ =
    let one : t₁ ≡ ended a = h₁ ∙ ap (λ (zs : List ℕ). zs ++ ended a) h in
    let two : t₂ ≡ ended a ++ ended b = h₂ ∙ ap (λ (zs : List ℕ). zs ++ ended b) one in
    let all : t₃ ≡ (ended a ++ ended b) ++ ended c = h₃ ∙ ap (λ (zs : List ℕ). zs ++ ended c) two in
    all ∙ append_assoc (ended a) (ended b) (ended c)
    ∙ sym (ended-append a (b ++ c) ∙ ap (λ (zs : List ℕ). ended a ++ zs) (ended-append b c))

-- the settings, the params and the tensors
pub whole : (p : PlainProgram) (t t₁ t₂ t₃ : List ℕ) → t ≡ [] → t₁ ≡ t ++ ended (setting_lines p) → t₂ ≡ t₁ ++ ended (map param_line p.params)
    → t₃ ≡ t₂ ++ ended (map (tensor_line p) p.tensors)
    → t₃ ≡ canonical p
unfolding canonical
whole p t t₁ t₂ t₃ h h₁ h₂ h₃ = three (setting_lines p) (map param_line p.params) (map (tensor_line p) p.tensors) t t₁ t₂ t₃ h h₁ h₂ h₃
