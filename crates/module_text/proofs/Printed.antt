-- The text of a design, as it is put together.
use Rattle.std.proofs.Common.{◌≡◌, ℕ, List, [], ◌∷◌, ◌++◌, sym, ap, ◌∙◌, codes, append_assoc}
use Rattle.net_build.specs.Planned.{net_under}
use Rattle.net_ir.specs.Nets.{Net}
use Rattle.module_text.specs.Designs.{PlainDesign}
use Rattle.soda_print.specs.Canonical.{ended}
use Rattle.soda_print.proofs.CallerLemmas.{ended-append}
use Rattle.design_lines.specs.Lines.{network_lines}
use Rattle.module_text.specs.Texts.{design_text, lines_to_total, version_1}

-- a first line, and two lists of lines
pub to_total : (first t₀ t₁ t₂ t₃ : List ℕ) (a b c d : List (List ℕ)) → t₀ ≡ [] → t₁ ≡ t₀ ++ (first ++ codes "\n") → t₂ ≡ t₁ ++ ended a
    → t₃ ≡ t₂ ++ ended b → a ≡ c → b ≡ d → t₃ ≡ ended (first ∷ (c ++ d))
to_total first t₀ t₁ t₂ t₃ a b c d none h₁ h₂ h₃ e f =
    let one : t₁ ≡ first ++ codes "\n" = h₁ ∙ ap (λ (t : List ℕ). t ++ (first ++ codes "\n")) none in
    let two : t₂ ≡ (first ++ codes "\n") ++ ended a = h₂ ∙ ap (λ (t : List ℕ). t ++ ended a) one in
    h₃ ∙ ap (λ (t : List ℕ). t ++ ended b) two ∙ append_assoc (first ++ codes "\n") (ended a) (ended b)
    ∙ ap (λ ws. (first ++ codes "\n") ++ (ended ws ++ ended b)) e ∙ ap (λ ws. (first ++ codes "\n") ++ (ended c ++ ended ws)) f
    ∙ ap (λ (t : List ℕ). (first ++ codes "\n") ++ t) (sym (ended-append c d))

-- the lines up to the total, and those of the network
pub whole : (d : PlainDesign) (net : Net) (t₁ t₂ : List ℕ) → t₁ ≡ ended (lines_to_total version_1 d) → t₂ ≡ t₁ ++ ended (network_lines net)
    → net ≡ net_under d.program d.delays → t₂ ≡ design_text version_1 d
unfolding design_text
whole d net t₁ t₂ h₁ h₂ e =
    let lines = lines_to_total version_1 d in
    h₂ ∙ ap (λ (t : List ℕ). t ++ ended (network_lines net)) h₁ ∙ ap (λ n. ended lines ++ ended (network_lines n)) e
    ∙ sym (ended-append lines (network_lines (net_under d.program d.delays)))
