-- Texts that are put together part by part.
use Rattle.std.proofs.Common.{◌≡◌, ℕ, List, [], ◌∷◌, ◌++◌, refl, codes, append-nil, append_assoc}
use Rattle.soda_ir.proofs.CallerLemmas.{levels}
use Rattle.soda_print.specs.Canonical.{parted}

-- what stands in front of more is parted from it
pub parted_more : (w v : List ℕ) (ws : List (List ℕ)) → parted (w ∷ (ws ++ (v ∷ []))) ≡ w ++ (codes ", " ++ parted (ws ++ (v ∷ [])))
parted_more w v [] = refl
parted_more w v (u ∷ us) = refl

pub ruleset appended = (append-nil, append_assoc, parted_more, levels)
