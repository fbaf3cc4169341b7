-- Lists of types that are equal.
use Rattle.std.proofs.Common.{◌≡◌, ◌↔◌, Bool, true, false, ◌&&◌, List, [], ◌∷◌, IsTrue, refl, sym, ap, ◌∙◌}
use Rattle.soda_words.specs.IntType.{IntType, is_same_type}
use Rattle.soda_words.proofs.CallerLemmas.{equal_types, type_itself}
use Rattle.soda_parse.specs.ProgramConditions.{are_same_types}

-- where both of two hold, each does
pub both_of : (a b : Bool) → (a && b) ≡ true → (a ≡ true) × (b ≡ true)
both_of true b h = (refl, h)
both_of false b h = cc

one_list : (ts : List IntType) → are_same_types ts ts ≡ true
one_list [] = refl
one_list (t ∷ ts) = rw (type_itself t, one_list ts) refl

-- lists of the same types are equal
pub equal_lists : (ts us : List IntType) → are_same_types ts us ≡ true → ts ≡ us
equal_lists [] [] h = refl
equal_lists [] (u ∷ us) h = cc
equal_lists (t ∷ ts) [] h = cc
equal_lists (t ∷ ts) (u ∷ us) h =
    let both = both_of (is_same_type t u) (are_same_types ts us) h in
    let head : t ≡ u = equal_types t u both.0 in
    let rest : ts ≡ us = equal_lists ts us both.1 in cc

-- what says whether two lists are equal is the test
pub decided : (fit : Bool) (ts us : List IntType) → (IsTrue fit ↔ (ts ≡ us)) → fit ≡ are_same_types ts us
decided true ts us h = let e : ts ≡ us = h.0 refl in sym (ap (λ vs. are_same_types ts vs) (sym e) ∙ one_list ts)
decided false ts us h =
    elim (are_same_types ts us) as (λ t. (t ≡ are_same_types ts us) → false ≡ t) [ true ↦ λ e. h.1 (equal_lists ts us (sym e)) | false ↦ λ e. refl ] refl
