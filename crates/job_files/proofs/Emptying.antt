-- Names that are emptied one by one.
use Rattle.std.proofs.Common.{◌≡◌, ◌<◌, ℕ, ◌+◌, List, [], ◌∷◌, ◌++◌, length, map, take, get_or, sym, ap, subst, ◌∙◌, append_assoc}
use Rattle.std.specs.Borrow.{Bor}
use Rattle.std.proofs.lemmas.List.{append-nil, map-append}
use Rattle.job_files.specs.Contents.{AreApart, Empties, Holding, Holds, IsNoneOf, emptied}
use Rattle.job_files.specs.Files.{names_of}
use Rattle.job_files.proofs.Listed.{parts}
use Rattle.job_files.proofs.Outputs.{Output, apart_front}

pub emptied_none : (before old : Holding) (outputs : List Output) (names : List (List ℕ)) → Holds before old outputs → Empties before old outputs names 0
emptied_none before old outputs names = let P : List Output → Type 0 = λ os. Holds before old os in subst P (sym (append-nil outputs))

-- one more of the names
pub emptied_more : (before new : Holding) (outputs : List Output) (names : List (Bor (List ℕ))) → AreApart (outputs ++ map emptied (names_of names)) → (i : ℕ)
    → i < length names → (d : Bor (List ℕ))
    → (IsNoneOf (outputs ++ map emptied (take i (names_of names))) (get_or names i d).now
    → Holds before new ((outputs ++ map emptied (take i (names_of names))) ++ emptied (get_or names i d).now ∷ []))
    → Empties before new outputs (names_of names) (i + 1)
emptied_more before new outputs names apart i lt d creates =
    let x = parts names i lt d in
    let name : List ℕ = (get_or names i d).now in
    let first : List Output = map emptied (take i (names_of names)) in
    let whole : outputs ++ map emptied (names_of names) ≡ (outputs ++ first) ++ emptied name ∷ map emptied x.rest =
    ap (λ (ns : List (List ℕ)). outputs ++ map emptied ns) x.is
    ∙ ap (λ (os : List Output). outputs ++ os) (map-append emptied (take i (names_of names)) (name ∷ x.rest))
    ∙ sym (append_assoc outputs first (emptied name ∷ map emptied x.rest)) in
    let A : List Output → Type 0 = λ os. AreApart os in
    let none : IsNoneOf (outputs ++ first) name = apart_front (outputs ++ first) (map emptied x.rest) (emptied name) (subst A whole apart) in
    let same : (outputs ++ first) ++ emptied name ∷ [] ≡ outputs ++ map emptied (take (i + 1) (names_of names)) =
    append_assoc outputs first (emptied name ∷ [])
    ∙ ap (λ (os : List Output). outputs ++ os) (sym (map-append emptied (take i (names_of names)) (name ∷ [])))
    ∙ ap (λ (ns : List (List ℕ)). outputs ++ map emptied ns) (sym x.front) in
    let P : List Output → Type 0 = λ os. Holds before new os in
    subst P same (creates none)
