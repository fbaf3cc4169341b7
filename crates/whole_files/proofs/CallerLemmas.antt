-- Lemmas that crates above cite.
use Rattle.std.proofs.Common.{◌≡◌, ◌==◌, ℕ, true, false, if◌then◌else◌, List, [], ◌∷◌, ◌++◌, Option, Some, All, refl, ap}
use Rattle.std.proofs.lemmas.List.Elements.{All-cons, All-head, All-nil, All-tail}
use Rattle.soda_io.specs.declared.call.FileCall.{FileCall}
use Rattle.soda_io.specs.declared.call.FileCall.TheVariants.{Open, Create, Read, Write}
use Rattle.whole_files.specs.Journal.{EndsFailed, IsFailed, NoneAfterEnd, NoneAfterFailed, gots}

-- what the reads of an id got in one list of entries behind another
pub gots-append : (id : ℕ) (xs ys : List FileCall) → gots id (xs ++ ys) ≡ gots id xs ++ gots id ys
gots-append id [] ys = refl
gots-append id (Open name i ∷ xs) ys = gots-append id xs ys
gots-append id (Create name i ∷ xs) ys = gots-append id xs ys
gots-append id (Read i asked got ∷ xs) ys =
    let rest = gots-append id xs ys in
    elim (i == id) as (λ b. (if b then (got ∷ gots id (xs ++ ys)) else gots id (xs ++ ys)) ≡ (if b then (got ∷ gots id xs) else gots id xs) ++ gots id ys) [
      | true ↦ ap (λ (gs : List (Option ℕ)). got ∷ gs) rest
      | false ↦ rest
    ]
gots-append id (Write i given taken ∷ xs) ys = gots-append id xs ys

-- a call that didn't fail
abbrev pub NotFailed : FileCall → Type 0
NotFailed e = IsFailed e → ⊥

-- what was got is no end
abbrev pub NotEnd : Option ℕ → Type 0
NotEnd g = g ≡ Some 0 → ⊥

-- behind entries that are no end
pub none_after_end-append : (xs ys : List (Option ℕ)) → All NotEnd xs → NoneAfterEnd ys → NoneAfterEnd (xs ++ ys)
none_after_end-append [] ys all end = end
none_after_end-append (x ∷ xs) ys all end = (λ is. absurd (All-head NotEnd x xs all is), none_after_end-append xs ys (All-tail NotEnd x xs all) end)

-- behind entries that didn't fail
pub none_after_failed-append : (xs ys : List FileCall) → All NotFailed xs → NoneAfterFailed ys → NoneAfterFailed (xs ++ ys)
none_after_failed-append [] ys all last = last
none_after_failed-append (x ∷ xs) ys all last =
    (λ is. absurd (All-head NotFailed x xs all is), none_after_failed-append xs ys (All-tail NotFailed x xs all) last)

-- entries that didn't fail don't end failed
pub none_fails : (xs : List FileCall) → All NotFailed xs → EndsFailed xs → ⊥
none_fails [] all ends = ends
none_fails (x ∷ []) all ends = All-head NotFailed x [] all ends
none_fails (x ∷ y ∷ ys) all ends = none_fails (y ∷ ys) (All-tail NotFailed x (y ∷ ys) all) ends

-- entries of which none follows a failed one, and that don't end failed
pub none_failed : (es : List FileCall) → NoneAfterFailed es → (EndsFailed es → ⊥) → All NotFailed es
none_failed [] none good = All-nil NotFailed
none_failed (e ∷ []) none good = All-cons NotFailed e [] good (All-nil NotFailed)
none_failed (e ∷ f ∷ es) none good =
    All-cons NotFailed e (f ∷ es) (λ is. let empty : f ∷ es ≡ [] = none.0 is in absurd (cc)) (none_failed (f ∷ es) none.1 good)

-- behind entries that didn't fail, the others decide
pub ends_behind : (xs ys : List FileCall) → All NotFailed xs → EndsFailed (xs ++ ys) → EndsFailed ys
ends_behind [] ys all ends = ends
ends_behind (x ∷ []) [] all ends = absurd (All-head NotFailed x [] all ends)
ends_behind (x ∷ []) (y ∷ ys) all ends = ends
ends_behind (x ∷ y ∷ xs) ys all ends = ends_behind (y ∷ xs) ys (All-tail NotFailed x (y ∷ xs) all) ends

pub ends_with : (xs ys : List FileCall) → EndsFailed ys → EndsFailed (xs ++ ys)
ends_with [] ys ends = ends
ends_with (x ∷ []) [] ends = absurd ends
ends_with (x ∷ []) (y ∷ ys) ends = ends
ends_with (x ∷ y ∷ xs) ys ends = ends_with (y ∷ xs) ys ends
