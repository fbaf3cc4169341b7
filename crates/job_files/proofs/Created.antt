-- The names that the calls of a job created.
use Rattle.std.proofs.Common.{◌≡◌, ℕ, ◌+◌, true, false, if◌then◌else◌, List, [], ◌∷◌, ◌++◌, length, take, Some, None, refl, sym, ap, ◌∙◌}
use Rattle.std.proofs.lemmas.List.{append-nil}
use Rattle.soda_io.specs.declared.call.FileCall.{FileCall}
use Rattle.soda_io.specs.declared.call.FileCall.TheVariants.{Open, Create, Read, Write}
use Rattle.job_files.specs.Files.{JobFile, created_of}
use Rattle.job_files.specs.Progress.{Fails, IsFailedUse, IsRefusedAsking, askings, created, failed, given_from, refused}
use Rattle.job_files.proofs.Entries.{Asking}

-- the names that these askings created
made : List Asking → List (List ℕ)
made [] = []
made ((true, name, id) ∷ qs) = made qs
made ((false, name, Some id) ∷ qs) = name ∷ made qs
made ((false, name, None) ∷ qs) = made qs

created_made : (es : List FileCall) → created es ≡ made (askings es)
unfolding made
created_made [] = refl
created_made (Open name id ∷ es) = created_made es
created_made (Create name (Some id) ∷ es) = ap (λ (ns : List (List ℕ)). name ∷ ns) (created_made es)
created_made (Create name None ∷ es) = created_made es
created_made (Read id asked got ∷ es) = created_made es
created_made (Write id given taken ∷ es) = created_made es

made_given : (first : ℕ) (files : List JobFile) → made (given_from first files) ≡ created_of files
unfolding made
made_given first [] = refl
made_given first (f ∷ fs) =
    let rest = made_given (first + 1) fs in
    elim (f.opened) as (λ b. made ((b, f.name, Some first) ∷ given_from (first + 1) fs) ≡ (if b then created_of fs else f.name ∷ created_of fs)) [
      | true ↦ rest
      | false ↦ ap (λ (ns : List (List ℕ)). f.name ∷ ns) rest
    ]

pub created_by : (first : ℕ) (files : List JobFile) (es : List FileCall) → askings es ≡ given_from first files → created es ≡ created_of files
created_by first files es asked = created_made es ∙ ap made asked ∙ made_given first files

pub created-append : (xs ys : List FileCall) → created (xs ++ ys) ≡ created xs ++ created ys
created-append [] ys = refl
created-append (Open name id ∷ xs) ys = created-append xs ys
created-append (Create name (Some id) ∷ xs) ys = ap (λ (ns : List (List ℕ)). name ∷ ns) (created-append xs ys)
created-append (Create name None ∷ xs) ys = created-append xs ys
created-append (Read id asked got ∷ xs) ys = created-append xs ys
created-append (Write id given taken ∷ xs) ys = created-append xs ys

-- a failed call created nothing
refused_none : (f : JobFile) (e : FileCall) → IsRefusedAsking f e → created (e ∷ []) ≡ []
refused_none f (Open name id) r = refl
refused_none f (Create name None) r = refl
refused_none f (Create name (Some id)) r = absurd r
refused_none f (Read id asked got) r = refl
refused_none f (Write id given taken) r = refl

failed_none : (id next : ℕ) (e : FileCall) → IsFailedUse id next e → created (e ∷ []) ≡ []
failed_none id next (Open name i) r = refl
failed_none id next (Create name i) r = absurd r
failed_none id next (Read i asked got) r = refl
failed_none id next (Write i given taken) r = refl

pub fault_none : (first ended : ℕ) (files : List JobFile) (n : ℕ) (those : List JobFile) (e : FileCall) → Fails first ended files n those e
    → created (e ∷ []) ≡ []
fault_none first ended files n those e (refused f all at fault) = refused_none f e fault
fault_none first ended files n those e (failed all below fault) = failed_none (first + n) (first + ended) e fault

-- those that were given are the first of all
take_front : (xs ys : List JobFile) → take (length xs) (xs ++ ys) ≡ xs
take_front [] ys = refl
take_front (x ∷ xs) ys = ap (λ (zs : List JobFile). x ∷ zs) (take_front xs ys)

pub those_first : (first ended : ℕ) (files : List JobFile) (n : ℕ) (those : List JobFile) (e : FileCall) → Fails first ended files n those e
    → take (length those) files ≡ those
those_first first ended files n those e (refused f all at fault) = ap (λ (fs : List JobFile). take (length those) fs) all ∙ take_front those (f ∷ [])
those_first first ended files n those e (failed all below fault) =
    ap (λ (fs : List JobFile). take (length those) fs) (all ∙ sym (append-nil those)) ∙ take_front those []
