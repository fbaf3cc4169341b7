-- The files of a job.
use Rattle.std.specs.Prelude.{◌≡◌, ℕ, zero, suc, ◌+◌, Bool, List, [], ◌∷◌, map, slice_get, Some, if◌then◌else◌}
use Rattle.std.specs.Borrow.{Bor}
use Rattle.soda_io.specs.declared.role.FileRole.{FileRole}

-- a file of a job: what it is for, whether it is opened or created, and its name
pub record JobFile : Type 0 where
  pub role : FileRole
  pub opened : Bool
  pub name : List ℕ

-- how a file is asked for: whether it is opened, and its name
abbrev pub asking : JobFile → Bool × List ℕ
asking f = (f.opened, f.name)

-- the n-th of the files has this role
abbrev pub HasRole : List JobFile → ℕ → FileRole → Type 0
HasRole files n role = slice_get (map (λ f. f.role) files) n ≡ Some role

-- the names of those of the files that are created
abbrev pub created_of : List JobFile → List (List ℕ)
created_of [] = []
created_of (f ∷ fs) = if f.opened then created_of fs else f.name ∷ created_of fs

-- so many ids, from this one on
abbrev pub ids_from : ℕ → ℕ → List ℕ
ids_from id zero = []
ids_from id (suc count) = id ∷ ids_from (id + 1) count

-- the names that references point to
abbrev pub names_of : List (Bor (List ℕ)) → List (List ℕ)
names_of names = map (λ name. name.now) names
