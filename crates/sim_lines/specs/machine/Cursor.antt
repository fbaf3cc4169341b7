-- How the flags of a cycle stand to the stalls of modules, by cycles.
use Rattle.std.specs.Prelude.{◌≡◌, ◌<◌, ◌≤◌, ℕ, Bool, false, ◌==◌, List, length, slice_index_or, slice_range}
use Rattle.std.specs.List.{All, AllWithin, list_any}
use Rattle.std.specs.List.Sorted.{IsNonDecreasingBy}
use Rattle.sim_lines.specs.declared.stalled.StalledModule.{StalledModule}

-- a module is among these
abbrev pub is_among : List StalledModule → (number : ℕ) → Bool
is_among stalled m = list_any (λ s. s.number == m) stalled

-- the flags that are set are those of these modules
abbrev pub AreSet : List StalledModule → (flags : List Bool) → Type 0
AreSet stalled flags = (m : ℕ) → m < length flags → slice_index_or flags m false ≡ is_among stalled m

-- the stalls rise by cycle; those of this cycle are from `first` on, before `end`, and the flags are those of them
pub record IsAt (stalled : List StalledModule) (first end cycle : ℕ) (flags : List Bool) : Type 0 where
  pub rising : IsNonDecreasingBy (λ s. s.cycle) stalled
  pub known : All (λ s. s.number < length flags) stalled
  pub order : first ≤ end
  pub within : end ≤ length stalled
  pub before : AllWithin (λ s. s.cycle < cycle) stalled 0 first
  pub now : AllWithin (λ s. s.cycle ≡ cycle) stalled first end
  pub after : AllWithin (λ s. cycle < s.cycle) stalled end (length stalled)
  pub marked : AreSet (slice_range stalled first end) flags
