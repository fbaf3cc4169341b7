-- The plan: among the assignments of least storage, the one that is pointwise at most every other.
use Rattle.std.specs.Prelude.{ℕ, ◌<◌, ◌≤◌, List, [], ◌∷◌, length, slice_index, min}
use Rattle.delay_net.specs.Windows.{IsAssignment, MeetsWindows, IsLeastStorage, total_storage}
use Rattle.delay_net.specs.declared.net.Read.{Read}

-- an assignment that meets the windows, with the least total storage of those that do
pub record HasLeastStorage (weights : List ℕ) (reads : List Read) (delays : List ℕ) : Type 0 where
  pub assignment : IsAssignment weights delays
  pub meets : MeetsWindows reads delays
  pub least : IsLeastStorage weights reads (total_storage weights reads delays)

-- the plan
pub record IsLeastPlan (weights : List ℕ) (reads : List Read) (delays : List ℕ) : Type 0 where
  pub least : HasLeastStorage weights reads delays
  pub first : (others : List ℕ) → HasLeastStorage weights reads others
      → (tensor : ℕ) → tensor < length weights → slice_index delays tensor ≤ slice_index others tensor

-- the pointwise least of two assignments
abbrev pub lesser_delays : List ℕ → List ℕ → List ℕ
lesser_delays [] others = []
lesser_delays (delay ∷ delays) [] = []
lesser_delays (delay ∷ delays) (other ∷ others) = min delay other ∷ lesser_delays delays others
