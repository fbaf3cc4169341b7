-- Cycles, in which each module is visited once in firing order and fires wholly or not at all.
use Rattle.std.specs.Prelude.{◌≡◌, ◌<◌, ◌≤◌, ◌+◌, ◌↔◌, ℕ, zero, suc, Bool, false, not, ◌&&◌, List, [], ◌∷◌, ◌++◌, length, take, drop, slice_index_or, slice_set, count_by, if◌then◌else◌}
use Rattle.std.specs.List.{list_any, list_all}
use Rattle.net_ir.specs.declared.events.Turn.{Turn}
use Rattle.net_ir.specs.Nets.{Net, age_at}
use Rattle.net_ir.specs.Firings.{events, firings_at}
use Rattle.net_ir.specs.Waits.{progress}
use Rattle.net_ir.specs.States.{turn_at, has_firing, is_possible, IsFinished, zeros}

-- no module has events done in a running firing
abbrev pub IsBetween : List Turn → Type 0
IsBetween state = (m : ℕ) → (turn_at state m).part ≡ 0

-- A module that is visited fires wholly where it isn't stalled, has a firing left, and each event of the firing is
-- possible.
unfoldable pub fires : Net → ℕ → List Bool → List Turn → ℕ → Bool
fires net firings stalled state m =
    not (slice_index_or stalled m false) && (has_firing net firings state m
    && list_all (is_possible net state) (events net m (turn_at state m).fired))

-- a module's numbers after a whole firing
abbrev pub fired_wholly : Turn → Turn
fired_wholly turn = record { fired = turn.fired + 1; part = 0 }

-- the state after a module's visit
unfoldable pub visit : Net → ℕ → List Bool → List Turn → ℕ → List Turn
visit net firings stalled state m =
    if fires net firings stalled state m then slice_set state m (fired_wholly (turn_at state m)) else state

-- the state that a module meets in a cycle: all modules before it were visited once, in firing order
unfoldable pub met : Net → ℕ → List Bool → List Turn → ℕ → List Turn
met net firings stalled state zero = state
met net firings stalled state (suc m) = visit net firings stalled (met net firings stalled state m) m

-- the state after a cycle
abbrev pub cycle : Net → ℕ → List Bool → List Turn → List Turn
cycle net firings stalled state = met net firings stalled state (length net.modules)

-- A cycle visits each module once, in firing order: a module meets the modules before it as the cycle leaves them and
-- the others as the cycle finds them, and the cycle leaves it with one firing more where it fires there, else as it
-- was.
pub record VisitsEachOnce (net : Net) (firings : ℕ) (stalled : List Bool) (state : List Turn) : Type 0 where
  pub meets : (m : ℕ) → m < length net.modules
      → met net firings stalled state m ≡ take m (cycle net firings stalled state) ++ drop m state
  pub leaves : (m : ℕ) → m < length net.modules
      → turn_at (cycle net firings stalled state) m
      ≡ (if fires net firings stalled (met net firings stalled state m) m then fired_wholly (turn_at state m)
      else turn_at state m)

-- how many numbers below n pass a test
abbrev pub count_below : (ℕ → Bool) → ℕ → ℕ
count_below test zero = 0
count_below test (suc n) = count_below test n + (if test n then 1 else 0)

-- how many of the first n modules fire in a cycle
unfoldable pub fired_among : Net → ℕ → List Bool → List Turn → ℕ → ℕ
fired_among net firings stalled state n =
    count_below (λ m. fires net firings stalled (met net firings stalled state m) m) n

-- how many of the first n modules have a firing left in a cycle and don't fire
unfoldable pub held_among : Net → ℕ → List Bool → List Turn → ℕ → ℕ
held_among net firings stalled state n =
    count_below (λ m. has_firing net firings (met net firings stalled state m) m
    && not (fires net firings stalled (met net firings stalled state m) m)) n

-- the state after cycles in which these modules are stalled
abbrev pub cycles : Net → ℕ → List (List Bool) → List Turn → List Turn
cycles net firings [] state = state
cycles net firings (stalled ∷ rest) state = cycles net firings rest (cycle net firings stalled state)

-- the number of cycles in which some module is stalled
abbrev pub stalled_cycles : List (List Bool) → ℕ
stalled_cycles stalls = count_by (list_any (λ flag. flag)) stalls

-- a run of cycles from the state of zeros ends with the last of these: then no firing is left, and before it one was
abbrev pub EndsWith : Net → ℕ → List (List Bool) → Type 0
EndsWith net firings stalls =
    IsFinished net firings (cycles net firings stalls (zeros net))
    × ((k : ℕ) → k < length stalls → ¬ IsFinished net firings (cycles net firings (take k stalls) (zeros net)))

-- The bound on a run of cycles: it ends, within as many cycles as a module of age 0 has firings and the number of
-- cycles in which some module is stalled; where none is stalled, and a module of age 0 is there, in exactly so many.
pub record EndsInTime (net : Net) (firings : ℕ) (stalls : List (List Bool)) : Type 0 where
  pub ends : firings + stalled_cycles stalls ≤ length stalls
      → IsFinished net firings (cycles net firings stalls (zeros net))
  pub within : EndsWith net firings stalls → length stalls ≤ firings + stalled_cycles stalls
  pub exact : (m : ℕ) → m < length net.modules → age_at net m ≡ 0 → stalled_cycles stalls ≡ 0
      → EndsWith net firings stalls ↔ (length stalls ≡ firings)

-- In a cycle without stalls each module of least progress among those with a firing left fires.
abbrev pub LeastFires : Net → ℕ → List Bool → List Turn → Type 0
LeastFires net firings stalled state =
    (m : ℕ) → m < length net.modules → (turn_at state m).fired < firings_at net firings m
    → ((n : ℕ) → n < length net.modules → (turn_at state n).fired < firings_at net firings n
    → progress net state m ≤ progress net state n)
    → (turn_at (cycle net firings stalled state) m).fired ≡ (turn_at state m).fired + 1
