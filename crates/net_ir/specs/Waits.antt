-- Following who waits for whom.
use Rattle.std.specs.Prelude.{◌≡◌, ◌≢◌, ◌<◌, ◌≤◌, ◌+◌, ℕ, zero, suc, true, List, length, Option, Some, option_and_then, ◌⊎◌}
use Rattle.net_ir.specs.declared.events.Turn.{Turn}
use Rattle.net_ir.specs.Nets.{Net, age_at}
use Rattle.net_ir.specs.States.{turn_at, can_step, waits_for, IsFinished}

-- a module's progress: its completed firings and its age
abbrev pub progress : Net → List Turn → ℕ → ℕ
progress net state m = (turn_at state m).fired + age_at net m

-- from one module to another the progress falls, or it doesn't rise and the place in the firing order falls
abbrev pub Falls : Net → List Turn → ℕ → ℕ → Type 0
Falls net state m n =
    (progress net state n < progress net state m) ⊎ ((progress net state n ≤ progress net state m) × (n < m))

-- the module that is reached from one by following n waits
unfoldable pub follow : Net → ℕ → List Turn → ℕ → ℕ → Option ℕ
follow net firings state zero m = Some m
follow net firings state (suc n) m = option_and_then (waits_for net firings state) (follow net firings state n m)

-- following waits never comes back to a module
abbrev pub NoRing : Net → ℕ → List Turn → Type 0
NoRing net firings state =
    (m n : ℕ) → m < length net.modules → follow net firings state (suc n) m ≢ Some m

-- the state is finished, or some module can do its next event
abbrev pub GoesOn : Net → ℕ → List Turn → Type 0
GoesOn net firings state =
    IsFinished net firings state ⊎ ((m : ℕ) × (m < length net.modules) × (can_step net firings state m ≡ true))
