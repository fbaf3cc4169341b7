-- How a simulation goes cycle by cycle, as a function of its network, of how often a module of age 0 fires, and of the
-- flags of the modules that are stalled in each cycle.
use Rattle.std.specs.Prelude.{◌<◌, ℕ, Bool, List, length}
use Rattle.net_ir.specs.declared.events.Turn.{Turn}
use Rattle.net_ir.specs.Nets.{Net}
use Rattle.net_ir.specs.States.{IsFinished, zeros}
use Rattle.net_ir.specs.CycleRun.{EndsWith, cycles, fired_among, held_among, met}
use Rattle.soda_ir.specs.Points.{listed}

module _ (net : Net) (firings : ℕ) (flags : ℕ → List Bool) where
  -- the state as a cycle begins
  abbrev pub state_before : (cycle : ℕ) → List Turn
  state_before cycle = cycles net firings (listed flags cycle) (zeros net)

  -- the state that a module meets in a cycle
  abbrev pub state_met : (cycle number : ℕ) → List Turn
  state_met cycle m = met net firings (flags cycle) (state_before cycle) m

  -- how many modules fire in a cycle, and how many have a firing left and don't fire
  abbrev pub fired_in : (cycle : ℕ) → ℕ
  fired_in cycle = fired_among net firings (flags cycle) (state_before cycle) (length net.modules)

  abbrev pub held_in : (cycle : ℕ) → ℕ
  held_in cycle = held_among net firings (flags cycle) (state_before cycle) (length net.modules)

  -- a firing is left as each of the first so many cycles begins
  abbrev pub Goes : (count : ℕ) → Type 0
  Goes count = (cycle : ℕ) → cycle < count → ¬ IsFinished net firings (state_before cycle)

  -- there are so many cycles: no firing is left after them, and one was before each
  abbrev pub EndsAfter : (count : ℕ) → Type 0
  EndsAfter count = EndsWith net firings (listed flags count)
