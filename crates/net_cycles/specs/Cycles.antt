-- A firing within a cycle, and runs of cycles.
use Rattle.std.specs.Prelude.{◌≡◌, ◌<◌, ℕ, Bool, List, length, take}
use Rattle.net_ir.specs.Nets.{Net}
use Rattle.net_ir.specs.States.{zeros, IsFinished, IsLawful}
use Rattle.net_ir.specs.CycleRun.{met, cycles}
use Rattle.net_cycles.specs.Between.{between, CanFire}

-- In a cycle that begins when the modules have done the first firings, a module meets the second ones and fires.
pub record FiresAt (net : Net) (firings : ℕ) (stalled : List Bool) (begun fired : List ℕ) (m : ℕ) : Type 0 where
  pub known : m < length net.modules
  pub state : between fired ≡ met net firings stalled (between begun) m
  pub lawful : IsLawful net firings (between fired)
  pub can : CanFire net firings stalled fired m

-- A run of cycles from the state of zeros, in which these modules are stalled, leads to these firings, and before each
-- of its cycles some firing was left.
pub record HasRun (net : Net) (firings : ℕ) (stalls : List (List Bool)) (fired : List ℕ) : Type 0 where
  pub state : between fired ≡ cycles net firings stalls (zeros net)
  pub going : (k : ℕ) → k < length stalls → ¬ IsFinished net firings (cycles net firings (take k stalls) (zeros net))
