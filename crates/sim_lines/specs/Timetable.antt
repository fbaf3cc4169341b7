-- The stalls of modules, by their cycles, and the cycle that it is.
use Rattle.std.specs.Prelude.{ℕ, Bool, ◌&&◌, ◌==◌, List}
use Rattle.std.specs.List.{list_any}
use Rattle.soda_ir.specs.Points.{listed}
use Rattle.sim_lines.specs.declared.stalled.StalledModule.{StalledModule}

-- how many modules there are, in which cycles which of them are stalled, and the cycle that it is
pub record Timetable : Type 0 where
  pub modules : ℕ
  pub stalled : List StalledModule
  pub cycle : ℕ

-- a module is stalled in a cycle
abbrev pub is_stalled_in : List StalledModule → (cycle number : ℕ) → Bool
is_stalled_in stalled cycle m = list_any (λ s. s.cycle == cycle && s.number == m) stalled

-- the flags of a cycle, one for each module
abbrev pub flags_of : Timetable → (cycle : ℕ) → List Bool
flags_of t cycle = listed (is_stalled_in t.stalled cycle) t.modules
