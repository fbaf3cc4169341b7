-- A run whose modules are stalled as a stall list says.
use Rattle.std.specs.Prelude.{◌≡◌, ℕ, Bool, List, slice_index}
use Rattle.soda_io.specs.Store.{Store}
use Rattle.net_ir.specs.Nets.{Net}
use Rattle.net_cycles.specs.Cycles.{FiresAt, HasRun}
use Rattle.sim_lines.specs.Flags.{flags_in, flags_until}
use Rattle.sim_lines.specs.Timetable.{Timetable, flags_of}
use Rattle.sim_lines.specs.declared.stall.Stall.{Stall}
use Rattle.time_stages.specs.Staged.{staged_tensors}
use Rattle.cycle_sim.specs.Settings.{Settings, net_in}
use Rattle.cycle_sim.specs.Stopped.{IsStopped}
use Rattle.cycle_sim.specs.declared.stop.Stop.{Stop}
use Rattle.cycle_sim.specs.declared.stations.Station.{Station}

-- the modules of the network that these stalls stall in a cycle
abbrev pub stalled_in : Settings → List Stall → (cycle : ℕ) → List Bool
stalled_in c stalls cycle = flags_in (staged_tensors c.program) stalls (net_in c).modules cycle

-- the same in the first so many cycles
abbrev pub stalled_until : Settings → List Stall → (count : ℕ) → List (List Bool)
stalled_until c stalls count = flags_until (staged_tensors c.program) stalls (net_in c).modules count

-- a timetable of these stalls
abbrev pub AreFlagsOf : Settings → List Stall → Timetable → Type 0
AreFlagsOf c stalls t = (cycle : ℕ) → flags_of t cycle ≡ stalled_in c stalls cycle

-- A run that was stopped in its cycle of this number, in a firing of module m: the cycles before it were done, with these
-- stalls, and so were the firings before that one.
pub record IsStoppedIn {U : Type 0} (tells : Type 0) (c : Settings) (stalls : List Stall) (net : Net) (firings : ℕ)
    (once : Bool) (old store : Store) (stations : List (Station U)) (before now : ℕ) (stop : Stop) : Type 0 where
  pub cycle : ℕ
  pub begun : List ℕ
  pub ran : HasRun net firings (stalled_until c stalls cycle) begun
  pub fired : List ℕ
  pub m : ℕ
  pub fires : FiresAt net firings (stalled_in c stalls cycle) begun fired m
  pub stopped : IsStopped tells c once old store stations before now m (slice_index fired m) stop
