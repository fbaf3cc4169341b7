-- What stops the reading of a run's inputs to their ends, and what holds then.
use Rattle.std.specs.Prelude.{◌≡◌, ◌≢◌, ◌⊎◌, ℕ, ◌<◌, Bool, false, List, length, nat_lt, slice_index}
use Rattle.std.specs.Prelude.{Err}
use Rattle.soda_io.specs.Cause.{Rose}
use Rattle.soda_io.specs.Store.{Store, content}
use Rattle.array_bytes.specs.declared.fault.CellFault.TheVariants as cell
use Rattle.bursts.specs.Blocks.{EndIs}
use Rattle.bursts.specs.Readers.{kind}
use Rattle.staged_cells.specs.Streams.{module_at}
use Rattle.cycle_sim.specs.Ending.{EndingAt}
use Rattle.cycle_sim.specs.Settings.{Settings, net_in}
use Rattle.cycle_sim.specs.Stations.{Units, read_id, station_at}
use Rattle.cycle_sim.specs.Stopped.{IsStopped}
use Rattle.cycle_sim.specs.Using.{Ends}
use Rattle.cycle_sim.specs.declared.stop.Stop.{Stop}
use Rattle.cycle_sim.specs.declared.stop.Stop.TheVariants.{Input, Output}
use Rattle.cycle_sim.specs.declared.stations.SourceStation.{SourceStation}
use Rattle.cycle_sim.specs.declared.stations.Station.{Station}
use Rattle.cycle_sim.specs.declared.stations.Station.TheVariants as station

-- Why the input of module m wasn't read to its end, where the count of faults was `before` and is `now`: its file has this
-- fault, behind its cells, or a read failed, the last call of all.
abbrev pub IsUnendedBy : {U : Type 0} → (tells : Type 0) → (old store : Store) → List (Station U) → (before now m : ℕ) → Stop
    → Type 0
IsUnendedBy tells old store stations before now m (Input input fault) =
    (s : SourceStation) × (station_at stations m ≡ station.Source s) × (input ≡ s.input)
    × (tells → EndIs (kind s.reads.reader) (content store (read_id s)) (Err fault))
    × (fault ≡ cell.Failed → Rose before now) × (tells → Ends old store (read_id s) (fault ≡ cell.Failed))
IsUnendedBy tells old store stations before now m (Output output error) = ⊥

-- A run that wasn't stopped before, and was at the end of module m's input. The others stand as before: the outputs of the
-- first `finished` modules are finished, and the inputs of those before m were read to their ends.
pub record IsUnended {U : Type 0} (tells : Type 0) (units : Units U) (c : Settings) (given : ℕ) (once : Bool) (old store : Store)
    (stations : List (Station U)) (fired : List ℕ) (finished before now m : ℕ) (stop : Stop) : Type 0 where
  pub begun : once ≡ false
  pub cause : IsUnendedBy tells old store stations before now m stop
  pub others : (n : ℕ) → n < length stations → n ≢ m → EndingAt tells units c given store stations (nat_lt n finished)
      (nat_lt n m) n (slice_index fired n) (module_at (net_in c) n) (station_at stations n)

-- what stops the end of a run: the finishing of an output, or the reading of an input, once all outputs are finished
abbrev pub StopsEnding : {U : Type 0} → (tells : Type 0) → Units U → Settings → (given : ℕ) → (once : Bool) → (old store : Store)
    → List (Station U) → (fired : List ℕ) → (before now : ℕ) → Stop → Type 0
StopsEnding tells units c given once old store stations fired before now stop =
    ((m : ℕ) × IsStopped tells c once old store stations before now m (slice_index fired m) stop)
    ⊎ ((m : ℕ) × IsUnended tells units c given once old store stations fired (length stations) before now m stop)
