-- How modules stand while the outputs of a run are finished and its inputs are read to their ends.
use Rattle.std.specs.Prelude.{◌≡◌, ℕ, ◌<◌, true, false, Bool, List, ℤ, length, nat_lt, slice_index, None, Some}
use Rattle.soda_io.specs.Store.{Store, content}
use Rattle.array_bytes.specs.Written.{array_bytes}
use Rattle.bursts.specs.Blocks.{fault_in}
use Rattle.bursts.specs.Readers.{is_done, kind}
use Rattle.bursts.specs.Writers.{output}
use Rattle.net_ir.specs.Firings.{firings_at}
use Rattle.net_build.specs.Planned.{firings_for}
use Rattle.net_ir.specs.declared.network.Module.{Module}
use Rattle.net_ir.specs.declared.network.Module.TheVariants.{Source, Forward, Compute, Sink}
use Rattle.staged_cells.specs.Streams.{module_at}
use Rattle.cycle_sim.specs.Settings.{AreInputs, IsSettings, Settings, array_cells, array_over, net_in, plan_in}
use Rattle.cycle_sim.specs.Stations.{AreApart, AreBegun, IsSinkOf, IsSourceOf, SinkAt, SourceAt, UnitAt, Units, good_in, read_id, station_at, write_id}
use Rattle.cycle_sim.specs.declared.stations.SourceStation.{SourceStation}
use Rattle.cycle_sim.specs.declared.stations.SinkStation.{SinkStation}
use Rattle.cycle_sim.specs.declared.stations.Station.{Station}
use Rattle.cycle_sim.specs.declared.stations.Station.TheVariants as station

-- A finished sink: its file holds the bytes of its output's array, over all inputs that go on from what was read.
pub record IsWhole {U : Type 0} (tells : Type 0) (c : Settings) (given : ℕ) (store : Store) (stations : List (Station U))
    (v : ℕ) (s : SinkStation) : Type 0 where
  pub known : write_id s < given
  pub created : tells → store.opened (write_id s) ≡ false
  pub whole : tells → (inputs : List (List ℤ)) → AreInputs c inputs → AreBegun store stations inputs
      → store.bytes (store.name (write_id s)) ≡ Some (array_bytes (output s.writes.writer).form
      (output s.writes.writer).ty (output s.writes.writer).run (array_over c inputs v))

-- A source that was read to its end: its file has no fault, and all its cells were read.
pub record IsReadOut (tells : Type 0) (given : ℕ) (store : Store) (s : SourceStation) : Type 0 where
  pub known : read_id s < given
  pub opened : tells → store.opened (read_id s) ≡ true
  pub ended : is_done s.reads.reader ≡ true
  pub fine : tells → fault_in (kind s.reads.reader) (content store (read_id s)) ≡ None
  pub cells : tells → length (good_in store s) ≡ (kind s.reads.reader).cells

-- the first of two facts, or the second
abbrev pub Chosen : Bool → Type 0 → Type 0 → Type 0
Chosen true P Q = P
Chosen false P Q = Q

-- a module that has done so many firings, by whether its output was finished, and its input read to the end
abbrev pub EndingAt : {U : Type 0} → (tells : Type 0) → Units U → Settings → (given : ℕ) → Store → List (Station U)
    → (finished over : Bool) → (m firing : ℕ) → Module → Station U → Type 0
EndingAt tells units c given store stations finished over m k which (station.Source s) =
    (v : ℕ) × (which ≡ Source v) × IsSourceOf c m v s
    × Chosen over (IsReadOut tells given store s) (SourceAt tells given store k s)
EndingAt tells units c given store stations finished over m k which station.Forward =
    (v : ℕ) × (lane : ℕ) × (tap : ℕ) × (which ≡ Forward v lane tap)
EndingAt tells units c given store stations finished over m k which (station.Compute u) =
    (v : ℕ) × (lane : ℕ) × (which ≡ Compute v lane) × UnitAt units c m v lane k u
EndingAt tells units c given store stations finished over m k which (station.Sink s) =
    (v : ℕ) × (which ≡ Sink v) × IsSinkOf c m v s
    × Chosen finished (IsWhole tells c given store stations v s) (SinkAt tells c given store stations v k s)

-- the modules have done all their firings
abbrev pub AllFired : Settings → (fired : List ℕ) → Type 0
AllFired c fired = (m : ℕ) → m < length (net_in c).modules
    → slice_index fired m ≡ firings_at (net_in c) (firings_for (array_cells c) (plan_in c)) m

-- the modules have done so many firings; the outputs of the first `finished` of them are finished, and the inputs of the
-- first `over` were read to their ends
pub record AreEnding {U : Type 0} (tells : Type 0) (units : Units U) (c : Settings) (given : ℕ) (store : Store)
    (stations : List (Station U)) (fired : List ℕ) (finished over : ℕ) : Type 0 where
  pub settings : IsSettings c
  pub count : length stations ≡ length (net_in c).modules
  pub each : (m : ℕ) → m < length stations → EndingAt tells units c given store stations (nat_lt m finished)
      (nat_lt m over) m (slice_index fired m) (module_at (net_in c) m) (station_at stations m)
  pub apart : AreApart tells store stations
