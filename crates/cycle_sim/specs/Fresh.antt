-- A run before its first cycle: its files, and its modules.
use Rattle.std.specs.Prelude.{◌≡◌, ◌≢◌, ℕ, ◌<◌, true, false, List, [], length, slice_index, None, Some}
use Rattle.soda_io.specs.Store.{Store}
use Rattle.bursts.specs.Readers.{StandsAt, given_by}
use Rattle.bursts.specs.Writers.{HasPut}
use Rattle.net_ir.specs.Nets.{Net}
use Rattle.net_ir.specs.declared.network.Module.{Module}
use Rattle.net_ir.specs.declared.network.Module.TheVariants.{Source, Forward, Compute, Sink}
use Rattle.staged_cells.specs.Streams.{module_at}
use Rattle.cycle_sim.specs.Settings.{Settings}
use Rattle.cycle_sim.specs.Stations.{IsSinkOf, IsSourceOf, UnitAt, Units, read_id, station_at, write_id}
use Rattle.cycle_sim.specs.declared.stations.SourceStation.{SourceStation}
use Rattle.cycle_sim.specs.declared.stations.SinkStation.{SinkStation}
use Rattle.cycle_sim.specs.declared.stations.Station.{Station}
use Rattle.cycle_sim.specs.declared.stations.Station.TheVariants as station

-- The ids of a run's files: `open` gave those of the inputs, and nothing was read by them; `create` gave those of the
-- outputs, and their names hold nothing. No two ids are equal, and the name of a created one is that of no other.
pub record AreFresh (tells : Type 0) (inputs outputs : List ℕ) (given : ℕ) (store : Store) : Type 0 where
  pub read : (n : ℕ) → n < length inputs → slice_index inputs n < given
  pub written : (n : ℕ) → n < length outputs → slice_index outputs n < given
  pub opened : tells → (n : ℕ) → n < length inputs → store.opened (slice_index inputs n) ≡ true
  pub unread : tells → (n : ℕ) → n < length inputs → store.place (slice_index inputs n) ≡ 0
  pub created : tells → (n : ℕ) → n < length outputs → store.opened (slice_index outputs n) ≡ false
  pub empty : tells → (n : ℕ) → n < length outputs → store.bytes (store.name (slice_index outputs n)) ≡ Some []
  pub inputs_apart : (i j : ℕ) → i ≢ j → i < length inputs → j < length inputs
      → slice_index inputs i ≢ slice_index inputs j
  pub outputs_apart : (i j : ℕ) → i ≢ j → i < length outputs → j < length outputs
      → slice_index outputs i ≢ slice_index outputs j
  pub apart : (i j : ℕ) → i < length inputs → j < length outputs → slice_index inputs i ≢ slice_index outputs j
  pub names_of_inputs : tells → (i j : ℕ) → i < length inputs → j < length outputs
      → store.name (slice_index inputs i) ≢ store.name (slice_index outputs j)
  pub names_of_outputs : tells → (i j : ℕ) → i ≢ j → i < length outputs → j < length outputs
      → store.name (slice_index outputs i) ≢ store.name (slice_index outputs j)

-- a source that has read nothing of its input, by that input's id
pub record IsNewSource (inputs : List ℕ) (s : SourceStation) : Type 0 where
  pub there : s.input < length inputs
  pub id : read_id s ≡ slice_index inputs s.input
  pub done : s.done ≡ 0
  pub fine : s.reads.reader.fault ≡ None
  pub count : given_by s.reads.reader ≡ 0
  pub stands : (bytes : List ℕ) → StandsAt s.reads.reader bytes 0

-- a sink that has put nothing, by its output's id
pub record IsNewSink (outputs : List ℕ) (s : SinkStation) : Type 0 where
  pub there : s.output < length outputs
  pub id : write_id s ≡ slice_index outputs s.output
  pub none : HasPut s.writes.writer [] []

-- what module m works with before the first cycle
abbrev pub IsNew : {U : Type 0} → Units U → Settings → (inputs outputs : List ℕ) → (m : ℕ) → Module → Station U
    → Type 0
IsNew units c inputs outputs m kind (station.Source s) =
    (v : ℕ) × (kind ≡ Source v) × IsSourceOf c m v s × IsNewSource inputs s
IsNew units c inputs outputs m kind station.Forward =
    (v : ℕ) × (lane : ℕ) × (tap : ℕ) × (kind ≡ Forward v lane tap)
IsNew units c inputs outputs m kind (station.Compute u) =
    (v : ℕ) × (lane : ℕ) × (kind ≡ Compute v lane) × UnitAt units c m v lane 0 u
IsNew units c inputs outputs m kind (station.Sink s) =
    (v : ℕ) × (kind ≡ Sink v) × IsSinkOf c m v s × IsNewSink outputs s

-- what all modules of a network work with before the first cycle
pub record AreNew {U : Type 0} (units : Units U) (c : Settings) (inputs outputs : List ℕ) (net : Net)
    (stations : List (Station U)) : Type 0 where
  pub count : length stations ≡ length net.modules
  pub each : (m : ℕ) → m < length stations
      → IsNew units c inputs outputs m (module_at net m) (station_at stations m)
