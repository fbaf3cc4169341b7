-- How the modules of a run stand: to their files, and to what they have done.
use Rattle.std.specs.Prelude.{◌≡◌, ◌≢◌, ℕ, ◌<◌, ◌≤◌, true, false, All, List, [], ℤ, length, take, slice_index, slice_index_or, None, Some, Option}
use Rattle.soda_io.specs.Store.{Store, content}
use Rattle.bursts.specs.Blocks.{cells_in}
use Rattle.bursts.specs.Readers.{StandsAt, given_by, kind}
use Rattle.bursts.specs.Writers.{HasPut, output}
use Rattle.file_modules.specs.Firings.{cells_before, lane_of}
use Rattle.file_modules.specs.Modules.{read_before, source}
use Rattle.file_modules.specs.declared.source.SourceModule.{SourceModule}
use Rattle.net_ir.specs.Nets.{entrances}
use Rattle.net_ir.specs.declared.network.Module.{Module}
use Rattle.net_ir.specs.declared.network.Module.TheVariants.{Source, Forward, Compute, Sink}
use Rattle.staged_cells.specs.Cells.{type_at}
use Rattle.staged_cells.specs.Sends.{computed, output_of}
use Rattle.staged_cells.specs.Streams.{cell_number, module_at}
use Rattle.cycle_sim.specs.Settings.{AreInputs, IsSettings, Settings, array_cells, array_over, net_in, plan_in, streams_over}
use Rattle.cycle_sim.specs.Sends.{exit_lanes}
use Rattle.cycle_sim.specs.declared.stations.SourceStation.{SourceStation}
use Rattle.cycle_sim.specs.declared.stations.SinkStation.{SinkStation}
use Rattle.cycle_sim.specs.declared.stations.Station.{Station}
use Rattle.cycle_sim.specs.declared.stations.Station.TheVariants as station

-- what a source sends at a lane in a firing, of these cells of its input
abbrev pub lane_cell : SourceModule → (cells : List ℤ) → (firing lane : ℕ) → ℤ
lane_cell m cells k lane = lane_of m.unroll m.delay (kind m.reader).cells cells k lane

-- the id that a source reads by
abbrev pub read_id : SourceStation → ℕ
read_id s = (kind s.reads.reader).id

-- the id that a sink writes by
abbrev pub write_id : SinkStation → ℕ
write_id s = (output s.writes.writer).id

-- the good cells of a source's file
abbrev pub good_in : Store → SourceStation → List ℤ
good_in store s = cells_in (kind s.reads.reader) (content store (read_id s))

-- how many of them it has read
abbrev pub was_read : SourceStation → ℕ
was_read s = read_before (source s.reads) s.done

-- A source that has fired so many times stands in its file behind the cells of these firings, which are good, and met
-- no fault.
pub record SourceAt (tells : Type 0) (given : ℕ) (store : Store) (firing : ℕ) (s : SourceStation) : Type 0 where
  pub known : read_id s < given
  pub opened : tells → store.opened (read_id s) ≡ true
  pub fine : s.reads.reader.fault ≡ None
  pub done : s.done ≡ firing
  pub count : given_by s.reads.reader ≡ read_before (source s.reads) firing
  pub good : tells → read_before (source s.reads) firing ≤ length (good_in store s)
  pub stands : tells → StandsAt s.reads.reader (content store (read_id s)) (store.place (read_id s))

-- what a source of a staged input was made for, at module m
pub record IsSourceOf (c : Settings) (m v : ℕ) (s : SourceStation) : Type 0 where
  pub input : s.input ≡ v
  pub unroll : s.reads.unroll ≡ c.program.unroll
  pub delay : s.reads.delay ≡ slice_index c.delays v
  pub cells : (kind s.reads.reader).cells ≡ array_cells c
  pub form : (kind s.reads.reader).form ≡ c.form
  pub ty : (kind s.reads.reader).ty ≡ type_at c.program v
  pub lanes : s.lanes.items ≡ exit_lanes (net_in c) m
  pub within : All (λ lane. lane < c.program.unroll) (exit_lanes (net_in c) m)

-- what the module of a number works with
abbrev pub station_at : {U : Type 0} → List (Station U) → (number : ℕ) → Station U
station_at stations m = slice_index_or stations m station.Forward

-- the inputs go on from what was read of them: each source has read the first cells of its array
abbrev pub AreBegun : {U : Type 0} → Store → List (Station U) → (inputs : List (List ℤ)) → Type 0
AreBegun store stations inputs =
    (n : ℕ) (s : SourceStation) → station_at stations n ≡ station.Source s
    → take (was_read s) (good_in store s) ≡ take (was_read s) (slice_index_or inputs s.input [])

-- what a sink of a staged output was made for, at module m
pub record IsSinkOf (c : Settings) (m v : ℕ) (s : SinkStation) : Type 0 where
  pub lanes : length (entrances (net_in c) m) ≡ c.program.unroll
  pub number : s.output ≡ output_of c.program v
  pub unroll : s.writes.unroll ≡ c.program.unroll
  pub delay : s.writes.delay ≡ slice_index c.delays v
  pub cells : s.writes.cells ≡ array_cells c
  pub form : (output s.writes.writer).form ≡ c.form
  pub run : (output s.writes.writer).run ≡ c.run
  pub ty : (output s.writes.writer).ty ≡ type_at c.program v

-- A sink that has fired so many times has put the cells of these firings into its file: of each of its output's arrays
-- over inputs that go on from what was read, the first ones.
pub record SinkAt {U : Type 0} (tells : Type 0) (c : Settings) (given : ℕ) (store : Store) (stations : List (Station U))
    (v firing : ℕ) (s : SinkStation) : Type 0 where
  pub known : write_id s < given
  pub created : tells → store.opened (write_id s) ≡ false
  pub put : tells → (inputs : List (List ℤ)) → AreInputs c inputs → AreBegun store stations inputs
      → (bytes : List ℕ) × (store.bytes (store.name (write_id s)) ≡ Some bytes)
      × HasPut s.writes.writer (take (cells_before c.program.unroll (slice_index c.delays v) (array_cells c) firing)
      (array_over c inputs v)) bytes

-- what a kind of computing modules does
pub record Units (U : Type 0) : Type 0 where
  pub value : U → List ℤ → ℤ → ℤ
  pub place : U → ℤ
  pub step : U → ℕ
  pub count : U → ℕ

-- the computing module of a staged tensor at a lane, which has fired so many times, at module m
pub record UnitAt {U : Type 0} (units : Units U) (c : Settings) (m v lane firing : ℕ) (u : U) : Type 0 where
  pub within : lane < c.program.unroll
  pub value : (ports : List ℤ) (z : ℤ) → length ports ≡ units.count u
      → units.value u ports z ≡ computed c.program c.rows c.params v ports z
  pub place : units.place u ≡ cell_number (plan_in c) v lane firing
  pub step : units.step u ≡ c.program.unroll
  pub count : units.count u ≡ length (entrances (net_in c) m)

-- a module that has fired so many times
abbrev pub StationAt : {U : Type 0} → (tells : Type 0) → Units U → Settings → (given : ℕ) → Store
    → List (Station U) → (m firing : ℕ) → Module → Station U → Type 0
StationAt tells units c given store stations m firing kind (station.Source s) =
    (v : ℕ) × (kind ≡ Source v) × IsSourceOf c m v s × SourceAt tells given store firing s
StationAt tells units c given store stations m firing kind station.Forward =
    (v : ℕ) × (lane : ℕ) × (tap : ℕ) × (kind ≡ Forward v lane tap)
StationAt tells units c given store stations m firing kind (station.Compute u) =
    (v : ℕ) × (lane : ℕ) × (kind ≡ Compute v lane) × UnitAt units c m v lane firing u
StationAt tells units c given store stations m firing kind (station.Sink s) =
    (v : ℕ) × (kind ≡ Sink v) × IsSinkOf c m v s × SinkAt tells c given store stations v firing s

-- the id that a module reads or writes by
abbrev pub id_of : {U : Type 0} → Station U → Option ℕ
id_of (station.Source s) = Some (read_id s)
id_of station.Forward = None
id_of (station.Compute u) = None
id_of (station.Sink s) = Some (write_id s)

-- the id that it writes by
abbrev pub written_by : {U : Type 0} → Station U → Option ℕ
written_by (station.Source s) = None
written_by station.Forward = None
written_by (station.Compute u) = None
written_by (station.Sink s) = Some (write_id s)

-- no two modules have one id, and none has the name that another writes to
pub record AreApart {U : Type 0} (tells : Type 0) (store : Store) (stations : List (Station U)) : Type 0 where
  pub ids : (m n i j : ℕ) → m ≢ n → id_of (station_at stations m) ≡ Some i → id_of (station_at stations n) ≡ Some j
      → i ≢ j
  pub names : tells → (m n i j : ℕ) → m ≢ n → written_by (station_at stations m) ≡ Some i
      → id_of (station_at stations n) ≡ Some j → store.name j ≢ store.name i

-- the modules have fired so many times
pub record AreReady {U : Type 0} (tells : Type 0) (units : Units U) (c : Settings) (given : ℕ) (store : Store)
    (stations : List (Station U)) (fired : List ℕ) : Type 0 where
  pub settings : IsSettings c
  pub count : length stations ≡ length (net_in c).modules
  pub each : (m : ℕ) → m < length stations → StationAt tells units c given store stations m (slice_index fired m)
      (module_at (net_in c) m) (station_at stations m)
  pub apart : AreApart tells store stations

-- the streams of the inputs that go on from what was read
pub record AgreesWith {U : Type 0} (tells : Type 0) (c : Settings) (store : Store) (stations : List (Station U))
    (streams : ℕ → ℕ → ℤ) : Type 0 where
  pub told : tells
  pub inputs : List (List ℤ)
  pub arrays : AreInputs c inputs
  pub begun : AreBegun store stations inputs
  pub are : streams ≡ streams_over c inputs
