-- What stops a run, and what holds then.
use Rattle.std.specs.Prelude.{◌≡◌, ℕ, ◌+◌, ◌≤◌, Bool, false, List, ℤ, length, Some}
use Rattle.std.specs.Prelude.{Err}
use Rattle.soda_io.specs.Cause.{Rose}
use Rattle.soda_io.specs.Store.{Store, content}
use Rattle.soda_io.specs.declared.error.IoErr.{IoErr}
use Rattle.soda_io.specs.declared.error.IoErr.TheVariants as io
use Rattle.array_bytes.specs.Written.{array_bytes}
use Rattle.array_bytes.specs.declared.fault.CellFault.{CellFault}
use Rattle.array_bytes.specs.declared.fault.CellFault.TheVariants as cell
use Rattle.bursts.specs.Readers.{kind}
use Rattle.bursts.specs.Writers.{IsPrefix, output}
use Rattle.file_modules.specs.Modules.{FaultIs, read_before, source}
use Rattle.net_ir.specs.declared.network.Module.TheVariants.{Sink}
use Rattle.staged_cells.specs.Streams.{module_at}
use Rattle.cycle_sim.specs.Settings.{AreInputs, Settings, array_over, net_in}
use Rattle.cycle_sim.specs.Stations.{AreBegun, good_in, read_id, station_at, was_read, write_id}
use Rattle.cycle_sim.specs.Using.{Ends}
use Rattle.cycle_sim.specs.declared.stop.Stop.{Stop}
use Rattle.cycle_sim.specs.declared.stop.Stop.TheVariants.{Input, Output}
use Rattle.cycle_sim.specs.declared.stations.SourceStation.{SourceStation}
use Rattle.cycle_sim.specs.declared.stations.SinkStation.{SinkStation}
use Rattle.cycle_sim.specs.declared.stations.Station.{Station}
use Rattle.cycle_sim.specs.declared.stations.Station.TheVariants as station

-- a fact of the input that stops, and one of the output
abbrev pub OfInput : Stop → (ℕ → CellFault → Type 0) → Type 0
OfInput (Input input fault) P = P input fault
OfInput (Output output error) P = ⊥

abbrev pub OfOutput : Stop → (ℕ → IoErr → Type 0) → Type 0
OfOutput (Input input fault) P = ⊥
OfOutput (Output output error) P = P output error

-- Why firing k of module m stopped, where the count of faults was `before` and is `now`: an input has this first fault,
-- in the cells of this firing or before them, or a read or a write failed, the last call of all.
abbrev pub CauseIs : {U : Type 0} → (tells : Type 0) → (old store : Store) → List (Station U) → (before now m k : ℕ) → Stop
    → Type 0
CauseIs tells old store stations before now m k (Input input fault) =
    (s : SourceStation) × (station_at stations m ≡ station.Source s) × (input ≡ s.input)
    × (tells → FaultIs (kind s.reads.reader) (content store (read_id s)) (read_before (source s.reads) (k + 1)) (Err fault))
    × (fault ≡ cell.Failed → Rose before now) × (tells → Ends old store (read_id s) (fault ≡ cell.Failed))
CauseIs tells old store stations before now m k (Output number error) =
    (s : SinkStation) × (station_at stations m ≡ station.Sink s) × (number ≡ s.output)
    × (error ≡ io.Failed → Rose before now) × (tells → Ends old store (write_id s) (error ≡ io.Failed))

-- The file of each output holds a prefix of the bytes of its array, over all inputs that go on from what was read.
abbrev pub HoldPrefixes : {U : Type 0} → Settings → Store → List (Station U) → Type 0
HoldPrefixes c store stations =
    (m v : ℕ) (s : SinkStation) → station_at stations m ≡ station.Sink s → module_at (net_in c) m ≡ Sink v
    → (inputs : List (List ℤ)) → AreInputs c inputs → AreBegun store stations inputs → (bytes : List ℕ)
    × (store.bytes (store.name (write_id s)) ≡ Some bytes)
    × IsPrefix bytes (array_bytes (output s.writes.writer).form (output s.writes.writer).ty
    (output s.writes.writer).run (array_over c inputs v))

-- a run that wasn't stopped before, and was in a firing of module m
pub record IsStopped {U : Type 0} (tells : Type 0) (c : Settings) (once : Bool) (old store : Store)
    (stations : List (Station U)) (before now m k : ℕ) (stop : Stop) : Type 0 where
  pub begun : once ≡ false
  pub cause : CauseIs tells old store stations before now m k stop
  pub good : tells → (n : ℕ) (s : SourceStation) → station_at stations n ≡ station.Source s
      → was_read s ≤ length (good_in store s)
  pub prefixes : tells → HoldPrefixes c store stations
