-- The files of a run's modules.
use Rattle.std.specs.Prelude.{◌≡◌, ℕ, ◌<◌, List, length, slice_index, None, Some, Option}
use Rattle.net_ir.specs.declared.network.Module.{Module}
use Rattle.net_ir.specs.declared.network.Module.TheVariants.{Source, Forward, Compute, Sink}
use Rattle.staged_cells.specs.Sends.{output_of}
use Rattle.staged_cells.specs.Streams.{module_at}
use Rattle.cycle_sim.specs.Settings.{Settings, net_in}
use Rattle.cycle_sim.specs.Stations.{id_of, station_at}
use Rattle.cycle_sim.specs.declared.stations.Station.{Station}

-- the id of a module's file, of those of the inputs and of the outputs: a source has its input's, a sink its output's
abbrev pub handle_of : Settings → (inputs outputs : List ℕ) → Module → Option ℕ
handle_of c inputs outputs (Source v) = Some (slice_index inputs v)
handle_of c inputs outputs (Forward v lane tap) = None
handle_of c inputs outputs (Compute v lane) = None
handle_of c inputs outputs (Sink v) = Some (slice_index outputs (output_of c.program v))

-- each module works with the file of its input or output
abbrev pub HaveHandles : {U : Type 0} → Settings → (inputs outputs : List ℕ) → List (Station U) → Type 0
HaveHandles c inputs outputs stations =
    (m : ℕ) → m < length (net_in c).modules
    → id_of (station_at stations m) ≡ handle_of c inputs outputs (module_at (net_in c) m)
