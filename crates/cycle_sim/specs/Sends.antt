-- What a module of a run sends in a firing, queue by queue, and what a sink hands on.
use Rattle.std.specs.Prelude.{◌≡◌, ℕ, ◌<◌, List, [], map, length, slice_index, slice_index_or, ℤ, pos}
use Rattle.net_ir.specs.Nets.{Net, exits}
use Rattle.net_ir.specs.declared.network.Module.{Module}
use Rattle.net_ir.specs.declared.network.Module.TheVariants.{Source, Forward, Compute, Sink}
use Rattle.staged_cells.specs.Sends.{computed, numbered}
use Rattle.staged_cells.specs.Streams.{cell_number, lane_of, receiver}
use Rattle.cycle_sim.specs.Settings.{Settings, plan_in}

-- the lanes of the modules that the queues from a module lead to, in queue order
abbrev pub exit_lanes : Net → (number : ℕ) → List ℕ
exit_lanes net m = map (λ queue. lane_of (receiver net queue)) (exits net m)

-- The same value is sent into each queue from a module, but that a source sends into each the cell of its lane.
abbrev pub SendsBy : Settings → (inputs : List (List ℤ)) → Module → (firing : ℕ) → (lanes : List ℕ)
    → (ports sends : List ℤ) → Type 0
SendsBy c inputs (Source v) k lanes ports sends = (j : ℕ) → j < length sends → slice_index_or sends j (pos 0)
    ≡ numbered (slice_index_or inputs v []) (cell_number (plan_in c) v (slice_index lanes j) k)
SendsBy c inputs (Forward v lane tap) k lanes ports sends = (j : ℕ) → j < length sends
    → slice_index_or sends j (pos 0) ≡ slice_index_or ports 0 (pos 0)
SendsBy c inputs (Compute v lane) k lanes ports sends = (j : ℕ) → j < length sends → slice_index_or sends j (pos 0)
    ≡ computed c.program c.rows c.params v ports (cell_number (plan_in c) v lane k)
SendsBy c inputs (Sink v) k lanes ports sends = (j : ℕ) → j < length sends → slice_index_or sends j (pos 0) ≡ pos 0
