-- The streams of a blur.
use Rattle.std.specs.Prelude.{◌≡◌, ◌<◌, ◌+◌, ◌*◌, ◌%◌, ℕ, ℤ, pos, List, length, slice_index_or, fold}
use Rattle.std.specs.Int.{int_wrapping_add}
use mir.Syntax.{w128}
use Rattle.net_ir.specs.declared.network.Module.{Module}
use Rattle.net_ir.specs.declared.network.Module.TheVariants.{Source, Forward, Compute, Sink}
use Rattle.net_ir.specs.Nets.{Net, exits}
use Rattle.net_cycles.specs.Streams.{Streams, port_values, sent_values}

-- the module of a number
abbrev pub module_at : Net → ℕ → Module
module_at net m = slice_index_or net.modules m (Source 0)

-- the cell of a lane in firing k of a source
abbrev pub cell_at : ℕ → ℕ → ℤ
cell_at k lane = pos (16 * (k % 4096) + lane)

-- what firing k of a module sends at its exit j, from what it finds at its ports
abbrev pub sent_at : Module → ℕ → List ℤ → ℕ → ℤ
sent_at (Source tensor) k ports j = cell_at k j
sent_at (Forward tensor lane tap) k ports j = slice_index_or ports 0 (pos 0)
sent_at (Compute tensor lane) k ports j = fold (int_wrapping_add w128) (pos 0) ports
sent_at (Sink tensor) k ports j = pos 0

-- the law of the streams: each module sends by its kind
abbrev pub IsLaw : Net → Streams → Type 0
IsLaw net stream =
    (m k j : ℕ) → m < length net.modules → j < length (exits net m)
    → slice_index_or (sent_values net stream m k) j (pos 0)
    ≡ sent_at (module_at net m) k (port_values net stream m k) j
