-- What the ports of a staged tensor hold, as the code has them.
use Rattle.std.specs.Prelude.{ℕ, List, Option, Some, None, ℤ, pos, negsuc, nat_lt, slice_index_or, if◌then◌else◌}
use Rattle.soda_ir.specs.Points.{linear}
use Rattle.soda_ir.specs.Program.{PlainProgram, extents_at, plain}
use Rattle.soda_eval.specs.Points.{point}
use Rattle.time_stages.specs.declared.staging.StagedTensor.{StagedTensor}
use Rattle.time_stages.specs.Margins.{keeps_away}
use Rattle.time_stages.specs.Staged.{number_read}
use Rattle.staged_cells.specs.declared.ports.Ports.{Ports}
use Rattle.staged_cells.specs.Cells.{inner_cell, outer_cell, port_of}

-- what the port holds that serves a cell of a tensor
abbrev pub port_value : Ports → ℕ → List ℤ → ℤ
port_value s y o =
    slice_index_or s.values.now (port_of s.reads.now s.number
    (number_read (plain s.parts.now) s.tensors.now s.turn y) (linear (extents_at (plain s.parts.now) 1) o)) (pos 0)

-- the number of a cell among so many, if there is one
abbrev pub place_in : (cells : ℕ) → ℤ → Option ℕ
place_in cells (pos i) = if nat_lt i cells then Some i else None
place_in cells (negsuc i) = None

-- what a computing module sends for a cell that is there
unfoldable pub sent_at : PlainProgram → (rows : ℕ) → (params : List ℤ) → (number : ℕ) → StagedTensor → (ports : List ℤ)
    → (place : ℕ) → ℤ
sent_at p rows params v s ports i =
    if keeps_away (extents_at p rows) s.low s.high (point (extents_at p rows) i) then inner_cell p params v s ports
    else outer_cell p v s ports
