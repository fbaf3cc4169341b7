-- The cells of staged tensors: the defined ones, and those that a computing module sends.
use Rattle.std.specs.Prelude.{◌≡◌, ℕ, ◌-◌, Bool, ◌&&◌, ◌==◌, List, map, filter, Some, nat_lt, slice_get, slice_index_or, length, ℤ, pos, negsuc, ◌+ℤ◌, ◌≤ℤ◌, ◌<ℤ◌, if◌then◌else◌}
use Rattle.std.specs.List.{position_or_len}
use Rattle.std.specs.Ordering.{int_eq}
use Rattle.soda_words.specs.IntType.{IntType, int32}
use Rattle.int_types.specs.Ranges.{wrapped}
use Rattle.delay_net.specs.declared.net.Read.{Read}
use Rattle.soda_ir.specs.Counts.{formula_in, is_output, output_number}
use Rattle.soda_ir.specs.Formula.{by_formula}
use Rattle.soda_ir.specs.Points.{linear}
use Rattle.soda_ir.specs.Program.{PlainProgram, extents_at, preserves}
use Rattle.soda_eval.specs.Arrays.{Given, cell, in_region}
use Rattle.soda_eval.specs.Points.{point}
use Rattle.soda_eval.specs.Runs.{cells_at, run_of, scope_of, stencil_of}
use Rattle.soda_eval.specs.Values.{valued}
use Rattle.time_stages.specs.declared.staging.StagedTensor.{StagedTensor}
use Rattle.time_stages.specs.Margins.{keeps_away}
use Rattle.time_stages.specs.Staged.{number_read, staged_reads, staged_tensors, type_of}

-- what the iteration of a staged tensor begins with
abbrev pub begun : PlainProgram → (rows : ℕ) → (params : List ℤ) → (inputs : List (List ℤ)) → StagedTensor → Given
begun p rows params inputs s = run_of p rows params inputs (s.turn - 1)

-- the point lies in the region of a staged tensor
abbrev pub is_inside : PlainProgram → (rows : ℕ) → (params : List ℤ) → (inputs : List (List ℤ)) → StagedTensor
    → List ℤ → Bool
is_inside p rows params inputs s q =
    in_region (stencil_of p rows) (begun p rows params inputs s) (length p.tensors) s.tensor q

-- the defined cell of a staged tensor at a point
abbrev pub cell_at : PlainProgram → (rows : ℕ) → (params : List ℤ) → (inputs : List (List ℤ)) → StagedTensor
    → List ℤ → ℤ
cell_at p rows params inputs s q =
    cell (stencil_of p rows) (begun p rows params inputs s) params (length p.tensors) s.tensor q

-- the defined cell of a number, and 0 where there is none
unfoldable pub defined_cell : PlainProgram → (rows : ℕ) → (params : List ℤ) → (inputs : List (List ℤ)) → StagedTensor
    → ℤ → ℤ
defined_cell p rows params inputs s (pos i) =
    if nat_lt i (cells_at p rows) then cell_at p rows params inputs s (point (extents_at p rows) i) else pos 0
defined_cell p rows params inputs s (negsuc i) = pos 0

-- the reads by the staged tensor of a number, in order: one port each
abbrev pub reads_by : List Read → (reader : ℕ) → List Read
reads_by reads reader = filter (λ r. r.reader == reader) reads

-- the port of a read among those of its reader
abbrev pub port_of : List Read → (reader of : ℕ) → (offset : ℤ) → ℕ
port_of reads reader of offset =
    position_or_len (λ r. r.of == of && int_eq r.offset offset) (reads_by reads reader)

-- the port that serves a cell that a staged tensor's formula names
abbrev pub cell_port : PlainProgram → (number : ℕ) → StagedTensor → ℕ → List ℤ → ℕ
cell_port p v s y o =
    port_of (staged_reads p) v (number_read p (staged_tensors p) s.turn y) (linear (extents_at p 1) o)

-- the port of an output's added read
abbrev pub border_port : PlainProgram → (number : ℕ) → StagedTensor → ℕ
border_port p v s =
    port_of (staged_reads p) v (number_read p (staged_tensors p) s.turn (output_number p s.tensor)) (pos 0)

-- what the port holds that serves a cell of the formula
abbrev pub held : PlainProgram → (number : ℕ) → StagedTensor → (ports : List ℤ) → ℕ → List ℤ → ℤ
held p v s ports y o = slice_index_or ports (cell_port p v s y o) (pos 0)

-- the value of a staged tensor's formula, where its ports hold these
unfoldable pub inner_cell : PlainProgram → (params : List ℤ) → (number : ℕ) → StagedTensor → (ports : List ℤ) → ℤ
inner_cell p params v s ports =
    wrapped (type_of p s.tensor)
    (by_formula (formula_in p s.tensor) (pos 0) (valued (scope_of p) (held p v s ports) params))

-- what it is outside its region: 0, or under preserve what the port of an output's added read holds
unfoldable pub outer_cell : PlainProgram → (number : ℕ) → StagedTensor → (ports : List ℤ) → ℤ
outer_cell p v s ports =
    if preserves p && is_output p s.tensor then slice_index_or ports (border_port p v s) (pos 0) else pos 0

-- what a computing module of a staged tensor sends for the cell of a number, where its ports hold these
unfoldable pub sent_cell : PlainProgram → (rows : ℕ) → (params : List ℤ) → (number : ℕ) → StagedTensor
    → (ports : List ℤ) → ℤ → ℤ
sent_cell p rows params v s ports (pos i) =
    if nat_lt i (cells_at p rows) then
    (if keeps_away (extents_at p rows) s.low s.high (point (extents_at p rows) i) then inner_cell p params v s ports
    else outer_cell p v s ports) else pos 0
sent_cell p rows params v s ports (negsuc i) = pos 0

-- the type of the staged tensor of a number
abbrev pub type_at : PlainProgram → ℕ → IntType
type_at p v = slice_index_or (map (λ s. type_of p s.tensor) (staged_tensors p)) v int32

-- the types of the ports of a staged tensor: those of what is read
abbrev pub port_types : PlainProgram → (number : ℕ) → List IntType
port_types p v = map (λ r. type_at p r.of) (reads_by (staged_reads p) v)

-- there is a cell of this number
abbrev pub IsNumber : PlainProgram → (rows : ℕ) → ℤ → Type 0
IsNumber p rows z = (pos 0 ≤ℤ z) × (z <ℤ pos (cells_at p rows))

-- each port whose read is of a cell that is there holds the defined cell
abbrev pub PortsHold : PlainProgram → (rows : ℕ) → (params : List ℤ) → (inputs : List (List ℤ)) → (number : ℕ)
    → (index : ℤ) → (ports : List ℤ) → Type 0
PortsHold p rows params inputs v z ports =
    (j : ℕ) (r : Read) (u : StagedTensor) → slice_get (reads_by (staged_reads p) v) j ≡ Some r
    → slice_get (staged_tensors p) r.of ≡ Some u → IsNumber p rows (z +ℤ r.offset)
    → slice_index_or ports j (pos 0) ≡ defined_cell p rows params inputs u (z +ℤ r.offset)
