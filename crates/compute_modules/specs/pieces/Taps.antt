-- Where a module finds the values that it computes with: at ports, wrapped to the types of what is read.
use Rattle.std.specs.Prelude.{ℕ, List, Option, None, Some, slice_index_or, ℤ, pos}
use Rattle.int_types.specs.Ranges.{wrapped}
use Rattle.soda_ir.specs.Points.{linear}
use Rattle.soda_ir.specs.Program.{PlainProgram, extents_at}
use Rattle.time_stages.specs.Staged.{number_read, staged_reads, staged_tensors, type_of}
use Rattle.lane_code.specs.Reads.{PlainRead}
use Rattle.staged_cells.specs.Cells.{port_of}
use Rattle.compute_modules.specs.declared.tap.Tap.{Tap}

-- what is at the port of a tap, wrapped to its type
abbrev pub taken : (ports : List ℤ) → Tap → ℤ
taken ports tap = wrapped tap.ty (slice_index_or ports tap.port (pos 0))

-- the tap of a staged tensor of an iteration that serves a tensor so far away
abbrev pub tap_at : PlainProgram → (number turn tensor : ℕ) → (offset : ℤ) → Tap
tap_at p v turn y d =
    record { port = port_of (staged_reads p) v (number_read p (staged_tensors p) turn y) d; ty = type_of p y }

-- the tap that serves a cell of its formula
abbrev pub read_tap : PlainProgram → (number turn : ℕ) → PlainRead → Tap
read_tap p v turn r = tap_at p v turn r.tensor (linear (extents_at p 1) r.offset)

-- what is at the tap of a border, and 0 where there is none
abbrev pub border_taken : Option Tap → (ports : List ℤ) → ℤ
border_taken None ports = pos 0
border_taken (Some tap) ports = taken ports tap
