-- What a status is called: its number, and its line on `err`.
use Rattle.std.specs.Prelude.{◌≡◌, ◌⊎◌, ℕ, List, [], ◌++◌, codes, length, take}
use Rattle.std.specs.Fmt.{decimal}
use Rattle.soda_io.specs.Cause.{Rose}
use Rattle.soda_io.specs.declared.role.FileRole.{FileRole}
use Rattle.soda_io.specs.declared.role.FileRole.TheVariants.{Program, Modules, Params, Stall, Input, Output}
use Rattle.array_bytes.specs.declared.fault.CellFault.{CellFault}
use Rattle.array_bytes.specs.declared.fault.CellFault.TheVariants as cell
use Rattle.soda_ir.specs.declared.limit.LimitKind.{LimitKind}
use Rattle.soda_ir.specs.declared.limit.LimitKind.TheVariants as of_kind
use Rattle.soda_checks.specs.declared.need.Need.{Need}
use Rattle.soda_checks.specs.declared.need.Need.TheVariants as need
use Rattle.soda_parse.specs.declared.refusal.Refusal.{Refusal}
use Rattle.soda_parse.specs.declared.refusal.Refusal.TheVariants as why
use Rattle.job_status.specs.declared.status.ArrayFault.{ArrayFault}
use Rattle.job_status.specs.declared.status.ArrayFault.TheVariants as of
use Rattle.job_status.specs.declared.status.Status.{Status}
use Rattle.job_status.specs.declared.status.Status.TheVariants as is

abbrev pub number_of : Status → ℕ
number_of is.Ok = 0
number_of is.Usage = 2
number_of (is.Program r) = 3
number_of (is.Array fault) = 4
number_of (is.FileFault role) = 5
number_of is.OutFault = 6
number_of is.Memory = 7
number_of is.NotYetBuilt = 10

abbrev pub role_text : FileRole → List ℕ
role_text Program = codes "program"
role_text Modules = codes "modules"
role_text Params = codes "params"
role_text Stall = codes "stall"
role_text (Input i) = codes "input " ++ decimal i
role_text (Output i) = codes "output " ++ decimal i

-- how a statement that is missing is called
abbrev pub need_text : Need → List ℕ
need_text need.Kernel = codes "kernel"
need_text need.BurstWidth = codes "burst width"
need_text need.UnrollFactor = codes "unroll factor"
need_text need.Input = codes "input"
need_text need.Output = codes "output"

-- how a limit is called
abbrev pub kind_text : LimitKind → List ℕ
kind_text of_kind.Unroll = codes "unroll"
kind_text of_kind.Iterate = codes "iterate"
kind_text of_kind.Dims = codes "dims"
kind_text of_kind.Tile = codes "tile"
kind_text of_kind.Offset = codes "offset"
kind_text of_kind.Tensors = codes "tensors"
kind_text of_kind.Params = codes "params"
kind_text of_kind.Live = codes "live"
kind_text of_kind.Reads = codes "reads"
kind_text of_kind.Delay = codes "delay"
kind_text of_kind.Reuse = codes "reuse"
kind_text of_kind.Modules = codes "modules"
kind_text of_kind.Cells = codes "cells"
kind_text of_kind.Total = codes "total"

-- what is wrong on a line of the program
abbrev pub at_line : ℕ → List ℕ → List ℕ
at_line l text = codes "line " ++ (decimal l ++ (codes ": " ++ text))

-- the message of a refusal of the program
abbrev pub refusal_text : Refusal → List ℕ
refusal_text why.TextTooLong = codes "text too long"
refusal_text (why.NotAscii l) = at_line l (codes "not ascii")
refusal_text (why.Syntax l) = at_line l (codes "syntax")
refusal_text (why.Missing n) = codes "missing " ++ need_text n
refusal_text (why.Twice l) = at_line l (codes "twice")
refusal_text (why.FloatType l) = at_line l (codes "float type")
refusal_text (why.BadWidth l) = at_line l (codes "bad type")
refusal_text (why.NameTwice l) = at_line l (codes "name taken")
refusal_text (why.UnknownName l) = at_line l (codes "unknown name")
refusal_text (why.WrongDims l) = at_line l (codes "wrong number of offsets")
refusal_text (why.Circular l) = at_line l (codes "circular")
refusal_text why.IterateMismatch = codes "iterate mismatch"
refusal_text why.PreserveMismatch = codes "preserve mismatch"
refusal_text (why.Tile l) = at_line l (codes "tile")
refusal_text (why.Limit k n) = codes "limit " ++ (kind_text k ++ (codes " " ++ decimal n))
refusal_text (why.BurstWidth n) = codes "burst width " ++ decimal n
refusal_text (why.ParamUse l) = at_line l (codes "param use")

-- the message of a fault of an array. The last two never stand in a status
abbrev pub cell_text : CellFault → List ℕ
cell_text (cell.BadCell i) = codes "bad cell " ++ decimal i
cell_text (cell.CellRange i) = codes "cell " ++ (decimal i ++ codes " out of range")
cell_text (cell.TooFew n) = codes "too few cells " ++ decimal n
cell_text cell.TooMany = codes "too many cells"
cell_text cell.TooLong = codes "too long"
cell_text cell.Failed = codes "failed"
cell_text cell.Memory = codes "out of memory"

-- the message of what is wrong with what the files hold
abbrev pub array_fault_text : ArrayFault → List ℕ
array_fault_text (of.Cell i fault) = codes "input " ++ (decimal i ++ (codes ": " ++ cell_text fault))
array_fault_text (of.Params l) = codes "params: line " ++ decimal l
array_fault_text (of.Stall l) = codes "stall: line " ++ decimal l

-- the line of a status, and nothing at Ok
abbrev pub line_of : Status → List ℕ
line_of is.Ok = []
line_of is.Usage = codes "sodac: usage: sodac [--share] [--raw] [--trace] [--params FILE] [--stall FILE] MODE WORDS\n"
line_of (is.Program r) = codes "sodac: program: " ++ (refusal_text r ++ codes "\n")
line_of (is.Array fault) = codes "sodac: " ++ (array_fault_text fault ++ codes "\n")
line_of (is.FileFault role) = codes "sodac: file fault: " ++ (role_text role ++ codes "\n")
line_of is.OutFault = codes "sodac: output fault\n"
line_of is.Memory = codes "sodac: out of memory\n"
line_of is.NotYetBuilt = codes "sodac: not yet built\n"

-- What `err` took: the line of the job's own status, or a prefix of it where a fault of `err` or want of memory came. A
-- fault of `err` changes no status; only want of memory, which raises no count, is answered in its place.
pub record Reports (old new : List ℕ) (before now : ℕ) (status : Status) : Type 0 where
  pub own : Status
  pub count : ℕ
  pub put : new ≡ old ++ take count (line_of own)
  pub whole : (count ≡ length (line_of own)) ⊎ (Rose before now) ⊎ (status ≡ is.Memory)
  pub same : (status ≡ own) ⊎ ((status ≡ is.Memory) × (now ≡ before))
