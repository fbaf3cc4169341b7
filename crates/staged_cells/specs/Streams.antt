-- What the queues of a program's network carry, known in advance: item by item the cells of the staged tensors.
use Rattle.std.specs.Prelude.{ℕ, ◌+◌, ◌*◌, List, None, Some, All, slice_get, slice_index, slice_index_or, ℤ, pos, ◌-ℤ◌}
use Rattle.delay_net.specs.Shape.{IsWidth}
use Rattle.delay_net.specs.Windows.{MeetsWindows}
use Rattle.net_ir.specs.Nets.{Net, queue_at}
use Rattle.net_ir.specs.declared.network.Module.{Module}
use Rattle.net_ir.specs.declared.network.Module.TheVariants.{Source, Forward, Compute, Sink}
use Rattle.net_shape.specs.Plans.{Plan}
use Rattle.net_shape.specs.Queues.{network_of}
use Rattle.net_build.specs.Planned.{net_under, plan_of}
use Rattle.soda_ir.specs.Program.{PlainProgram}
use Rattle.soda_ir.specs.Valid.{IsValid}
use Rattle.time_stages.specs.Staged.{staged_reads, staged_tensors, staged_widths}
use Rattle.staged_cells.specs.Cells.{defined_cell}

-- a valid program, each of whose types has a width, and delays of its staged tensors that meet the windows
pub record HasStreams (p : PlainProgram) (delays : List ℕ) : Type 0 where
  pub valid : IsValid p
  pub widths : All IsWidth (staged_widths p)
  pub meets : MeetsWindows (staged_reads p) delays

-- the number of the module that sends into a queue
abbrev pub sender_of : Net → (queue : ℕ) → ℕ
sender_of net queue = (queue_at net.queues queue).from

-- the module of a number
abbrev pub module_at : Net → ℕ → Module
module_at net m = slice_index_or net.modules m (Sink 0)

-- the module that sends into a queue, and the one that takes from it
abbrev pub sender : Net → (queue : ℕ) → Module
sender net queue = module_at net (queue_at net.queues queue).from

abbrev pub receiver : Net → (queue : ℕ) → Module
receiver net queue = module_at net (queue_at net.queues queue).to

-- the staged tensor of a module
abbrev pub tensor_of : Module → ℕ
tensor_of (Source tensor) = tensor
tensor_of (Forward tensor lane tap) = tensor
tensor_of (Compute tensor lane) = tensor
tensor_of (Sink tensor) = tensor

-- the lane of a module; 0 of a source and of a sink, which are of all lanes
abbrev pub lane_of : Module → ℕ
lane_of (Source tensor) = 0
lane_of (Forward tensor lane tap) = lane
lane_of (Compute tensor lane) = lane
lane_of (Sink tensor) = 0

-- the lane of a queue between two modules: that of the one that sends, and from a source that of the other
abbrev pub lane_between : (sender receiver : Module) → ℕ
lane_between (Source tensor) other = lane_of other
lane_between (Forward tensor lane tap) other = lane
lane_between (Compute tensor lane) other = lane
lane_between (Sink tensor) other = 0

-- the staged tensor whose cells a queue carries, and its lane
abbrev pub queue_tensor : Net → (queue : ℕ) → ℕ
queue_tensor net queue = tensor_of (sender net queue)

abbrev pub queue_lane : Net → (queue : ℕ) → ℕ
queue_lane net queue = lane_between (sender net queue) (receiver net queue)

-- the number of the cell that a firing of a producer of a tensor at a lane is about; there may be no such cell
abbrev pub cell_number : Plan → (tensor lane firing : ℕ) → ℤ
cell_number plan v lane k = pos (plan.unroll * k + lane) -ℤ pos (slice_index plan.delays v)

-- the number of the cell that is an item of a queue
abbrev pub item_number : Plan → (queue item : ℕ) → ℤ
item_number plan queue i =
    cell_number plan (queue_tensor (network_of plan) queue) (queue_lane (network_of plan) queue) i

-- the cell of a number of the staged tensor of a number, and 0 where there is none
unfoldable pub stage_cell : PlainProgram → (rows : ℕ) → (params : List ℤ) → (inputs : List (List ℤ)) → (tensor : ℕ)
    → ℤ → ℤ
stage_cell p rows params inputs v z =
    elim (slice_get (staged_tensors p) v) [ None ↦ pos 0 | Some s ↦ defined_cell p rows params inputs s z ]

-- item i of a queue: the cell of its tensor of that item's number, and 0 where there is none
unfoldable pub stream : PlainProgram → (rows : ℕ) → (params : List ℤ) → (inputs : List (List ℤ)) → (delays : List ℕ)
    → (queue item : ℕ) → ℤ
stream p rows params inputs delays queue i =
    stage_cell p rows params inputs (queue_tensor (net_under p delays) queue) (item_number (plan_of p delays) queue i)
