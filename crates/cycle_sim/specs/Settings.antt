-- What a run is about, and the arrays that its inputs may hold.
use Rattle.std.specs.Prelude.{ℕ, ◌<◌, ◌≤◌, List, ℤ, pos}
use Rattle.array_bytes.specs.declared.form.Form.{Form}
use Rattle.delay_net.specs.Windows.{HasShortDelays}
use Rattle.net_ir.specs.Nets.{Net}
use Rattle.net_shape.specs.Plans.{Plan}
use Rattle.net_build.specs.Planned.{net_under, plan_of}
use Rattle.soda_words.specs.Limits.{most_cells, most_unroll}
use Rattle.soda_ir.specs.Points.{listed}
use Rattle.soda_ir.specs.Program.{PlainProgram, input_types}
use Rattle.soda_eval.specs.Runs.{HasArrays, HasValues, cells_at, place_types}
use Rattle.staged_cells.specs.Streams.{HasStreams, stage_cell, stream}

-- a program, the delays of its staged tensors, how many rows an array has, the params' values, the form of the files, and
-- how many cells a line of a text has
pub record Settings : Type 0 where
  pub program : PlainProgram
  pub delays : List ℕ
  pub rows : ℕ
  pub params : List ℤ
  pub form : Form
  pub run : ℕ

-- the plan and the network
abbrev pub plan_in : Settings → Plan
plan_in c = plan_of c.program c.delays

abbrev pub net_in : Settings → Net
net_in c = net_under c.program c.delays

-- how many cells an array has
abbrev pub array_cells : Settings → ℕ
array_cells c = cells_at c.program c.rows

-- a valid program and delays that meet the windows, arrays within their limit, and a value in range for each param
pub record IsSettings (c : Settings) : Type 0 where
  pub streams : HasStreams c.program c.delays
  pub short : HasShortDelays c.delays
  pub lanes : c.program.unroll ≤ most_unroll
  pub few : array_cells c ≤ most_cells
  pub values : HasValues (place_types c.program.params) c.params
  pub some : 0 < c.run

-- arrays in range for the inputs
abbrev pub AreInputs : Settings → List (List ℤ) → Type 0
AreInputs c inputs = HasArrays (array_cells c) (input_types c.program.tensors) inputs

-- what each queue carries over these inputs
abbrev pub streams_over : Settings → (inputs : List (List ℤ)) → (queue item : ℕ) → ℤ
streams_over c inputs = stream c.program c.rows c.params inputs c.delays

-- the cells of a staged tensor over these inputs, by number
abbrev pub array_over : Settings → (inputs : List (List ℤ)) → (tensor : ℕ) → List ℤ
array_over c inputs v = listed (λ n. stage_cell c.program c.rows c.params inputs v (pos n)) (array_cells c)
