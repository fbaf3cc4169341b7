-- The plan of a program under delays of its staged tensors, its network, and how often the modules of that fire.
use Rattle.std.specs.Prelude.{ℕ, ◌+◌, ◌-◌, ◌/◌, List, map, ◌&&◌, ◌==◌, if◌then◌else◌}
use Rattle.net_ir.specs.Nets.{Net}
use Rattle.net_shape.specs.Plans.{Plan}
use Rattle.net_shape.specs.Queues.{network_of}
use Rattle.net_shape.specs.declared.kinds.Kind.{Kind}
use Rattle.net_shape.specs.declared.kinds.Kind.TheVariants.{Input, Inner, Output}
use Rattle.soda_ir.specs.Counts.{is_input, is_output}
use Rattle.soda_ir.specs.Program.{PlainProgram}
use Rattle.time_stages.specs.declared.staging.StagedTensor.{StagedTensor}
use Rattle.time_stages.specs.Staged.{staged_reads, staged_tensors}
use Rattle.net_build.specs.Limits.{greatest_delay}

-- What a staged tensor is in the network. Inputs are staged in the first iteration alone; a sink takes the outputs of
-- the last.
abbrev pub kind_of : PlainProgram → StagedTensor → Kind
kind_of p s =
    if is_input p s.tensor then Input
    else (if is_output p s.tensor && s.turn == p.iterate then Output else Inner)

-- the plan of a program under delays of its staged tensors
abbrev pub plan_of : PlainProgram → (delays : List ℕ) → Plan
plan_of p delays = record {
  unroll = p.unroll;
  kinds = map (kind_of p) (staged_tensors p);
  reads = staged_reads p;
  delays = delays;
}

-- the network of a program under delays of its staged tensors
abbrev pub net_under : PlainProgram → (delays : List ℕ) → Net
net_under p delays = network_of (plan_of p delays)

-- how often a module of age 0 fires, where an array has this many cells: (cells + greatest delay) / unroll, rounded up
abbrev pub firings_for : (cells : ℕ) → Plan → ℕ
firings_for cells p = (cells + greatest_delay p + (p.unroll - 1)) / p.unroll
