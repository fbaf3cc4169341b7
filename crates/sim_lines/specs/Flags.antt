-- Which modules of a network are stalled in each cycle.
use Rattle.std.specs.Prelude.{ℕ, Bool, false, ◌&&◌, ◌==◌, List, map, Option, Some, None, option_map, slice_get}
use Rattle.std.specs.List.{list_any}
use Rattle.net_ir.specs.declared.network.Module.{Module}
use Rattle.net_ir.specs.declared.network.Module.TheVariants.{Source, Forward, Compute, Sink}
use Rattle.soda_ir.specs.Points.{listed}
use Rattle.time_stages.specs.declared.staging.StagedTensor.{StagedTensor}
use Rattle.sim_lines.specs.declared.stall.Stall.{Stall}

-- a tensor of the program is listed for a cycle
abbrev pub is_listed : List Stall → (cycle tensor : ℕ) → Bool
is_listed stalls cycle tensor = list_any (λ s. s.cycle == cycle && s.tensor == tensor) stalls

-- some tensor is listed for a cycle
abbrev pub has_stall : List Stall → (cycle : ℕ) → Bool
has_stall stalls cycle = list_any (λ s. s.cycle == cycle) stalls

-- the tensor of the program that a staged tensor is, by its number
abbrev pub tensor_at : List StagedTensor → (number : ℕ) → Option ℕ
tensor_at staged v = option_map (λ s. s.tensor) (slice_get staged v)

-- the tensor of the program that a module is the end of: a source of an input, a sink of an output
abbrev pub end_of : List StagedTensor → Module → Option ℕ
end_of staged (Source v) = tensor_at staged v
end_of staged (Forward v lane tap) = None
end_of staged (Compute v lane) = None
end_of staged (Sink v) = tensor_at staged v

-- a module is stalled in a cycle: what it is the end of is listed for that cycle
abbrev pub is_stalled : List StagedTensor → List Stall → (cycle : ℕ) → Module → Bool
is_stalled staged stalls cycle m =
    elim (end_of staged m) [ None ↦ false | Some tensor ↦ is_listed stalls cycle tensor ]

-- the flags of a cycle, one for each module
abbrev pub flags_in : List StagedTensor → List Stall → List Module → (cycle : ℕ) → List Bool
flags_in staged stalls modules cycle = map (is_stalled staged stalls cycle) modules

-- the flags of the first n cycles, in order
abbrev pub flags_until : List StagedTensor → List Stall → List Module → (n : ℕ) → List (List Bool)
flags_until staged stalls modules n = listed (flags_in staged stalls modules) n
