-- The modules that are ends, and what a stall stalls of them.
use Rattle.std.specs.Prelude.{ℕ, zero, suc, Bool, ◌&&◌, ◌==◌, List, [], ◌∷◌, ◌++◌, Option, Some, None, slice_get, if◌then◌else◌}
use Rattle.std.specs.List.{filter_map, flat_map, list_any}
use Rattle.net_ir.specs.declared.network.Module.{Module}
use Rattle.time_stages.specs.declared.staging.StagedTensor.{StagedTensor}
use Rattle.sim_lines.specs.declared.stall.Stall.{Stall}
use Rattle.sim_lines.specs.declared.stalled.ModuleEnd.{ModuleEnd}
use Rattle.sim_lines.specs.declared.stalled.StalledModule.{StalledModule}
use Rattle.sim_lines.specs.Flags.{end_of}

-- the end that a module is, if it is one
abbrev pub end_at : List StagedTensor → (number : ℕ) → Module → List ModuleEnd
end_at staged m x =
    elim (end_of staged x) [ None ↦ [] | Some tensor ↦ record { tensor = tensor; number = m } ∷ [] ]

-- the ends among the first n modules
unfoldable pub ends_before : List StagedTensor → List Module → (n : ℕ) → List ModuleEnd
ends_before staged modules zero = []
ends_before staged modules (suc n) =
    ends_before staged modules n ++ elim (slice_get modules n) [ None ↦ [] | Some x ↦ end_at staged n x ]

-- a module is an end of a tensor
abbrev pub is_end_in : List ModuleEnd → (tensor number : ℕ) → Bool
is_end_in ends tensor m = list_any (λ e. tensor == e.tensor && e.number == m) ends

-- what a stall stalls of an end
abbrev pub stalled_by : Stall → ModuleEnd → Option StalledModule
stalled_by s e = if s.tensor == e.tensor then Some (record { cycle = s.cycle; number = e.number }) else None

-- what stalls stall of ends, in turn
abbrev pub all_stalled : List ModuleEnd → List Stall → List StalledModule
all_stalled ends stalls = flat_map (λ s. filter_map (stalled_by s) ends) stalls
