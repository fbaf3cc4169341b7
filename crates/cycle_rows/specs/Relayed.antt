-- The streams of a network whose source sends what it reads and whose computing modules add.
use Rattle.std.proofs.Common.{arith}
use Rattle.std.specs.Prelude.{◌≡◌, ◌≢◌, ◌<◌, ◌≤◌, ◌+◌, ◌-◌, ◌^◌, min, ℕ, ℤ, pos, List, length, fold, slice_index, slice_index_or, All}
use Rattle.std.specs.Int.{int_wrapping_add}
use mir.Syntax.{w128}
use Rattle.net_ir.specs.declared.network.Module.{Module}
use Rattle.net_ir.specs.declared.network.Module.TheVariants.{Source, Forward, Compute, Sink}
use Rattle.net_ir.specs.Nets.{Net}
use Rattle.net_cycles.specs.Streams.{Streams, port_values, sent_values}
use Rattle.cycle_rows.specs.declared.relay.Stopped.{Stopped}
use Rattle.cycle_rows.specs.declared.relay.Stopped.TheVariants.{NoCell, NoMemory}

-- the module of a number
abbrev pub module_at : Net → ℕ → Module
module_at net m = slice_index_or net.modules m (Source 0)

-- What module m sends in firing k, from what it finds at its ports. Of the source only what was read is told.
abbrev pub Sends : ℕ → ℕ → Module → ℕ → List ℤ → List ℤ → ℤ → Type 0
Sends source m (Source tensor) k read ports value =
    (m ≡ source → k < length read → value ≡ slice_index_or read k (pos 0)) × (m ≢ source → value ≡ pos 0)
Sends source m (Forward tensor lane tap) k read ports value = value ≡ slice_index_or ports 0 (pos 0)
Sends source m (Compute tensor lane) k read ports value = value ≡ fold (int_wrapping_add w128) (pos 0) ports
Sends source m (Sink tensor) k read ports value = value ≡ pos 0

-- the streams agree with what was read
abbrev pub AgreesWith : Net → ℕ → List ℤ → Streams → Type 0
AgreesWith net source read stream =
    (m k : ℕ) → m < length net.modules
    → All (λ v. Sends source m (module_at net m) k read (port_values net stream m k) v) (sent_values net stream m k)

-- a source
abbrev pub IsSource : Module → Type 0
IsSource (Source tensor) = Unit {0}
IsSource (Forward tensor lane tap) = ⊥
IsSource (Compute tensor lane) = ⊥
IsSource (Sink tensor) = ⊥

-- a sink
abbrev pub IsSink : Module → Type 0
IsSink (Source tensor) = ⊥
IsSink (Forward tensor lane tap) = ⊥
IsSink (Compute tensor lane) = ⊥
IsSink (Sink tensor) = Unit {0}

-- Where the modules have done these firings, the source has read a cell in each of its own, and the sink has handed on
-- what the streams that agree with it have at its first port.
pub record IsReady (net : Net) (source sink : ℕ) (read given : List ℤ) (fired : List ℕ) : Type 0 where
  pub source_is : IsSource (module_at net source)
  pub sink_is : IsSink (module_at net sink)
  pub place : length read ≡ slice_index fired source
  pub count : length given ≡ slice_index fired sink
  pub right : (stream : Streams) → AgreesWith net source read stream → (k : ℕ) → k < length given
      → slice_index_or given k (pos 0) ≡ slice_index_or (port_values net stream sink k) 0 (pos 0)

-- a count of faults rose, or it stands at its end
abbrev pub Rose : ℕ → ℕ → Type 0
Rose before now = min (before + 1) (2 ^ 64 - 1) ≤ now

-- where a cell wasn't there, the count of faults rose
abbrev pub Stops : ℕ → ℕ → Stopped → Type 0
Stops before now NoCell = Rose before now
Stops before now NoMemory = Unit {0}

-- a fault after some calls is a fault after more
pub stops_since : (before mid now : ℕ) (fault : Stopped) → before ≤ mid → Stops mid now fault → Stops before now fault
stops_since before mid now NoCell h s = omega arith
stops_since before mid now NoMemory h s = tt
