-- What clauses see of source and sink modules.
use Rattle.std.specs.Prelude.{◌≡◌, ℕ, ◌<◌, List, length, ℤ, ⊤}
use Rattle.std.specs.Prelude.{Some}
use Rattle.std.specs.Prelude.{Result, Ok, Err}
use Rattle.array_bytes.specs.declared.fault.CellFault.{CellFault}
use Rattle.array_bytes.specs.declared.fault.CellFault.TheVariants.{Failed, Memory}
use Rattle.bursts.specs.Blocks.{Kind, cells_in, fault_in}
use Rattle.bursts.specs.Readers.{kind}
use Rattle.bursts.specs.Writers.{Output, output}
use Rattle.file_modules.specs.Firings.{cells_before, handed}
use Rattle.file_modules.specs.declared.source.SourceModule.{SourceModule}
use Rattle.file_modules.specs.declared.sink.SinkModule.{SinkModule}

-- what a source was made for: what its reader was, the unroll factor and the delay of the input
pub record Source : Type 0 where
  pub kind : Kind
  pub unroll : ℕ
  pub delay : ℕ

abbrev pub source : SourceModule → Source
source m = record { kind = kind m.reader; unroll = m.unroll; delay = m.delay }

-- how many cells it has read before firing k
abbrev pub read_before : Source → ℕ → ℕ
read_before s k = cells_before s.unroll s.delay s.kind.cells k

-- what a sink was made for: what its writer was, the cells of the output, the unroll factor and the delay of the output
pub record Sink : Type 0 where
  pub output : Output
  pub cells : ℕ
  pub unroll : ℕ
  pub delay : ℕ

abbrev pub sink : SinkModule → Sink
sink m = record { output = output m.writer; cells = m.cells; unroll = m.unroll; delay = m.delay }

-- what it hands on in firing k of its ports' values
abbrev pub handed_by : Sink → ℕ → List ℤ → List ℤ
handed_by s k ports = handed s.unroll s.delay s.cells k ports

-- an error of a firing is the file's first fault, and one of the first `bound` cells has its number or a greater one
abbrev pub FaultIs : Kind → List ℕ → ℕ → Result (Unit {0}) CellFault → Type 0
FaultIs k bytes bound (Ok u) = ⊤
FaultIs k bytes bound (Err Failed) = ⊤
FaultIs k bytes bound (Err Memory) = ⊤
FaultIs k bytes bound (Err f) = (fault_in k bytes ≡ Some f) × (length (cells_in k bytes) < bound)
