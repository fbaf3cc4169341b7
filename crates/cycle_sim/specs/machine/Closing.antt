-- Finishing the output of one module, and reading the input of one to its end.
use Rattle.std.specs.Prelude.{◌≡◌, ℕ, ◌<◌, false, List, ℤ, Some}
use Rattle.std.specs.Prelude.{Err}
use Rattle.soda_io.specs.Cause.{Rose}
use Rattle.soda_io.specs.declared.error.IoErr.TheVariants as io
use Rattle.soda_io.specs.Store.{Store, content}
use Rattle.array_bytes.specs.Written.{array_bytes}
use Rattle.array_bytes.specs.declared.fault.CellFault.TheVariants as cell
use Rattle.bursts.specs.Blocks.{EndIs}
use Rattle.bursts.specs.Readers.{given_by, kind}
use Rattle.bursts.specs.Writers.{HasPut, IsPrefix, output}
use Rattle.cycle_sim.specs.Ending.{IsReadOut}
use Rattle.cycle_sim.specs.Stations.{SourceAt, read_id, write_id}
use Rattle.cycle_sim.specs.Stopped.{OfInput, OfOutput}
use Rattle.cycle_sim.specs.machine.Firings.{OfSource}
use Rattle.cycle_sim.specs.declared.stop.Stop.{Stop}
use Rattle.cycle_sim.specs.declared.stations.Station.{Station}
use Rattle.cycle_sim.specs.declared.stations.Station.TheVariants.{Source, Forward, Compute, Sink}

-- a module whose output may be finished
abbrev pub MayFinish : {U : Type 0} → (tells : Type 0) → (given : ℕ) → Store → Station U → Type 0
MayFinish tells given store (Source s) = Unit {0}
MayFinish tells given store Forward = Unit {0}
MayFinish tells given store (Compute u) = Unit {0}
MayFinish tells given store (Sink s) = (write_id s < given) × (tells → store.opened (write_id s) ≡ false)

-- a module whose input may be read to its end: it has read all the cells
abbrev pub MayEnd : {U : Type 0} → (tells : Type 0) → (given : ℕ) → Store → Station U → Type 0
MayEnd tells given store (Source s) =
    SourceAt tells given store s.done s × (given_by s.reads.reader ≡ (kind s.reads.reader).cells)
MayEnd tells given store Forward = Unit {0}
MayEnd tells given store (Compute u) = Unit {0}
MayEnd tells given store (Sink s) = Unit {0}

-- the output of a module is finished: its file holds the bytes of the cells that were put, and nothing else changes
abbrev pub Finished : {U : Type 0} → (tells : Type 0) → (old new : Store) → Station U → Station U → Type 0
Finished tells old new (Source s) b = (b ≡ Source s) × (new ≡ old)
Finished tells old new Forward b = b ≡ Forward
Finished tells old new (Compute u) b = b ≡ Compute u
Finished tells old new (Sink s) b = tells → (had : List ℤ) (bytes : List ℕ)
    → old.bytes (old.name (write_id s)) ≡ Some bytes → HasPut s.writes.writer had bytes
    → new.bytes (new.name (write_id s)) ≡ Some (array_bytes (output s.writes.writer).form (output s.writes.writer).ty
    (output s.writes.writer).run had)

-- what stops the finishing of an output: a failed write, behind which its file holds a prefix of these bytes
abbrev pub StopsFinish : {U : Type 0} → (tells : Type 0) → (old new : Store) → (before now : ℕ) → Station U → Stop → Type 0
StopsFinish tells old new before now (Source s) stop = ⊥
StopsFinish tells old new before now Forward stop = ⊥
StopsFinish tells old new before now (Compute u) stop = ⊥
StopsFinish tells old new before now (Sink s) stop = OfOutput stop (λ number error. (number ≡ s.output)
    × (tells → (had : List ℤ) (bytes : List ℕ) → old.bytes (old.name (write_id s)) ≡ Some bytes
    → HasPut s.writes.writer had bytes → (more : List ℕ) × (new.bytes (new.name (write_id s)) ≡ Some more)
    × IsPrefix more (array_bytes (output s.writes.writer).form (output s.writes.writer).ty (output s.writes.writer).run
    had)) × (error ≡ io.Failed → Rose before now))

-- the input of a module is read to its end, and nothing else changes
abbrev pub ReadOut : {U : Type 0} → (tells : Type 0) → (given : ℕ) → (old new : Store) → Station U → Station U → Type 0
ReadOut tells given old new (Source s) t = OfSource t (IsReadOut tells given new)
ReadOut tells given old new Forward t = t ≡ Forward
ReadOut tells given old new (Compute u) t = t ≡ Compute u
ReadOut tells given old new (Sink s) t = (t ≡ Sink s) × (new ≡ old)

-- what stops the reading: the file's fault, which stands at its end, or a failed read
abbrev pub StopsEnd : {U : Type 0} → (tells : Type 0) → (old : Store) → (before now : ℕ) → Station U → Stop → Type 0
StopsEnd tells old before now (Source s) stop = OfInput stop (λ input fault. (input ≡ s.input)
    × (tells → EndIs (kind s.reads.reader) (content old (read_id s)) (Err fault))
    × (fault ≡ cell.Failed → Rose before now))
StopsEnd tells old before now Forward stop = ⊥
StopsEnd tells old before now (Compute u) stop = ⊥
StopsEnd tells old before now (Sink s) stop = ⊥
