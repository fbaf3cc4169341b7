-- A firing of one module: what it relies on, what it does to the files, and what it leaves.
use Rattle.std.specs.Prelude.{◌≡◌, ◌≢◌, ◌↔◌, ℕ, ◌+◌, ◌<◌, ◌≤◌, false, All, List, ◌++◌, ℤ, pos, ◌+ℤ◌, ◌<ℤ◌, ◌^◌, map, length, slice_index, slice_index_or, slice_set, Some}
use Rattle.std.specs.Prelude.{Result, Ok, Err}
use Rattle.soda_io.specs.Cause.{Rose}
use Rattle.soda_io.specs.declared.call.FileCall.{FileCall}
use Rattle.soda_io.specs.declared.error.IoErr.TheVariants as io
use Rattle.whole_files.specs.Journal.{EndsFailed, NoneAfterFailed, gots}
use Rattle.array_bytes.specs.Written.{begun}
use Rattle.array_bytes.specs.declared.fault.CellFault.TheVariants as cell
use Rattle.soda_io.specs.Store.{KeepsIds, Store, content}
use Rattle.int_types.specs.Ranges.{wrapped}
use Rattle.bursts.specs.Readers.{kind}
use Rattle.bursts.specs.Writers.{HasPut, IsPrefix, output}
use Rattle.file_modules.specs.Modules.{FaultIs, handed_by, read_before, sink, source}
use Rattle.cycle_sim.specs.Stations.{SourceAt, Units, good_in, id_of, lane_cell, read_id, station_at, write_id, written_by}
use Rattle.cycle_sim.specs.Stopped.{OfInput, OfOutput}
use Rattle.cycle_sim.specs.Using.{IsFailedCall, IsUseOf, ReadsUp, has_ended, read_by}
use Rattle.cycle_sim.specs.declared.stop.Stop.{Stop}
use Rattle.cycle_sim.specs.declared.stations.SourceStation.{SourceStation}
use Rattle.cycle_sim.specs.declared.stations.SinkStation.{SinkStation}
use Rattle.cycle_sim.specs.declared.stations.Station.{Station}
use Rattle.cycle_sim.specs.declared.stations.Station.TheVariants.{Source, Forward, Compute, Sink}

-- a module that may fire, with so many ports and so many queues from it
abbrev pub MayFire : {U : Type 0} → (tells : Type 0) → Units U → (given : ℕ) → Store → (firing ports sends : ℕ)
    → Station U → Type 0
MayFire tells units given store k ports sends (Source s) =
    SourceAt tells given store k s × (sends ≡ length s.lanes.items) × All (λ lane. lane < s.reads.unroll) s.lanes.items
MayFire tells units given store k ports sends Forward = Unit {0}
MayFire tells units given store k ports sends (Compute u) =
    (ports ≡ units.count u) × (units.place u <ℤ pos (2 ^ 60))
MayFire tells units given store k ports sends (Sink s) =
    (write_id s < given) × (tells → store.opened (write_id s) ≡ false) × (ports ≡ s.writes.unroll)

-- a module later on: what it was made for stays
abbrev pub GoesOn : {U : Type 0} → Station U → Station U → Type 0
GoesOn (Source s) t = (r : SourceStation) × (t ≡ Source r) × (source r.reads ≡ source s.reads) × (r.input ≡ s.input)
    × (r.lanes ≡ s.lanes) × (s.done ≤ r.done)
GoesOn {U = U} Forward t = t ≡ Forward
GoesOn {U = U} (Compute u) t = (w : U) × (t ≡ Compute w)
GoesOn (Sink s) t = (r : SinkStation) × (t ≡ Sink r) × (sink r.writes ≡ sink s.writes) × (r.output ≡ s.output)

-- how many firings a source has done
abbrev pub done_of : {U : Type 0} → Station U → ℕ
done_of (Source s) = s.done
done_of Forward = 0
done_of (Compute u) = 0
done_of (Sink s) = 0

-- the files behind a firing, which failed by a call or didn't: it reads by the module's id alone, and writes to its name
-- alone
pub record Touches {U : Type 0} (given : ℕ) (old new : Store) (a b : Station U) (fails : Type 0) : Type 0 where
  pub ids : KeepsIds given old new
  pub places : (i : ℕ) → i < given → id_of a ≢ Some i → new.place i ≡ old.place i
  pub bytes : (name : List ℕ) → ((i : ℕ) → written_by a ≡ Some i → name ≢ old.name i) → new.bytes name ≡ old.bytes name
  pub entries : List FileCall
  pub calls : new.calls ≡ old.calls ++ entries
  pub own : All (IsUseOf a) entries
  pub last : NoneAfterFailed entries
  pub by_call : fails ↔ EndsFailed entries
  pub reads : (i : ℕ) → read_by a ≡ Some i → ReadsUp (has_ended a) (has_ended b) (gots i entries)

-- an answer of a firing that a call failed
abbrev pub FailedIn : Result (Unit {0}) Stop → Type 0
FailedIn (Ok u) = ⊥
FailedIn (Err stop) = IsFailedCall stop

-- the same value is sent into each queue
abbrev pub SendsAll : (sends : List ℤ) → ℤ → Type 0
SendsAll sends v = (j : ℕ) → j < length sends → slice_index_or sends j (pos 0) ≡ v

-- a fact of a source, of a computing module, of a sink, and of no other
abbrev pub OfSource : {U : Type 0} → Station U → (SourceStation → Type 0) → Type 0
OfSource (Source s) P = P s
OfSource Forward P = ⊥
OfSource (Compute u) P = ⊥
OfSource (Sink s) P = ⊥

abbrev pub OfCompute : {U : Type 0} → Station U → (U → Type 0) → Type 0
OfCompute (Source s) P = ⊥
OfCompute Forward P = ⊥
OfCompute (Compute u) P = P u
OfCompute (Sink s) P = ⊥

abbrev pub OfSink : {U : Type 0} → Station U → (SinkStation → Type 0) → Type 0
OfSink (Source s) P = ⊥
OfSink Forward P = ⊥
OfSink (Compute u) P = ⊥
OfSink (Sink s) P = P s

-- what a firing leaves
abbrev pub Fired : {U : Type 0} → (tells : Type 0) → Units U → (given : ℕ) → (old new : Store) → (firing : ℕ)
    → (ports sends : List ℤ) → Station U → Station U → Type 0
Fired tells units given old new k ports sends (Source s) t = OfSource t (SourceAt tells given new (k + 1))
    × (tells → ((j : ℕ) → j < length sends → slice_index_or sends j (pos 0)
    ≡ lane_cell s.reads (good_in old s) k (slice_index s.lanes.items j))
    × (read_before (source s.reads) (k + 1) ≤ length (good_in old s)))
Fired tells units given old new k ports sends Forward t = SendsAll sends (slice_index_or ports 0 (pos 0))
Fired tells units given old new k ports sends (Compute u) t = OfCompute t (λ w. (units.value w ≡ units.value u)
    × (units.place w ≡ units.place u +ℤ pos (units.step u)) × (units.step w ≡ units.step u)
    × (units.count w ≡ units.count u)) × SendsAll sends (units.value u ports (units.place u))
Fired tells units given old new k ports sends (Sink s) t = OfSink t (λ r. tells → (before : List ℤ) (bytes : List ℕ)
    → old.bytes (old.name (write_id s)) ≡ Some bytes → HasPut s.writes.writer before bytes → (more : List ℕ)
    × (new.bytes (new.name (write_id s)) ≡ Some more) × HasPut r.writes.writer
    (before ++ map (wrapped (output s.writes.writer).ty) (handed_by (sink s.writes) k ports)) more)
    × SendsAll sends (pos 0)

-- what stops a firing: a source its file's first fault or a failed read, a sink a failed write, behind which its file
-- holds a prefix of the bytes that begin with the cells put
abbrev pub Stops : {U : Type 0} → (tells : Type 0) → (old new : Store) → (before now firing : ℕ) → (ports : List ℤ)
    → Station U → Stop → Type 0
Stops tells old new before now k ports (Source s) stop = OfInput stop (λ input fault. (input ≡ s.input)
    × (tells → FaultIs (kind s.reads.reader) (content old (read_id s)) (read_before (source s.reads) (k + 1)) (Err fault))
    × (fault ≡ cell.Failed → Rose before now))
Stops tells old new before now k ports Forward stop = ⊥
Stops tells old new before now k ports (Compute u) stop = ⊥
Stops tells old new before now k ports (Sink s) stop = OfOutput stop (λ number error. (number ≡ s.output)
    × (tells → (had : List ℤ) (bytes : List ℕ) → old.bytes (old.name (write_id s)) ≡ Some bytes
    → HasPut s.writes.writer had bytes → (more : List ℕ) × (new.bytes (new.name (write_id s)) ≡ Some more)
    × IsPrefix more (begun (output s.writes.writer).form (output s.writes.writer).ty (output s.writes.writer).run
    (had ++ map (wrapped (output s.writes.writer).ty) (handed_by (sink s.writes) k ports))))
    × (error ≡ io.Failed → Rose before now))

-- The bytes, the name and the place of an id stay.
pub record Spares (old new : Store) (i : ℕ) : Type 0 where
  pub name : new.name i ≡ old.name i
  pub opened : new.opened i ≡ old.opened i
  pub place : new.place i ≡ old.place i
  pub bytes : new.bytes (old.name i) ≡ old.bytes (old.name i)

-- a firing of module m among the others
pub record Moves {U : Type 0} (tells : Type 0) (given : ℕ) (old new : Store) (before after : List (Station U)) (m : ℕ)
    : Type 0 where
  pub known : m < length before
  pub is : Station U
  pub set : after ≡ slice_set before m is
  pub on : GoesOn (station_at before m) is
  pub others : tells → (n i : ℕ) → n ≢ m → id_of (station_at before n) ≡ Some i → Spares old new i
  pub own : tells → (i : ℕ) → id_of (station_at before m) ≡ Some i
      → (new.name i ≡ old.name i) × (new.opened i ≡ old.opened i)
  pub read : tells → (s : SourceStation) → station_at before m ≡ Source s
      → content new (read_id s) ≡ content old (read_id s)
