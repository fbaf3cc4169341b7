-- What firings ask of the files: reads and writes by the ids of the modules alone, and what a stop leaves last.
use Rattle.std.specs.Prelude.{◌≡◌, ◌≢◌, ℕ, All, Bool, true, false, List, [], ◌∷◌, ◌++◌, Option, None, Some}
use Rattle.soda_io.specs.Store.{Store}
use Rattle.soda_io.specs.declared.call.FileCall.{FileCall}
use Rattle.soda_io.specs.declared.call.FileCall.TheVariants as call
use Rattle.soda_io.specs.declared.error.IoErr.TheVariants as io
use Rattle.array_bytes.specs.declared.fault.CellFault.TheVariants as cell
use Rattle.whole_files.specs.Journal.{EndsFailed, IsFailed, NoneAfterEnd, NoneAfterFailed, gots}
use Rattle.bursts.specs.Blocks.{EndsLast}
use Rattle.bursts.specs.Readers.{is_done}
use Rattle.cycle_sim.specs.Stations.{read_id, station_at, written_by}
use Rattle.cycle_sim.specs.declared.stop.Stop.{Stop}
use Rattle.cycle_sim.specs.declared.stop.Stop.TheVariants.{Input, Output}
use Rattle.cycle_sim.specs.declared.stations.Station.{Station}
use Rattle.cycle_sim.specs.declared.stations.Station.TheVariants as station

-- the id that a module reads by
abbrev pub read_by : {U : Type 0} → Station U → Option ℕ
read_by (station.Source s) = Some (read_id s)
read_by station.Forward = None
read_by (station.Compute u) = None
read_by (station.Sink s) = None

-- it has met the end of its file
abbrev pub has_ended : {U : Type 0} → Station U → Bool
has_ended (station.Source s) = is_done s.reads.reader
has_ended station.Forward = false
has_ended (station.Compute u) = false
has_ended (station.Sink s) = false

-- a read by the id that a module reads by, or a write by that which it writes by
abbrev pub IsUseOf : {U : Type 0} → Station U → FileCall → Type 0
IsUseOf a (call.Open name id) = ⊥
IsUseOf a (call.Create name id) = ⊥
IsUseOf a (call.Read id asked got) = read_by a ≡ Some id
IsUseOf a (call.Write id given taken) = written_by a ≡ Some id

-- the reads of a file that was, or wasn't, read to its end: none is behind the end
pub record ReadsUp (before after : Bool) (gs : List (Option ℕ)) : Type 0 where
  pub quiet : before ≡ true → gs ≡ []
  pub stays : before ≡ true → after ≡ true
  pub end : NoneAfterEnd gs
  pub going : after ≡ false → All (λ g. g ≢ Some 0) gs
  pub met : before ≡ false → after ≡ true → EndsLast gs

-- What a run of firings asked of the files: each call by a module of the run. None follows a failed one, and none is asked
-- of a file whose end was met; where one failed the run was stopped, and where the run was stopped before there is none.
pub record Uses {U : Type 0} (old new : Store) (before after : List (Station U)) (once now : Bool) : Type 0 where
  pub entries : List FileCall
  pub calls : new.calls ≡ old.calls ++ entries
  pub own : All (λ e. (m : ℕ) × IsUseOf (station_at before m) e) entries
  pub failed : NoneAfterFailed entries
  pub stopped : EndsFailed entries → now ≡ true
  pub quiet : once ≡ true → entries ≡ []
  pub reads : (m i : ℕ) → read_by (station_at before m) ≡ Some i
      → ReadsUp (has_ended (station_at before m)) (has_ended (station_at after m)) (gots i entries)

-- a stop by a call that failed
abbrev pub IsFailedCall : Stop → Type 0
IsFailedCall (Input input fault) = fault ≡ cell.Failed
IsFailedCall (Output output error) = error ≡ io.Failed

-- a read or a write by this id
abbrev pub IsBy : (id : ℕ) → FileCall → Type 0
IsBy id (call.Open name i) = ⊥
IsBy id (call.Create name i) = ⊥
IsBy id (call.Read i asked got) = i ≡ id
IsBy id (call.Write i given taken) = i ≡ id

-- these calls end with one by this id that failed
pub record EndsFailedBy (id : ℕ) (entries : List FileCall) : Type 0 where
  pub before : List FileCall
  pub last : FileCall
  pub are : entries ≡ before ++ last ∷ []
  pub failed : IsFailed last
  pub by : IsBy id last

-- what was asked of the files until a stop: exactly where a call failed the last of all did, one by this id
pub record Ends (old new : Store) (id : ℕ) (failed : Type 0) : Type 0 where
  pub entries : List FileCall
  pub calls : new.calls ≡ old.calls ++ entries
  pub so : failed → EndsFailedBy id entries
  pub only : EndsFailed entries → failed
