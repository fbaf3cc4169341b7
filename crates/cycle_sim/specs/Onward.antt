-- What firings do, one after the other.
use Rattle.std.specs.Prelude.{◌≡◌, ◌≢◌, ℕ, ◌<◌, ◌≤◌, Bool, true, false, List, Some}
use Rattle.soda_io.specs.Store.{KeepsIds, Store}
use Rattle.cycle_sim.specs.Settings.{Settings}
use Rattle.cycle_sim.specs.Stations.{id_of, station_at, written_by}
use Rattle.cycle_sim.specs.Using.{Uses, read_by}
use Rattle.cycle_sim.specs.declared.stations.Station.{Station}

-- a name that no module writes to
abbrev pub IsSpared : {U : Type 0} → (given : ℕ) → Store → List (Station U) → (name : List ℕ) → Type 0
IsSpared given store stations name =
    (m i : ℕ) → i < given → written_by (station_at stations m) ≡ Some i → name ≢ store.name i

-- What a run is about and the ids of its modules stay, no id is given, the count of faults doesn't fall and is as before
-- where the run was not stopped; only the modules' files are read and written, and only what they write to changes.
pub record Onward {U : Type 0} (tells : Type 0) (c d : Settings) (known later : ℕ) (old new : Store)
    (before after : List (Station U)) (was is : ℕ) (once now : Bool) : Type 0 where
  pub settings : d ≡ c
  pub given : later ≡ known
  pub faults : was ≤ is
  pub kept : now ≡ false → (once ≡ false) × (is ≡ was)
  pub stays : once ≡ true → now ≡ true
  pub ids : (m : ℕ) → id_of (station_at after m) ≡ id_of (station_at before m)
  pub writers : (m : ℕ) → written_by (station_at after m) ≡ written_by (station_at before m)
  pub readers : (m : ℕ) → read_by (station_at after m) ≡ read_by (station_at before m)
  pub names : tells → KeepsIds known old new
  pub bytes : tells → (name : List ℕ) → IsSpared known old before name → new.bytes name ≡ old.bytes name
  pub uses : tells → Uses old new before after once now
