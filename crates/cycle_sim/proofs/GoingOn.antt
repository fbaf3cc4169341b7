-- A step of one module, by its files alone, is a run of firings.
use Rattle.std.proofs.Common.{◌≡◌, ℕ, ◌<◌, ◌≤◌, Bool, true, false, List, Some, refl, sym, ◌∙◌}
use Rattle.std.proofs.lemmas.Bool.{false≢true}
use Rattle.soda_io.specs.Store.{Store}
use Rattle.cycle_sim.specs.Settings.{Settings}
use Rattle.cycle_sim.specs.Stations.{AreApart, id_of, station_at}
use Rattle.cycle_sim.specs.Onward.{Onward}
use Rattle.cycle_sim.specs.machine.Firings.{Moves, Touches}
use Rattle.cycle_sim.specs.declared.stations.Station.{Station}
use Rattle.cycle_sim.proofs.Asked.{uses_of}
use Rattle.cycle_sim.proofs.Keeping.{ids_stay, readers_stay, writer_id, writers_stay}

module _ {U : Type 0} (tells : Type 0) (given : ℕ) (old new : Store) (before after : List (Station U)) (m : ℕ)
    (moves : Moves tells given old new before after m) (fails : Type 0)
    (touch : tells → Touches given old new (station_at before m) moves.is fails) (apart : AreApart tells old before)
    (known : (i : ℕ) → id_of (station_at before m) ≡ Some i → i < given) where
  pub onward_of : (c : Settings) (p q : ℕ) (once now : Bool) → p ≤ q → (now ≡ false → (once ≡ false) × (q ≡ p)) → once ≡ false
      → (fails → now ≡ true) → Onward tells c c given given old new before after p q once now
  onward_of c p q once now later kept begins stops = record {
    settings = refl;
    given = refl;
    faults = later;
    kept = kept;
    stays = λ e. absurd (false≢true (sym begins ∙ e));
    ids = ids_stay tells given old new before after m moves;
    writers = writers_stay tells given old new before after m moves;
    readers = readers_stay tells given old new before after m moves;
    names = λ told. (touch told).ids;
    bytes = λ told name spared.
        (touch told).bytes name
        (λ i writes. spared m i (known i (writer_id tells given old new before after m moves (station_at before m) i writes)) writes);
    uses = λ told. uses_of tells given old new before after m moves fails (touch told) once now begins stops
        (λ n i j ne e f. apart.ids n m i j ne e f);
  }
