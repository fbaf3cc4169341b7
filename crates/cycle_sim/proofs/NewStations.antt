-- What modules work with before the first cycle, one after the other.
use Rattle.std.proofs.Common.{◌≡◌, ℕ, ◌+◌, ◌<◌, ◌≤◌, List, [], ◌∷◌, ◌++◌, length, length-append, refl, sym, subst, ◌∙◌, arith, ⊎_elim}
use Rattle.std.proofs.lemmas.Bool.{cases_lt}
use Rattle.std.proofs.lemmas.List.{get_or_append_left, get_or_push}
use Rattle.net_ir.specs.Nets.{Net}
use Rattle.staged_cells.specs.Streams.{module_at}
use Rattle.cycle_sim.specs.Settings.{Settings}
use Rattle.cycle_sim.specs.Stations.{Units, station_at}
use Rattle.cycle_sim.specs.Fresh.{AreNew, IsNew}
use Rattle.cycle_sim.specs.declared.stations.Station.{Station}
use Rattle.cycle_sim.specs.declared.stations.Station.TheVariants as station

-- the first n modules
pub record AreNewBelow {U : Type 0} (units : Units U) (c : Settings) (inputs outputs : List ℕ) (net : Net) (stations : List (Station U)) (n : ℕ) : Type 0 where
  pub count : length stations ≡ n
  pub each : (m : ℕ) → m < n → IsNew units c inputs outputs m (module_at net m) (station_at stations m)

module _ {U : Type 0} (units : Units U) (c : Settings) (inputs outputs : List ℕ) (net : Net) where
  -- none
  pub new_none : AreNewBelow units c inputs outputs net [] 0
  new_none = record { count = refl; each = λ m lt. absurd (omega (arith, lt)) }

  -- one more
  pub new_more : (stations : List (Station U)) (n : ℕ) (a : Station U) → AreNewBelow units c inputs outputs net stations n
      → IsNew units c inputs outputs n (module_at net n) a → AreNewBelow units c inputs outputs net (stations ++ a ∷ []) (n + 1)
  new_more stations n a before is = record {
    count = omega (arith, length-append stations (a ∷ []), before.count);
    each = λ m lt.
        ⊎_elim
        (λ (less : m < n).
        subst (IsNew units c inputs outputs m (module_at net m))
        (sym (get_or_append_left stations (a ∷ []) station.Forward m (omega (arith, less, before.count)))) (before.each m less))
        (λ (last : n ≤ m).
        let e : n ≡ m = omega (arith, lt, last) in
        subst (λ i. IsNew units c inputs outputs i (module_at net i) (station_at (stations ++ a ∷ []) i)) e
        (subst (IsNew units c inputs outputs n (module_at net n)) (sym (get_or_push stations a station.Forward n before.count)) is))
        (cases_lt m n);
  }

  -- all
  pub new_all : (stations : List (Station U)) (n : ℕ) → n ≡ length net.modules → AreNewBelow units c inputs outputs net stations n
      → AreNew units c inputs outputs net stations
  new_all stations n all below = record {
    count = below.count ∙ all;
    each = λ m lt. below.each m (subst (λ k. m < k) below.count lt);
  }
