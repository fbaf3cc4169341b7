-- A module can fire where the queues at it are filled and have room, and what a visit then does to the counts.
use Rattle.std.proofs.Common.{◌≡◌, ◌<◌, ◌≤◌, ◌+◌, ◌↔◌, ℕ, Bool, true, false, IsTrue, List, length, get_or, set, refl, sym, ap, ◌∙◌, subst, ⊎_elim, arith}
use Rattle.std.proofs.lemmas.Bool.{cases_Bool, false≢true}
use Rattle.std.proofs.lemmas.List.{map-set}
use Rattle.net_ir.specs.declared.events.Turn.{Turn}
use Rattle.net_ir.specs.Nets.{Net, queue_at, entrances, exits, IsNetwork}
use Rattle.net_ir.specs.Firings.{firings_at}
use Rattle.net_ir.specs.States.{IsLawful, IsFinished}
use Rattle.net_ir.specs.CycleRun.{fired_wholly, fires, visit}
use Rattle.net_ir.proofs.CallerLemmas.{fired_lawful, visit_fired, visit_kept}
use Rattle.ring_region.specs.Fifos.{Fifo, fifo_at}
use Rattle.net_cycles.specs.Between.{whole, between, fired_once, CanFire}
use Rattle.net_cycles.specs.Streams.{HoldCounts}
use Rattle.net_cycles.specs.machine.Moves.{entrance, exit, FilledTo, RoomyTo}
use Rattle.net_cycles.proofs.BetweenFirings.{turn_between, fires_exactly}
use Rattle.net_cycles.proofs.Kept.{entrance_is, exit_is, entrance_of, exit_of}

module _ (net : Net) (firings : ℕ) (stalled : List Bool) (fired : List ℕ) (m : ℕ) (fifos : List Fifo)
    (counts : HoldCounts net fired fifos) where
  abbrev k : ℕ
  k = get_or fired m 0

  can_fire : get_or stalled m false ≡ false → k < firings_at net firings m → FilledTo net fifos m k (length (entrances net m))
      → RoomyTo net fifos m (length (exits net m)) → CanFire net firings stalled fired m
  can_fire awake left full roomy = record {
    awake = awake;
    left = left;
    filled = λ q h to lead. let place = entrance_of net m q h to in
        let some : 0 < length (fifo_at fifos q).items =
        subst (λ x. (queue_at net.queues x).lead ≤ k → 0 < length (fifo_at fifos x).items) place.2 (full place.0 place.1) lead in
        omega (arith, some, counts.held q h, ap (λ x. get_or fired x 0) to);
    roomy = λ q h from. let place = exit_of net m q h from in
        let room = subst (λ x. length (fifo_at fifos x).items < (fifo_at fifos x).capacity) place.2 (roomy place.0 place.1) in
        omega (arith, room, counts.held q h, counts.capacity q h, ap (λ x. get_or fired x 0) from);
  }

  pub full_if : CanFire net firings stalled fired m → FilledTo net fifos m k (length (entrances net m))
  full_if can j less lead =
      let is = entrance_is net m j less in
      omega (arith, can.filled (entrance net m j) is.0 is.1 lead, counts.held (entrance net m j) is.0, ap (λ x. get_or fired x 0) is.1)

  pub roomy_if : CanFire net firings stalled fired m → RoomyTo net fifos m (length (exits net m))
  roomy_if can j less =
      let is = exit_is net m j less in
      omega (
        arith,
        can.roomy (exit net m j) is.0 is.1,
        counts.held (exit net m j) is.0,
        counts.capacity (exit net m j) is.0,
        ap (λ x. get_or fired x 0) is.1,
      )

  pub fires_not : (CanFire net firings stalled fired m → ⊥) → false ≡ fires net firings stalled (between fired) m
  fires_not never = ⊎_elim
      (λ e. absurd (never ((fires_exactly net firings stalled fired m).0 e)))
      (λ e. sym e)
      (cases_Bool (fires net firings stalled (between fired) m))

  pub fires_roomy : (b : Bool) → IsTrue b ↔ RoomyTo net fifos m (length (exits net m)) → get_or stalled m false ≡ false
      → k < firings_at net firings m → FilledTo net fifos m k (length (entrances net m))
      → b ≡ fires net firings stalled (between fired) m
  fires_roomy true is awake left full = sym ((fires_exactly net firings stalled fired m).1 (can_fire awake left full (is.0 refl)))
  fires_roomy false is awake left full = fires_not (λ can. false≢true (is.1 (roomy_if can)))

module _ (net : Net) (network : IsNetwork net) (firings : ℕ) (stalled : List Bool) (fired : List ℕ) (m : ℕ) where
  -- the counts after a visit
  pub visit_so : fires net firings stalled (between fired) m ≡ true → between (fired_once fired m) ≡ visit net firings stalled (between fired) m
  visit_so can =
      map-set whole fired m (get_or fired m 0 + 1)
      ∙ visit_fired net firings network stalled (between fired) m (whole (get_or fired m 0)) (sym (turn_between fired m)) can

  pub visit_not : fires net firings stalled (between fired) m ≡ false → between fired ≡ visit net firings stalled (between fired) m
  visit_not cannot = visit_kept net firings network stalled (between fired) m cannot

  -- a firing keeps the counts lawful
  pub lawful_so : IsLawful net firings (between fired) → m < length net.modules → fires net firings stalled (between fired) m ≡ true
      → IsLawful net firings (between (fired_once fired m))
  lawful_so lawful known can =
      subst (IsLawful net firings)
      (ap (λ (t : Turn). set (between fired) m (fired_wholly t)) (turn_between fired m) ∙ sym (map-set whole fired m (get_or fired m 0 + 1)))
      (fired_lawful net firings network stalled (between fired) m lawful
      (λ n. ap (λ (t : Turn). t.part) (turn_between fired n)) known can)

-- no firing is left, by the numbers of firings
pub finished_iff : (net : Net) (firings : ℕ) (fired : List ℕ) (b : Bool)
    → IsTrue b ↔ ((m : ℕ) → m < length net.modules → get_or fired m 0 ≡ firings_at net firings m)
    → IsTrue b ↔ IsFinished net firings (between fired)
finished_iff net firings fired b done = (
  (λ h m less. ap (λ (t : Turn). t.fired) (turn_between fired m) ∙ done.0 h m less),
  (λ h. done.1 (λ m less. sym (ap (λ (t : Turn). t.fired) (turn_between fired m)) ∙ h m less)),
)
