-- How many cycles a run has.
use Rattle.std.proofs.Common.{◌≡◌, ◌≢◌, ◌<◌, ◌≤◌, ◌+◌, ◌-◌, ◌==◌, nat_lt, ℕ, zero, suc, Bool, true, false, cond, List, [], ◌∷◌, ◌↔◌, length, length-take-le, take, get_or, set, refl, sym, ap, ◌∙◌, subst, ⊎_elim, arith, get_or-set_same, get_or-set_other}
use Rattle.std.specs.List.{list_any}
use Rattle.std.proofs.lemmas.Bool.{cases_Bool, cases_lt, cases_eq, lt-ltb, eq-eqb, and_from, or_parts, not_from_false, both_ways}
use Rattle.std.proofs.lemmas.Bool.Decides.{nat_tests}
use Rattle.std.proofs.lemmas.List.Sums.{count_by-le-length, sum_by-cons}
use Rattle.net_ir.specs.declared.events.Event.TheVariants.{Take, Send}
use Rattle.net_ir.specs.declared.events.Turn.{Turn}
use Rattle.net_ir.specs.Nets.{Net, age_at, queue_at, exits, IsNetwork, IsOrderly}
use Rattle.net_ir.specs.Firings.{takes, events, firings_at}
use Rattle.net_ir.specs.States.{turn_at, unmoved, taken_by, sent_by, taken, sent, is_possible, IsLawful, IsFinished, zeros}
use Rattle.net_ir.specs.Waits.{progress}
use Rattle.net_ir.specs.CycleRun.{IsBetween, fires, fired_wholly, visit, met, cycle, cycles, stalled_cycles, EndsWith, EndsInTime, LeastFires}
use Rattle.net_ir.proofs.Distinct.{all_from_has}
use Rattle.net_ir.proofs.Effects.{take_is, send_is}
use Rattle.net_ir.proofs.Steps.{taken_between, sent_between, turn_at-zeros, IsLawful-zeros}
use Rattle.net_ir.proofs.CycleSteps.{all_events, visit_cases, Amid-met}

-- the sender has sent enough for a module of least progress to take
taking : (level done sent age_to age_from lead capacity to from : ℕ) → level - age_to ≤ done → done < level + 1 - age_to → lead ≤ done → from ≢ to
    → (from < to → level + 1 - age_from ≤ sent) → (to < from → level - age_from ≤ sent)
    → (from < to → (age_from ≤ age_to + lead) × (age_to + lead < age_from + capacity))
    → (to < from → (age_from < age_to + lead) × (age_to + lead ≤ age_from + capacity)) → done - lead < sent
taking level done sent age_to age_from lead capacity to from low high led apart earlier later onward back =
    ⊎_elim (λ h. omega (arith, earlier h, (onward h).0))
    (λ h. let k : to < from = omega arith in omega (arith, later k, (back k).0))
    (cases_lt from to)

-- the receiver has taken enough for a module of least progress to send
sending : (level done taken age_from age_to lead capacity from to : ℕ) → level - age_from ≤ done → done < level + 1 - age_from → from ≢ to
    → (to < from → level + 1 - age_to ≤ taken) → (from < to → level - age_to ≤ taken)
    → (from < to → (age_from ≤ age_to + lead) × (age_to + lead < age_from + capacity))
    → (to < from → (age_from < age_to + lead) × (age_to + lead ≤ age_from + capacity)) → done < (taken - lead) + capacity
sending level done taken age_from age_to lead capacity from to low high apart earlier later onward back =
    ⊎_elim (λ h. omega (arith, earlier h, (back h).1))
    (λ h. let k : from < to = omega arith in omega (arith, later k, (onward k).1))
    (cases_lt to from)

module _ (net : Net) (firings : ℕ) (network : IsNetwork net) where
  -- a visit leaves each module's completed firings as they were or raises them by one
  visit_raises : (stalled : List Bool) (state : List Turn) (m n : ℕ) → m < length state
      → ((turn_at state n).fired ≤ (turn_at (visit net firings stalled state m) n).fired)
      × ((turn_at (visit net firings stalled state m) n).fired ≤ (turn_at state n).fired + cond (n == m) 1 0)
  visit_raises stalled state m n h =
      visit_cases net firings network (λ s. ((turn_at state n).fired ≤ (turn_at s n).fired)
      × ((turn_at s n).fired ≤ (turn_at state n).fired + cond (n == m) 1 0)) stalled state m
      (λ b. ⊎_elim
      (λ e. let now : (turn_at (set state m (fired_wholly (turn_at state m))) n).fired
      ≡ (turn_at state n).fired + 1 = subst (λ x. (turn_at (set state m (fired_wholly (turn_at state m))) x).fired ≡ (turn_at state x).fired + 1) (sym e)
      (ap (λ t. t.fired) (get_or-set_same state m (fired_wholly (turn_at state m)) unmoved h)) in
      let one : cond {A = ℕ} (n == m) 1 0 ≡ 1 = ap {B = ℕ} (λ b. cond b 1 0) (eq-eqb n m e) in
      (omega arith, omega arith))
      (λ ne. let now : (turn_at (set state m (fired_wholly (turn_at state m))) n).fired
      ≡ (turn_at state n).fired = ap (λ t. t.fired) (get_or-set_other state m n (fired_wholly (turn_at state m)) unmoved ne) in
      (omega arith, omega arith))
      (cases_eq n m))
      (λ b. (omega arith, omega arith))

  -- within a cycle the modules that weren't visited yet are as before, and the others completed one firing at most
  met_raises : (stalled : List Bool) (state : List Turn) → IsLawful net firings state → IsBetween state → (m n : ℕ) → m ≤ length net.modules
      → ((turn_at state n).fired ≤ (turn_at (met net firings stalled state m) n).fired)
      × ((turn_at (met net firings stalled state m) n).fired ≤ (turn_at state n).fired + cond (nat_lt n m) 1 0)
  unfolding met
  met_raises stalled state lawful between zero n h = (omega arith, omega arith)
  met_raises stalled state lawful between (suc m) n h =
      let old = met_raises stalled state lawful between m n (omega arith) in
      let amid = Amid-met net firings network stalled state lawful between m (omega arith) in
      let new = visit_raises stalled (met net firings stalled state m) m n (omega (arith, amid.lawful.whole)) in
      (omega (arith, old.0, new.0), omega (arith, old.1, new.1, one_of n m))
    where
      one_of : (n m : ℕ) → cond (nat_lt n m) 1 0 + cond (n == m) 1 0 ≤ cond (nat_lt n (suc m)) 1 0
      one_of n m = grind (arith, nat_tests)

  -- the completed firings and the age of each module with a firing left reach the level
  abbrev Level : ℕ → List Turn → Type 0
  Level level state = (m : ℕ) → m < length net.modules → level - age_at net m ≤ (turn_at state m).fired

  Level-cycle : (stalled : List Bool) (state : List Turn) (level : ℕ) → IsLawful net firings state → IsBetween state → Level level state
      → Level level (cycle net firings stalled state)
  Level-cycle stalled state level lawful between old m h =
      omega (arith, old m h, (met_raises stalled state lawful between (length net.modules) m (omega arith)).0)

  module _ (orderly : IsOrderly net) where
    -- a module of least progress fires
    least_fires : (stalled : List Bool) (now : List Turn) (level m : ℕ) → IsLawful net firings now → IsBetween now → m < length net.modules
        → get_or stalled m false ≡ false → level < firings → level - age_at net m ≤ (turn_at now m).fired → (turn_at now m).fired < level + 1 - age_at net m
        → ((n : ℕ) → n < length net.modules → n < m → level + 1 - age_at net n ≤ (turn_at now n).fired)
        → ((n : ℕ) → n < length net.modules → m < n → level - age_at net n ≤ (turn_at now n).fired) → fires net firings stalled now m ≡ true
    unfolding fires events is_possible
    least_fires stalled now level m lawful between h free below low high earlier later =
        let k : ℕ = (turn_at now m).fired in
        and_from _ _ (not_from_false _ free)
        (and_from _ _ (lt-ltb k (firings_at net firings m) (omega arith))
        (all_events (is_possible net now) (takes net m k) (exits net m)
        (all_from_has (λ x. is_possible net now (Take x)) (takes net m k) (λ x found.
        let is = take_is net m k x found in
        let fit = orderly x is.0 in
        let to_is : (queue_at net.queues x).to ≡ m = is.1 in
        let from : ℕ = (queue_at net.queues x).from in
        let lead : ℕ = (queue_at net.queues x).lead in
        let mine : taken net now x ≡ k - lead = ap (λ y. taken_by net x (turn_at now y)) to_is ∙ taken_between net x (turn_at now m) (between m) in
        let theirs : sent net now x ≡ (turn_at now from).fired = sent_between net x (turn_at now from) (between from) in
        let apart : from ≢ m = (λ e. network.ends x is.0 (e ∙ sym to_is)) in
        let enough = taking level k (turn_at now from).fired (age_at net m) (age_at net from) lead (queue_at net.queues x).capacity m from low high is.2 apart
        (λ j. earlier from (network.from x is.0) j) (λ j. later from (network.from x is.0) j)
        (subst (λ t. from < t → (age_at net from ≤ age_at net t + lead)
        × (age_at net t + lead < age_at net from + (queue_at net.queues x).capacity)) to_is fit.onward)
        (subst (λ t. t < from → (age_at net from < age_at net t + lead)
        × (age_at net t + lead ≤ age_at net from + (queue_at net.queues x).capacity)) to_is fit.back) in
        lt-ltb (taken net now x) (sent net now x) (omega arith)))
        (all_from_has (λ x. is_possible net now (Send x)) (exits net m) (λ x found.
        let is = send_is net m x found in
        let fit = orderly x is.0 in
        let from_is : (queue_at net.queues x).from ≡ m = is.1 in
        let to : ℕ = (queue_at net.queues x).to in
        let lead : ℕ = (queue_at net.queues x).lead in
        let mine : sent net now x ≡ k = ap (λ y. sent_by net x (turn_at now y)) from_is ∙ sent_between net x (turn_at now m) (between m) in
        let theirs : taken net now x ≡ (turn_at now to).fired - lead = taken_between net x (turn_at now to) (between to) in
        let apart : m ≢ to = (λ e. network.ends x is.0 (from_is ∙ e)) in
        let enough = sending level k (turn_at now to).fired (age_at net m) (age_at net to) lead (queue_at net.queues x).capacity m to low high apart
        (λ j. earlier to (network.to x is.0) j) (λ j. later to (network.to x is.0) j)
        (subst (λ f. f < to → (age_at net f ≤ age_at net to + lead)
        × (age_at net to + lead < age_at net f + (queue_at net.queues x).capacity)) from_is fit.onward)
        (subst (λ f. to < f → (age_at net f < age_at net to + lead)
        × (age_at net to + lead ≤ age_at net f + (queue_at net.queues x).capacity)) from_is fit.back) in
        lt-ltb (sent net now x) (taken net now x + (queue_at net.queues x).capacity) (omega arith)))
        refl))

    -- a cycle without stalls raises the level, module by module
    met_reaches : (stalled : List Bool) (state : List Turn) (level : ℕ) → IsLawful net firings state → IsBetween state
        → ((m : ℕ) → get_or stalled m false ≡ false) → level < firings → Level level state → (m : ℕ) → m ≤ length net.modules → (n : ℕ) → n < m
        → level + 1 - age_at net n ≤ (turn_at (met net firings stalled state m) n).fired
    unfolding met
    met_reaches stalled state level lawful between free below old zero h n k = absurd (omega arith)
    met_reaches stalled state level lawful between free below old (suc m) h n k =
        let now : List Turn = met net firings stalled state m in
        let amid = Amid-met net firings network stalled state lawful between m (omega arith) in
        let within : m < length now = omega (arith, amid.lawful.whole) in
        let so_far = met_reaches stalled state level lawful between free below old m (omega arith) in
        let not_yet : (x : ℕ) → x < length net.modules → level - age_at net x ≤ (turn_at now x).fired =
        λ x j. omega (arith, old x j, (met_raises stalled state lawful between m x (omega arith)).0) in
        let raised = visit_raises stalled now m n within in
        ⊎_elim
        (λ j. omega (arith, so_far n j, raised.0))
        (λ j. let same : n ≡ m = omega arith in
        subst (λ x. level + 1 - age_at net x ≤ (turn_at (visit net firings stalled now m) x).fired) (sym same)
        (⊎_elim
        (λ less. let yes' = least_fires stalled now level m amid.lawful amid.between (omega arith) (free m) below (not_yet m (omega arith)) less
        (λ x q w. so_far x w) (λ x q w. not_yet x q) in
        visit_cases net firings network (λ s. level + 1 - age_at net m ≤ (turn_at s m).fired) stalled now m
        (λ b. let done : (turn_at (set now m (fired_wholly (turn_at now m))) m).fired
        ≡ (turn_at now m).fired + 1 = ap (λ t. t.fired) (get_or-set_same now m (fired_wholly (turn_at now m)) unmoved within) in
        omega (arith, not_yet m (omega arith)))
        (λ b. absurd (both_ways _ b yes')))
        (λ more. omega (arith, (visit_raises stalled now m m within).0))
        (cases_lt (turn_at now m).fired (level + 1 - age_at net m))))
        (cases_lt n m)

    none_stalled : (stalled : List Bool) → list_any (λ flag. flag) stalled ≡ false → (m : ℕ) → get_or stalled m false ≡ false
    none_stalled [] e m = refl
    none_stalled (b ∷ bs) e zero = (or_parts b (list_any (λ flag. flag) bs) e).0
    none_stalled (b ∷ bs) e (suc m) = none_stalled bs (or_parts b (list_any (λ flag. flag) bs) e).1 m

    stalled_first : (stalled : List Bool) (rest : List (List Bool)) (b : Bool) → list_any (λ flag. flag) stalled ≡ b
        → stalled_cycles (stalled ∷ rest) ≡ cond b 1 0 + stalled_cycles rest
    stalled_first stalled rest b e = sum_by-cons (λ flags. cond (list_any (λ flag. flag) flags) 1 0) stalled rest ∙ ap (λ c. cond c 1 0 + stalled_cycles rest) e

    stalled_before : (k : ℕ) (stalls : List (List Bool)) → stalled_cycles (take k stalls) ≤ stalled_cycles stalls
    stalled_before zero stalls = omega arith
    stalled_before (suc k) [] = omega arith
    stalled_before (suc k) (stalled ∷ rest) =
        let one = stalled_first stalled (take k rest) (list_any (λ flag. flag) stalled) refl in
        let all = stalled_first stalled rest (list_any (λ flag. flag) stalled) refl in
        omega (arith, stalled_before k rest, one, all)

    -- cycles that are enough for the level that is left end the run
    ends_from : (stalls : List (List Bool)) (state : List Turn) (level : ℕ) → IsLawful net firings state → IsBetween state → level ≤ firings → Level level state
        → firings + stalled_cycles stalls ≤ level + length stalls → IsFinished net firings (cycles net firings stalls state)
    ends_from [] state level lawful between below old enough m h =
        omega (arith, old m h, (lawful.turns m h).completed)
    ends_from (stalled ∷ rest) state level lawful between below old enough m h =
        let amid = Amid-met net firings network stalled state lawful between (length net.modules) (omega arith) in
        let kept = Level-cycle stalled state level lawful between old in
        ⊎_elim
        (λ b. ends_from rest (cycle net firings stalled state) level amid.lawful amid.between below kept (omega (arith, stalled_first stalled rest true b)) m h)
        (λ b. ⊎_elim
        (λ less. ends_from rest (cycle net firings stalled state) (level + 1) amid.lawful amid.between (omega arith)
        (λ x j. met_reaches stalled state level lawful between (none_stalled stalled b) less old (length net.modules) (omega arith) x j)
        (omega (arith, stalled_first stalled rest false b)) m h)
        (λ full. ends_from rest (cycle net firings stalled state) level amid.lawful amid.between below kept
        (omega (arith, count_by-le-length (list_any (λ flag. flag)) rest)) m h)
        (cases_lt level firings))
        (cases_Bool (list_any (λ flag. flag) stalled))

  -- a run of cycles completes one firing a cycle at most
  cycles_raise : (stalls : List (List Bool)) (state : List Turn) → IsLawful net firings state → IsBetween state → (m : ℕ)
      → (turn_at (cycles net firings stalls state) m).fired ≤ (turn_at state m).fired + length stalls
  cycles_raise [] state lawful between m = omega arith
  cycles_raise (stalled ∷ rest) state lawful between m =
      let amid = Amid-met net firings network stalled state lawful between (length net.modules) (omega arith) in
      omega (
        arith,
        cycles_raise rest (cycle net firings stalled state) amid.lawful amid.between m,
        (met_raises stalled state lawful between (length net.modules) m (omega arith)).1,
        at_most (nat_lt m (length net.modules)),
      )
    where
      at_most : (b : Bool) → cond b 1 0 ≤ 1
      at_most true = omega arith
      at_most false = omega arith

  IsBetween-zeros : IsBetween (zeros net)
  IsBetween-zeros m = ap (λ t. t.part) (turn_at-zeros net firings net.modules m)

  fired-zeros : (m : ℕ) → (turn_at (zeros net) m).fired ≡ 0
  fired-zeros m = ap (λ t. t.fired) (turn_at-zeros net firings net.modules m)

  -- a module of age 0 needs a cycle for each of its firings
  not_earlier : (stalls : List (List Bool)) (m : ℕ) → m < length net.modules → age_at net m ≡ 0 → IsFinished net firings (cycles net firings stalls (zeros net))
      → firings ≤ length stalls
  not_earlier stalls m h age end =
      omega (arith, end m h, cycles_raise stalls (zeros net) (IsLawful-zeros net firings) IsBetween-zeros m, fired-zeros m)

  pub ends_in_time : IsOrderly net → (stalls : List (List Bool)) → EndsInTime net firings stalls
  ends_in_time orderly stalls = record { ends = ends stalls; within = within; exact = exact }
    where
      ends : (stalls : List (List Bool)) → firings + stalled_cycles stalls ≤ length stalls → IsFinished net firings (cycles net firings stalls (zeros net))
      ends stalls enough =
          ends_from orderly stalls (zeros net) 0 (IsLawful-zeros net firings) IsBetween-zeros (omega arith) (λ m h. omega arith) (omega arith)

      within : EndsWith net firings stalls → length stalls ≤ firings + stalled_cycles stalls
      within e =
          ⊎_elim
          (λ more. let k : ℕ = length stalls - 1 in
          let long : length (take k stalls) ≡ k = length-take-le k stalls (omega arith) in
          absurd (e.1 k (omega arith) (ends (take k stalls) (omega (arith, stalled_before orderly k stalls)))))
          (λ h. h)
          (cases_lt (firings + stalled_cycles stalls) (length stalls))

      exact : (m : ℕ) → m < length net.modules → age_at net m ≡ 0 → stalled_cycles stalls ≡ 0 → EndsWith net firings stalls ↔ (length stalls ≡ firings)
      exact m h age free = (
        (λ e. omega (arith, within e, not_earlier stalls m h age e.0)),
        (λ same. (
          ends stalls (omega arith),
          λ k j end. let long : length (take k stalls) ≡ k = length-take-le k stalls (omega arith)
              in absurd (omega (arith, not_earlier (take k stalls) m h age end)),
        )),
      )

  pub least_progress : IsOrderly net → (stalled : List Bool) (state : List Turn) → IsLawful net firings state → IsBetween state
      → list_any (λ flag. flag) stalled ≡ false → LeastFires net firings stalled state
  least_progress orderly stalled state lawful between free m h left least =
      let level : ℕ = progress net state m in
      let reached : Level level state = λ n k. ⊎_elim
      (λ more. omega (arith, least n k more))
      (λ done. omega (arith, done))
      (cases_lt (turn_at state n).fired (firings_at net firings n)) in
      omega (
        arith,
        met_reaches orderly stalled state level lawful between (none_stalled orderly stalled free) (omega arith) reached (length net.modules)
            (omega arith) m h,
        (met_raises stalled state lawful between (length net.modules) m (omega arith)).1,
        at_most (nat_lt m (length net.modules)),
      )
    where
      at_most : (b : Bool) → cond b 1 0 ≤ 1
      at_most true = omega arith
      at_most false = omega arith
