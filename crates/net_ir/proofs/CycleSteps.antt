-- A visit of a cycle, and a whole cycle, is a run of events.
use Rattle.std.proofs.Common.{◌≡◌, ◌≢◌, ◌<◌, ◌≤◌, ◌+◌, ◌-◌, ℕ, zero, suc, Bool, true, false, not, ◌&&◌, cond, List, [], ◌∷◌, ◌++◌, length, get_or, set, map, refl, sym, ap, ◌∙◌, subst, ⊎_elim, arith, get_or-set_same, get_or-set_other, add-one}
use Rattle.std.specs.List.{list_all}
use Rattle.std.proofs.lemmas.Bool.{cases_Bool, cases_eq, ltb-true, lt-ltb, and_parts, and_from}
use Rattle.std.proofs.lemmas.List.{set-set, set-get_or}
use Rattle.std.proofs.lemmas.List.Folds.{list_all-append, list_all-map}
use Rattle.net_ir.specs.declared.events.Event.{Event}
use Rattle.net_ir.specs.declared.events.Event.TheVariants.{Take, Send, Close}
use Rattle.net_ir.specs.declared.events.Turn.{Turn}
use Rattle.net_ir.specs.Nets.{Net, queue_at, exits, IsNetwork}
use Rattle.net_ir.specs.Firings.{takes, events, firings_at}
use Rattle.net_ir.specs.States.{turn_at, unmoved, taken_by, sent_by, taken, sent, next_event, turn_after, after, is_possible, IsLawful, has_firing, can_step, Run}
use Rattle.net_ir.specs.CycleRun.{IsBetween, fires, fired_wholly, visit, met, fired_among, held_among}
use Rattle.net_ir.proofs.Distinct.{has, has-get_or, passes_at}
use Rattle.net_ir.proofs.Effects.{event_list, by_next, take_is, send_is}
use Rattle.net_ir.proofs.Steps.{taken_between, sent_between, taken_next, sent_next, IsLawful-run}

pub all_events : (p : Event → Bool) (ins outs : List ℕ) → list_all (λ x. p (Take x)) ins ≡ true → list_all (λ x. p (Send x)) outs ≡ true → p Close ≡ true
    → list_all p (event_list ins outs) ≡ true
all_events p ins outs a b c =
    list_all-append p (map Take ins) (map Send outs ++ Close ∷ [])
    ∙ and_from _ _ (list_all-map p Take ins ∙ a)
    (list_all-append p (map Send outs) (Close ∷ []) ∙ and_from _ _ (list_all-map p Send outs ∙ b) (and_from (p Close) true c refl))

pub event_parts : (p : Event → Bool) (ins outs : List ℕ) → list_all p (event_list ins outs) ≡ true
    → (list_all (λ x. p (Take x)) ins ≡ true) × (list_all (λ x. p (Send x)) outs ≡ true)
event_parts p ins outs h =
    let one = and_parts _ _ (sym (list_all-append p (map Take ins) (map Send outs ++ Close ∷ [])) ∙ h) in
    let two = and_parts _ _ (sym (list_all-append p (map Send outs) (Close ∷ [])) ∙ one.1) in
    (sym (list_all-map p Take ins) ∙ one.0, sym (list_all-map p Send outs) ∙ two.0)

pub events_possible : (net : Net) (state : List Turn) (m k : ℕ) (t s : Bool) → t ≡ list_all (λ n. is_possible net state (Take n)) (takes net m k)
    → s ≡ list_all (λ n. is_possible net state (Send n)) (exits net m) → (t && s) ≡ list_all (is_possible net state) (events net m k)
unfolding events is_possible
events_possible net state m k t s a b =
    ap (λ x. x && s) a ∙ ap (λ x. list_all (λ n. is_possible net state (Take n)) (takes net m k) && x) b
    ∙ joined (list_all (λ n. is_possible net state (Take n)) (takes net m k)) (list_all (λ n. is_possible net state (Send n)) (exits net m))
    (list_all-map (is_possible net state) Take (takes net m k)) (list_all-append (is_possible net state) (map Send (exits net m)) (Close ∷ []))
    (list_all-map (is_possible net state) Send (exits net m))
    ∙ sym (list_all-append (is_possible net state) (map Take (takes net m k)) (map Send (exits net m) ++ Close ∷ []))
  where
    at_end : (s : Bool) → s ≡ (s && (true && true))
    at_end true = refl
    at_end false = refl

    joined : (t s : Bool) {t' s' rest : Bool} → t' ≡ t → rest ≡ (s' && (true && true)) → s' ≡ s → (t && s) ≡ (t' && rest)
    joined t s {t'} {s'} {rest} p q r = ap (λ x. t && x) (at_end s ∙ ap (λ x. x && (true && true)) (sym r) ∙ sym q) ∙ ap (λ x. x && rest) (sym p)

module _ (net : Net) (firings : ℕ) where
  pub fires_is : (stalled : List Bool) (state : List Turn) (m : ℕ) (flag left able : Bool) → flag ≡ get_or stalled m false
      → left ≡ has_firing net firings state m → able ≡ list_all (is_possible net state) (events net m (turn_at state m).fired)
      → (not flag && (left && able)) ≡ fires net firings stalled state m
  unfolding fires
  fires_is stalled state m flag left able f l a =
      ap (λ x. not x && (left && able)) f ∙ ap (λ x. not (get_or stalled m false) && (x && able)) l
      ∙ ap (λ x. not (get_or stalled m false) && (has_firing net firings state m && x)) a

-- the number, so many times
abbrev pub repeat : ℕ → ℕ → List ℕ
repeat zero m = []
repeat (suc n) m = m ∷ repeat n m

pub Run-append : (net : Net) (firings : ℕ) (ms ns : List ℕ) (state mid end : List Turn) → Run net firings state ms mid → Run net firings mid ns end
    → Run net firings state (ms ++ ns) end
Run-append net firings [] ns state mid end a b = subst (λ s. Run net firings s ns end) a b
Run-append net firings (m ∷ ms) ns state mid end a b = (a.0, a.1, Run-append net firings ms ns (after net state m) mid end a.2 b)

module _ (net : Net) (firings : ℕ) (network : IsNetwork net) where
  module _ (state : List Turn) (m : ℕ) (within : m < length state) (known : m < length net.modules) (between : IsBetween state)
      (left : (turn_at state m).fired < firings_at net firings m) (possible : list_all (is_possible net state) (events net m (turn_at state m).fired) ≡ true) where
    -- the module in the midst of its firing, and the state then
    abbrev midst : ℕ → Turn
    midst i = record { fired = (turn_at state m).fired; part = i }

    abbrev amid : ℕ → List Turn
    amid i = set state m (midst i)

    here : (i : ℕ) → turn_at (amid i) m ≡ midst i
    here i = get_or-set_same state m (midst i) unmoved within

    elsewhere : (i n : ℕ) → n ≢ m → turn_at (amid i) n ≡ turn_at state n
    elsewhere i n ne = get_or-set_other state m n (midst i) unmoved ne

    take_possible : (n : ℕ) → has n (takes net m (turn_at state m).fired) ≡ true → taken net state n < sent net state n
    unfolding events is_possible
    take_possible n h =
        ltb-true _ _ (passes_at (λ x. is_possible net state (Take x)) (takes net m (turn_at state m).fired) n
        (event_parts (is_possible net state) (takes net m (turn_at state m).fired) (exits net m) possible).0 h)

    send_possible : (n : ℕ) → has n (exits net m) ≡ true → sent net state n < taken net state n + (queue_at net.queues n).capacity
    unfolding events is_possible
    send_possible n h =
        ltb-true _ _ (passes_at (λ x. is_possible net state (Send x)) (exits net m) n
        (event_parts (is_possible net state) (takes net m (turn_at state m).fired) (exits net m) possible).1 h)

    -- each event stays possible while those before it are done
    amid_possible : (i : ℕ) → is_possible net (amid i) (next_event net m (midst i)) ≡ true
    unfolding is_possible
    amid_possible i =
        let k : ℕ = (turn_at state m).fired in
        let ins : List ℕ = takes net m k in
        by_next net (λ e. is_possible net (amid i) e ≡ true) m (midst i)
        (λ h. let x : ℕ = get_or ins i 0 in
        let found : has x ins ≡ true = has-get_or ins i 0 h in
        let is = take_is net m k x found in
        let apart : (queue_at net.queues x).from ≢ m = (λ e. network.ends x is.0 (e ∙ sym is.1)) in
        let sends : sent net (amid i) x ≡ sent net state x = ap (sent_by net x) (elsewhere i (queue_at net.queues x).from apart) in
        let turn_is : (turn_at (amid i) m).fired ≡ k = ap (λ t. t.fired) (here i) in
        let part_is : (turn_at (amid i) m).part ≡ i = ap (λ t. t.part) (here i) in
        let now : taken net (amid i) x ≡ k - (queue_at net.queues x).lead =
        taken_next net (amid i) m i x is.1 (sym part_is) (subst (λ y. i < length (takes net m y)) (sym turn_is) h)
        (ap (λ y. get_or (takes net m y) i 0) (sym turn_is)) ∙ ap (λ y. y - (queue_at net.queues x).lead) turn_is in
        let before : taken net state x ≡ k - (queue_at net.queues x).lead =
        ap (λ y. taken_by net x (turn_at state y)) is.1 ∙ taken_between net x (turn_at state m) (between m) in
        lt-ltb (taken net (amid i) x) (sent net (amid i) x) (omega (arith, take_possible x found)))
        (λ j h. let o : ℕ = i - length ins in
        let x : ℕ = get_or (exits net m) o 0 in
        let found : has x (exits net m) ≡ true = has-get_or (exits net m) o 0 (omega arith) in
        let is = send_is net m x found in
        let apart : (queue_at net.queues x).to ≢ m = (λ e. network.ends x is.0 (is.1 ∙ sym e)) in
        let takings : taken net (amid i) x ≡ taken net state x = ap (taken_by net x) (elsewhere i (queue_at net.queues x).to apart) in
        let turn_is : (turn_at (amid i) m).fired ≡ k = ap (λ t. t.fired) (here i) in
        let place_is : o ≡ (turn_at (amid i) m).part - length (takes net m (turn_at (amid i) m).fired) = sym
        (ap (λ t. t.part - length (takes net m t.fired)) (here i)) in
        let now : sent net (amid i) x ≡ k = sent_next net (amid i) m o x is.1 place_is (omega arith) refl ∙ turn_is in
        let before : sent net state x ≡ k = ap (λ y. sent_by net x (turn_at state y)) is.1 ∙ sent_between net x (turn_at state m) (between m) in
        lt-ltb (sent net (amid i) x) (taken net (amid i) x + (queue_at net.queues x).capacity) (omega (arith, send_possible x found)))
        (λ h. refl)

    amid_can : (i : ℕ) → can_step net firings (amid i) m ≡ true
    unfolding can_step
    amid_can i =
        and_from _ _ (lt-ltb _ _ (omega (arith, ap (λ t. t.fired) (here i))))
        (ap (λ t. is_possible net (amid i) (next_event net m t)) (here i) ∙ amid_possible i)

    amid_after : (i : ℕ) → after net (amid i) m ≡ set state m (turn_after (next_event net m (midst i)) (midst i))
    unfolding after
    amid_after i =
        ap (λ t. set (amid i) m (turn_after (next_event net m t) t)) (here i) ∙ set-set state m (midst i) _

    onward : (i : ℕ) → i < length (takes net m (turn_at state m).fired) + length (exits net m)
        → turn_after (next_event net m (midst i)) (midst i) ≡ midst (i + 1)
    onward i h =
        by_next net (λ e. turn_after e (midst i) ≡ midst (i + 1)) m (midst i) (λ _. refl) (λ _ _. refl) (λ k. absurd (omega arith))

    closing : (i : ℕ) → i ≡ length (takes net m (turn_at state m).fired) + length (exits net m)
        → turn_after (next_event net m (midst i)) (midst i) ≡ fired_wholly (turn_at state m)
    closing i h =
        by_next net (λ e. turn_after e (midst i) ≡ fired_wholly (turn_at state m)) m (midst i) (λ k. absurd (omega arith)) (λ j k. absurd (omega arith))
        (λ k. refl)

    firing_run : (rest i : ℕ) → i + rest ≡ length (takes net m (turn_at state m).fired) + length (exits net m)
        → Run net firings (amid i) (repeat (suc rest) m) (set state m (fired_wholly (turn_at state m)))
    firing_run zero i h = (known, amid_can i, sym (amid_after i ∙ ap (set state m) (closing i (omega arith))))
    firing_run (suc rest) i h = (
      known,
      amid_can i,
      subst (λ s. Run net firings s (repeat (suc rest) m) (set state m (fired_wholly (turn_at state m))))
          (sym (amid_after i ∙ ap (set state m) (onward i (omega arith)))) (firing_run rest (i + 1) (omega arith)),
    )

    -- the events of a whole firing, one after another
    whole_run : Run net firings state (repeat (suc (length (takes net m (turn_at state m).fired) + length (exits net m))) m)
        (set state m (fired_wholly (turn_at state m)))
    whole_run =
        let all : ℕ = length (takes net m (turn_at state m).fired) + length (exits net m) in
        let same : amid 0 ≡ state = ap (λ i. set state m (record { fired = (turn_at state m).fired; part = i })) (sym (between m))
        ∙ set-get_or state m unmoved in
        subst (λ s. Run net firings s (repeat (suc all) m) (set state m (fired_wholly (turn_at state m)))) same (firing_run all 0 (omega arith))

  -- what a visit does
  pub visit_cases : (P : List Turn → Type 0) (stalled : List Bool) (state : List Turn) (m : ℕ)
      → (fires net firings stalled state m ≡ true → P (set state m (fired_wholly (turn_at state m)))) → (fires net firings stalled state m ≡ false → P state)
      → P (visit net firings stalled state m)
  unfolding visit
  visit_cases P stalled state m moved kept =
      ⊎_elim
      (λ b. subst (λ c. P (cond c (set state m (fired_wholly (turn_at state m))) state)) (sym b) (moved b))
      (λ b. subst (λ c. P (cond c (set state m (fired_wholly (turn_at state m))) state)) (sym b) (kept b))
      (cases_Bool (fires net firings stalled state m))

  -- what it takes to fire
  pub fires_parts : (stalled : List Bool) (state : List Turn) (m : ℕ) → fires net firings stalled state m ≡ true
      → ((turn_at state m).fired < firings_at net firings m) × (list_all (is_possible net state) (events net m (turn_at state m).fired) ≡ true)
  unfolding fires
  fires_parts stalled state m h =
      let p = and_parts _ _ (and_parts _ _ h).1 in (ltb-true _ _ p.0, p.1)

  -- a whole firing keeps a state lawful
  pub fired_lawful : (stalled : List Bool) (state : List Turn) (m : ℕ) → IsLawful net firings state → IsBetween state → m < length net.modules
      → fires net firings stalled state m ≡ true → IsLawful net firings (set state m (fired_wholly (turn_at state m)))
  fired_lawful stalled state m lawful between h b =
      let p = fires_parts stalled state m b in
      IsLawful-run net firings (repeat (suc (length (takes net m (turn_at state m).fired) + length (exits net m))) m) state
      (set state m (fired_wholly (turn_at state m))) lawful (whole_run state m (omega (arith, lawful.whole)) h between p.0 p.1)

  pub visit_fired : (stalled : List Bool) (state : List Turn) (m : ℕ) (turn : Turn) → turn ≡ turn_at state m → fires net firings stalled state m ≡ true
      → set state m (fired_wholly turn) ≡ visit net firings stalled state m
  unfolding visit
  visit_fired stalled state m turn t b =
      ap (λ x. set state m (fired_wholly x)) t ∙ ap (λ c. cond c (set state m (fired_wholly (turn_at state m))) state) (sym b)

  pub visit_kept : (stalled : List Bool) (state : List Turn) (m : ℕ) → fires net firings stalled state m ≡ false → state ≡ visit net firings stalled state m
  unfolding visit
  visit_kept stalled state m b = ap (λ c. cond c (set state m (fired_wholly (turn_at state m))) state) (sym b)

  pub met_one : (stalled : List Bool) (state : List Turn) (m : ℕ)
      → visit net firings stalled (met net firings stalled state m) m ≡ met net firings stalled state (m + 1)
  unfolding met
  met_one stalled state m = ap (met net firings stalled state) (sym (add-one m))

  pub fired_one : (stalled : List Bool) (state : List Turn) (m : ℕ)
      → fired_among net firings stalled state m + cond (fires net firings stalled (met net firings stalled state m) m) 1 0
      ≡ fired_among net firings stalled state (m + 1)
  unfolding fired_among
  fired_one stalled state m = ap (fired_among net firings stalled state) (sym (add-one m))

  pub held_one : (stalled : List Bool) (state : List Turn) (m : ℕ)
      → held_among net firings stalled state m + cond (has_firing net firings (met net firings stalled state m) m
      && not (fires net firings stalled (met net firings stalled state m) m)) 1 0 ≡ held_among net firings stalled state (m + 1)
  unfolding held_among
  held_one stalled state m = ap (held_among net firings stalled state) (sym (add-one m))

  pub visit_run : (stalled : List Bool) (state : List Turn) (m : ℕ) → IsLawful net firings state → IsBetween state → m < length net.modules
      → (ms : List ℕ) × Run net firings state ms (visit net firings stalled state m)
  visit_run stalled state m lawful between h =
      visit_cases (λ s. (ms : List ℕ) × Run net firings state ms s) stalled state m
      (λ b. let p = fires_parts stalled state m b in
      (repeat (suc (length (takes net m (turn_at state m).fired) + length (exits net m))) m, whole_run state m (omega (arith, lawful.whole)) h between p.0 p.1))
      (λ b. ([], refl))

  pub IsBetween-visit : (stalled : List Bool) (state : List Turn) (m : ℕ) → m < length state → IsBetween state → IsBetween (visit net firings stalled state m)
  IsBetween-visit stalled state m h between =
      visit_cases IsBetween stalled state m
      (λ b n. ⊎_elim
      (λ e. subst (λ x. (turn_at (set state m (fired_wholly (turn_at state m))) x).part ≡ 0) (sym e)
      (ap (λ t. t.part) (get_or-set_same state m (fired_wholly (turn_at state m)) unmoved h)))
      (λ ne. ap (λ t. t.part) (get_or-set_other state m n (fired_wholly (turn_at state m)) unmoved ne) ∙ between n)
      (cases_eq n m))
      (λ b. between)

  -- what holds in the midst of a cycle that began in a lawful state between firings
  pub record Amid (state now : List Turn) : Type 0 where
    pub lawful : IsLawful net firings now
    pub between : IsBetween now
    pub run : (ms : List ℕ) × Run net firings state ms now

  pub Amid-met : (stalled : List Bool) (state : List Turn) → IsLawful net firings state → IsBetween state → (m : ℕ) → m ≤ length net.modules
      → Amid state (met net firings stalled state m)
  unfolding met
  Amid-met stalled state lawful between zero h = record { lawful = lawful; between = between; run = ([], refl) }
  Amid-met stalled state lawful between (suc m) h =
      let old = Amid-met stalled state lawful between m (omega arith) in
      let now : List Turn = met net firings stalled state m in
      let more = visit_run stalled now m old.lawful old.between (omega arith) in
      record {
        lawful = IsLawful-run net firings more.0 now (visit net firings stalled now m) old.lawful more.1;
        between = IsBetween-visit stalled now m (omega (arith, old.lawful.whole)) old.between;
        run = (old.run.0 ++ more.0, Run-append net firings old.run.0 more.0 state now (visit net firings stalled now m) old.run.1 more.1);
      }
