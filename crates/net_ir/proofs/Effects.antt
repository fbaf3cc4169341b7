-- What one event does to the takes and sends of the queues.
use Rattle.std.proofs.Common.{◌≡◌, ◌≢◌, ◌<◌, ◌≤◌, ◌+◌, ◌-◌, ◌==◌, nat_lt, nat_le, ℕ, zero, suc, Bool, true, false, ◌&&◌, ◌||◌, cond, nat_eq, List, [], ◌∷◌, ◌++◌, length, length-append, take, get_or, map, refl, sym, ap, ◌∙◌, subst, ⊎_elim, arith, get_or-set_same, get_or-set_other}
use Rattle.std.proofs.lemmas.Bool.{cases_lt, cases_eq, eqb-true, eq-eqb, ne_eqb, ltb-true, lt-ltb, leb-true, and_parts, and_from, both_ways}
use Rattle.std.proofs.lemmas.Bool.Decides.{nat_tests}
use Rattle.std.proofs.lemmas.List.{get_or_append_left, get_or-append_right, get_or-map, length-map, take_all}
use Rattle.std.proofs.lemmas.List.Folds.{list_any_more}
use Rattle.net_ir.specs.declared.events.Event.{Event}
use Rattle.net_ir.specs.declared.events.Event.TheVariants.{Take, Send, Close}
use Rattle.net_ir.specs.declared.events.Turn.{Turn}
use Rattle.net_ir.specs.Nets.{Net, queue_at, entrances, exits}
use Rattle.net_ir.specs.Firings.{takes, events}
use Rattle.net_ir.specs.States.{turn_at, taken_now, sent_now, once, taken_by, sent_by, taken, sent, next_event, turn_after, after}
use Rattle.net_ir.proofs.Distinct.{has, Distinct, has-filter, has-get_or, lacks-before, Distinct-filter}
use Rattle.net_ir.proofs.Ends.{has-entrances_among, has-exits_among, Distinct-entrances_among, Distinct-exits_among}

-- the events of a firing that takes by one list and sends by another
abbrev pub event_list : List ℕ → List ℕ → List Event
event_list ins outs = map Take ins ++ (map Send outs ++ Close ∷ [])

pub length-event_list : (ins outs : List ℕ) → length (event_list ins outs) ≡ length ins + length outs + 1
length-event_list ins outs =
    omega (
      arith,
      length-append (map Take ins) (map Send outs ++ Close ∷ []),
      length-append (map Send outs)
          (Close ∷ []),
      length-map ins Take,
      length-map outs Send,
    )

-- a fact of the event at a place, by what stands there
pub by_place : (P : Event → Type 0) (ins outs : List ℕ) (i : ℕ) → (i < length ins → P (Take (get_or ins i 0)))
    → (length ins ≤ i → i < length ins + length outs → P (Send (get_or outs (i - length ins) 0))) → (length ins + length outs ≤ i → P Close)
    → P (get_or (event_list ins outs) i Close)
by_place P ins outs i taking sending closing =
    let rest : List Event = map Send outs ++ Close ∷ [] in
    let long : length (map Take ins) ≡ length ins = length-map ins Take in
    let wide : length (map Send outs) ≡ length outs = length-map outs Send in
    ⊎_elim
    (λ h. subst P (sym (get_or_append_left (map Take ins) rest Close i (omega arith) ∙ get_or-map Take ins i 0 Close h)) (taking h))
    (λ h. let moved = get_or-append_right (map Take ins) rest (length ins) i Close long h in
    ⊎_elim
    (λ k. subst P (sym (moved ∙ get_or_append_left (map Send outs) (Close ∷ []) Close (i - length ins) (omega arith)
    ∙ get_or-map Send outs (i - length ins) 0 Close (omega arith))) (sending h k))
    (λ k. subst P (sym (moved ∙ get_or-append_right (map Send outs) (Close ∷ []) (length outs) (i - length ins) Close wide (omega arith)
    ∙ last (i - length ins - length outs))) (closing k))
    (cases_lt i (length ins + length outs)))
    (cases_lt i (length ins))
  where
    last : (n : ℕ) → get_or (Close ∷ []) n Close ≡ Close
    last zero = refl
    last (suc n) = refl

once_more : (n : ℕ) (ns : List ℕ) (i : ℕ) → Distinct ns → i < length ns → once n (take (i + 1) ns) ≡ once n (take i ns) + cond (nat_eq n (get_or ns i 0)) 1 0
once_more n ns i u h =
    ap (λ b. cond b 1 0) (list_any_more (nat_eq n) ns i 0 h)
    ∙ either (has n (take i ns)) (nat_eq n (get_or ns i 0)) (λ e. subst (λ x. has x (take i ns) ≡ false) (sym (eqb-true n _ e)) (lacks-before ns i 0 u h))
  where
    either : (a b : Bool) → (b ≡ true → a ≡ false) → cond (a || b) 1 0 ≡ cond a 1 0 + cond b 1 0
    either true true x = absurd (both_ways true (x refl) refl)
    either true false x = refl
    either false true x = refl
    either false false x = refl

-- whether an event is a take from a queue, and whether it is a send into it, as numbers
abbrev pub taken_more : Event → ℕ → ℕ
taken_more (Take x) n = cond (nat_eq n x) 1 0
taken_more (Send x) n = 0
taken_more Close n = 0

abbrev pub sent_more : Event → ℕ → ℕ
sent_more (Take x) n = 0
sent_more (Send x) n = cond (nat_eq n x) 1 0
sent_more Close n = 0

module _ (net : Net) where
  pub Distinct-takes : (m k : ℕ) → Distinct (takes net m k)
  unfolding takes
  Distinct-takes m k = Distinct-filter _ (entrances net m) (Distinct-entrances_among net.queues m (length net.queues))

  pub has-takes : (m k n : ℕ) → has n (takes net m k) ≡ ((nat_lt n (length net.queues) && (queue_at net.queues n).to == m)
      && nat_le (queue_at net.queues n).lead k)
  unfolding takes
  has-takes m k n =
      has-filter (λ q. nat_le (queue_at net.queues q).lead k) n (entrances net m)
      ∙ ap (λ b. b && nat_le (queue_at net.queues n).lead k) (has-entrances_among net.queues m (length net.queues) n)

  pub has-exits : (m n : ℕ) → has n (exits net m) ≡ (nat_lt n (length net.queues) && (queue_at net.queues n).from == m)
  has-exits m n = has-exits_among net.queues m (length net.queues) n

  -- what is known of a queue that a firing takes from
  pub take_is : (m k n : ℕ) → has n (takes net m k) ≡ true → (n < length net.queues) × ((queue_at net.queues n).to ≡ m) × ((queue_at net.queues n).lead ≤ k)
  take_is m k n h =
      let p = and_parts _ _ (sym (has-takes m k n) ∙ h) in
      let q = and_parts _ _ p.0 in
      (ltb-true _ _ q.0, eqb-true _ _ q.1, leb-true _ _ p.1)

  pub send_is : (m n : ℕ) → has n (exits net m) ≡ true → (n < length net.queues) × ((queue_at net.queues n).from ≡ m)
  send_is m n h =
      let p = and_parts _ _ (sym (has-exits m n) ∙ h) in
      (ltb-true _ _ p.0, eqb-true _ _ p.1)

  -- the next event of a module, by what it is
  pub by_next : (P : Event → Type 0) (m : ℕ) (turn : Turn)
      → (turn.part < length (takes net m turn.fired) → P (Take (get_or (takes net m turn.fired) turn.part 0)))
      → (length (takes net m turn.fired) ≤ turn.part → turn.part < length (takes net m turn.fired) + length (exits net m)
      → P (Send (get_or (exits net m) (turn.part - length (takes net m turn.fired)) 0)))
      → (length (takes net m turn.fired) + length (exits net m) ≤ turn.part → P Close) → P (next_event net m turn)
  unfolding next_event events
  by_next P m turn = by_place P (takes net m turn.fired) (exits net m) turn.part

  pub length-events : (m k : ℕ) → length (events net m k) ≡ length (takes net m k) + length (exits net m) + 1
  unfolding events
  length-events m k = length-event_list (takes net m k) (exits net m)

  -- the takes of a queue after its receiver's next event
  taken_own : (n : ℕ) (turn : Turn) → n < length net.queues → turn.part < length (events net (queue_at net.queues n).to turn.fired)
      → taken_by net n (turn_after (next_event net (queue_at net.queues n).to turn) turn)
      ≡ taken_by net n turn + taken_more (next_event net (queue_at net.queues n).to turn) n
  unfolding taken_by taken_now
  taken_own n turn h within =
      let m : ℕ = (queue_at net.queues n).to in
      let lead : ℕ = (queue_at net.queues n).lead in
      let ins : List ℕ = takes net m turn.fired in
      by_next (λ e. taken_by net n (turn_after e turn) ≡ taken_by net n turn + taken_more e n) m turn
      (λ k. omega (arith, once_more n ins turn.part (Distinct-takes m turn.fired) k))
      (λ k j. ap (λ xs. (turn.fired - lead) + once n xs) (take_all (turn.part + 1) ins (omega arith) ∙ sym (take_all turn.part ins k)) ∙ omega arith)
      (λ k. let all : take turn.part ins ≡ ins = take_all turn.part ins (omega arith) in
      closed turn.fired lead (once n (take turn.part ins)) (has n ins) (ap (once n) all)
      (has-takes m turn.fired n ∙ ap (λ b. b && nat_le lead turn.fired) (and_from _ _ (lt-ltb n _ h) (eq-eqb m m refl))))
    where
      closed : (k lead o : ℕ) (b : Bool) → o ≡ cond b 1 0 → b ≡ nat_le lead k → (k + 1 - lead) + 0 ≡ ((k - lead) + o) + 0
      closed k lead o b e f = grind (arith, nat_tests)

  -- the sends of a queue after its sender's next event
  sent_own : (n : ℕ) (turn : Turn) → n < length net.queues → turn.part < length (events net (queue_at net.queues n).from turn.fired)
      → sent_by net n (turn_after (next_event net (queue_at net.queues n).from turn) turn)
      ≡ sent_by net n turn + sent_more (next_event net (queue_at net.queues n).from turn) n
  unfolding sent_by sent_now
  sent_own n turn h within =
      let m : ℕ = (queue_at net.queues n).from in
      let ins : ℕ = length (takes net m turn.fired) in
      let outs : List ℕ = exits net m in
      by_next (λ e. sent_by net n (turn_after e turn) ≡ sent_by net n turn + sent_more e n) m turn
      (λ k. let a : (turn.part + 1) - ins ≡ 0 = omega arith in let b : turn.part - ins ≡ 0 = omega arith
      in ap (λ i. turn.fired + once n (take i outs)) (a ∙ sym b) ∙ omega arith)
      (λ k j. let a : (turn.part + 1) - ins ≡ (turn.part - ins) + 1 = omega arith in
      ap (λ i. turn.fired + once n (take i outs)) a ∙ omega (
        arith,
        once_more n outs (turn.part - ins) (Distinct-exits_among net.queues m (length net.queues))
            (omega arith),
      ))
      (λ k. let all : take (turn.part - ins) outs ≡ outs = take_all (turn.part - ins) outs (omega arith) in
      let full : has n outs ≡ true = has-exits m n ∙ and_from _ _ (lt-ltb n _ h) (eq-eqb m m refl) in
      let none : 0 - length (takes net m (turn.fired + 1)) ≡ 0 = omega arith in
      let nothing : once n (sent_now net m (turn_after Close turn)) ≡ 0 = ap (λ i. once n (take i outs)) none in
      let now : once n (sent_now net m turn) ≡ once n outs = ap (once n) all in
      omega (arith, nothing, now, ap {B = ℕ} (λ b. cond b 1 0) full))

  no_take : (m n : ℕ) (turn : Turn) → ((queue_at net.queues n).to ≢ m) → taken_more (next_event net m turn) n ≡ 0
  no_take m n turn ne =
      by_next (λ e. taken_more e n ≡ 0) m turn
      (λ k. ap (λ b. cond b 1 0) (ne_eqb n _ (λ e. ne (ap (λ x. (queue_at net.queues x).to) e
      ∙ (take_is m turn.fired _ (has-get_or (takes net m turn.fired) turn.part 0 k)).1))))
      (λ k j. refl)
      (λ k. refl)

  no_send : (m n : ℕ) (turn : Turn) → ((queue_at net.queues n).from ≢ m) → sent_more (next_event net m turn) n ≡ 0
  no_send m n turn ne =
      by_next (λ e. sent_more e n ≡ 0) m turn
      (λ k. refl)
      (λ k j. ap (λ b. cond b 1 0) (ne_eqb n _ (λ e. ne (ap (λ x. (queue_at net.queues x).from) e
      ∙ (send_is m _ (has-get_or (exits net m) (turn.part - length (takes net m turn.fired)) 0 (omega arith))).1))))
      (λ k. refl)

  -- the takes of each queue after a module's next event
  pub taken-after : (state : List Turn) (m n : ℕ) → m < length state → n < length net.queues
      → (turn_at state m).part < length (events net m (turn_at state m).fired)
      → taken net (after net state m) n ≡ taken net state n + taken_more (next_event net m (turn_at state m)) n
  unfolding after
  taken-after state m n h j within =
      ⊎_elim
      (λ e. subst (λ x. x < length state → (turn_at state x).part < length (events net x (turn_at state x).fired)
      → taken net (after net state x) n ≡ taken net state n + taken_more (next_event net x (turn_at state x)) n) e
      (λ l w. ap (taken_by net n) (get_or-set_same state (queue_at net.queues n).to _ _ l)
      ∙ taken_own n (turn_at state (queue_at net.queues n).to) j w) h within)
      (λ ne. ap (taken_by net n) (get_or-set_other state m (queue_at net.queues n).to _ _ ne) ∙ omega (arith, no_take m n (turn_at state m) ne))
      (cases_eq (queue_at net.queues n).to m)

  -- the sends of each queue after a module's next event
  pub sent-after : (state : List Turn) (m n : ℕ) → m < length state → n < length net.queues
      → (turn_at state m).part < length (events net m (turn_at state m).fired)
      → sent net (after net state m) n ≡ sent net state n + sent_more (next_event net m (turn_at state m)) n
  unfolding after
  sent-after state m n h j within =
      ⊎_elim
      (λ e. subst (λ x. x < length state → (turn_at state x).part < length (events net x (turn_at state x).fired)
      → sent net (after net state x) n ≡ sent net state n + sent_more (next_event net x (turn_at state x)) n) e
      (λ l w. ap (sent_by net n) (get_or-set_same state (queue_at net.queues n).from _ _ l)
      ∙ sent_own n (turn_at state (queue_at net.queues n).from) j w) h within)
      (λ ne. ap (sent_by net n) (get_or-set_other state m (queue_at net.queues n).from _ _ ne) ∙ omega (arith, no_send m n (turn_at state m) ne))
      (cases_eq (queue_at net.queues n).from m)
