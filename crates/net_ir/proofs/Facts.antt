-- What the machine's calls rest on.
use Rattle.std.proofs.Common.{◌≡◌, ◌≢◌, ◌<◌, ◌≤◌, ◌+◌, ◌-◌, ◌^◌, ◌↔◌, nat_lt, nat_le, nat_eq, ℕ, Bool, true, false, not, ◌&&◌, cond, List, length, map, set, Option, None, IsNone, refl, sym, ap, ◌∙◌, subst, ◌⊎◌, inl, inr, ⊎_elim, arith, get_or-set_other}
use Rattle.std.specs.List.{list_any}
use Rattle.std.proofs.lemmas.Bool.{cases_Bool, cases_lt, cases_eq, ltb-true, lt-ltb, le-ltb, and_parts, and_from, and_left, not_from_true, not_from_false, false≢true}
use Rattle.std.proofs.lemmas.Bool.Decides.{nat_tests}
use Rattle.std.proofs.lemmas.List.Sums.{count_by-le-length, length-filter}
use Rattle.net_ir.specs.declared.network.Module.{Module}
use Rattle.net_ir.specs.declared.network.Queue.{Queue}
use Rattle.net_ir.specs.declared.events.Event.{Event}
use Rattle.net_ir.specs.declared.events.Event.TheVariants.{Take, Send, Close}
use Rattle.net_ir.specs.declared.events.Turn.{Turn}
use Rattle.net_ir.specs.Nets.{Net, queue_at, entrances, exits, IsNetwork}
use Rattle.net_ir.specs.Firings.{takes, firings_at}
use Rattle.net_ir.specs.States.{unmoved, turn_at, once, taken_by, sent_by, taken_now, sent_now, taken, sent, next_event, turn_after, after, is_possible, other_end, has_firing, can_step, waits_for, IsKnown, IsTurn, IsEvent, IsLawful}
use Rattle.net_ir.proofs.Distinct.{has-get_or}
use Rattle.net_ir.proofs.Effects.{by_next, take_is, send_is}
use Rattle.net_ir.proofs.Steps.{taken_between, sent_between, IsLawful-after, possible_if_lawful, IsLawful-zeros}

pub lawful_on : (net net' : Net) (firings : ℕ) (state : List Turn) → net ≡ net' → IsLawful net firings state → IsLawful net' firings state
lawful_on net net' firings state e l = subst (λ n. IsLawful n firings state) e l

pub start_lawful : (modules : List Module) (queues : List Queue) (from : List Module) (firings : ℕ) (state : List Turn) → modules ≡ from
    → state ≡ map (λ _. unmoved) from → IsLawful (record { modules = modules; queues = queues }) firings state
start_lawful modules queues from firings state m t =
    subst (IsLawful (record { modules = modules; queues = queues }) firings) (sym (t ∙ ap (map (λ (_ : Module). unmoved)) (sym m)))
    (IsLawful-zeros (record { modules = modules; queues = queues }) firings)

at_most_one : (n : ℕ) (ns : List ℕ) → once n ns ≤ 1
at_most_one n ns = at_most (list_any (nat_eq n) ns)
  where
    at_most : (b : Bool) → cond b 1 0 ≤ 1
    at_most true = omega arith
    at_most false = omega arith

-- the takes and the sends of a queue are no more than the firings
pub taken_fits : (net : Net) (firings m n : ℕ) (turn : Turn) → IsTurn net firings m turn → taken_by net n turn ≤ firings
unfolding taken_by
taken_fits net firings m n turn is =
    ⊎_elim
    (λ e. omega (arith, taken_between net n turn e, is.completed))
    (λ ne. let more : turn.fired < firings_at net firings m = ⊎_elim (λ h. h) (λ h. absurd (ne (is.over (omega (arith, is.completed)))))
    (cases_lt turn.fired (firings_at net firings m)) in
    omega (arith, at_most_one n (taken_now net (queue_at net.queues n).to turn)))
    (cases_eq turn.part 0)

pub sent_fits : (net : Net) (firings m n : ℕ) (turn : Turn) → IsTurn net firings m turn → sent_by net n turn ≤ firings
unfolding sent_by
sent_fits net firings m n turn is =
    ⊎_elim
    (λ e. omega (arith, sent_between net n turn e, is.completed))
    (λ ne. let more : turn.fired < firings_at net firings m = ⊎_elim (λ h. h) (λ h. absurd (ne (is.over (omega (arith, is.completed)))))
    (cases_lt turn.fired (firings_at net firings m)) in
    omega (arith, at_most_one n (sent_now net (queue_at net.queues n).from turn)))
    (cases_eq turn.part 0)

module _ (net : Net) where
  pub IsKnown-next : (m : ℕ) (turn : Turn) → IsKnown net (next_event net m turn)
  IsKnown-next m turn =
      by_next net (IsKnown net) m turn
      (λ k. (take_is net m turn.fired _ (has-get_or (takes net m turn.fired) turn.part 0 k)).0)
      (λ j k. (send_is net m _ (has-get_or (exits net m) (turn.part - length (takes net m turn.fired)) 0 (omega arith))).0)
      (λ k. tt)

  takes_few : (m k : ℕ) → length (takes net m k) ≤ length (entrances net m)
  unfolding takes
  takes_few m k = omega (
    arith,
    length-filter (λ q. nat_le (queue_at net.queues q).lead k) (entrances net m),
    count_by-le-length
        (λ q. nat_le (queue_at net.queues q).lead k) (entrances net m),
  )

  pub part_fits : (m : ℕ) (turn : Turn) → length (entrances net m) + length (exits net m) ≤ length net.queues → length net.queues < 2 ^ 32
      → (next_event net m turn ≡ Close → ⊥) → turn.part + 1 < 2 ^ 32
  part_fits m turn few small =
      by_next net (λ e. (e ≡ Close → ⊥) → turn.part + 1 < 2 ^ 32) m turn
      (λ k ne. omega (arith, takes_few m turn.fired))
      (λ j k ne. omega (arith, takes_few m turn.fired))
      (λ k ne. absurd (ne refl))

  pub after_is : (state : List Turn) (m : ℕ) (turn next : Turn) (event : Event) → turn ≡ turn_at state m → event ≡ next_event net m turn
      → next ≡ turn_after event turn → set state m next ≡ after net state m
  unfolding after
  after_is state m turn next event t e n =
      ap (set state m) (n ∙ ap (λ x. turn_after x turn) e ∙ ap (λ x. turn_after (next_event net m x) x) t)

  pub elsewhere-after : (state : List Turn) (m n : ℕ) → n ≢ m → turn_at (after net state m) n ≡ turn_at state n
  unfolding after
  elsewhere-after state m n ne = get_or-set_other state m n _ _ ne

  pub possible_send : (state : List Turn) (n t s capacity : ℕ) → t ≡ taken net state n → s ≡ sent net state n → capacity ≡ (queue_at net.queues n).capacity
      → t ≤ s → nat_lt (s - t) capacity ≡ is_possible net state (Send n)
  unfolding is_possible
  possible_send state n t s capacity a b c h =
      less s t capacity h ∙ ap (λ x. nat_lt x (t + capacity)) b ∙ ap (λ x. nat_lt (sent net state n) (x + capacity)) a
      ∙ ap (λ x. nat_lt (sent net state n) (taken net state n + x)) c
    where
      less : (s t c : ℕ) → t ≤ s → nat_lt (s - t) c ≡ nat_lt s (t + c)
      less s t c h = grind (arith, nat_tests)

  pub possible_take : (state : List Turn) (n t s : ℕ) → t ≡ taken net state n → s ≡ sent net state n → nat_lt t s ≡ is_possible net state (Take n)
  unfolding is_possible
  possible_take state n t s a b = ap (λ x. nat_lt x s) a ∙ ap (λ x. nat_lt (taken net state n) x) b

  pub possible_close : (state : List Turn) → true ≡ is_possible net state Close
  unfolding is_possible
  possible_close state = refl

module _ (net : Net) (firings : ℕ) (state : List Turn) (m : ℕ) where
  pub can_parts : can_step net firings state m ≡ true → ((turn_at state m).fired < firings_at net firings m)
      × (is_possible net state (next_event net m (turn_at state m)) ≡ true)
  unfolding can_step
  can_parts e = let p = and_parts _ _ e in (ltb-true _ _ p.0, p.1)

  pub can_from : (turn : Turn) (event : Event) (left b : Bool) → turn ≡ turn_at state m → event ≡ next_event net m turn
      → left ≡ nat_lt turn.fired (firings_at net firings m) → b ≡ is_possible net state event → (left && b) ≡ can_step net firings state m
  unfolding can_step
  can_from turn event left b t e l h =
      ap (λ x. x && b) l ∙ ap (λ (x : Turn). nat_lt x.fired (firings_at net firings m) && b) t
      ∙ ap (λ x. has_firing net firings state m && x) (h ∙ ap (is_possible net state) e ∙ ap (λ x. is_possible net state (next_event net m x)) t)

  pub cannot : (turn : Turn) (b : Bool) → turn ≡ turn_at state m → firings_at net firings m ≤ turn.fired → b ≡ false → b ≡ can_step net firings state m
  unfolding can_step
  cannot turn b t h e =
      e ∙ sym (and_left _ _ (le-ltb _ _ (subst (λ (x : Turn). firings_at net firings m ≤ x.fired) t h)))

  -- a module can step exactly where its next event is an event of the machine
  pub can_step_iff : IsNetwork net → IsLawful net firings state → m < length net.modules → (can_step net firings state m ≡ true) ↔ IsEvent net firings state m
  unfolding can_step
  can_step_iff network lawful h = (
    (λ e. let p = and_parts _ _ e in record { left = ltb-true _ _ p.0; lawful = IsLawful-after net firings state m lawful h (ltb-true _ _ p.0) p.1 }),
    (λ e. and_from _ _ (lt-ltb _ _ e.left) (possible_if_lawful net firings state m network lawful h e.lawful)),
  )

  abbrev next : Event
  next = next_event net m (turn_at state m)

  waits_on : (b : Bool) → (has_firing net firings state m && not (is_possible net state next)) ≡ b
      → waits_for net firings state m ≡ cond b (other_end net next) None
  unfolding waits_for
  waits_on b e = ap (λ c. cond c (other_end net next) None) e

  waits_none : (has_firing net firings state m && not (is_possible net state next)) ≡ false → None ≡ waits_for net firings state m
  waits_none e = sym (waits_on false e)

  pub waits_gone : (turn : Turn) → turn ≡ turn_at state m → firings_at net firings m ≤ turn.fired → None ≡ waits_for net firings state m
  waits_gone turn t h =
      waits_none (and_left _ _ (le-ltb _ _ (subst (λ (x : Turn). firings_at net firings m ≤ x.fired) t h)))

  and_no : (a b : Bool) → b ≡ true → (a && not b) ≡ false
  and_no true b e = not_from_true b e
  and_no false b e = refl

  same_next : (turn : Turn) (event : Event) → turn ≡ turn_at state m → event ≡ next_event net m turn → event ≡ next
  same_next turn event t e = e ∙ ap (next_event net m) t

  pub waits_able : (turn : Turn) (event : Event) (b : Bool) → turn ≡ turn_at state m → event ≡ next_event net m turn → b ≡ is_possible net state event
      → b ≡ true → None ≡ waits_for net firings state m
  waits_able turn event b t e h y =
      waits_none (and_no (has_firing net firings state m) _ (sym (ap (is_possible net state) (same_next turn event t e)) ∙ sym h ∙ y))

  pub waits_end : (turn : Turn) (event : Event) (b : Bool) (o : Option ℕ) → turn ≡ turn_at state m → event ≡ next_event net m turn
      → turn.fired < firings_at net firings m → b ≡ is_possible net state event → b ≡ false → o ≡ other_end net event → o ≡ waits_for net firings state m
  waits_end turn event b o t e left h y k =
      k ∙ ap (other_end net) (same_next turn event t e)
      ∙ sym (waits_on true (and_from _ _ (lt-ltb _ _ (subst (λ (x : Turn). x.fired < firings_at net firings m) t left))
      (not_from_false _ (sym (ap (is_possible net state) (same_next turn event t e)) ∙ sym h ∙ y))))

  has_no_end : (e : Event) → IsNone (other_end net e) → is_possible net state e ≡ true
  unfolding is_possible
  has_no_end (Take n) h = absurd (false≢true (sym h))
  has_no_end (Send n) h = absurd (false≢true (sym h))
  has_no_end Close h = refl

  -- a module waits for none exactly where it has no firing left or can step
  pub waits_none_iff : (o : Option ℕ) → o ≡ waits_for net firings state m
      → IsNone o ↔ ((has_firing net firings state m ≡ false) ⊎ (can_step net firings state m ≡ true))
  unfolding can_step
  waits_none_iff o is = (
    (λ n. let none : IsNone (waits_for net firings state m) = subst IsNone is n in
        ⊎_elim
        (λ left. inr (and_from _ _ left (⊎_elim (λ p. p)
        (λ p. has_no_end next (subst IsNone (waits_on true (and_from _ _ left (not_from_false _ p))) none))
        (cases_Bool (is_possible net state next)))))
        (λ gone. inl gone)
        (cases_Bool (has_firing net firings state m))),
    (λ s. subst IsNone (waits_none
        (⊎_elim (λ gone. and_left _ _ gone) (λ can. and_no (has_firing net firings state m) _ (and_parts _ _ can).1) s) ∙ sym is) refl),
  )
