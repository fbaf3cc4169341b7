-- No ring of waits.
use Rattle.std.proofs.Common.{◌≡◌, ◌≢◌, ◌<◌, ◌≤◌, ◌+◌, ◌-◌, ◌*◌, ℕ, zero, suc, Bool, true, false, not, ◌&&◌, cond, List, length, get_or, Option, Some, None, refl, sym, ap, ◌∙◌, subst, ◌⊎◌, inl, inr, ⊎_elim, arith}
use Rattle.std.specs.Prelude.{option_and_then}
use Rattle.std.proofs.Math.Nat.{mul-le-mul_left}
use Rattle.std.proofs.lemmas.Bool.{cases_Bool, cases_lt, cases_eq, ltb-true, ltb-false, lt-ltb, and_parts, and_from, not-true, false≢true}
use Rattle.net_ir.specs.declared.events.Event.{Event}
use Rattle.net_ir.specs.declared.events.Event.TheVariants.{Take, Send, Close}
use Rattle.net_ir.specs.declared.events.Turn.{Turn}
use Rattle.net_ir.specs.Nets.{Net, age_at, queue_at, exits, IsNetwork, IsOrderly}
use Rattle.net_ir.specs.Firings.{takes, firings_at}
use Rattle.net_ir.specs.States.{turn_at, taken, sent, next_event, is_possible, other_end, has_firing, can_step, waits_for, IsLawful}
use Rattle.net_ir.specs.Waits.{progress, Falls, follow, NoRing, GoesOn}
use Rattle.net_ir.proofs.Distinct.{has-get_or}
use Rattle.net_ir.proofs.Effects.{by_next, take_is, send_is}
use Rattle.net_ir.proofs.Steps.{taken_next, sent_next, taken_least, sent_least}

-- a take that waits: the sender has completed few firings
taking : (done sent age_to age_from lead capacity firings to from : ℕ) → sent ≤ done - lead → lead ≤ done → done < firings - age_to → from ≢ to
    → (from < to → (age_from ≤ age_to + lead) × (age_to + lead < age_from + capacity))
    → (to < from → (age_from < age_to + lead) × (age_to + lead ≤ age_from + capacity))
    → (((sent + age_from < done + age_to) ⊎ ((sent + age_from ≤ done + age_to) × (from < to))) × (sent < firings - age_from))
taking done sent age_to age_from lead capacity firings to from few led left apart onward back =
    ⊎_elim (λ h. (inr (omega (arith, onward h), h), omega (arith, onward h)))
    (λ h. let k : to < from = omega arith in (inl (omega (arith, back k)), omega (arith, back k)))
    (cases_lt from to)

-- a send that waits: the receiver has completed few firings
sending : (done taken age_from age_to lead capacity firings from to : ℕ) → (taken - lead) + capacity ≤ done → done < firings - age_from → from ≢ to
    → (from < to → (age_from ≤ age_to + lead) × (age_to + lead < age_from + capacity))
    → (to < from → (age_from < age_to + lead) × (age_to + lead ≤ age_from + capacity))
    → (((taken + age_to < done + age_from) ⊎ ((taken + age_to ≤ done + age_from) × (to < from))) × (taken < firings - age_to))
sending done taken age_from age_to lead capacity firings from to full left apart onward back =
    ⊎_elim (λ h. (inr (omega (arith, back h), h), omega (arith, back h)))
    (λ h. let k : from < to = omega arith in (inl (omega (arith, onward k)), omega (arith, onward k)))
    (cases_lt to from)

Some-same : {a b : ℕ} → Some a ≡ Some b → a ≡ b
Some-same {a} {b} e = cc

module _ (net : Net) (firings : ℕ) (network : IsNetwork net) (orderly : IsOrderly net) (state : List Turn) (lawful : IsLawful net firings state) where
  -- what is known of the module that another waits for
  abbrev pub Waited : ℕ → ℕ → Type 0
  Waited m n = (n < length net.modules) × Falls net state m n × ((turn_at state n).fired < firings_at net firings n)

  -- a wait falls, and ends at a module with a firing left
  wait_falls : (m n : ℕ) → (turn_at state m).fired < firings_at net firings m → is_possible net state (next_event net m (turn_at state m)) ≡ false
      → other_end net (next_event net m (turn_at state m)) ≡ Some n → Waited m n
  unfolding is_possible
  wait_falls m n left =
      let turn : Turn = turn_at state m in
      by_next net (λ e. is_possible net state e ≡ false → other_end net e ≡ Some n → Waited m n) m turn
      (λ k stuck end.
      let x : ℕ = get_or (takes net m turn.fired) turn.part 0 in
      let is = take_is net m turn.fired x (has-get_or (takes net m turn.fired) turn.part 0 k) in
      let from : (queue_at net.queues x).from ≡ n = Some-same end in
      let fit = orderly x is.0 in
      let few : (turn_at state n).fired ≤ turn.fired - (queue_at net.queues x).lead =
      subst (λ y. (turn_at state y).fired ≤ turn.fired - (queue_at net.queues x).lead) from
      (omega (arith, sent_least net state x, taken_next net state m turn.part x is.1 refl k refl, ltb-false _ _ stuck)) in
      let apart : n ≢ m = (λ e. network.ends x is.0 (from ∙ e ∙ sym is.1)) in
      let r = taking turn.fired (turn_at state n).fired (age_at net m) (age_at net n) (queue_at net.queues x).lead
      (queue_at net.queues x).capacity firings m n few is.2 left apart
      (λ h. at_ends (λ f t. f < t → (age_at net f ≤ age_at net t + (queue_at net.queues x).lead)
      × (age_at net t + (queue_at net.queues x).lead < age_at net f + (queue_at net.queues x).capacity)) from is.1 fit.onward h)
      (λ h. at_ends (λ f t. t < f → (age_at net f < age_at net t + (queue_at net.queues x).lead)
      × (age_at net t + (queue_at net.queues x).lead ≤ age_at net f + (queue_at net.queues x).capacity)) from is.1 fit.back h) in
      (subst (λ y. y < length net.modules) from (network.from x is.0), r.0, r.1))
      (λ j k stuck end.
      let x : ℕ = get_or (exits net m) (turn.part - length (takes net m turn.fired)) 0 in
      let is = send_is net m x (has-get_or (exits net m) (turn.part - length (takes net m turn.fired)) 0 (omega arith)) in
      let to : (queue_at net.queues x).to ≡ n = Some-same end in
      let fit = orderly x is.0 in
      let full : ((turn_at state n).fired - (queue_at net.queues x).lead) + (queue_at net.queues x).capacity ≤ turn.fired =
      subst (λ y. ((turn_at state y).fired - (queue_at net.queues x).lead) + (queue_at net.queues x).capacity ≤ turn.fired) to
      (omega (
        arith,
        taken_least net state x,
        sent_next net state m (turn.part - length (takes net m turn.fired)) x is.1 refl (omega arith)
            refl,
        ltb-false _ _ stuck,
      )) in
      let apart : m ≢ n = (λ e. network.ends x is.0 (is.1 ∙ e ∙ sym to)) in
      let r = sending turn.fired (turn_at state n).fired (age_at net m) (age_at net n) (queue_at net.queues x).lead
      (queue_at net.queues x).capacity firings m n full left apart
      (λ h. at_ends (λ f t. f < t → (age_at net f ≤ age_at net t + (queue_at net.queues x).lead)
      × (age_at net t + (queue_at net.queues x).lead < age_at net f + (queue_at net.queues x).capacity)) is.1 to fit.onward h)
      (λ h. at_ends (λ f t. t < f → (age_at net f < age_at net t + (queue_at net.queues x).lead)
      × (age_at net t + (queue_at net.queues x).lead ≤ age_at net f + (queue_at net.queues x).capacity)) is.1 to fit.back h) in
      (subst (λ y. y < length net.modules) to (network.to x is.0), r.0, r.1))
      (λ k stuck end. absurd (false≢true (sym stuck)))
    where
      at_ends : (P : ℕ → ℕ → Type 0) {f f' t t' : ℕ} → f ≡ f' → t ≡ t' → P f t → P f' t'
      at_ends P {f} {f'} {t} {t'} e k p = subst (P f') k (subst (λ y. P y t) e p)

  -- what a wait says
  pub waits_is : (m n : ℕ) → waits_for net firings state m ≡ Some n → Waited m n
  unfolding waits_for
  waits_is m n e =
      let turn : Turn = turn_at state m in
      ⊎_elim
      (λ b. let p = and_parts _ _ b in wait_falls m n (ltb-true _ _ p.0) (not-true _ p.1)
      (ap (λ c. cond c (other_end net (next_event net m turn)) None) (sym b) ∙ e))
      (λ b. absurd (none_some (ap (λ c. cond c (other_end net (next_event net m turn)) None) (sym b) ∙ e)))
      (cases_Bool (has_firing net firings state m && not (is_possible net state (next_event net m turn))))
    where
      none_some : {n : ℕ} → None ≡ Some n → ⊥
      none_some {n} e = cc

  then_Some : (o : Option ℕ) (f : ℕ → Option ℕ) (j : ℕ) → option_and_then f o ≡ Some j → (i : ℕ) × (o ≡ Some i) × (f i ≡ Some j)
  then_Some None f j e = cc
  then_Some (Some i) f j e = (i, refl, e)

  falls_on : (m i j : ℕ) → Falls net state m i → Falls net state i j → Falls net state m j
  falls_on m i j a b =
      ⊎_elim
      (λ x. ⊎_elim (λ y. inl (omega arith)) (λ y. inl (omega (arith, y.0))) b)
      (λ x. ⊎_elim (λ y. inl (omega (arith, x.0))) (λ y. inr (omega (arith, x.0, y.0), omega (arith, x.1, y.1))) b)
      a

  follow_falls : (n m j : ℕ) → follow net firings state (suc n) m ≡ Some j → Falls net state m j
  unfolding follow
  follow_falls zero m j e = (waits_is m j e).1
  follow_falls (suc n) m j e =
      let r = then_Some (follow net firings state (suc n) m) (waits_for net firings state) j e in
      falls_on m r.0 j (follow_falls n m r.0 r.1) (waits_is r.0 j r.2).1

  pub no_ring : NoRing net firings state
  no_ring m n h e =
      ⊎_elim (λ x. omega arith) (λ x. omega (arith, x.1)) (follow_falls n m m e)

  has_end : (e : Event) → is_possible net state e ≡ false → (n : ℕ) × (other_end net e ≡ Some n)
  unfolding is_possible
  has_end (Take x) p = ((queue_at net.queues x).from, refl)
  has_end (Send x) p = ((queue_at net.queues x).to, refl)
  has_end Close p = absurd (false≢true (sym p))

  rank_falls : (size a b m n : ℕ) → n < size → ((a < b) ⊎ ((a ≤ b) × (n < m))) → size * a + n < size * b + m
  rank_falls size a b m n h f =
      ⊎_elim
      (λ x. let more : a + 1 ≤ b = omega arith in omega (arith, mul-le-mul_left size more))
      (λ x. omega (arith, mul-le-mul_left size x.0, x.1))
      f

  walk : (fuel m : ℕ) → m < length net.modules → (turn_at state m).fired < firings_at net firings m → length net.modules * progress net state m + m < fuel
      → (j : ℕ) × (j < length net.modules) × (can_step net firings state j ≡ true)
  unfolding can_step
  walk zero m h left f = absurd (omega arith)
  walk (suc fuel) m h left f =
      ⊎_elim
      (λ p. (m, h, and_from _ _ (lt-ltb _ _ left) p))
      (λ p. let end = has_end (next_event net m (turn_at state m)) p in
      let w = wait_falls m end.0 left p end.1 in
      walk fuel end.0 w.0 w.2 (omega (arith, rank_falls (length net.modules) (progress net state end.0) (progress net state m) m end.0 w.0 w.1)))
      (cases_Bool (is_possible net state (next_event net m (turn_at state m))))

  search_for : (test : ℕ → Bool) (n : ℕ) → ((m : ℕ) → m < n → test m ≡ false) ⊎ ((m : ℕ) × (m < n) × (test m ≡ true))
  search_for test zero = inl (λ m h. absurd (omega arith))
  search_for test (suc n) =
      ⊎_elim
      (λ none. ⊎_elim
      (λ b. inr (n, omega arith, b))
      (λ b. inl (λ m h. ⊎_elim (λ e. ap test e ∙ b) (λ ne. none m (omega arith)) (cases_eq m n)))
      (cases_Bool (test n)))
      (λ some. inr (some.0, omega (arith, some.1), some.2))
      (search_for test n)

  pub goes_on : GoesOn net firings state
  goes_on =
      ⊎_elim
      (λ none. inl (λ m h. omega (arith, ltb-false _ _ (none m h), (lawful.turns m h).completed)))
      (λ some. inr (walk (length net.modules * progress net state some.0 + some.0 + 1) some.0 some.1 (ltb-true _ _ some.2) (omega arith)))
      (search_for (has_firing net firings state) (length net.modules))
