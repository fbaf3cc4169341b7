-- Events keep states lawful.
use Rattle.std.proofs.Common.{◌≡◌, ◌<◌, ◌≤◌, ◌+◌, ◌-◌, ℕ, true, false, cond, nat_eq, List, [], ◌∷◌, length, length-set, take, get_or, set, map, refl, sym, ap, ◌∙◌, subst, ⊎_elim, arith, get_or-set_same, get_or-set_other}
use Rattle.std.proofs.lemmas.Bool.{cases_Bool, cases_lt, cases_eq, eqb-true, eq-eqb, ltb-true, lt-ltb, and_parts}
use Rattle.std.proofs.lemmas.List.{get_or-map, length-map, get_or_past}
use Rattle.net_ir.specs.declared.network.Module.{Module}
use Rattle.net_ir.specs.declared.network.Module.TheVariants.{Sink}
use Rattle.net_ir.specs.declared.events.Event.{Event}
use Rattle.net_ir.specs.declared.events.Event.TheVariants.{Take, Send, Close}
use Rattle.net_ir.specs.declared.events.Turn.{Turn}
use Rattle.net_ir.specs.Nets.{Net, queue_at, exits, IsNetwork}
use Rattle.net_ir.specs.Firings.{takes, events, firings_at}
use Rattle.net_ir.specs.States.{turn_at, unmoved, once, taken_by, sent_by, taken_now, sent_now, taken, sent, next_event, turn_after, after, is_possible, IsTurn, IsLawful, zeros, can_step, Run}
use Rattle.net_ir.proofs.Distinct.{has, has-get_or, lacks-before}
use Rattle.net_ir.proofs.Ends.{Distinct-exits_among}
use Rattle.net_ir.proofs.Effects.{taken_more, sent_more, taken-after, sent-after, by_next, length-events, take_is, send_is, Distinct-takes}

-- a module between two firings
pub taken_between : (net : Net) (n : ℕ) (turn : Turn) → turn.part ≡ 0 → taken_by net n turn ≡ turn.fired - (queue_at net.queues n).lead
unfolding taken_by taken_now
taken_between net n turn e =
    let nothing : once n (taken_now net (queue_at net.queues n).to turn) ≡ 0 = ap (λ i. once n (take i (takes net (queue_at net.queues n).to turn.fired))) e in
    omega (arith, nothing)

pub sent_between : (net : Net) (n : ℕ) (turn : Turn) → turn.part ≡ 0 → sent_by net n turn ≡ turn.fired
unfolding sent_by sent_now
sent_between net n turn e =
    let none : turn.part - length (takes net (queue_at net.queues n).from turn.fired) ≡ 0 = omega arith in
    let nothing : once n (sent_now net (queue_at net.queues n).from turn) ≡ 0 = ap (λ i. once n (take i (exits net (queue_at net.queues n).from))) none in
    omega (arith, nothing)

module _ (net : Net) (state : List Turn) where
  -- the takes of a queue whose take is its receiver's next event
  pub taken_next : (m i n : ℕ) → (queue_at net.queues n).to ≡ m → i ≡ (turn_at state m).part → i < length (takes net m (turn_at state m).fired)
      → n ≡ get_or (takes net m (turn_at state m).fired) i 0 → taken net state n ≡ (turn_at state m).fired - (queue_at net.queues n).lead
  unfolding taken_by taken_now
  taken_next m i n e at h is =
      let turn : Turn = turn_at state m in
      let ins : List ℕ = takes net m turn.fired in
      let lacks : has n (take i ins) ≡ false = subst (λ x. has x (take i ins) ≡ false) (sym is) (lacks-before ins i 0 (Distinct-takes net m turn.fired) h) in
      let now : has n (take turn.part ins) ≡ false = subst (λ j. has n (take j ins) ≡ false) at lacks in
      let nothing : once n (taken_now net m turn) ≡ 0 = ap {B = ℕ} (λ b. cond b 1 0) now in
      let here : taken_by net n turn ≡ turn.fired - (queue_at net.queues n).lead =
      ap (λ x. (turn.fired - (queue_at net.queues n).lead) + once n (taken_now net x turn)) e ∙ omega (arith, nothing) in
      ap (λ x. taken_by net n (turn_at state x)) e ∙ here

  -- the sends of a queue whose send is its sender's next event
  pub sent_next : (m i n : ℕ) → (queue_at net.queues n).from ≡ m → i ≡ (turn_at state m).part - length (takes net m (turn_at state m).fired)
      → i < length (exits net m) → n ≡ get_or (exits net m) i 0 → sent net state n ≡ (turn_at state m).fired
  unfolding sent_by sent_now
  sent_next m i n e at h is =
      let turn : Turn = turn_at state m in
      let outs : List ℕ = exits net m in
      let lacks : has n (take i outs) ≡ false = subst (λ x. has x (take i outs) ≡ false) (sym is)
      (lacks-before outs i 0 (Distinct-exits_among net.queues m (length net.queues)) h) in
      let now : has n (take (turn.part - length (takes net m turn.fired)) outs) ≡ false = subst (λ j. has n (take j outs) ≡ false) at lacks in
      let nothing : once n (sent_now net m turn) ≡ 0 = ap {B = ℕ} (λ b. cond b 1 0) now in
      let here : sent_by net n turn ≡ turn.fired = ap (λ x. turn.fired + once n (sent_now net x turn)) e ∙ omega (arith, nothing) in
      ap (λ x. sent_by net n (turn_at state x)) e ∙ here

  pub taken_least : (n : ℕ) → (turn_at state (queue_at net.queues n).to).fired - (queue_at net.queues n).lead ≤ taken net state n
  unfolding taken_by
  taken_least n = omega arith

  pub sent_least : (n : ℕ) → (turn_at state (queue_at net.queues n).from).fired ≤ sent net state n
  unfolding sent_by
  sent_least n = omega arith

module _ (net : Net) (firings : ℕ) where
  IsTurn-after : (m : ℕ) (turn : Turn) → turn.fired < firings_at net firings m → turn.part < length (events net m turn.fired)
      → IsTurn net firings m (turn_after (next_event net m turn) turn)
  IsTurn-after m turn left within =
      by_next net (λ e. IsTurn net firings m (turn_after e turn)) m turn
      (λ k. record { completed = omega arith; running = omega (arith, length-events net m turn.fired); over = λ e. absurd (omega arith) })
      (λ j k. record { completed = omega arith; running = omega (arith, length-events net m turn.fired); over = λ e. absurd (omega arith) })
      (λ k. record { completed = omega arith; running = omega (arith, length-events net m (turn.fired + 1)); over = λ e. refl })

  low_kept : (state : List Turn) (e : Event) (n : ℕ) → is_possible net state e ≡ true → taken net state n ≤ sent net state n
      → taken net state n + taken_more e n ≤ sent net state n + sent_more e n
  unfolding is_possible
  low_kept state (Take x) n p h =
      ⊎_elim
      (λ e. let now : taken net state n < sent net state n = subst (λ y. taken net state y < sent net state y) (sym (eqb-true n x e)) (ltb-true _ _ p)
      in omega (arith, ap {B = ℕ} (λ b. cond b 1 0) e))
      (λ e. omega (arith, ap {B = ℕ} (λ b. cond b 1 0) e))
      (cases_Bool (nat_eq n x))
  low_kept state (Send x) n p h = omega arith
  low_kept state Close n p h = omega arith

  high_kept : (state : List Turn) (e : Event) (n : ℕ) → is_possible net state e ≡ true → sent net state n ≤ taken net state n + (queue_at net.queues n).capacity
      → sent net state n + sent_more e n ≤ (taken net state n + taken_more e n) + (queue_at net.queues n).capacity
  unfolding is_possible
  high_kept state (Take x) n p h = omega arith
  high_kept state (Send x) n p h =
      ⊎_elim
      (λ e. let now : sent net state n < taken net state n + (queue_at net.queues n).capacity = subst
      (λ y. sent net state y < taken net state y + (queue_at net.queues y).capacity) (sym (eqb-true n x e)) (ltb-true _ _ p)
      in omega (arith, ap {B = ℕ} (λ b. cond b 1 0) e))
      (λ e. omega (arith, ap {B = ℕ} (λ b. cond b 1 0) e))
      (cases_Bool (nat_eq n x))
  high_kept state Close n p h = omega arith

  -- the turns in a state where one was replaced
  pub turns-set : (state : List Turn) (m : ℕ) (turn : Turn) → m < length state → ((n : ℕ) → n < length net.modules → IsTurn net firings n (turn_at state n))
      → IsTurn net firings m turn → (n : ℕ) → n < length net.modules → IsTurn net firings n (turn_at (set state m turn) n)
  turns-set state m turn h all new n k =
      ⊎_elim
      (λ e. subst (λ x. IsTurn net firings x (turn_at (set state m turn) x)) (sym e)
      (subst (IsTurn net firings m) (sym (get_or-set_same state m turn unmoved h)) new))
      (λ ne. subst (IsTurn net firings n) (sym (get_or-set_other state m n turn unmoved ne)) (all n k))
      (cases_eq n m)

  -- a possible event keeps a state lawful
  pub IsLawful-after : (state : List Turn) (m : ℕ) → IsLawful net firings state → m < length net.modules → (turn_at state m).fired < firings_at net firings m
      → is_possible net state (next_event net m (turn_at state m)) ≡ true → IsLawful net firings (after net state m)
  unfolding after
  IsLawful-after state m l h left p =
      let within : m < length state = omega (arith, l.whole) in
      let running : (turn_at state m).part < length (events net m (turn_at state m).fired) = (l.turns m h).running in
      record {
        whole = length-set state m _ ∙ l.whole;
        turns = turns-set state m _ within l.turns (IsTurn-after m (turn_at state m) left running);
        low = λ n k. omega (
          arith,
          taken-after net state m n within k running,
          sent-after net state m n within k running,
          low_kept state
              (next_event net m (turn_at state m)) n p (l.low n k),
        );
        high = λ n k. omega (
          arith,
          taken-after net state m n within k running,
          sent-after net state m n within k running,
          high_kept state
              (next_event net m (turn_at state m)) n p (l.high n k),
        );
      }

  -- an event after which the state is lawful is possible
  pub possible_if_lawful : (state : List Turn) (m : ℕ) → IsNetwork net → IsLawful net firings state → m < length net.modules
      → IsLawful net firings (after net state m) → is_possible net state (next_event net m (turn_at state m)) ≡ true
  unfolding is_possible
  possible_if_lawful state m network l h new =
      let within : m < length state = omega (arith, l.whole) in
      let turn : Turn = turn_at state m in
      let running : turn.part < length (events net m turn.fired) = (l.turns m h).running in
      by_next net (λ e. ((n : ℕ) → n < length net.queues → taken net state n + taken_more e n ≤ sent net state n + sent_more e n)
      → ((n : ℕ) → n < length net.queues → sent net state n + sent_more e n ≤ (taken net state n + taken_more e n) + (queue_at net.queues n).capacity)
      → is_possible net state e ≡ true) m turn
      (λ k low high. let x : ℕ = get_or (takes net m turn.fired) turn.part 0 in
      let q = (take_is net m turn.fired x (has-get_or (takes net m turn.fired) turn.part 0 k)).0 in
      lt-ltb (taken net state x) (sent net state x) (omega (arith, low x q, ap {B = ℕ} (λ b. cond b 1 0) (eq-eqb x x refl))))
      (λ j k low high. let x : ℕ = get_or (exits net m) (turn.part - length (takes net m turn.fired)) 0 in
      let q = (send_is net m x (has-get_or (exits net m) (turn.part - length (takes net m turn.fired)) 0 (omega arith))).0 in
      lt-ltb (sent net state x) (taken net state x + (queue_at net.queues x).capacity)
      (omega (arith, high x q, ap {B = ℕ} (λ b. cond b 1 0) (eq-eqb x x refl))))
      (λ k low high. refl)
      (λ n k. omega (arith, taken-after net state m n within k running, sent-after net state m n within k running, new.low n k))
      (λ n k. omega (arith, taken-after net state m n within k running, sent-after net state m n within k running, new.high n k))

  pub turn_at-zeros : (modules : List Module) (m : ℕ) → turn_at (map (λ _. unmoved) modules) m ≡ unmoved
  turn_at-zeros modules m =
      ⊎_elim
      (λ h. get_or-map (λ (_ : Module). unmoved) modules m (Sink 0) unmoved h)
      (λ h. get_or_past (map (λ (_ : Module). unmoved) modules) m unmoved (omega (arith, length-map modules (λ (_ : Module). unmoved))))
      (cases_lt m (length modules))

  -- the state of zeros is lawful
  pub IsLawful-zeros : IsLawful net firings (zeros net)
  IsLawful-zeros = record {
    whole = length-map net.modules (λ (_ : Module). unmoved);
    turns = λ m h. subst (IsTurn net firings m) (sym (turn_at-zeros net.modules m))
        (record { completed = omega arith; running = omega (arith, length-events net m 0); over = λ e. refl });
    low = λ n h. omega (arith, none n, nothing n);
    high = λ n h. omega (arith, none n, nothing n);
  }
    where
      none : (n : ℕ) → taken net (zeros net) n ≡ 0
      none n = ap (taken_by net n) (turn_at-zeros net.modules (queue_at net.queues n).to) ∙ taken_between net n unmoved refl ∙ omega arith

      nothing : (n : ℕ) → sent net (zeros net) n ≡ 0
      nothing n = ap (sent_by net n) (turn_at-zeros net.modules (queue_at net.queues n).from) ∙ sent_between net n unmoved refl

  -- every state of a run is lawful
  pub IsLawful-run : (ms : List ℕ) (state end : List Turn) → IsLawful net firings state → Run net firings state ms end → IsLawful net firings end
  unfolding can_step
  IsLawful-run [] state end l r = subst (IsLawful net firings) (sym r) l
  IsLawful-run (m ∷ ms) state end l r =
      let p = and_parts _ _ r.1 in
      IsLawful-run ms (after net state m) end (IsLawful-after state m l r.0 (ltb-true _ _ p.0) p.1) r.2
