-- What can fire when no module is in the midst of a firing.
use Rattle.std.proofs.Common.{◌≡◌, ◌+◌, ◌↔◌, ℕ, Bool, true, false, not, List, length, get_or, refl, sym, ap, ◌∙◌, subst, arith}
use Rattle.std.proofs.Math.ListN.{get_or-map}
use Rattle.std.specs.List.{list_all}
use Rattle.std.proofs.lemmas.Bool.{ltb-true, lt-ltb, le-leb, eq-eqb, and_parts, and_from, not_from_false}
use Rattle.net_ir.specs.declared.events.Event.TheVariants.{Take, Send}
use Rattle.net_ir.specs.declared.events.Turn.{Turn}
use Rattle.net_ir.specs.Nets.{Net, queue_at, exits}
use Rattle.net_ir.specs.Firings.{firings_at, events}
use Rattle.net_ir.specs.Firings as firings_of
use Rattle.net_ir.specs.States.{turn_at, taken_by, sent_by, taken, sent, is_possible}
use Rattle.net_ir.specs.CycleRun.{fires}
use Rattle.net_ir.proofs.CallerLemmas.{all_events, all_from_has, event_parts, has-exits_among, has-takes, passes_at, send_is, sent_between, take_is, taken_between}
use Rattle.net_cycles.specs.Between.{whole, between, sends, takes, CanFire}

pub turn_between : (fired : List ℕ) (m : ℕ) → turn_at (between fired) m ≡ whole (get_or fired m 0)
turn_between fired m = get_or-map whole fired m 0

-- the sends of a queue by the firings of its sender
pub sent_is : (net : Net) (fired : List ℕ) (n : ℕ) → sent net (between fired) n ≡ sends net fired n
sent_is net fired n =
    ap (sent_by net n) (turn_between fired (queue_at net.queues n).from) ∙ sent_between net n (whole (sends net fired n)) refl

-- the takes of a queue by the firings of its receiver
pub taken_is : (net : Net) (fired : List ℕ) (n : ℕ) → taken net (between fired) n ≡ takes net fired n
taken_is net fired n =
    ap (taken_by net n) (turn_between fired (queue_at net.queues n).to)
    ∙ taken_between net n (whole (get_or fired (queue_at net.queues n).to 0)) refl

module _ (net : Net) (firings : ℕ) (stalled : List Bool) (fired : List ℕ) (m : ℕ) where
  fires_parts : fires net firings stalled (between fired) m ≡ true → CanFire net firings stalled fired m
  unfolding fires is_possible events
  fires_parts h =
      let k : ℕ = get_or fired m 0 in
      let state : List Turn = between fired in
      let turn : turn_at state m ≡ whole k = turn_between fired m in
      let p = and_parts _ _ h in
      let q = and_parts _ _ p.1 in
      let possible : list_all (is_possible net state) (events net m k) ≡ true =
      subst (λ (t : Turn). list_all (is_possible net state) (events net m t.fired) ≡ true) turn q.1 in
      let parts = event_parts (is_possible net state) (firings_of.takes net m k) (exits net m) possible in
      record {
        awake = is_false (get_or stalled m false) p.0;
        left = omega (arith, ltb-true _ _ q.0, ap (λ (t : Turn). t.fired) turn);
        filled = λ n l to lead. omega (
          arith,
          ltb-true _ _ (passes_at (λ x. is_possible net state (Take x)) (firings_of.takes net m k) n parts.0
              (has-takes net m k n ∙ and_from _ _ (and_from _ _ (lt-ltb _ _ l) (eq-eqb _ _ to)) (le-leb _ _ lead))),
          sent_is net fired n,
          taken_is net fired n,
          ap (λ x. get_or fired x 0) to,
        );
        roomy = λ n l from. omega (
          arith,
          ltb-true _ _ (passes_at (λ x. is_possible net state (Send x)) (exits net m) n parts.1
              (has-exits_among net.queues m (length net.queues) n ∙ and_from _ _ (lt-ltb _ _ l) (eq-eqb _ _ from))),
          sent_is net fired n,
          taken_is net fired n,
          ap (λ x. get_or fired x 0) from,
        );
      }
    where
      is_false : (b : Bool) → not b ≡ true → b ≡ false
      is_false true e = sym e
      is_false false e = refl

  fires_from : CanFire net firings stalled fired m → fires net firings stalled (between fired) m ≡ true
  unfolding fires is_possible events
  fires_from can =
      let k : ℕ = get_or fired m 0 in
      let state : List Turn = between fired in
      let turn : turn_at state m ≡ whole k = turn_between fired m in
      let ready : list_all (λ x. is_possible net state (Take x)) (firings_of.takes net m k) ≡ true =
      all_from_has _ _ (λ n h. let is = take_is net m k n h in
      lt-ltb (taken net state n) (sent net state n)
      (omega (arith, can.filled n is.0 is.1 is.2, sent_is net fired n, taken_is net fired n, ap (λ x. get_or fired x 0) is.1))) in
      let room : list_all (λ x. is_possible net state (Send x)) (exits net m) ≡ true =
      all_from_has _ _ (λ n h. let is = send_is net m n h in
      lt-ltb (sent net state n) (taken net state n + (queue_at net.queues n).capacity)
      (omega (arith, can.roomy n is.0 is.1, sent_is net fired n, taken_is net fired n, ap (λ x. get_or fired x 0) is.1))) in
      let possible : list_all (is_possible net state) (events net m k) ≡ true =
      all_events (is_possible net state) (firings_of.takes net m k) (exits net m) ready room refl in
      and_from _ _ (not_from_false _ can.awake)
      (and_from _ _ (lt-ltb _ _ (omega (arith, can.left, ap (λ (t : Turn). t.fired) turn)))
      (subst (λ (t : Turn). list_all (is_possible net state) (events net m t.fired) ≡ true) (sym turn) possible))

  pub fires_exactly : (fires net firings stalled (between fired) m ≡ true) ↔ CanFire net firings stalled fired m
  fires_exactly = (fires_parts, fires_from)
