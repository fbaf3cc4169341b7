-- A firing keeps what the queues hold of their streams.
use Rattle.std.proofs.Common.{◌≡◌, ◌≢◌, ◌<◌, ◌≤◌, ◌+◌, ◌-◌, ◌%◌, cond, ℕ, ℤ, pos, List, [], ◌∷◌, ◌++◌, length, length-append, length-drop, get_or, map, sym, ap, ◌∙◌, subst, ⊎_elim, arith, get_or-set_same, get_or-set_other}
use Rattle.std.proofs.lemmas.Bool.{cases_lt, cases_eq, lt-leb, le-leb, lt-ltb, eq-eqb, ltb-true, eqb-true, and_parts, and_from}
use Rattle.std.proofs.lemmas.Grind.{get_or_after_one}
use Rattle.std.proofs.lemmas.List.{ext_get_or, get_or-map, length-map, get_or_append_left, get_or-append-add}
use native.Mathlib.Nat.{mod-add-mod}
use Rattle.net_ir.specs.Nets.{Net, queue_at, entrances, exits, IsNetwork}
use Rattle.net_ir.proofs.CallerLemmas.{has-entrances_among, has-exits_among, has-get_or, place_of}
use Rattle.ring_region.specs.Fifos.{Fifo, fifo_at, with_item, without_oldest}
use Rattle.net_cycles.specs.Between.{sends, takes, fired_once}
use Rattle.net_cycles.specs.Streams.{Streams, HoldCounts, HoldStreams, port_value_of, port_values, sent_values}
use Rattle.net_cycles.specs.machine.Moves.{entrance, exit, after_take, FilledTo, TakenTo, SentTo}

module _ (net : Net) (m : ℕ) where
  -- an entrance's queue ends at the module
  pub entrance_is : (j : ℕ) → j < length (entrances net m)
      → (entrance net m j < length net.queues) × ((queue_at net.queues (entrance net m j)).to ≡ m)
  entrance_is j h =
      let p = and_parts _ _ (sym (has-entrances_among net.queues m (length net.queues) (entrance net m j)) ∙ has-get_or (entrances net m) j 0 h) in
      (ltb-true _ _ p.0, eqb-true _ m p.1)

  -- an exit's queue begins at the module
  pub exit_is : (j : ℕ) → j < length (exits net m)
      → (exit net m j < length net.queues) × ((queue_at net.queues (exit net m j)).from ≡ m)
  exit_is j h =
      let p = and_parts _ _ (sym (has-exits_among net.queues m (length net.queues) (exit net m j)) ∙ has-get_or (exits net m) j 0 h) in
      (ltb-true _ _ p.0, eqb-true _ m p.1)

  -- a queue that ends at the module stands at an entrance
  pub entrance_of : (q : ℕ) → q < length net.queues → (queue_at net.queues q).to ≡ m
      → (j : ℕ) × (j < length (entrances net m)) × (entrance net m j ≡ q)
  entrance_of q h to =
      place_of q (entrances net m) (has-entrances_among net.queues m (length net.queues) q ∙ and_from _ _ (lt-ltb _ _ h) (eq-eqb _ m to))

  -- a queue that begins at the module stands at an exit
  pub exit_of : (q : ℕ) → q < length net.queues → (queue_at net.queues q).from ≡ m
      → (j : ℕ) × (j < length (exits net m)) × (exit net m j ≡ q)
  exit_of q h from =
      place_of q (exits net m) (has-exits_among net.queues m (length net.queues) q ∙ and_from _ _ (lt-ltb _ _ h) (eq-eqb _ m from))

module _ (lead k : ℕ) (fifo : Fifo) where
  taking : lead ≤ k → after_take lead k fifo ≡ without_oldest fifo
  taking h = ap (λ b. cond b (without_oldest fifo) fifo) (le-leb _ _ h)

  early : k < lead → after_take lead k fifo ≡ fifo
  early h = ap (λ b. cond b (without_oldest fifo) fifo) (lt-leb _ _ h)

-- a firing has taken
module _ (net : Net) (network : IsNetwork net) (fired : List ℕ) (m k : ℕ) (known : m < length net.modules)
    (whole : length fired ≡ length net.modules) (count : k ≡ get_or fired m 0) (old mid : List Fifo) (ports : List ℤ)
    (counts : HoldCounts net fired old) (taken : TakenTo net old mid ports m k (length (entrances net m)))
    (ready : FilledTo net old m k (length (entrances net m))) where
  abbrev after : List ℕ
  after = fired_once fired m

  fired_same : get_or after m 0 ≡ k + 1
  fired_same = omega (arith, get_or-set_same fired m (get_or fired m 0 + 1) 0 (omega (arith, whole)), count)

  fired_other : (n : ℕ) → n ≢ m → get_or after n 0 ≡ get_or fired n 0
  fired_other n ne = get_or-set_other fired m n (get_or fired m 0 + 1) 0 ne

  takes_to : (q : ℕ) → (queue_at net.queues q).to ≡ m
      → (takes net after q ≡ (k + 1) - (queue_at net.queues q).lead) × (takes net fired q ≡ k - (queue_at net.queues q).lead)
  takes_to q to = (
    ap (λ n. n - (queue_at net.queues q).lead) (ap (λ x. get_or after x 0) to ∙ fired_same),
    ap (λ n. n - (queue_at net.queues q).lead) (ap (λ x. get_or fired x 0) to ∙ sym count),
  )

  takes_else : (q : ℕ) → (queue_at net.queues q).to ≢ m → takes net after q ≡ takes net fired q
  takes_else q to = ap (λ n. n - (queue_at net.queues q).lead) (fired_other (queue_at net.queues q).to to)

  sends_from : (q : ℕ) → (queue_at net.queues q).from ≡ m → (sends net after q ≡ k + 1) × (sends net fired q ≡ k)
  sends_from q from = (ap (λ x. get_or after x 0) from ∙ fired_same, ap (λ x. get_or fired x 0) from ∙ sym count)

  -- what the module found at its ports
  pub ports_are : (stream : Streams) → HoldStreams net fired old stream → length ports ≡ length (entrances net m)
      → ports ≡ port_values net stream m (get_or fired m 0)
  ports_are stream hold places =
      let value : ℕ → ℤ = port_value_of net stream k in
      ext_get_or (pos 0) ports (map value (entrances net m)) (places ∙ sym (length-map (entrances net m) value))
      (λ j h. let less : j < length (entrances net m) = omega (arith, places) in
      let q : ℕ = entrance net m j in
      let is = entrance_is net m j less in
      let lead : ℕ = (queue_at net.queues q).lead in
      let oldest : ℤ = get_or (fifo_at old q).items 0 (pos 0) in
      taken.values j less ∙ ⊎_elim
      (λ late. ap (λ b. cond b oldest (pos 0)) (lt-leb lead k late) ∙ sym (ap (λ b. cond b (stream q (k - lead)) (pos 0)) (lt-leb lead k late)))
      (λ now. let first : takes net fired q + 0 ≡ k - lead = omega (arith, takes_to q is.1) in
      ap (λ b. cond b oldest (pos 0)) (le-leb lead k now)
      ∙ hold q 0 is.0 (ready j less now) ∙ ap (stream q) first
      ∙ sym (ap (λ b. cond b (stream q (k - lead)) (pos 0)) (le-leb lead k now)))
      (cases_lt k lead)
      ∙ sym (get_or-map value (entrances net m) j 0 (pos 0) less))
      ∙ ap (port_values net stream m) count

  -- and has sent
  module _ (new : List Fifo) (values : List ℤ) (sent : SentTo net mid new values m (length (exits net m))) where
    -- what becomes of a queue to the module, a queue from it, and another
    queue_to : (q : ℕ) → q < length net.queues → (queue_at net.queues q).to ≡ m
        → fifo_at new q ≡ after_take (queue_at net.queues q).lead k (fifo_at old q)
    queue_to q h to =
        let place = entrance_of net m q h to in
        sent.others q
        (λ j less e. network.ends q h (ap (λ x. (queue_at net.queues x).from) (sym e) ∙ (exit_is net m j less).1 ∙ sym to))
        ∙ subst (λ x. fifo_at mid x ≡ after_take (queue_at net.queues x).lead k (fifo_at old x)) place.2 (taken.taken place.0 place.1)

    queue_from : (q : ℕ) → q < length net.queues → (queue_at net.queues q).from ≡ m
        → (j : ℕ) × (j < length (exits net m)) × (exit net m j ≡ q) × (fifo_at new q ≡ with_item (get_or values j (pos 0)) (fifo_at old q))
    queue_from q h from =
        let place = exit_of net m q h from in
        let value : ℤ = get_or values place.0 (pos 0) in
        let same : fifo_at mid q ≡ fifo_at old q = taken.others q
        (λ j less e. network.ends q h (from ∙ sym (entrance_is net m j less).1 ∙ ap (λ x. (queue_at net.queues x).to) e)) in (
          place.0,
          place.1,
          place.2,
          subst (λ x. fifo_at new x ≡ with_item value (fifo_at mid x)) place.2 (sent.sent place.0 place.1)
              ∙ ap (with_item value) same,
        )

    queue_else : (q : ℕ) → q < length net.queues → (queue_at net.queues q).to ≢ m → (queue_at net.queues q).from ≢ m
        → fifo_at new q ≡ fifo_at old q
    queue_else q h to from =
        sent.others q (λ j less e. from (ap (λ x. (queue_at net.queues x).from) (sym e) ∙ (exit_is net m j less).1))
        ∙ taken.others q (λ j less e. to (ap (λ x. (queue_at net.queues x).to) (sym e) ∙ (entrance_is net m j less).1))

    -- there was something to take
    there : (q : ℕ) → q < length net.queues → (queue_at net.queues q).to ≡ m → (queue_at net.queues q).lead ≤ k
        → 0 < length (fifo_at old q).items
    there q h to lead =
        let place = entrance_of net m q h to in
        subst (λ x. (queue_at net.queues x).lead ≤ k → 0 < length (fifo_at old x).items) place.2 (ready place.0 place.1) lead

    -- a fact about each queue, by what becomes of it: taken from, too early, sent into, untouched
    by_queue : (P : ℕ → Fifo → Type 0) (q : ℕ) → q < length net.queues
        → ((queue_at net.queues q).to ≡ m → (queue_at net.queues q).from ≢ m → (queue_at net.queues q).lead ≤ k
        → P q (without_oldest (fifo_at old q)))
        → ((queue_at net.queues q).to ≡ m → (queue_at net.queues q).from ≢ m → k < (queue_at net.queues q).lead → P q (fifo_at old q))
        → ((j : ℕ) → (queue_at net.queues q).to ≢ m → (queue_at net.queues q).from ≡ m → j < length (exits net m) → exit net m j ≡ q
        → P q (with_item (get_or values j (pos 0)) (fifo_at old q)))
        → ((queue_at net.queues q).to ≢ m → (queue_at net.queues q).from ≢ m → P q (fifo_at old q))
        → P q (fifo_at new q)
    by_queue P q h in_time too_early sending elsewhere = ⊎_elim
        (λ to. let from : (queue_at net.queues q).from ≢ m = (λ e. network.ends q h (e ∙ sym to)) in
        ⊎_elim
        (λ less. subst (P q) (sym (queue_to q h to ∙ early (queue_at net.queues q).lead k (fifo_at old q) less)) (too_early to from less))
        (λ more. subst (P q) (sym (queue_to q h to ∙ taking (queue_at net.queues q).lead k (fifo_at old q) more)) (in_time to from more))
        (cases_lt k (queue_at net.queues q).lead))
        (λ to. ⊎_elim
        (λ from. let is = queue_from q h from in subst (P q) (sym is.3) (sending is.0 to from is.1 is.2))
        (λ from. subst (P q) (sym (queue_else q h to from)) (elsewhere to from))
        (cases_eq (queue_at net.queues q).from m))
        (cases_eq (queue_at net.queues q).to m)

    pub counts_after : HoldCounts net after new
    counts_after = record {
      count = sent.count ∙ taken.count ∙ counts.count;
      capacity = λ q h. by_queue (λ q f. f.capacity ≡ (queue_at net.queues q).capacity) q h
          (λ to from lead. counts.capacity q h)
          (λ to from lead. counts.capacity q h)
          (λ j to from less is. counts.capacity q h)
          (λ to from. counts.capacity q h);
      positive = counts.positive;
      first = λ q h. let c : ℕ = (queue_at net.queues q).capacity in
          by_queue (λ q f. f.first ≡ takes net after q % (queue_at net.queues q).capacity) q h
          (λ to from lead. let on : takes net fired q + 1 ≡ takes net after q = omega (arith, takes_to q to) in
          ap (λ x. ((fifo_at old q).first + 1) % x) (counts.capacity q h)
          ∙ ap (λ x. (x + 1) % c) (counts.first q h)
          ∙ mod-add-mod (takes net fired q) c 1
          ∙ ap (λ n. n % c) on)
          (λ to from lead. let on : takes net fired q ≡ takes net after q = omega (arith, takes_to q to) in
          counts.first q h ∙ ap (λ n. n % c) on)
          (λ j to from less is. counts.first q h ∙ ap (λ n. n % c) (sym (takes_else q to)))
          (λ to from. counts.first q h ∙ ap (λ n. n % c) (sym (takes_else q to)));
      held = λ q h. by_queue (λ q f. takes net after q + length f.items ≡ sends net after q) q h
          (λ to from lead. omega (
            arith,
            there q h to lead,
            counts.held q h,
            takes_to q to,
            fired_other (queue_at net.queues q).from from,
            length-drop 1 (fifo_at old q).items,
          ))
          (λ to from lead. omega (arith, counts.held q h, takes_to q to, fired_other (queue_at net.queues q).from from))
          (λ j to from less is. omega (
            arith,
            counts.held q h,
            takes_else q to,
            sends_from q from,
            length-append (fifo_at old q).items (get_or values j (pos 0) ∷ []),
          ))
          (λ to from. omega (arith, counts.held q h, takes_else q to, fired_other (queue_at net.queues q).from from));
    }

    pub streams_after : (stream : Streams) → HoldStreams net fired old stream → values ≡ sent_values net stream m (get_or fired m 0)
        → HoldStreams net after new stream
    streams_after stream hold send q i h =
        by_queue (λ q f. i < length f.items → get_or f.items i (pos 0) ≡ stream q (takes net after q + i)) q h
        (λ to from lead less. let on : takes net fired q + (1 + i) ≡ takes net after q + i = omega (arith, takes_to q to) in
        get_or_after_one (fifo_at old q).items i (pos 0)
        ∙ hold q (1 + i) h (omega (arith, length-drop 1 (fifo_at old q).items)) ∙ ap (stream q) on)
        (λ to from lead less. let on : takes net fired q + i ≡ takes net after q + i = omega (arith, takes_to q to) in
        hold q i h less ∙ ap (stream q) on)
        (λ j to from at is less. let items : List ℤ = (fifo_at old q).items in
        let value : ℤ = get_or values j (pos 0) in
        ⊎_elim
        (λ before. let on : takes net fired q + i ≡ takes net after q + i = omega (arith, takes_else q to) in
        get_or_append_left items (value ∷ []) (pos 0) i before ∙ hold q i h before ∙ ap (stream q) on)
        (λ behind. let last : i ≡ length items + 0 = omega (arith, length-append items (value ∷ [])) in
        let on : k ≡ takes net after q + i = omega (arith, last, counts.held q h, takes_else q to, sends_from q from) in
        ap (λ n. get_or (items ++ value ∷ []) n (pos 0)) last
        ∙ get_or-append-add items (value ∷ []) 0 (pos 0)
        ∙ ap (λ xs. get_or xs j (pos 0)) (send ∙ ap (sent_values net stream m) (sym count))
        ∙ get_or-map (λ x. stream x k) (exits net m) j 0 (pos 0) at
        ∙ ap (λ x. stream x k) is ∙ ap (stream q) on)
        (cases_lt i (length items)))
        (λ to from less. let on : takes net fired q + i ≡ takes net after q + i = omega (arith, takes_else q to) in
        hold q i h less ∙ ap (stream q) on)
