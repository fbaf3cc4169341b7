-- Which module feeds a port of another, and what the queue between them is like.
use Rattle.std.proofs.Common.{◌≡◌, ◌≢◌, ℕ, zero, suc, ◌+◌, ◌-◌, ◌*◌, ◌/◌, ◌%◌, ◌<◌, ◌≤◌, ◌==◌, max, true, List, [], ◌∷◌, length, refl, sym, ◌∙◌, ap, subst, arith, pos}
use Rattle.std.specs.List.{All, Contains, filter, range_with_len}
use Rattle.std.proofs.lemmas.Bool.{and_parts, cond_both, eqb-true}
use Rattle.std.proofs.lemmas.Nat.{div-add-mod', mod_below}
use Rattle.std.proofs.lemmas.List.Elements.{All-append, All-cons, All-filter, All-map, All-nil, filter_passes}
use Rattle.std.proofs.lemmas.List.FromFn.{get_or-range_with_len, length-range_with_len}
use Rattle.net_ir.specs.Nets.{age}
use Rattle.net_ir.specs.declared.network.Module.{Module}
use Rattle.net_ir.specs.declared.network.Module.TheVariants.{Source, Forward, Compute, Sink}
use Rattle.net_ir.specs.declared.network.Queue.{Queue}
use Rattle.reuse_chain.proofs.CallerLemmas.{head, Rises}
use Rattle.net_shape.specs.Lists.{joined}
use Rattle.net_shape.specs.Modules.{IsThere, gap_of, number_of}
use Rattle.net_shape.specs.Plans.{IsPlan, Plan, age_of, kind_at, taps_at}
use Rattle.net_shape.specs.Queues.{by_receiver, goes_before, is_served, link, put_queue, queues_from, read_at, reader_of, served, serving, taps_above, to_sink}
use Rattle.net_shape.specs.declared.kinds.Kind.{Kind}
use Rattle.net_shape.specs.declared.kinds.Kind.TheVariants.{Input, Inner, Output}
use Rattle.net_shape.proofs.Rising.{first_least, gap_first, gap_next, next_above, next_least}
use Rattle.net_shape.proofs.Numbers.{taps_rise}

-- A module feeds a port of another. A forwarding module is fed by the one before it in its lane, or by what sends its
-- tensor where it is the first; a computing module by the forwarding modules that serve its reads; a sink by the lanes.
abbrev pub Feeds : Plan → Module → Module → ℕ → Type 0
Feeds p (Source w) (Forward v lane tap) port = (w ≡ v) × ((t : ℕ) → Contains (taps_at p v lane) t → tap ≤ t)
Feeds p (Compute w row) (Forward v lane tap) port = (w ≡ v) × (row ≡ lane) × ((t : ℕ) → Contains (taps_at p v lane) t → tap ≤ t)
Feeds p (Forward w row a) (Forward v lane tap) port = (w ≡ v) × (row ≡ lane) × (a < tap) × ((t : ℕ) → Contains (taps_at p v lane) t → t < tap → t ≤ a)
Feeds p (Forward w row a) (Compute x lane) port =
    (w ≡ (read_at p port).of) × (x ≡ (read_at p port).reader) × (w < x) × (row + age_of p (read_at p port) ≡ a * p.unroll + lane)
Feeds p (Compute w row) (Sink v) port = (w ≡ v) × (row ≡ port)
Feeds p _ _ port = ⊥

-- the lead of a queue, and its capacity
abbrev pub lead_to : Module → Module → ℕ
lead_to m (Source v) = 0
lead_to m (Forward v lane tap) = 0
lead_to m (Compute v lane) = age m
lead_to m (Sink v) = 0

abbrev pub capacity_to : Module → Module → ℕ
capacity_to m (Source v) = 1
capacity_to m (Forward v lane tap) = max 1 (tap - age m)
capacity_to m (Compute v lane) = 1
capacity_to m (Sink v) = 1

-- what a queue from a module is like
pub record IsFed (p : Plan) (m : Module) (q : Queue) : Type 0 where
  pub receiver : Module
  pub there : IsThere p receiver
  pub feeds : Feeds p m receiver q.port
  pub from : q.from ≡ number_of p m
  pub to : q.to ≡ number_of p receiver
  pub capacity : q.capacity ≡ capacity_to m receiver
  pub lead : q.lead ≡ lead_to m receiver

pub all-joined : {A : Type 0} (P : A → Type 0) (f : ℕ → List A) (n : ℕ) → ((i : ℕ) → i < n → All P (f i)) → All P (joined f n)
unfolding joined
all-joined P f zero h = All-nil P
all-joined P f (suc n) h = All-append P (joined f n) (f n) (all-joined P f n (λ i lt. h i (omega arith))) (h n (omega arith))

all-put : (P : Queue → Type 0) (a : Queue) (bs : List Queue) → P a → All P bs → All P (put_queue a bs)
all-put P a [] h k = All-cons P a [] h k
all-put P a (b ∷ bs) h k =
    cond_both (goes_before a b) (a ∷ b ∷ bs) (b ∷ put_queue a bs) (All P) (λ _. All-cons P a (b ∷ bs) h k)
    (λ _. All-cons P b (put_queue a bs) (k 0 b (omega arith)) (all-put P a bs h (λ i d lt. k (suc i) d (omega arith))))

pub all-by_receiver : (P : Queue → Type 0) (qs : List Queue) → All P qs → All P (by_receiver qs)
all-by_receiver P [] h = h
all-by_receiver P (q ∷ qs) h = all-put P q (by_receiver qs) (h 0 q (omega arith)) (all-by_receiver P qs (λ i d lt. h (suc i) d (omega arith)))

module _ (p : Plan) (plan : IsPlan p) where
  lanes : 0 < p.unroll
  lanes = plan.lanes

  link_fed : (m : Module) (v lane : ℕ) (ts : List ℕ)
      → ((t : ℕ) (rest : List ℕ) → ts ≡ t ∷ rest → IsThere p (Forward v lane t) × Feeds p m (Forward v lane t) 0 × (gap_of (taps_at p v lane) t ≡ t - age m))
      → All (IsFed p m) (link p m v lane ts)
  link_fed m v lane [] h = All-nil (IsFed p m)
  link_fed m v lane (t ∷ rest) h =
      let k = h t rest refl in
      All-cons (IsFed p m) _ [] (record {
        receiver = Forward v lane t;
        there = k.0;
        feeds = k.1;
        from = refl;
        to = refl;
        capacity = ap (λ n. max 1 n) k.2;
        lead = refl;
      }) (All-nil (IsFed p m))

  -- from what sends a tensor to the first of a lane
  first_there : (v lane t : ℕ) (rest : List ℕ) → v < length p.kinds → lane < p.unroll → taps_at p v lane ≡ t ∷ rest → IsThere p (Forward v lane t)
  first_there v lane t rest h k e = (h, k, subst (λ ts. Contains ts t) (sym e) (head t rest))

  first_gap : (v lane t : ℕ) (rest : List ℕ) → taps_at p v lane ≡ t ∷ rest → gap_of (taps_at p v lane) t ≡ t - 0
  first_gap v lane t rest e = ap (λ ts. gap_of ts t) e ∙ gap_first t rest ∙ omega arith

  first_low : (v lane t : ℕ) (rest : List ℕ) → taps_at p v lane ≡ t ∷ rest → (c : ℕ) → Contains (taps_at p v lane) c → t ≤ c
  first_low v lane t rest e c h =
      first_least t rest c (subst Rises e (taps_rise p v lane lanes)) (subst (λ ts. Contains ts c) e h)

  source_fed : (v : ℕ) → IsThere p (Source v) → All (IsFed p (Source v)) (queues_from p (Source v))
  unfolding queues_from
  source_fed v h =
      all-joined (IsFed p (Source v)) (λ lane. link p (Source v) v lane (taps_at p v lane)) p.unroll
      (λ lane lt. link_fed (Source v) v lane (taps_at p v lane)
      (λ t rest e. (first_there v lane t rest h.0 lt e, (refl, first_low v lane t rest e), first_gap v lane t rest e)))

  sink_fed : (v lane : ℕ) → IsThere p (Compute v lane) → (k : Kind) → kind_at p v ≡ k → All (IsFed p (Compute v lane)) (to_sink p v lane)
  unfolding to_sink
  sink_fed v lane h Input e =
      subst (λ (k : Kind). All (IsFed p (Compute v lane)) (elim k [ Input ↦ [] | Inner ↦ [] | Output ↦ sinking v lane ∷ [] ])) (sym e) (All-nil (IsFed p (Compute v lane)))
    where
      sinking : ℕ → ℕ → Queue
      sinking v lane = record { from = number_of p (Compute v lane); to = number_of p (Sink v); port = lane; capacity = 1; lead = 0 }
  sink_fed v lane h Inner e =
      subst (λ (k : Kind). All (IsFed p (Compute v lane)) (elim k [ Input ↦ [] | Inner ↦ [] | Output ↦ sinking v lane ∷ [] ])) (sym e) (All-nil (IsFed p (Compute v lane)))
    where
      sinking : ℕ → ℕ → Queue
      sinking v lane = record { from = number_of p (Compute v lane); to = number_of p (Sink v); port = lane; capacity = 1; lead = 0 }
  sink_fed v lane h Output e =
      subst (λ (k : Kind). All (IsFed p (Compute v lane)) (elim k [ Input ↦ [] | Inner ↦ [] | Output ↦ record { from = number_of p (Compute v lane); to = number_of p (Sink v); port = lane; capacity = 1; lead = 0 } ∷ [] ]))
      (sym e)
      (All-cons (IsFed p (Compute v lane)) _ [] (record { receiver = Sink v; there = (h.0, e); feeds = (refl, refl); from = refl; to = refl; capacity = refl; lead = refl })
      (All-nil (IsFed p (Compute v lane))))

  compute_fed : (v lane : ℕ) → IsThere p (Compute v lane) → All (IsFed p (Compute v lane)) (queues_from p (Compute v lane))
  unfolding queues_from
  compute_fed v lane h =
      All-append (IsFed p (Compute v lane)) (link p (Compute v lane) v lane (taps_at p v lane)) (to_sink p v lane)
      (link_fed (Compute v lane) v lane (taps_at p v lane)
      (λ t rest e. (first_there v lane t rest h.0 h.2 e, (refl, refl, first_low v lane t rest e), first_gap v lane t rest e)))
      (sink_fed v lane h (kind_at p v) refl)

  pub reader_there : (lane n : ℕ) → n < length p.reads → IsThere p (reader_of p lane n)
  reader_there lane n lt =
      let within : (read_at p n).reader < length p.kinds = plan.reader n (record { reader = 0; of = 0; offset = pos 0 }) lt in
      let computed : kind_at p (read_at p n).reader ≢ Input = plan.inputs n (record { reader = 0; of = 0; offset = pos 0 }) lt in
      (within, computed, mod_below (lane + age_of p (read_at p n)) p.unroll lanes)

  pub serving_fed : (v lane tap n : ℕ) → IsThere p (Forward v lane tap) → n < length p.reads → is_served p v lane tap n ≡ true → IsFed p (Forward v lane tap) (serving p v lane tap n)
  serving_fed v lane tap n h lt e =
      let r = read_at p n in
      let parts = and_parts (r.of == v) ((lane + age_of p r) / p.unroll == tap) e in
      let of : r.of ≡ v = eqb-true r.of v parts.0 in
      let at : (lane + age_of p r) / p.unroll ≡ tap = eqb-true _ tap parts.1 in
      let before : r.of < r.reader = plan.of n (record { reader = 0; of = 0; offset = pos 0 }) lt in
      let whole = div-add-mod' (lane + age_of p r) p.unroll in
      record {
        receiver = reader_of p lane n;
        there = reader_there lane n lt;
        feeds = (sym of, refl, omega arith, sym whole ∙ ap (λ k. k * p.unroll + (lane + age_of p r) % p.unroll) at);
        from = refl;
        to = refl;
        capacity = refl;
        lead = refl;
      }

  pub served_all : (P : Queue → Type 0) (v lane tap : ℕ) → ((n : ℕ) → n < length p.reads → is_served p v lane tap n ≡ true → P (serving p v lane tap n)) → All P (served p v lane tap)
  unfolding served
  served_all P v lane tap h =
      let ns = range_with_len 0 (length p.reads) in
      let known : All (λ n. n < length p.reads) ns = λ k d lt. omega (
        arith,
        get_or-range_with_len 0 (length p.reads) k d (omega (arith, length-range_with_len 0 (length p.reads))),
        length-range_with_len 0 (length p.reads),
      ) in
      all-by_receiver P _ (All-map P (serving p v lane tap) (filter (is_served p v lane tap) ns)
      (λ k d lt. h _ (All-filter (is_served p v lane tap) (λ n. n < length p.reads) ns known k d lt) (filter_passes (is_served p v lane tap) ns k d lt)))

  forward_fed : (v lane tap : ℕ) → IsThere p (Forward v lane tap) → All (IsFed p (Forward v lane tap)) (queues_from p (Forward v lane tap))
  unfolding queues_from
  forward_fed v lane tap h =
      All-append (IsFed p (Forward v lane tap)) (link p (Forward v lane tap) v lane (taps_above tap (taps_at p v lane))) (served p v lane tap)
      (link_fed (Forward v lane tap) v lane (taps_above tap (taps_at p v lane))
      (λ t rest e. let k = next_above (taps_at p v lane) tap t rest e in (
        (h.0, h.1, k.0),
        (refl, refl, k.1, λ c has lt. next_least (taps_at p v lane) tap t rest c (taps_rise p v lane lanes) e has lt),
        gap_next (taps_at p v lane) 0 tap t rest (taps_rise p v lane lanes) h.2 e,
      )))
      (served_all (IsFed p (Forward v lane tap)) v lane tap (λ n lt e. serving_fed v lane tap n h lt e))

  -- what the queues from a module are like
  pub all_fed : (m : Module) → IsThere p m → All (IsFed p m) (queues_from p m)
  unfolding queues_from
  all_fed (Source v) h = source_fed v h
  all_fed (Forward v lane tap) h = forward_fed v lane tap h
  all_fed (Compute v lane) h = compute_fed v lane h
  all_fed (Sink v) h = All-nil (IsFed p (Sink v))
