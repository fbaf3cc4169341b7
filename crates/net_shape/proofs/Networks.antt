-- The network of a plan is one: each queue joins two of its modules, and no two have one port of one module.
use Rattle.std.proofs.Common.{◌≡◌, ◌≢◌, ℕ, suc, ◌+◌, ◌*◌, ◌%◌, ◌<◌, ◌≤◌, List, [], ◌∷◌, length, get_or, map, refl, sym, ◌∙◌, ap, subst, arith, ⊎_elim}
use Rattle.std.specs.List.{All, Contains, flat_map}
use Rattle.std.proofs.Math.Nat.{mul-le-mul}
use Rattle.std.proofs.lemmas.Bool.{cases_order}
use Rattle.std.proofs.lemmas.List.Elements.{All-cons, All-map, All-nil, All-weaker}
use Rattle.net_ir.specs.Nets.{IsNetwork}
use Rattle.net_ir.specs.declared.network.Module.{Module}
use Rattle.net_ir.specs.declared.network.Module.TheVariants.{Source, Forward, Compute, Sink}
use Rattle.net_ir.specs.declared.network.Queue.{Queue}
use Rattle.reuse_chain.proofs.CallerLemmas.{head, Rises, range_rises, rises}
use Rattle.net_shape.specs.Modules.{IsThere, modules_of, number_of}
use Rattle.net_shape.specs.Plans.{IsPlan, Plan, age_of, kind_at, taps_at}
use Rattle.net_shape.specs.Queues.{is_served, link, network_of, queues_from, read_at, served, serving, taps_above, to_sink}
use Rattle.net_shape.specs.declared.kinds.Kind.{Kind}
use Rattle.net_shape.specs.declared.kinds.Kind.TheVariants.{Input, Inner, Output}
use Rattle.net_shape.specs.machine.Places.{place_of}
use Rattle.net_shape.proofs.Placed.{Counted}
use Rattle.net_shape.proofs.Rising.{next_above, rises-filter}
use Rattle.net_shape.proofs.Numbers.{modules_counted}
use Rattle.net_shape.proofs.Stands.{number_is, one_place, stands}
use Rattle.net_shape.proofs.Feeds.{Feeds, IsFed, all_fed, reader_there, served_all}
use Rattle.net_shape.proofs.Orderly.{all-flat, all_queues, goes}
use Rattle.net_shape.proofs.Apart.{Apart, apart-append, apart-by_receiver, apart-joined, apart_at, counted_later}

module _ (p : Plan) where
  -- a lane's tap, where the lane goes by another name
  renamed : (v w lane row a : ℕ) → w ≡ v → row ≡ lane → Contains (taps_at p w row) a → Contains (taps_at p v lane) a
  renamed v w lane row a e f h = subst (λ (y : ℕ). Contains (taps_at p v y) a) f (subst (λ (x : ℕ). Contains (taps_at p x row) a) e h)

  kinds_differ : (v w : ℕ) → v ≡ w → kind_at p v ≡ Input → kind_at p w ≢ Input → ⊥
  kinds_differ v w e f g = g (ap (kind_at p) (sym e) ∙ f)

  source_one : (w : ℕ) (n : Module) (v lane tap port : ℕ) → IsThere p (Source w) → IsThere p n → Feeds p (Source w) (Forward v lane tap) port → Feeds p n (Forward v lane tap) port → Source w ≡ n
  source_one w (Source x) v lane tap port h i f g = ap (λ y. Source y) (f.0 ∙ sym g.0)
  source_one w (Forward x row a) v lane tap port h i f g = absurd (omega (arith, f.1 a (renamed v x lane row a g.0 g.1 i.2), g.2))
  source_one w (Compute x row) v lane tap port h i f g = absurd (kinds_differ w x (f.0 ∙ sym g.0) h.1 i.1)
  source_one w (Sink x) v lane tap port h i f g = absurd g

  compute_one : (w line : ℕ) (n : Module) (v lane tap port : ℕ) → IsThere p (Compute w line) → IsThere p n → Feeds p (Compute w line) (Forward v lane tap) port → Feeds p n (Forward v lane tap) port
      → Compute w line ≡ n
  compute_one w line (Source x) v lane tap port h i f g = absurd (kinds_differ x w (g.0 ∙ sym f.0) i.1 h.1)
  compute_one w line (Forward x row a) v lane tap port h i f g = absurd (omega (arith, f.2 a (renamed v x lane row a g.0 g.1 i.2), g.2))
  compute_one w line (Compute x row) v lane tap port h i f g = ap (λ y. Compute y line) (f.0 ∙ sym g.0) ∙ ap (λ y. Compute x y) (f.1 ∙ sym g.1)
  compute_one w line (Sink x) v lane tap port h i f g = absurd g

  forward_one : (w line b : ℕ) (n : Module) (v lane tap port : ℕ) → IsThere p (Forward w line b) → IsThere p n → Feeds p (Forward w line b) (Forward v lane tap) port → Feeds p n (Forward v lane tap) port
      → Forward w line b ≡ n
  forward_one w line b (Source x) v lane tap port h i f g = absurd (omega (arith, g.1 b (renamed v w lane line b f.0 f.1 h.2), f.2))
  forward_one w line b (Forward x row a) v lane tap port h i f g =
      let up : a ≤ b = f.3 a (renamed v x lane row a g.0 g.1 i.2) g.2 in
      let down : b ≤ a = g.3 b (renamed v w lane line b f.0 f.1 h.2) f.2 in
      let e : b ≡ a = omega arith in
      ap (λ y. Forward y line b) (f.0 ∙ sym g.0) ∙ ap (λ y. Forward x y b) (f.1 ∙ sym g.1) ∙ ap (λ y. Forward x row y) e
  forward_one w line b (Compute x row) v lane tap port h i f g = absurd (omega (arith, g.2 b (renamed v w lane line b f.0 f.1 h.2), f.2))
  forward_one w line b (Sink x) v lane tap port h i f g = absurd g

  -- rows below u that differ by a multiple of u are one
  one_row : (u row line a b s lane : ℕ) → row < u → line < u → row + s ≡ a * u + lane → line + s ≡ b * u + lane → (row ≡ line) × (a ≡ b)
  one_row u row line a b s lane h k e f =
      ⊎_elim (λ same. (omega (arith, ap (λ x. x * u) same), same))
      (λ differ. ⊎_elim
      (λ lt. let le : a + 1 ≤ b = omega arith in let same : u ≤ u = omega arith in let m = mul-le-mul le same in absurd (omega (arith, m)))
      (λ gt. let le : b + 1 ≤ a = omega arith in let same : u ≤ u = omega arith in let m = mul-le-mul le same in absurd (omega (arith, m)))
      differ)
      (cases_order a b)

  served_one : (w line b : ℕ) (n : Module) (x lane port : ℕ) → IsThere p (Forward w line b) → IsThere p n → Feeds p (Forward w line b) (Compute x lane) port → Feeds p n (Compute x lane) port
      → Forward w line b ≡ n
  served_one w line b (Source y) x lane port h i f g = absurd g
  served_one w line b (Forward y row a) x lane port h i f g =
      let same = one_row p.unroll line row b a (age_of p (read_at p port)) lane h.1 i.1 f.3 g.3 in
      ap (λ z. Forward z line b) (f.0 ∙ sym g.0) ∙ ap (λ z. Forward y z b) same.0 ∙ ap (λ z. Forward y row z) same.1
  served_one w line b (Compute y row) x lane port h i f g = absurd g
  served_one w line b (Sink y) x lane port h i f g = absurd g

  sunk_one : (w line : ℕ) (n : Module) (v port : ℕ) → Feeds p (Compute w line) (Sink v) port → Feeds p n (Sink v) port → Compute w line ≡ n
  sunk_one w line (Source x) v port f g = absurd g
  sunk_one w line (Forward x row a) v port f g = absurd g
  sunk_one w line (Compute x row) v port f g = ap (λ y. Compute y line) (f.0 ∙ sym g.0) ∙ ap (λ y. Compute x y) (f.1 ∙ sym g.1)
  sunk_one w line (Sink x) v port f g = absurd g

  -- one module feeds a port
  feeds_one : (m n r : Module) (port : ℕ) → IsThere p m → IsThere p n → Feeds p m r port → Feeds p n r port → m ≡ n
  feeds_one (Source w) n (Forward v lane tap) port h i f g = source_one w n v lane tap port h i f g
  feeds_one (Compute w line) n (Forward v lane tap) port h i f g = compute_one w line n v lane tap port h i f g
  feeds_one (Forward w line b) n (Forward v lane tap) port h i f g = forward_one w line b n v lane tap port h i f g
  feeds_one (Forward w line b) n (Compute x lane) port h i f g = served_one w line b n x lane port h i f g
  feeds_one (Compute w line) n (Sink v) port h i f g = sunk_one w line n v port f g
  feeds_one m n r port h i f g = absurd f

abbrev lane_of : Module → ℕ
lane_of (Source w) = 0
lane_of (Forward w lane tap) = lane
lane_of (Compute w lane) = 0
lane_of (Sink w) = 0

lanes_differ : (v i t j s : ℕ) → i < j → Forward v i t ≡ Forward v j s → ⊥
lanes_differ v i t j s lt e = let same : i ≡ j = ap lane_of e in omega arith

-- two queues don't have one port of one module
abbrev Differ : Queue → Queue → Type 0
Differ a b = a.to ≡ b.to → a.port ≢ b.port

differ_back : (a b : Queue) → Differ a b → Differ b a
differ_back a b d e f = d (sym e) (sym f)

module _ (p : Plan) (plan : IsPlan p) where
  lanes : 0 < p.unroll
  lanes = plan.lanes

  -- modules of one number are one
  one_number : (m n : Module) → IsThere p m → IsThere p n → number_of p m ≡ number_of p n → m ≡ n
  one_number m n h k e =
      one_place p lanes m n h k (sym (number_is p lanes m h) ∙ e ∙ number_is p lanes n k)

  -- the queue ends at this module
  abbrev Ends : Module → Queue → Type 0
  Ends m q = IsThere p m × (q.to ≡ number_of p m)

  differ_by : (m n : Module) (a b : Queue) → m ≢ n → Ends m a → Ends n b → Differ a b
  differ_by m n a b ne h k e _ = ne (one_number m n h.0 k.0 (sym h.1 ∙ e ∙ k.1))

  abbrev ToLane : ℕ → ℕ → Queue → Type 0
  ToLane v lane q = (t : ℕ) × Ends (Forward v lane t) q

  link_to : (m : Module) (v lane : ℕ) (ts : List ℕ) → v < length p.kinds → lane < p.unroll → ((t : ℕ) (rest : List ℕ) → ts ≡ t ∷ rest → Contains (taps_at p v lane) t)
      → All (ToLane v lane) (link p m v lane ts)
  link_to m v lane [] h k has = All-nil (ToLane v lane)
  link_to m v lane (t ∷ rest) h k has = All-cons (ToLane v lane) _ [] (t, ((h, k, has t rest refl), refl)) (All-nil (ToLane v lane))

  link_apart : (m : Module) (v lane : ℕ) (ts : List ℕ) → Apart Differ (link p m v lane ts)
  link_apart m v lane [] = tt
  link_apart m v lane (t ∷ rest) = (All-nil _, tt)

  first_of : (v lane t : ℕ) (rest : List ℕ) → taps_at p v lane ≡ t ∷ rest → Contains (taps_at p v lane) t
  first_of v lane t rest e = subst (λ ts. Contains ts t) (sym e) (head t rest)

  source_apart : (v : ℕ) → IsThere p (Source v) → Apart Differ (queues_from p (Source v))
  unfolding queues_from
  source_apart v h =
      apart-joined Differ (λ lane. link p (Source v) v lane (taps_at p v lane)) p.unroll (λ i lt. link_apart (Source v) v i (taps_at p v i))
      (λ i j lt below. All-weaker (ToLane v i) (λ x. All (Differ x) (link p (Source v) v j (taps_at p v j)))
      (λ a to. All-weaker (ToLane v j) (Differ a) (λ b fro. differ_by (Forward v i to.0) (Forward v j fro.0) a b (λ e. lanes_differ v i to.0 j fro.0 lt e) to.1 fro.1) _
      (link_to (Source v) v j (taps_at p v j) h.0 below (first_of v j))) _
      (link_to (Source v) v i (taps_at p v i) h.0 (omega arith) (first_of v i)))

  pub sink_ends : (v lane : ℕ) → v < length p.kinds → (k : Kind) → kind_at p v ≡ k → All (Ends (Sink v)) (to_sink p v lane) × Apart Differ (to_sink p v lane)
  unfolding to_sink
  sink_ends v lane h Input e =
      subst (λ (k : Kind). All (Ends (Sink v)) (elim k [ Input ↦ [] | Inner ↦ [] | Output ↦ record { from = number_of p (Compute v lane); to = number_of p (Sink v); port = lane; capacity = 1; lead = 0 } ∷ [] ])
      × Apart Differ (elim k [ Input ↦ [] | Inner ↦ [] | Output ↦ record { from = number_of p (Compute v lane); to = number_of p (Sink v); port = lane; capacity = 1; lead = 0 } ∷ [] ]))
      (sym e) (All-nil (Ends (Sink v)), tt)
  sink_ends v lane h Inner e =
      subst (λ (k : Kind). All (Ends (Sink v)) (elim k [ Input ↦ [] | Inner ↦ [] | Output ↦ record { from = number_of p (Compute v lane); to = number_of p (Sink v); port = lane; capacity = 1; lead = 0 } ∷ [] ])
      × Apart Differ (elim k [ Input ↦ [] | Inner ↦ [] | Output ↦ record { from = number_of p (Compute v lane); to = number_of p (Sink v); port = lane; capacity = 1; lead = 0 } ∷ [] ]))
      (sym e) (All-nil (Ends (Sink v)), tt)
  sink_ends v lane h Output e =
      subst (λ (k : Kind). All (Ends (Sink v)) (elim k [ Input ↦ [] | Inner ↦ [] | Output ↦ record { from = number_of p (Compute v lane); to = number_of p (Sink v); port = lane; capacity = 1; lead = 0 } ∷ [] ])
      × Apart Differ (elim k [ Input ↦ [] | Inner ↦ [] | Output ↦ record { from = number_of p (Compute v lane); to = number_of p (Sink v); port = lane; capacity = 1; lead = 0 } ∷ [] ]))
      (sym e) (All-cons (Ends (Sink v)) _ [] ((h, e), refl) (All-nil (Ends (Sink v))), (All-nil _, tt))

  compute_apart : (v lane : ℕ) → IsThere p (Compute v lane) → Apart Differ (queues_from p (Compute v lane))
  unfolding queues_from
  compute_apart v lane h =
      let s = sink_ends v lane h.0 (kind_at p v) refl in
      apart-append Differ (link p (Compute v lane) v lane (taps_at p v lane)) (to_sink p v lane) (link_apart (Compute v lane) v lane (taps_at p v lane)) s.1
      (All-weaker (ToLane v lane) (λ x. All (Differ x) (to_sink p v lane))
      (λ a to. All-weaker (Ends (Sink v)) (Differ a) (λ b fro. differ_by (Forward v lane to.0) (Sink v) a b (λ e. cc) to.1 fro) _ s.0) _
      (link_to (Compute v lane) v lane (taps_at p v lane) h.0 h.2 (first_of v lane)))

  serving_apart : (v lane tap : ℕ) (ns : List ℕ) → Rises ns → Apart Differ (map (serving p v lane tap) ns)
  serving_apart v lane tap [] r = tt
  serving_apart v lane tap (n ∷ ns) r = (
    All-map (Differ (serving p v lane tap n)) (serving p v lane tap) ns (All-weaker (λ y. n < y) (λ y. Differ (serving p v lane tap n) (serving p v lane tap y))
        (λ y lt _ e. omega arith) ns r.0),
    serving_apart v lane tap ns r.1,
  )

  served_apart : (v lane tap : ℕ) → Apart Differ (served p v lane tap)
  unfolding served
  served_apart v lane tap =
      apart-by_receiver Differ differ_back _ (serving_apart v lane tap _ (rises-filter (is_served p v lane tap) _ (rises _ (range_rises (length p.reads)))))

  abbrev ToReader : Queue → Type 0
  ToReader q = (x : ℕ) × (row : ℕ) × Ends (Compute x row) q

  forward_apart : (v lane tap : ℕ) → IsThere p (Forward v lane tap) → Apart Differ (queues_from p (Forward v lane tap))
  unfolding queues_from
  forward_apart v lane tap h =
      apart-append Differ (link p (Forward v lane tap) v lane (taps_above tap (taps_at p v lane))) (served p v lane tap)
      (link_apart (Forward v lane tap) v lane (taps_above tap (taps_at p v lane))) (served_apart v lane tap)
      (All-weaker (ToLane v lane) (λ x. All (Differ x) (served p v lane tap))
      (λ a to. All-weaker ToReader (Differ a) (λ b fro. differ_by (Forward v lane to.0) (Compute fro.0 fro.1) a b (λ e. cc) to.1 fro.2) _
      (served_all p plan ToReader v lane tap (λ n lt e.
      ((read_at p n).reader, (lane + age_of p (read_at p n)) % p.unroll, (reader_there p plan lane n lt, refl))))) _
      (link_to (Forward v lane tap) v lane (taps_above tap (taps_at p v lane)) h.0 h.1 (λ t rest e. (next_above (taps_at p v lane) tap t rest e).0)))

  from_apart : (m : Module) → IsThere p m → Apart Differ (queues_from p m)
  unfolding queues_from
  from_apart (Source v) h = source_apart v h
  from_apart (Forward v lane tap) h = forward_apart v lane tap h
  from_apart (Compute v lane) h = compute_apart v lane h
  from_apart (Sink v) h = tt

  -- queues from two modules
  two_differ : (m n : Module) → IsThere p m → IsThere p n → m ≢ n → All (λ a. All (Differ a) (queues_from p n)) (queues_from p m)
  two_differ m n h k ne =
      All-weaker (IsFed p m) (λ a. All (Differ a) (queues_from p n))
      (λ a fa. All-weaker (IsFed p n) (Differ a)
      (λ b fb to port.
      let same : fa.receiver ≡ fb.receiver = one_number fa.receiver fb.receiver fa.there fb.there (sym fa.to ∙ to ∙ fb.to) in
      let other : Feeds p n fa.receiver a.port = subst (λ (x : ℕ). Feeds p n fa.receiver x) (sym port) (subst (λ (r : Module). Feeds p n r b.port) (sym same) fb.feeds) in
      ne (feeds_one p m n fa.receiver a.port h k fa.feeds other))
      (queues_from p n) (all_fed p plan n k))
      (queues_from p m) (all_fed p plan m h)

  all_apart : (b : ℕ) (ms : List Module) → Counted (IsThere p) (place_of p) b ms → Apart Differ (flat_map (queues_from p) ms)
  all_apart b [] h = tt
  all_apart b (m ∷ ms) h =
      apart-append Differ (queues_from p m) (flat_map (queues_from p) ms) (from_apart m h.0.0) (all_apart (suc b) ms h.1)
      (λ k d lt. all-flat (Differ (get_or (queues_from p m) k d)) (queues_from p) ms
      (λ i e below. let n = counted_later (IsThere p) (place_of p) (suc b) ms h.1 i e below in
      two_differ m (get_or ms i e) h.0.0 n.0 (λ same. omega (arith, h.0.1, n.1, ap (place_of p) same)) k d lt))

  pub is_network : IsNetwork (network_of p)
  unfolding network_of
  is_network = record {
    from = λ n lt. all_queues p plan (λ q. q.from < length (modules_of p))
        (λ m h q fed. omega (arith, fed.from, number_is p lanes m h, (stands p lanes m h).within)) n _ lt;
    to = λ n lt. all_queues p plan (λ q. q.to < length (modules_of p))
        (λ m h q fed. omega (arith, fed.to, number_is p lanes fed.receiver fed.there, (stands p lanes fed.receiver fed.there).within)) n _ lt;
    ends = λ n lt. all_queues p plan (λ q. q.from ≢ q.to)
        (λ m h q fed e. ⊎_elim
        (λ on. omega (arith, fed.from, fed.to, number_is p lanes m h, number_is p lanes fed.receiver fed.there, on.0))
        (λ re. omega (arith, fed.from, fed.to, number_is p lanes m h, number_is p lanes fed.receiver fed.there, re.0))
        (goes p lanes m fed.receiver q.port h fed.there fed.feeds)) n _ lt;
    ports = λ i j lt below. apart_at Differ (flat_map (queues_from p) (modules_of p)) i j _ (all_apart 0 (modules_of p) (modules_counted p lanes)) lt below;
  }
