-- Which queues end at a module, in the order of their ports.
use Rattle.std.proofs.Common.{◌≡◌, ℕ, zero, suc, ◌+◌, ◌-◌, ◌*◌, ◌/◌, ◌%◌, ◌<◌, ◌≤◌, ◌==◌, nat_lt, true, cond, max, List, [], ◌∷◌, length, get_or, map, refl, sym, ◌∙◌, ap, subst, arith, ⊎_elim}
use Rattle.std.specs.List.{Contains, filter, flat_map, range_with_len}
use Rattle.std.proofs.lemmas.Bool.{and_from, cases_lt, eq-eqb, eqb-true, le-ltb, lt-ltb}
use Rattle.std.proofs.lemmas.Nat.{div-mul-add, mod-mul-add}
use Rattle.std.proofs.lemmas.List.{get_or-map, get_or_default, length-map}
use Rattle.std.proofs.lemmas.List.Elements.{All-contains, All-weaker, Contains-append_left, Contains-append_right, Contains-get_or, recursion_from_All}
use Rattle.std.proofs.lemmas.List.FromFn.{get_or-range_with_len, length-range_with_len}
use Rattle.delay_net.specs.declared.net.Read.{Read}
use Rattle.net_ir.specs.Nets.{StandByPort, entrances, queue_at}
use Rattle.net_ir.specs.declared.network.Module.{Module}
use Rattle.net_ir.specs.declared.network.Module.TheVariants.{Source, Forward, Compute, Sink}
use Rattle.net_ir.specs.declared.network.Queue.{Queue}
use Rattle.net_shape.specs.Modules.{IsThere, gap_of, modules_of, number_of}
use Rattle.net_shape.specs.Plans.{IsPlan, Plan, age_of, ages_of, kind_at, taps_at}
use Rattle.net_shape.specs.Queues.{is_served, link, network_of, queues_from, read_at, served, serving, taps_above, to_sink}
use Rattle.net_shape.specs.machine.Places.{place_of}
use Rattle.net_shape.specs.declared.kinds.Kind.{Kind}
use Rattle.net_shape.specs.declared.kinds.Kind.TheVariants.{Input, Inner, Output}
use Rattle.net_shape.proofs.CallerLemmas.{keep_all, kept_from, rises-filter, stands, taps_rise}
use Rattle.reuse_chain.specs.Lanes.{age_in_cycles}
use Rattle.reuse_chain.proofs.CallerLemmas.{Rises, by_pairs, cases, head, none, range_rises, ranged, rises, same, tail, taps_there}
use Rattle.staged_cells.specs.Streams.{module_at}
use Rattle.staged_cells.proofs.Links.{Joins, joined_at, module_of, no_read, sinking, to_the_sink}
use Rattle.staged_cells.proofs.Lists.{here, in_filter, in_flat, in_joined, in_map, in_order}

-- from which lane of what is read, and how many cycles before, a lane reads at an age
pub lane_back : (u s lane : ℕ) → lane < u → (r : ℕ) × (a : ℕ) × (r < u) × (r + s ≡ a * u + lane)
lane_back u zero lane h = (lane, 0, h, omega arith)
lane_back u (suc s) lane h =
    let b = lane_back u s lane h in
    ⊎_elim
    (λ (some : 0 < b.0). (b.0 - 1, b.1, omega (arith, b.2), omega (arith, b.3)))
    (λ (first : b.0 ≤ 0). (u - 1, b.1 + 1, omega arith, omega (arith, b.3)))
    (cases_lt 0 b.0)

-- the tap before a tap that isn't the first
tap_before : (t : ℕ) (rest : List ℕ) (tap : ℕ) → Rises (t ∷ rest) → Contains rest tap
    → (b : ℕ) × Contains (t ∷ rest) b × ((more : List ℕ) × (taps_above b (t ∷ rest) ≡ tap ∷ more))
tap_before t [] tap r h = none tap h
tap_before t (u ∷ rest) tap r h =
    ⊎_elim {C = (b : ℕ) × Contains (t ∷ u ∷ rest) b × ((more : List ℕ) × (taps_above b (t ∷ u ∷ rest) ≡ tap ∷ more))}
    (λ (e : u ≡ tap). (
      t,
      head t (u ∷ rest),
      (
        rest,
        skip t t (u ∷ rest) (omega arith)
            ∙ keep_all (λ y. nat_lt t y) (u ∷ rest) (recursion_from_All (λ y. nat_lt t y ≡ true) (u ∷ rest)
            (All-weaker (λ y. t < y) (λ y. nat_lt t y ≡ true) (λ y lt. lt-ltb t y lt) (u ∷ rest) r.0))
            ∙ ap (λ z. z ∷ rest) e,
      ),
    ))
    (λ (l : Contains rest tap).
    let q = tap_before u rest tap r.1 l in
    let over : t < q.0 = All-contains (λ y. t < y) (u ∷ rest) q.0 r.0 q.1 in
    (q.0, tail t (u ∷ rest) q.0 q.1, (q.2.0, skip q.0 t (u ∷ rest) (omega arith) ∙ q.2.1)))
    (cases u rest tap h)
  where
    skip : (b t : ℕ) (ts : List ℕ) → t ≤ b → taps_above b (t ∷ ts) ≡ taps_above b ts
    skip b t ts le = ap (λ c. cond c (t ∷ taps_above b ts) (taps_above b ts)) (le-ltb b t le)

from_map : {A B : Type 0} (f : A → B) (xs : List A) (d : A) (y : B) → Contains (map f xs) y → (k : ℕ) × (k < length xs) × (f (get_or xs k d) ≡ y)
from_map f xs d y h =
    let lt : h.0 < length xs = omega (arith, length-map xs f, h.1) in
    (h.0, lt, sym (get_or-map f xs h.0 d y lt) ∙ h.2)

-- what a queue to a computing module or a sink says of its port
into_compute : (p : Plan) (s : Module) (x lane : ℕ) (q : Queue) → Joins p s (Compute x lane) q → (q.port < length p.reads) × (x ≡ (read_at p q.port).reader)
into_compute p (Source w) x lane q j = absurd j
into_compute p (Forward w row a) x lane q j = (j.0, j.2)
into_compute p (Compute w row) x lane q j = absurd j
into_compute p (Sink w) x lane q j = absurd j

into_sink : (p : Plan) (s : Module) (v : ℕ) (q : Queue) → IsThere p s → Joins p s (Sink v) q → q.port < p.unroll
into_sink p (Source w) v q h j = absurd j
into_sink p (Forward w row a) v q h j = absurd j
into_sink p (Compute w row) v q h j = omega (arith, j.1, h.2)
into_sink p (Sink w) v q h j = absurd j

module _ (p : Plan) (plan : IsPlan p) where
  abbrev queues : List Queue
  queues = (network_of p).queues

  -- a queue with this end and this port
  abbrev IsFed : Module → ℕ → ℕ → Type 0
  IsFed m port n = (n < length queues) × ((queue_at queues n).to ≡ number_of p m) × ((queue_at queues n).port ≡ port)

  -- a queue that a module sends into is one of the network's
  queue_there : (m : Module) → IsThere p m → (q : Queue) → Contains (queues_from p m) q → (n : ℕ) × (n < length queues) × (queue_at queues n ≡ q)
  unfolding network_of
  queue_there m h q c =
      let a = stands p plan.lanes m h in
      let f : Contains (flat_map (queues_from p) (modules_of p)) q = in_flat (queues_from p) (modules_of p) (place_of p m) m q a.within (a.is m) c in
      (f.0, f.1, get_or_default (flat_map (queues_from p) (modules_of p)) f.0 _ q f.1 ∙ f.2)

  fed_by : (m r : Module) (port : ℕ) → IsThere p m → (q : Queue) → Contains (queues_from p m) q → q.to ≡ number_of p r → q.port ≡ port
      → (n : ℕ) × IsFed r port n
  fed_by m r port h q c to at =
      let n = queue_there m h q c in
      (n.0, (n.1, ap (λ (x : Queue). x.to) n.2 ∙ to, ap (λ (x : Queue). x.port) n.2 ∙ at))

  chain_has : (m : Module) (v lane : ℕ) (ts : List ℕ) (t : ℕ) (rest : List ℕ) → ts ≡ t ∷ rest
      → (q : Queue) × Contains (link p m v lane ts) q × (q.to ≡ number_of p (Forward v lane t)) × (q.port ≡ 0)
  chain_has m v lane [] t rest e = absurd (cc)
  chain_has m v lane (u ∷ us) t rest e =
      let q : Queue = record {
        from = number_of p m;
        to = number_of p (Forward v lane u);
        port = 0;
        capacity = max 1
            (gap_of (taps_at p v lane) u);
        lead = 0;
      } in
      let same : u ≡ t = cc in
      (q, here q [], ap (λ x. number_of p (Forward v lane x)) same, refl)

  -- each forwarding module is fed
  fed_first : (v lane tap : ℕ) (rest : List ℕ) → v < length p.kinds → lane < p.unroll → taps_at p v lane ≡ tap ∷ rest → (k : Kind) → kind_at p v ≡ k
      → (n : ℕ) × IsFed (Forward v lane tap) 0 n
  unfolding queues_from
  fed_first v lane tap rest h l e Input i =
      let q = chain_has (Source v) v lane (taps_at p v lane) tap rest e in
      fed_by (Source v) (Forward v lane tap) 0 (h, i) q.0 (in_joined (λ row. link p (Source v) v row (taps_at p v row)) p.unroll lane q.0 l q.1) q.2 q.3
  fed_first v lane tap rest h l e Inner i =
      let q = chain_has (Compute v lane) v lane (taps_at p v lane) tap rest e in
      fed_by (Compute v lane) (Forward v lane tap) 0 (h, (λ o. let w = sym i ∙ o in cc), l) q.0
      (Contains-append_left (link p (Compute v lane) v lane (taps_at p v lane)) (to_sink p v lane) q.0 q.1) q.2 q.3
  fed_first v lane tap rest h l e Output i =
      let q = chain_has (Compute v lane) v lane (taps_at p v lane) tap rest e in
      fed_by (Compute v lane) (Forward v lane tap) 0 (h, (λ o. let w = sym i ∙ o in cc), l) q.0
      (Contains-append_left (link p (Compute v lane) v lane (taps_at p v lane)) (to_sink p v lane) q.0 q.1) q.2 q.3

  fed_next : (v lane b tap : ℕ) (more : List ℕ) → IsThere p (Forward v lane b) → taps_above b (taps_at p v lane) ≡ tap ∷ more
      → (n : ℕ) × IsFed (Forward v lane tap) 0 n
  unfolding queues_from
  fed_next v lane b tap more h e =
      let q = chain_has (Forward v lane b) v lane (taps_above b (taps_at p v lane)) tap more e in
      fed_by (Forward v lane b) (Forward v lane tap) 0 h q.0
      (Contains-append_left (link p (Forward v lane b) v lane (taps_above b (taps_at p v lane))) (served p v lane b) q.0 q.1) q.2 q.3

  pub fed_forward : (v lane tap : ℕ) → IsThere p (Forward v lane tap) → (n : ℕ) × IsFed (Forward v lane tap) 0 n
  fed_forward v lane tap h = by (taps_at p v lane) refl
    where
      by : (ts : List ℕ) → taps_at p v lane ≡ ts → (n : ℕ) × IsFed (Forward v lane tap) 0 n
      by [] e = none tap (subst (λ ts. Contains ts tap) e h.2)
      by (t ∷ rest) e =
          ⊎_elim {C = (n : ℕ) × IsFed (Forward v lane tap) 0 n}
          (λ (same : t ≡ tap). fed_first v lane tap rest h.0 h.1 (e ∙ ap (λ z. z ∷ rest) same) (kind_at p v) refl)
          (λ (l : Contains rest tap).
          let b = tap_before t rest tap (subst Rises e (taps_rise p v lane plan.lanes)) l in
          fed_next v lane b.0 tap b.2.0 (h.0, h.1, subst (λ ts. Contains ts b.0) (sym e) b.1) (ap (taps_above b.0) e ∙ b.2.1))
          (cases t rest tap (subst (λ ts. Contains ts tap) e h.2))

  -- each lane of a sink is fed
  pub fed_sink : (v lane : ℕ) → IsThere p (Sink v) → lane < p.unroll → (n : ℕ) × IsFed (Sink v) lane n
  unfolding queues_from to_sink
  fed_sink v lane h l =
      let q = to_the_sink p v lane in
      let has : Contains (to_sink p v lane) q = subst (λ (k : Kind). Contains (sinking p v lane k) q) (sym h.1) (here q []) in
      fed_by (Compute v lane) (Sink v) lane (h.0, (λ o. let w = sym h.1 ∙ o in cc), l) q
      (Contains-append_right (link p (Compute v lane) v lane (taps_at p v lane)) (to_sink p v lane) q has) refl refl

  in_taps : (v row a : ℕ) → Contains (map (age_in_cycles row p.unroll) (ages_of p v)) a → Contains (taps_at p v row) a
  unfolding taps_at
  in_taps v row a c = ((taps_there (ages_of p v) row p.unroll plan.lanes).each a).1 c

  -- each read of a computing module's tensor is fed
  pub fed_compute : (x lane n : ℕ) → IsThere p (Compute x lane) → n < length p.reads → (read_at p n).reader ≡ x → (m : ℕ) × IsFed (Compute x lane) n m
  unfolding queues_from served
  fed_compute x lane n h lt is =
      let r = read_at p n in
      let b = lane_back p.unroll (age_of p r) lane h.2 in
      let row = b.0 in
      let a = b.1 in
      let tap : (row + age_of p r) / p.unroll ≡ a = ap (λ z. z / p.unroll) b.3 ∙ div-mul-add a p.unroll lane h.2 in
      let at : (row + age_of p r) % p.unroll ≡ lane = ap (λ z. z % p.unroll) b.3 ∙ mod-mul-add a p.unroll lane h.2 in
      let before : r.of < r.reader = plan.of n no_read lt in
      let within : r.reader < length p.kinds = plan.reader n no_read lt in
      let known : Contains (filter (λ (q : Read). q.of == r.of) p.reads) r =
      in_filter (λ (q : Read). q.of == r.of) p.reads n r lt (get_or_default p.reads n r no_read lt) (eq-eqb r.of r.of refl) in
      let age : Contains (map (age_in_cycles row p.unroll) (ages_of p r.of)) a = subst (λ z. Contains (map (age_in_cycles row p.unroll) (ages_of p r.of)) z) tap
      (in_map (age_in_cycles row p.unroll) (ages_of p r.of) (age_of p r) (in_map (age_of p) (filter (λ (q : Read). q.of == r.of) p.reads) r known)) in
      let there : IsThere p (Forward r.of row a) = (omega arith, b.2, in_taps r.of row a age) in
      let passes : is_served p r.of row a n ≡ true =
      and_from (r.of == r.of) ((row + age_of p r) / p.unroll == a) (eq-eqb r.of r.of refl) (eq-eqb ((row + age_of p r) / p.unroll) a tap) in
      let ns = range_with_len 0 (length p.reads) in
      let chosen : Contains (filter (is_served p r.of row a) ns) n =
      in_filter (is_served p r.of row a) ns n n (omega (arith, length-range_with_len 0 (length p.reads), lt))
      (omega (arith, get_or-range_with_len 0 (length p.reads) n n lt)) passes in
      let one = in_map (serving p r.of row a) (filter (is_served p r.of row a) ns) n chosen in
      let q = serving p r.of row a n in
      let has = in_order (map (serving p r.of row a) (filter (is_served p r.of row a) ns)) one.0 q one.1 one.2 in
      fed_by (Forward r.of row a) (Compute x lane) n there q
      (Contains-append_right (link p (Forward r.of row a) r.of row (taps_above a (taps_at p r.of row))) _ q has)
      (ap (λ z. number_of p (Compute r.reader z)) at ∙ ap (λ z. number_of p (Compute z lane)) is) refl

  module _ (stand : (m : ℕ) → StandByPort (network_of p) m) where
    -- the ports of the queues to a module
    abbrev pub ports_at : Module → List ℕ
    ports_at m = map (λ q. (queue_at queues q).port) (entrances (network_of p) (number_of p m))

    -- each queue to a module is one of the network's
    pub entrance_is : (m j d : ℕ) → j < length (entrances (network_of p) m)
        → (get_or (entrances (network_of p) m) j d < length queues) × ((queue_at queues (get_or (entrances (network_of p) m) j d)).to ≡ m)
    entrance_is m j d lt = ((stand m).all (get_or (entrances (network_of p) m) j d)).0 (Contains-get_or (entrances (network_of p) m) j d lt)

    ports_rise : (m : Module) → Rises (ports_at m)
    ports_rise m =
        let es = entrances (network_of p) (number_of p m) in
        let f : ℕ → ℕ = λ q. (queue_at queues q).port in
        by_pairs (map f es) (λ i j d lt below.
        let last : j < length es = omega (arith, length-map es f) in
        let up : f (get_or es i 0) < f (get_or es j 0) = (stand (number_of p m)).rising i j 0 lt last in
        omega (arith, get_or-map f es i 0 d (omega arith), get_or-map f es j 0 d last))

    -- a port of a queue to a module
    port_from : (m : Module) (port : ℕ) → IsThere p m → Contains (ports_at m) port → (s : Module) × (q : Queue) × IsThere p s × Joins p s m q × (q.port ≡ port)
    port_from m port h c =
        let es = entrances (network_of p) (number_of p m) in
        let k = from_map (λ q. (queue_at queues q).port) es 0 port c in
        let e = entrance_is (number_of p m) k.0 0 k.1 in
        let j = joined_at p plan (get_or es k.0 0) e.0 in
        let q = queue_at queues (get_or es k.0 0) in
        let to : module_at (network_of p) q.to ≡ m = ap (module_at (network_of p)) e.1 ∙ module_of p plan m h in
        (module_at (network_of p) q.from, q, j.sends, subst (λ (r : Module). Joins p (module_at (network_of p) q.from) r q) to j.joins, k.2)

    port_of_fed : (m : Module) (port n : ℕ) → IsFed m port n → Contains (ports_at m) port
    port_of_fed m port n f =
        let es = entrances (network_of p) (number_of p m) in
        subst (Contains (ports_at m)) f.2 (in_map (λ q. (queue_at queues q).port) es n (((stand (number_of p m)).all n).1 (f.0, f.1)))

    -- the numbers of the reads by a tensor
    abbrev pub numbers_by : ℕ → List ℕ
    numbers_by x = filter (λ n. (read_at p n).reader == x) (range_with_len 0 (length p.reads))

    -- the ports of a computing module are the numbers of its tensor's reads
    pub compute_ports : (x lane : ℕ) → IsThere p (Compute x lane) → ports_at (Compute x lane) ≡ numbers_by x
    compute_ports x lane h =
        let ns = range_with_len 0 (length p.reads) in
        let f = λ (n : ℕ). (read_at p n).reader == x in
        same (ports_at (Compute x lane)) (numbers_by x) (ports_rise (Compute x lane)) (rises-filter f ns (rises ns (range_rises (length p.reads))))
        (λ z c.
        let k = port_from (Compute x lane) z h c in
        let i = into_compute p k.0 x lane k.1 k.3 in
        let lt : z < length p.reads = omega (arith, i.0, k.4) in
        in_filter f ns z z (omega (arith, length-range_with_len 0 (length p.reads))) (omega (arith, get_or-range_with_len 0 (length p.reads) z z lt))
        (eq-eqb (read_at p z).reader x (ap (λ y. (read_at p y).reader) (sym k.4) ∙ sym i.1)))
        (λ z c.
        let k = kept_from f ns z c in
        let lt : z < length p.reads = in_range_below (length p.reads) z k.0 in
        let m = fed_compute x lane z h lt (eqb-true (read_at p z).reader x k.1) in
        port_of_fed (Compute x lane) z m.0 m.1)
      where
        in_range_below : (n z : ℕ) → Contains (range_with_len 0 n) z → z < n
        in_range_below n z c =
            let lt : c.0 < n = omega (arith, length-range_with_len 0 n, c.1) in
            omega (arith, get_or-range_with_len 0 n c.0 z lt, c.2)

    -- the ports of a sink are the lanes
    pub sink_ports : (v : ℕ) → IsThere p (Sink v) → ports_at (Sink v) ≡ range_with_len 0 p.unroll
    sink_ports v h =
        same (ports_at (Sink v)) (range_with_len 0 p.unroll) (ports_rise (Sink v)) (rises _ (range_rises p.unroll))
        (λ z c.
        let k = port_from (Sink v) z h c in
        let lt : z < p.unroll = omega (arith, into_sink p k.0 v k.1 k.2 k.3, k.4) in
        ranged p.unroll z lt)
        (λ z c.
        let lt : c.0 < p.unroll = omega (arith, length-range_with_len 0 p.unroll, c.1) in
        let m = fed_sink v z h (omega (arith, get_or-range_with_len 0 p.unroll c.0 z lt, c.2)) in
        port_of_fed (Sink v) z m.0 m.1)

    -- a forwarding module has a queue to it
    pub forward_entrance : (v lane tap : ℕ) → IsThere p (Forward v lane tap) → 0 < length (entrances (network_of p) (number_of p (Forward v lane tap)))
    forward_entrance v lane tap h =
        let m = fed_forward v lane tap h in
        let c = ((stand (number_of p (Forward v lane tap))).all m.0).1 (m.1.0, m.1.1) in
        omega (arith, c.1)
