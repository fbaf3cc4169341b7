-- Which modules the queues of a plan's network join.
use Rattle.std.proofs.Common.{◌≡◌, ℕ, ◌+◌, ◌*◌, ◌/◌, ◌%◌, ◌<◌, ◌==◌, nat_lt, true, List, [], ◌∷◌, length, get_or, slice_index_or, refl, sym, ◌∙◌, ap, subst, arith, pos}
use Rattle.std.specs.List.{All, Contains, filter, range_with_len}
use Rattle.std.proofs.lemmas.Bool.{and_parts, eqb-true, ltb-true}
use Rattle.std.proofs.lemmas.Nat.{div-add-mod'}
use Rattle.std.proofs.lemmas.List.{get_or_default}
use Rattle.std.proofs.lemmas.List.Elements.{All-append, All-cons, All-filter, All-map, All-nil, All-weaker, filter_passes}
use Rattle.std.proofs.lemmas.List.FromFn.{get_or-range_with_len, length-range_with_len}
use Rattle.delay_net.specs.declared.net.Read.{Read}
use Rattle.net_ir.specs.Nets.{queue_at}
use Rattle.net_ir.specs.declared.network.Module.{Module}
use Rattle.net_ir.specs.declared.network.Module.TheVariants.{Source, Forward, Compute, Sink}
use Rattle.net_ir.specs.declared.network.Queue.{Queue}
use Rattle.net_shape.specs.Modules.{IsThere, modules_of, number_of}
use Rattle.net_shape.specs.Plans.{IsPlan, Plan, age_of, kind_at, taps_at}
use Rattle.net_shape.specs.Queues.{is_served, link, network_of, queues_from, read_at, reader_of, served, serving, taps_above, to_sink}
use Rattle.net_shape.specs.declared.kinds.Kind.{Kind}
use Rattle.net_shape.specs.declared.kinds.Kind.TheVariants.{Input, Inner, Output}
use Rattle.net_shape.proofs.CallerLemmas.{all-joined, each_there, number_is, reader_there, stands}
use Rattle.staged_cells.specs.Streams.{module_at}
use Rattle.staged_cells.proofs.Lists.{all_flat, all_in_order, kept_of}

-- What a queue between two modules is like: from a forwarding module to a computing module it serves a read, the number
-- of which is its port.
abbrev pub Joins : Plan → Module → Module → Queue → Type 0
Joins p (Source w) (Forward v lane tap) q = (w ≡ v) × (q.lead ≡ 0)
Joins p (Compute w row) (Forward v lane tap) q = (w ≡ v) × (row ≡ lane) × (q.lead ≡ 0)
Joins p (Forward w row a) (Forward v lane tap) q = (w ≡ v) × (row ≡ lane) × (a < tap) × (q.lead ≡ 0)
Joins p (Forward w row a) (Compute x lane) q =
    (q.port < length p.reads) × (w ≡ (read_at p q.port).of) × (x ≡ (read_at p q.port).reader) × (row + age_of p (read_at p q.port) ≡ a * p.unroll + lane) ×
    (q.lead ≡ a)
Joins p (Compute w row) (Sink v) q = (w ≡ v) × (row ≡ q.port) × (q.lead ≡ 0)
Joins p _ _ q = ⊥

-- a queue from a module goes to one that it can join
record IsLink (p : Plan) (m : Module) (q : Queue) : Type 0 where
  pub receiver : Module
  pub there : IsThere p receiver
  pub joins : Joins p m receiver q
  pub from : q.from ≡ number_of p m
  pub to : q.to ≡ number_of p receiver

-- the read that stands for none
abbrev pub no_read : Read
no_read = record { reader = 0; of = 0; offset = pos 0 }

-- the queue from a computing module to its sink, where there is one
abbrev pub to_the_sink : Plan → (v lane : ℕ) → Queue
to_the_sink p v lane = record { from = number_of p (Compute v lane); to = number_of p (Sink v); port = lane; capacity = 1; lead = 0 }

abbrev pub sinking : Plan → (v lane : ℕ) → Kind → List Queue
sinking p v lane k = elim k [ Input ↦ [] | Inner ↦ [] | Output ↦ to_the_sink p v lane ∷ [] ]

-- a queue joins two modules that are there
pub record IsJoined (p : Plan) (q : Queue) : Type 0 where
  pub from : q.from ≡ number_of p (module_at (network_of p) q.from)
  pub to : q.to ≡ number_of p (module_at (network_of p) q.to)
  pub sends : IsThere p (module_at (network_of p) q.from)
  pub takes : IsThere p (module_at (network_of p) q.to)
  pub joins : Joins p (module_at (network_of p) q.from) (module_at (network_of p) q.to) q

module _ (p : Plan) (plan : IsPlan p) where
  chained : (m : Module) (v lane : ℕ) (ts : List ℕ) → All (λ t. IsThere p (Forward v lane t) × ((q : Queue) → q.lead ≡ 0 → Joins p m (Forward v lane t) q)) ts
      → All (IsLink p m) (link p m v lane ts)
  chained m v lane [] h = All-nil (IsLink p m)
  chained m v lane (t ∷ rest) h =
      let k = h 0 t (omega arith) in
      All-cons (IsLink p m) _ [] (record { receiver = Forward v lane t; there = k.0; joins = k.1 _ refl; from = refl; to = refl }) (All-nil (IsLink p m))

  taps_there : (v lane : ℕ) → v < length p.kinds → lane < p.unroll → All (λ t. IsThere p (Forward v lane t)) (taps_at p v lane)
  taps_there v lane h k = λ i d lt. (h, k, contained i d lt)
    where
      contained : (i d : ℕ) → i < length (taps_at p v lane) → Contains (taps_at p v lane) (get_or (taps_at p v lane) i d)
      contained i d lt = (i, lt, get_or_default (taps_at p v lane) i _ d lt)

  from_source : (v : ℕ) → IsThere p (Source v) → All (IsLink p (Source v)) (queues_from p (Source v))
  unfolding queues_from
  from_source v h =
      all-joined (IsLink p (Source v)) (λ lane. link p (Source v) v lane (taps_at p v lane)) p.unroll
      (λ lane lt. chained (Source v) v lane (taps_at p v lane) (λ i d l. (taps_there v lane h.0 lt i d l, λ q e. (refl, e))))

  into_sink : (v lane : ℕ) → IsThere p (Compute v lane) → (k : Kind) → kind_at p v ≡ k → All (IsLink p (Compute v lane)) (to_sink p v lane)
  unfolding to_sink
  into_sink v lane h Input e = subst (λ (z : Kind). All (IsLink p (Compute v lane)) (sinking p v lane z)) (sym e) (All-nil (IsLink p (Compute v lane)))
  into_sink v lane h Inner e = subst (λ (z : Kind). All (IsLink p (Compute v lane)) (sinking p v lane z)) (sym e) (All-nil (IsLink p (Compute v lane)))
  into_sink v lane h Output e =
      subst (λ (z : Kind). All (IsLink p (Compute v lane)) (sinking p v lane z)) (sym e)
      (All-cons (IsLink p (Compute v lane)) (to_the_sink p v lane) []
      (record { receiver = Sink v; there = (h.0, e); joins = (refl, refl, refl); from = refl; to = refl }) (All-nil (IsLink p (Compute v lane))))

  from_compute : (v lane : ℕ) → IsThere p (Compute v lane) → All (IsLink p (Compute v lane)) (queues_from p (Compute v lane))
  unfolding queues_from
  from_compute v lane h =
      All-append (IsLink p (Compute v lane)) (link p (Compute v lane) v lane (taps_at p v lane)) (to_sink p v lane)
      (chained (Compute v lane) v lane (taps_at p v lane) (λ i d l. (taps_there v lane h.0 h.2 i d l, λ q e. (refl, refl, e))))
      (into_sink v lane h (kind_at p v) refl)

  serves : (v lane tap n : ℕ) → n < length p.reads → is_served p v lane tap n ≡ true → IsLink p (Forward v lane tap) (serving p v lane tap n)
  serves v lane tap n lt e =
      let r = read_at p n in
      let parts = and_parts (r.of == v) ((lane + age_of p r) / p.unroll == tap) e in
      let of : r.of ≡ v = eqb-true r.of v parts.0 in
      let at : (lane + age_of p r) / p.unroll ≡ tap = eqb-true _ tap parts.1 in
      let whole = div-add-mod' (lane + age_of p r) p.unroll in
      record {
        receiver = reader_of p lane n;
        there = reader_there p plan lane n lt;
        joins = (lt, sym of, refl, sym whole ∙ ap (λ k. k * p.unroll + (lane + age_of p r) % p.unroll) at, refl);
        from = refl;
        to = refl;
      }

  into_readers : (v lane tap : ℕ) → All (IsLink p (Forward v lane tap)) (served p v lane tap)
  unfolding served
  into_readers v lane tap =
      let ns = range_with_len 0 (length p.reads) in
      let known : All (λ n. n < length p.reads) ns = λ k d lt. omega (
        arith,
        get_or-range_with_len 0 (length p.reads) k d (omega (arith, length-range_with_len 0 (length p.reads))),
        length-range_with_len 0 (length p.reads),
      ) in
      all_in_order (IsLink p (Forward v lane tap)) _ (All-map (IsLink p (Forward v lane tap)) (serving p v lane tap) (filter (is_served p v lane tap) ns)
      (λ k d lt. serves v lane tap _ (All-filter (is_served p v lane tap) (λ n. n < length p.reads) ns known k d lt)
      (filter_passes (is_served p v lane tap) ns k d lt)))

  from_forward : (v lane tap : ℕ) → IsThere p (Forward v lane tap) → All (IsLink p (Forward v lane tap)) (queues_from p (Forward v lane tap))
  unfolding queues_from
  from_forward v lane tap h =
      All-append (IsLink p (Forward v lane tap)) (link p (Forward v lane tap) v lane (taps_above tap (taps_at p v lane))) (served p v lane tap)
      (chained (Forward v lane tap) v lane (taps_above tap (taps_at p v lane))
      (λ i d lt. let k = kept_of (λ t. nat_lt tap t) (taps_at p v lane) i d lt in ((h.0, h.1, k.0), λ q e. (refl, refl, ltb-true tap _ k.1, e))))
      (into_readers v lane tap)

  from_module : (m : Module) → IsThere p m → All (IsLink p m) (queues_from p m)
  unfolding queues_from
  from_module (Source v) h = from_source v h
  from_module (Forward v lane tap) h = from_forward v lane tap h
  from_module (Compute v lane) h = from_compute v lane h
  from_module (Sink v) h = All-nil (IsLink p (Sink v))

  -- the module of a module's number
  pub module_of : (m : Module) → IsThere p m → module_at (network_of p) (number_of p m) ≡ m
  unfolding network_of
  module_of m h = ap (λ n. slice_index_or (modules_of p) n (Sink 0)) (number_is p plan.lanes m h) ∙ (stands p plan.lanes m h).is (Sink 0)

  joined_by : (m : Module) → IsThere p m → (q : Queue) → IsLink p m q → IsJoined p q
  joined_by m h q l =
      let from : module_at (network_of p) q.from ≡ m = ap (module_at (network_of p)) l.from ∙ module_of m h in
      let to : module_at (network_of p) q.to ≡ l.receiver = ap (module_at (network_of p)) l.to ∙ module_of l.receiver l.there in
      record {
        from = l.from ∙ ap (number_of p) (sym from);
        to = l.to ∙ ap (number_of p) (sym to);
        sends = subst (IsThere p) (sym from) h;
        takes = subst (IsThere p) (sym to) l.there;
        joins = subst (λ (s : Module). Joins p s (module_at (network_of p) q.to) q) (sym from) (subst (λ (r : Module). Joins p m r q) (sym to) l.joins);
      }

  all_joined_queues : All (IsJoined p) (network_of p).queues
  unfolding network_of
  all_joined_queues =
      all_flat (IsJoined p) (queues_from p) (modules_of p) (λ k d lt.
      let m = get_or (modules_of p) k d in
      let there = (each_there p plan.lanes k d lt).0 in
      All-weaker (IsLink p m) (IsJoined p) (joined_by m there) (queues_from p m) (from_module m there))

  pub joined_at : (n : ℕ) → n < length (network_of p).queues → IsJoined p (queue_at (network_of p).queues n)
  joined_at n lt = all_joined_queues n _ lt
