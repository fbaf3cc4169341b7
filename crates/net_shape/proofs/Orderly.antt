-- The network of a plan fits its firing order.
use Rattle.std.proofs.Common.{◌≡◌, ℕ, zero, suc, ◌+◌, ◌-◌, ◌<◌, ◌≤◌, ◌⊎◌, List, [], ◌∷◌, ◌++◌, length, get_or, map, refl, sym, ◌∙◌, ap, subst, arith, ⊎_elim, inl, inr}
use Rattle.std.specs.List.{All, flat_map}
use Rattle.std.proofs.lemmas.Bool.{cases_lt}
use Rattle.std.proofs.lemmas.List.{length-append}
use Rattle.std.proofs.lemmas.List.Elements.{All-append, All-nil, All-weaker}
use Rattle.delay_net.specs.Sums.{sum_below}
use Rattle.net_ir.specs.Nets.{FitsOrder, IsOrderly, age, age_at}
use Rattle.net_ir.specs.declared.network.Module.{Module}
use Rattle.net_ir.specs.declared.network.Module.TheVariants.{Source, Forward, Compute, Sink}
use Rattle.net_ir.specs.declared.network.Queue.{Queue}
use Rattle.net_shape.specs.Modules.{IsThere, block, far_forwards, far_lane, far_taps, modules_of, near_forwards, near_lane, number_of, producers, sinks}
use Rattle.net_shape.specs.Plans.{IsPlan, Plan, kind_at}
use Rattle.net_shape.specs.Queues.{network_of, queues_from}
use Rattle.net_shape.specs.declared.kinds.Kind.{Kind}
use Rattle.net_shape.specs.declared.kinds.Kind.TheVariants.{Input, Inner, Output}
use Rattle.net_shape.specs.machine.Places.{block_begin, far_begin, far_lane_begin, near_begin, place_of}
use Rattle.net_shape.proofs.Placed.{At, at_first, at_joined, length_joined}
use Rattle.net_shape.proofs.Rising.{at_down, fewer_above}
use Rattle.net_shape.proofs.Numbers.{far_rise, has_far, near_zero, place_far, place_near}
use Rattle.net_shape.proofs.Stands.{compute_stands, each_there, number_is, source_stands, stands}
use Rattle.net_shape.proofs.Feeds.{Feeds, IsFed, all_fed, capacity_to, lead_to}

sum_below_within : (v w : ℕ) (f : ℕ → ℕ) → v < w → sum_below v f + f v ≤ sum_below w f
unfolding sum_below
sum_below_within v zero f h = absurd (omega arith)
sum_below_within v (suc w) f h =
    ⊎_elim (λ lt. omega (arith, sum_below_within v w f lt))
    (λ ge. let e : v ≡ w = omega arith in omega (arith, ap (λ k. sum_below k f + f k) e))
    (cases_lt v w)

-- A queue goes onward, and its receiver's age and lead are the sender's age; or back, from a lesser age, over as many
-- cells as the ages differ by.
abbrev pub Goes : Plan → Module → Module → Type 0
Goes p m r =
    ((place_of p m < place_of p r) × (age r + lead_to m r ≡ age m))
    ⊎ ((place_of p r < place_of p m) × (age m < age r) × (lead_to m r ≡ 0) × (capacity_to m r ≡ age r - age m))

module _ (p : Plan) (lanes : 0 < p.unroll) where
  far_within : (v lane tap : ℕ) → IsThere p (Forward v lane tap) → 0 < tap → place_of p (Forward v lane tap) < far_begin p (length p.kinds)
  unfolding far_begin far_lane_begin far_forwards far_lane
  far_within v lane tap h up =
      let a = at_joined (far_forwards p) (length p.kinds) v _ _ h.0 (at_joined (far_lane p v) p.unroll lane _ _ h.1
      (at_down (λ t. Forward v lane t) (far_taps p v lane) tap (far_rise p v lane lanes) (has_far p v lane tap lanes h.2 up))) in
      omega (arith, a.within, length_joined (far_forwards p) (length p.kinds), place_far p v lane tap up)

  far_first : (v : ℕ) → far_begin p (length p.kinds) ≤ block_begin p v
  unfolding block_begin
  far_first v = omega arith

  blocks_rise : (v w : ℕ) → v < w → block_begin p v + length (block p v) ≤ block_begin p w
  unfolding block_begin
  blocks_rise v w h = omega (arith, sum_below_within v w (λ x. length (block p x)) h)

  block_length : (v : ℕ) → length (block p v) ≡ length (producers p v) + (length (near_forwards p v) + length (sinks p v))
  unfolding block
  block_length v = omega (arith, length-append (producers p v) (near_forwards p v ++ sinks p v), length-append (near_forwards p v) (sinks p v))

  near_starts : (v lane : ℕ) → block_begin p v + length (producers p v) ≤ near_begin p v lane
  unfolding near_begin
  near_starts v lane = omega arith

  near_within : (v lane : ℕ) → IsThere p (Forward v lane 0) → near_begin p v lane < block_begin p v + length (block p v)
  unfolding near_begin near_forwards near_lane
  near_within v lane h =
      let one : At (near_lane p v lane) 0 (Forward v lane 0) = subst (λ ts. At (map (λ tap. Forward v lane tap) ts) 0 (Forward v lane 0))
      (sym (near_zero p v lane lanes h.2)) (at_first (Forward v lane 0) []) in
      let a = at_joined (near_lane p v) p.unroll lane 0 _ h.1 one in
      omega (arith, a.within, block_length v)

  source_within : (v : ℕ) → IsThere p (Source v) → 0 < length (producers p v)
  source_within v h = (source_stands p lanes v h.1).within

  compute_within : (v lane : ℕ) → IsThere p (Compute v lane) → lane < length (producers p v)
  compute_within v lane h = (compute_stands p lanes v lane h (kind_at p v) refl).within

  source_place : (v : ℕ) → place_of p (Source v) ≡ block_begin p v
  unfolding place_of
  source_place v = refl

  pub compute_place : (v lane : ℕ) → place_of p (Compute v lane) ≡ block_begin p v + lane
  unfolding place_of
  compute_place v lane = refl

  pub sink_place : (v : ℕ) → place_of p (Sink v) ≡ near_begin p v p.unroll
  unfolding place_of
  sink_place v = refl

  goes_source : (v lane tap : ℕ) → IsThere p (Source v) → IsThere p (Forward v lane tap) → Goes p (Source v) (Forward v lane tap)
  goes_source v lane zero h k =
      inl (omega (arith, source_place v, place_near p v lane, near_starts v lane, source_within v h), omega arith)
  goes_source v lane (suc tap) h k =
      inr (omega (arith, source_place v, far_within v lane (suc tap) k (omega arith), far_first v), omega arith, refl, omega arith)

  goes_compute : (v lane tap : ℕ) → IsThere p (Compute v lane) → IsThere p (Forward v lane tap) → Goes p (Compute v lane) (Forward v lane tap)
  goes_compute v lane zero h k =
      inl (omega (arith, compute_place v lane, place_near p v lane, near_starts v lane, compute_within v lane h), omega arith)
  goes_compute v lane (suc tap) h k =
      inr (omega (arith, compute_place v lane, far_within v lane (suc tap) k (omega arith), far_first v), omega arith, refl, omega arith)

  goes_forward : (v lane a tap : ℕ) → IsThere p (Forward v lane a) → IsThere p (Forward v lane tap) → a < tap → Goes p (Forward v lane a) (Forward v lane tap)
  goes_forward v lane zero tap h k lt =
      inr (omega (arith, place_near p v lane, near_starts v lane, far_within v lane tap k lt, far_first v), lt, refl, omega arith)
  goes_forward v lane (suc a) tap h k lt =
      let up : 0 < tap = omega arith in
      inr (
        omega (
          arith,
          place_far p v lane (suc a) (omega arith),
          place_far p v lane tap up,
          fewer_above (far_taps p v lane) (suc a) tap lt
              (has_far p v lane tap lanes k.2 up),
        ),
        lt,
        refl,
        omega arith,
      )

  goes_served : (v row a x lane : ℕ) → IsThere p (Forward v row a) → v < x → Goes p (Forward v row a) (Compute x lane)
  goes_served v row zero x lane h lt =
      inl (omega (arith, place_near p v row, near_within v row h, blocks_rise v x lt, compute_place x lane), omega arith)
  goes_served v row (suc a) x lane h lt =
      inl (omega (arith, far_within v row (suc a) h (omega arith), far_first x, compute_place x lane), omega arith)

  pub goes : (m r : Module) (port : ℕ) → IsThere p m → IsThere p r → Feeds p m r port → Goes p m r
  goes (Source v) (Source w) k h i f = absurd f
  goes (Source v) (Forward w lane tap) k h i f =
      subst (λ (x : ℕ). Goes p (Source x) (Forward w lane tap)) (sym f.0) (goes_source w lane tap (subst (λ (x : ℕ). IsThere p (Source x)) f.0 h) i)
  goes (Source v) (Compute w lane) k h i f = absurd f
  goes (Source v) (Sink w) k h i f = absurd f
  goes (Forward v row a) (Source w) k h i f = absurd f
  goes (Forward v row a) (Forward w lane tap) k h i f =
      subst (λ (x : ℕ). Goes p (Forward x row a) (Forward w lane tap)) (sym f.0)
      (subst (λ (y : ℕ). Goes p (Forward w y a) (Forward w lane tap)) (sym f.1)
      (goes_forward w lane a tap (subst (λ (y : ℕ). IsThere p (Forward w y a)) f.1 (subst (λ (x : ℕ). IsThere p (Forward x row a)) f.0 h)) i f.2))
  goes (Forward v row a) (Compute x lane) k h i f = goes_served v row a x lane h f.2
  goes (Forward v row a) (Sink w) k h i f = absurd f
  goes (Compute v row) (Source w) k h i f = absurd f
  goes (Compute v row) (Forward w lane tap) k h i f =
      subst (λ (x : ℕ). Goes p (Compute x row) (Forward w lane tap)) (sym f.0)
      (subst (λ (y : ℕ). Goes p (Compute w y) (Forward w lane tap)) (sym f.1)
      (goes_compute w lane tap (subst (λ (y : ℕ). IsThere p (Compute w y)) f.1 (subst (λ (x : ℕ). IsThere p (Compute x row)) f.0 h)) i))
  goes (Compute v row) (Compute w lane) k h i f = absurd f
  goes (Compute v row) (Sink w) k h i f =
      inl (omega (arith, compute_place v row, compute_within v row h, sink_place w, near_starts w p.unroll, ap (block_begin p) f.0, ap (λ x. length (producers p x)) f.0), omega arith)
  goes (Sink v) (Source w) k h i f = absurd f
  goes (Sink v) (Forward w lane tap) k h i f = absurd f
  goes (Sink v) (Compute w lane) k h i f = absurd f
  goes (Sink v) (Sink w) k h i f = absurd f

  -- the age of the module of a number
  age_there : (m : Module) → IsThere p m → age (get_or (modules_of p) (number_of p m) (Sink 0)) ≡ age m
  age_there m h = ap (λ n. age (get_or (modules_of p) n (Sink 0))) (number_is p lanes m h) ∙ ap age ((stands p lanes m h).is (Sink 0))

-- what holds of the queues from each module holds of all
pub all-flat : {A B : Type 0} (P : B → Type 0) (f : A → List B) (xs : List A) → All (λ x. All P (f x)) xs → All P (flat_map f xs)
all-flat P f [] h = All-nil P
all-flat P f (x ∷ xs) h = All-append P (f x) (flat_map f xs) (h 0 x (omega arith)) (all-flat P f xs (λ k d lt. h (suc k) d (omega arith)))

pub fits : (p : Plan) → IsPlan p → (m : Module) → IsThere p m → (q : Queue) → IsFed p m q → FitsOrder (network_of p) q
unfolding network_of
fits p plan m h q fed =
    let lanes = plan.lanes in
    let sender : q.from ≡ place_of p m = fed.from ∙ number_is p lanes m h in
    let taker : q.to ≡ place_of p fed.receiver = fed.to ∙ number_is p lanes fed.receiver fed.there in
    let early : age_at (network_of p) q.from ≡ age m = ap (age_at (network_of p)) fed.from ∙ age_there p lanes m h in
    let late : age_at (network_of p) q.to ≡ age fed.receiver = ap (age_at (network_of p)) fed.to ∙ age_there p lanes fed.receiver fed.there in
    let capacity = fed.capacity in
    let lead = fed.lead in
    let least : 1 ≤ capacity_to m fed.receiver = at_least m fed.receiver in
    ⊎_elim
    (λ on. record {
      onward = λ lt. (omega (arith, on.0, on.1), omega (arith, on.0, on.1));
      back = λ lt. absurd (omega (arith, on.0));
    })
    (λ re. record {
      onward = λ lt. absurd (omega (arith, re.0));
      back = λ lt. (omega (arith, re.1, re.2), omega (arith, re.1, re.2, re.3));
    })
    (goes p lanes m fed.receiver q.port h fed.there fed.feeds)
  where
    at_least : (m r : Module) → 1 ≤ capacity_to m r
    at_least m (Source v) = omega arith
    at_least m (Forward v lane tap) = omega arith
    at_least m (Compute v lane) = omega arith
    at_least m (Sink v) = omega arith

pub all_queues : (p : Plan) → IsPlan p → (P : Queue → Type 0) → ((m : Module) → IsThere p m → (q : Queue) → IsFed p m q → P q) → All P (flat_map (queues_from p) (modules_of p))
all_queues p plan P h =
    all-flat P (queues_from p) (modules_of p)
    (λ k d lt. let m = get_or (modules_of p) k d in
    let there = (each_there p plan.lanes k d lt).0 in
    All-weaker (IsFed p m) P (h m there) (queues_from p m) (all_fed p plan m there))

pub orderly : (p : Plan) → IsPlan p → IsOrderly (network_of p)
unfolding network_of
orderly p plan n lt =
    all_queues p plan (FitsOrder (network_of p)) (fits p plan) n (record { from = 0; to = 0; port = 0; capacity = 0; lead = 0 }) lt

-- a network with a tensor has a module of age 0: what sends that tensor
pub ageless : (p : Plan) → IsPlan p → 0 < length p.kinds → (n : ℕ) × (n < length (network_of p).modules) × (age_at (network_of p) n ≡ 0)
unfolding network_of
ageless p plan some = by_kind (kind_at p 0) refl
  where
    found : (m : Module) → IsThere p m → age m ≡ 0 → (n : ℕ) × (n < length (network_of p).modules) × (age_at (network_of p) n ≡ 0)
    found m h e = let a = stands p plan.lanes m h in (place_of p m, a.within, ap age (a.is (Sink 0)) ∙ e)

    by_kind : (k : Kind) → kind_at p 0 ≡ k → (n : ℕ) × (n < length (network_of p).modules) × (age_at (network_of p) n ≡ 0)
    by_kind Input e = found (Source 0) (some, e) refl
    by_kind Inner e = found (Compute 0 0) (some, (λ i. let other = sym e ∙ i in cc), plan.lanes) refl
    by_kind Output e = found (Compute 0 0) (some, (λ i. let other = sym e ∙ i in cc), plan.lanes) refl
