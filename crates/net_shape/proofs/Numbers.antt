-- Each module of a plan stands at its place in the firing order.
use Rattle.std.proofs.Common.{◌≡◌, ◌≢◌, ℕ, zero, suc, ◌+◌, ◌<◌, ◌⊎◌, false, not, nat_lt, List, [], ◌∷◌, length, map, refl, sym, ◌∙◌, ap, subst, arith, ⊎_elim, inl, inr}
use Rattle.std.specs.List.{All, Contains, filter}
use Rattle.std.proofs.lemmas.Bool.{lt-ltb, ltb-true}
use Rattle.std.proofs.lemmas.List.Elements.{All-contains}
use Rattle.net_ir.specs.declared.network.Module.{Module}
use Rattle.net_ir.specs.declared.network.Module.TheVariants.{Source, Forward, Compute, Sink}
use Rattle.reuse_chain.proofs.CallerLemmas.{filtered, head, none, taps_there, Rises, rises}
use Rattle.net_shape.specs.Lists.{joined}
use Rattle.net_shape.specs.Modules.{IsThere, block, far_forwards, far_lane, far_taps, gap_of, modules_of, near_forwards, near_lane, near_taps, producers, sinks}
use Rattle.net_shape.specs.Plans.{Plan, ages_of, kind_at, taps_at}
use Rattle.net_shape.specs.declared.kinds.Kind.{Kind}
use Rattle.net_shape.specs.declared.kinds.Kind.TheVariants.{Input, Inner, Output}
use Rattle.net_shape.specs.machine.Places.{block_begin, count_above, far_begin, far_lane_begin, near_begin, place_of}
use Rattle.net_shape.proofs.Placed.{Counted, counted-append, counted-joined, counted_from, counted_one, length_joined, sum_below_ones}
use Rattle.net_shape.proofs.Rising.{counted_down, each_in, filter_same, gap_positive, keep_none, kept_from, rises-filter}

pub taps_rise : (p : Plan) (v lane : ℕ) → 0 < p.unroll → Rises (taps_at p v lane)
unfolding taps_at
taps_rise p v lane h = rises _ (taps_there (ages_of p v) lane p.unroll h).rising

-- far taps are those that aren't 0
pub far_is : (p : Plan) (v lane : ℕ) → 0 < p.unroll → far_taps p v lane ≡ filter (λ t. nat_lt 0 t) (taps_at p v lane)
unfolding far_taps
far_is p v lane h =
    filter_same (λ t. nat_lt 0 (gap_of (taps_at p v lane) t)) (λ t. nat_lt 0 t) (taps_at p v lane)
    (each_in (λ t. nat_lt 0 (gap_of (taps_at p v lane) t) ≡ nat_lt 0 t) (taps_at p v lane) (λ t c. gap_positive _ t (taps_rise p v lane h) c))

pub near_is : (p : Plan) (v lane : ℕ) → 0 < p.unroll → near_taps p v lane ≡ filter (λ t. not (nat_lt 0 t)) (taps_at p v lane)
unfolding near_taps
near_is p v lane h =
    filter_same (λ t. not (nat_lt 0 (gap_of (taps_at p v lane) t))) (λ t. not (nat_lt 0 t)) (taps_at p v lane)
    (each_in (λ t. not (nat_lt 0 (gap_of (taps_at p v lane) t)) ≡ not (nat_lt 0 t)) (taps_at p v lane) (λ t c. ap not (gap_positive _ t (taps_rise p v lane h) c)))

pub far_rise : (p : Plan) (v lane : ℕ) → 0 < p.unroll → Rises (far_taps p v lane)
far_rise p v lane h = subst Rises (sym (far_is p v lane h)) (rises-filter (λ t. nat_lt 0 t) _ (taps_rise p v lane h))

pub far_has : (p : Plan) (v lane tap : ℕ) → 0 < p.unroll → Contains (far_taps p v lane) tap → Contains (taps_at p v lane) tap × (0 < tap)
far_has p v lane tap h c =
    let k = kept_from (λ t. nat_lt 0 t) (taps_at p v lane) tap (subst (λ ts. Contains ts tap) (far_is p v lane h) c) in
    (k.0, ltb-true 0 tap k.1)

pub has_far : (p : Plan) (v lane tap : ℕ) → 0 < p.unroll → Contains (taps_at p v lane) tap → 0 < tap → Contains (far_taps p v lane) tap
has_far p v lane tap h c up =
    subst (λ ts. Contains ts tap) (sym (far_is p v lane h)) (filtered (λ t. nat_lt 0 t) _ tap c (lt-ltb 0 tap up))

-- a lane has at most one near tap, which is 0
zeros : (ts : List ℕ) → Rises ts → (filter (λ t. not (nat_lt 0 t)) ts ≡ []) ⊎ (filter (λ t. not (nat_lt 0 t)) ts ≡ 0 ∷ [])
zeros [] r = inl refl
zeros (zero ∷ xs) r =
    inr (ap (λ ys. 0 ∷ ys) (keep_none _ xs (each_in (λ t. not (nat_lt 0 t) ≡ false) xs (λ t c. ap not (lt-ltb 0 t (above r.0 t c))))))
  where
    above : All (λ y. 0 < y) xs → (t : ℕ) → Contains xs t → 0 < t
    above up t c = All-contains (λ y. 0 < y) xs t up c
zeros (suc n ∷ xs) r =
    inl (keep_none _ (suc n ∷ xs) (ap not (lt-ltb 0 (suc n) (omega arith)), each_in (λ t. not (nat_lt 0 t) ≡ false) xs (λ t c. ap not (lt-ltb 0 t (above r.0 t c)))))
  where
    above : All (λ y. suc n < y) xs → (t : ℕ) → Contains xs t → 0 < t
    above up t c = omega (arith, All-contains (λ y. suc n < y) xs t up c)

pub near_shape : (p : Plan) (v lane : ℕ) → 0 < p.unroll → (near_taps p v lane ≡ []) ⊎ ((near_taps p v lane ≡ 0 ∷ []) × Contains (taps_at p v lane) 0)
near_shape p v lane h =
    let is = near_is p v lane h in
    ⊎_elim (λ e. inl (is ∙ e))
    (λ e. inr (is ∙ e, (kept_from (λ t. not (nat_lt 0 t)) (taps_at p v lane) 0 (subst (λ ts. Contains ts 0) (sym e) (head 0 []))).0))
    (zeros (taps_at p v lane) (taps_rise p v lane h))

pub near_zero : (p : Plan) (v lane : ℕ) → 0 < p.unroll → Contains (taps_at p v lane) 0 → near_taps p v lane ≡ 0 ∷ []
near_zero p v lane h c =
    let has : Contains (near_taps p v lane) 0 = subst (λ ts. Contains ts 0) (sym (near_is p v lane h)) (filtered (λ t. not (nat_lt 0 t)) _ 0 c refl) in
    ⊎_elim (λ e. none 0 (subst (λ ts. Contains ts 0) e has)) (λ e. e.0) (near_shape p v lane h)

pub place_far : (p : Plan) (v lane tap : ℕ) → 0 < tap → place_of p (Forward v lane tap) ≡ far_lane_begin p v lane + count_above tap (far_taps p v lane)
unfolding place_of
place_far p v lane zero h = absurd (omega arith)
place_far p v lane (suc tap) h = refl

pub place_near : (p : Plan) (v lane : ℕ) → place_of p (Forward v lane 0) ≡ near_begin p v lane
unfolding place_of
place_near p v lane = refl

module _ (p : Plan) (lanes : 0 < p.unroll) where
  abbrev Good : ℕ → List Module → Type 0
  Good = Counted (IsThere p) (place_of p)

  far_lane_counted : (v lane : ℕ) → v < length p.kinds → lane < p.unroll → Good (far_lane_begin p v lane) (far_lane p v lane)
  unfolding far_lane
  far_lane_counted v lane h k =
      counted_down (IsThere p) (place_of p) (λ tap. Forward v lane tap) _ (far_taps p v lane) (far_rise p v lane lanes)
      (each_in (λ t. IsThere p (Forward v lane t) × (place_of p (Forward v lane t) ≡ far_lane_begin p v lane + count_above t (far_taps p v lane))) (far_taps p v lane)
      (λ t c. let f = far_has p v lane t lanes c in ((h, k, f.0), place_far p v lane t f.1)))

  far_counted : (v : ℕ) → v < length p.kinds → Good (far_begin p v) (far_forwards p v)
  unfolding far_forwards far_lane_begin
  far_counted v h =
      counted-joined (IsThere p) (place_of p) (far_lane p v) p.unroll _ (λ lane k. far_lane_counted v lane h k)

  computes_counted : (v : ℕ) → v < length p.kinds → kind_at p v ≢ Input → Good (block_begin p v) (joined (λ lane. Compute v lane ∷ []) p.unroll)
  unfolding place_of
  computes_counted v h k =
      counted-joined (IsThere p) (place_of p) (λ lane. Compute v lane ∷ []) p.unroll _
      (λ lane lt. counted_one (IsThere p) (place_of p) _ (Compute v lane) (h, k, lt) (ap (λ n. block_begin p v + n) (sym (sum_below_ones lane))))

  apart : (a b c : Kind) → a ≡ b → (b ≡ c → ⊥) → a ≢ c
  apart a b c e ne is = ne (sym e ∙ is)

  inner_not : Inner ≢ Input
  inner_not e = cc

  output_not : Output ≢ Input
  output_not e = cc

  producers_counted : (v : ℕ) → v < length p.kinds → (k : Kind) → kind_at p v ≡ k → Good (block_begin p v) (producers p v)
  unfolding producers place_of
  producers_counted v h Input e =
      subst (λ (k : Kind). Good (block_begin p v) (elim k [ Input ↦ Source v ∷ [] | Inner ↦ joined (λ lane. Compute v lane ∷ []) p.unroll | Output ↦ joined (λ lane. Compute v lane ∷ []) p.unroll ]))
      (sym e) (counted_one (IsThere p) (place_of p) _ (Source v) (h, e) refl)
  producers_counted v h Inner e =
      subst (λ (k : Kind). Good (block_begin p v) (elim k [ Input ↦ Source v ∷ [] | Inner ↦ joined (λ lane. Compute v lane ∷ []) p.unroll | Output ↦ joined (λ lane. Compute v lane ∷ []) p.unroll ]))
      (sym e) (computes_counted v h (apart _ _ _ e inner_not))
  producers_counted v h Output e =
      subst (λ (k : Kind). Good (block_begin p v) (elim k [ Input ↦ Source v ∷ [] | Inner ↦ joined (λ lane. Compute v lane ∷ []) p.unroll | Output ↦ joined (λ lane. Compute v lane ∷ []) p.unroll ]))
      (sym e) (computes_counted v h (apart _ _ _ e output_not))

  near_lane_counted : (v lane : ℕ) → v < length p.kinds → lane < p.unroll → Good (near_begin p v lane) (near_lane p v lane)
  unfolding near_lane
  near_lane_counted v lane h k =
      ⊎_elim
      (λ e. subst (λ ts. Good (near_begin p v lane) (map (λ tap. Forward v lane tap) ts)) (sym e) tt)
      (λ e. subst (λ ts. Good (near_begin p v lane) (map (λ tap. Forward v lane tap) ts)) (sym e.0)
      (counted_one (IsThere p) (place_of p) _ (Forward v lane 0) (h, k, e.1) (place_near p v lane)))
      (near_shape p v lane lanes)

  near_counted : (v : ℕ) → v < length p.kinds → Good (block_begin p v + length (producers p v)) (near_forwards p v)
  unfolding near_forwards near_begin
  near_counted v h =
      counted-joined (IsThere p) (place_of p) (near_lane p v) p.unroll _
      (λ lane k. counted_from (IsThere p) (place_of p) (near_begin p v lane) _ (near_lane p v lane) (omega arith) (near_lane_counted v lane h k))

  sink_place : (v : ℕ) → place_of p (Sink v) ≡ block_begin p v + length (producers p v) + length (near_forwards p v)
  unfolding place_of near_begin near_forwards
  sink_place v = omega (arith, length_joined (near_lane p v) p.unroll)

  sinks_counted : (v : ℕ) → v < length p.kinds → (k : Kind) → kind_at p v ≡ k → Good (block_begin p v + length (producers p v) + length (near_forwards p v)) (sinks p v)
  unfolding sinks
  sinks_counted v h Input e = subst (λ (k : Kind). Good (block_begin p v + length (producers p v) + length (near_forwards p v)) (elim k [ Input ↦ [] | Inner ↦ [] | Output ↦ Sink v ∷ [] ])) (sym e) tt
  sinks_counted v h Inner e = subst (λ (k : Kind). Good (block_begin p v + length (producers p v) + length (near_forwards p v)) (elim k [ Input ↦ [] | Inner ↦ [] | Output ↦ Sink v ∷ [] ])) (sym e) tt
  sinks_counted v h Output e =
      subst (λ (k : Kind). Good (block_begin p v + length (producers p v) + length (near_forwards p v)) (elim k [ Input ↦ [] | Inner ↦ [] | Output ↦ Sink v ∷ [] ])) (sym e)
      (counted_one (IsThere p) (place_of p) _ (Sink v) (h, e) (sink_place v))

  block_counted : (v : ℕ) → v < length p.kinds → Good (block_begin p v) (block p v)
  unfolding block
  block_counted v h =
      counted-append (IsThere p) (place_of p) (block_begin p v) (producers p v) _ (producers_counted v h (kind_at p v) refl)
      (counted-append (IsThere p) (place_of p) _ (near_forwards p v) (sinks p v) (near_counted v h) (sinks_counted v h (kind_at p v) refl))

  -- the modules stand at their places
  pub modules_counted : Good 0 (modules_of p)
  unfolding modules_of far_begin block_begin
  modules_counted =
      counted-append (IsThere p) (place_of p) 0 (joined (far_forwards p) (length p.kinds)) _
      (counted-joined (IsThere p) (place_of p) (far_forwards p) (length p.kinds) 0
      (λ v h. counted_from (IsThere p) (place_of p) (far_begin p v) _ (far_forwards p v) (omega arith) (far_counted v h)))
      (counted-joined (IsThere p) (place_of p) (block p) (length p.kinds) _
      (λ v h. counted_from (IsThere p) (place_of p) (block_begin p v) _ (block p v) (omega (arith, length_joined (far_forwards p) (length p.kinds))) (block_counted v h)))
