-- Each module of a plan is in the firing order at its place, once; so its number is its place.
use Rattle.std.proofs.Common.{◌≡◌, ℕ, zero, suc, ◌+◌, ◌<◌, ◌&&◌, ◌==◌, true, [], ◌∷◌, ◌++◌, length, get_or, map, refl, sym, ◌∙◌, ap, subst, arith, ⊎_elim}
use Rattle.std.proofs.lemmas.Bool.{and_from, and_parts, cases_Bool, eq-eqb, eqb-true, false≢true}
use Rattle.std.proofs.lemmas.List.Sums.{position_or_len_is}
use Rattle.net_ir.specs.declared.network.Module.{Module}
use Rattle.net_ir.specs.declared.network.Module.TheVariants.{Source, Forward, Compute, Sink}
use Rattle.net_shape.specs.Lists.{joined}
use Rattle.net_shape.specs.Modules.{IsThere, block, far_forwards, far_lane, far_taps, is_same, modules_of, near_forwards, near_lane, number_of, producers, sinks}
use Rattle.net_shape.specs.Plans.{Plan, kind_at}
use Rattle.net_shape.specs.declared.kinds.Kind.{Kind}
use Rattle.net_shape.specs.declared.kinds.Kind.TheVariants.{Input, Inner, Output}
use Rattle.net_shape.specs.machine.Places.{block_begin, count_above, far_begin, far_lane_begin, near_begin, place_of}
use Rattle.net_shape.proofs.Placed.{At, at_first, at_joined, at_left, at_place, at_right, counted_at, length_joined, sum_below_ones}
use Rattle.net_shape.proofs.Rising.{at_down}
use Rattle.net_shape.proofs.Numbers.{far_rise, has_far, modules_counted, near_zero, place_far, place_near}

module _ (p : Plan) (lanes : 0 < p.unroll) where
  in_far : (v k : ℕ) (m : Module) → v < length p.kinds → At (far_forwards p v) k m → At (modules_of p) (far_begin p v + k) m
  unfolding modules_of far_begin
  in_far v k m h a =
      at_left (joined (far_forwards p) (length p.kinds)) (joined (block p) (length p.kinds)) _ m (at_joined (far_forwards p) (length p.kinds) v k m h a)

  in_block : (v k : ℕ) (m : Module) → v < length p.kinds → At (block p v) k m → At (modules_of p) (block_begin p v + k) m
  unfolding modules_of far_begin block_begin
  in_block v k m h a =
      at_place _ _ _ m (omega (arith, length_joined (far_forwards p) (length p.kinds)))
      (at_right (joined (far_forwards p) (length p.kinds)) (joined (block p) (length p.kinds)) _ m (at_joined (block p) (length p.kinds) v k m h a))

  in_producers : (v k : ℕ) (m : Module) → v < length p.kinds → At (producers p v) k m → At (modules_of p) (block_begin p v + k) m
  unfolding block
  in_producers v k m h a = in_block v k m h (at_left (producers p v) (near_forwards p v ++ sinks p v) k m a)

  in_near : (v k : ℕ) (m : Module) → v < length p.kinds → At (near_forwards p v) k m → At (modules_of p) (block_begin p v + (length (producers p v) + k)) m
  unfolding block
  in_near v k m h a =
      in_block v _ m h (at_right (producers p v) (near_forwards p v ++ sinks p v) k m (at_left (near_forwards p v) (sinks p v) k m a))

  in_sinks : (v k : ℕ) (m : Module) → v < length p.kinds → At (sinks p v) k m
      → At (modules_of p) (block_begin p v + (length (producers p v) + (length (near_forwards p v) + k))) m
  unfolding block
  in_sinks v k m h a =
      in_block v _ m h (at_right (producers p v) (near_forwards p v ++ sinks p v) _ m (at_right (near_forwards p v) (sinks p v) k m a))

  forward_stands : (v lane tap : ℕ) → IsThere p (Forward v lane tap) → At (modules_of p) (place_of p (Forward v lane tap)) (Forward v lane tap)
  unfolding far_forwards far_lane far_lane_begin near_forwards near_lane near_begin
  forward_stands v lane zero h =
      let one : At (near_lane p v lane) 0 (Forward v lane 0) = subst (λ ts. At (map (λ tap. Forward v lane tap) ts) 0 (Forward v lane 0))
      (sym (near_zero p v lane lanes h.2)) (at_first (Forward v lane 0) []) in
      at_place _ _ _ (Forward v lane 0) (omega (arith, place_near p v lane)) (in_near v _ _ h.0 (at_joined (near_lane p v) p.unroll lane 0 _ h.1 one))
  forward_stands v lane (suc tap) h =
      let one : At (far_lane p v lane) (count_above (suc tap) (far_taps p v lane)) (Forward v lane (suc tap)) = at_down (λ t. Forward v lane t) (far_taps p v lane) (suc tap)
      (far_rise p v lane lanes) (has_far p v lane (suc tap) lanes h.2 (omega arith)) in
      at_place _ _ _ (Forward v lane (suc tap)) (omega (arith, place_far p v lane (suc tap) (omega arith))) (in_far v _ _ h.0 (at_joined (far_lane p v) p.unroll lane _ _ h.1 one))

  pub compute_stands : (v lane : ℕ) → IsThere p (Compute v lane) → (k : Kind) → kind_at p v ≡ k → At (producers p v) lane (Compute v lane)
  unfolding producers
  compute_stands v lane h Input e = absurd (h.1 e)
  compute_stands v lane h Inner e =
      subst (λ (k : Kind). At (elim k [ Input ↦ Source v ∷ [] | Inner ↦ joined (λ lane. Compute v lane ∷ []) p.unroll | Output ↦ joined (λ lane. Compute v lane ∷ []) p.unroll ]) lane (Compute v lane))
      (sym e) (single v lane h.2)
    where
      single : (v lane : ℕ) → lane < p.unroll → At (joined (λ lane. Compute v lane ∷ []) p.unroll) lane (Compute v lane)
      single v lane lt = at_place _ _ _ _ (omega (arith, sum_below_ones lane)) (at_joined (λ lane. Compute v lane ∷ []) p.unroll lane 0 (Compute v lane) lt (at_first (Compute v lane) []))
  compute_stands v lane h Output e =
      subst (λ (k : Kind). At (elim k [ Input ↦ Source v ∷ [] | Inner ↦ joined (λ lane. Compute v lane ∷ []) p.unroll | Output ↦ joined (λ lane. Compute v lane ∷ []) p.unroll ]) lane (Compute v lane))
      (sym e) (single v lane h.2)
    where
      single : (v lane : ℕ) → lane < p.unroll → At (joined (λ lane. Compute v lane ∷ []) p.unroll) lane (Compute v lane)
      single v lane lt = at_place _ _ _ _ (omega (arith, sum_below_ones lane)) (at_joined (λ lane. Compute v lane ∷ []) p.unroll lane 0 (Compute v lane) lt (at_first (Compute v lane) []))

  pub source_stands : (v : ℕ) → kind_at p v ≡ Input → At (producers p v) 0 (Source v)
  unfolding producers
  source_stands v e =
      subst (λ (k : Kind). At (elim k [ Input ↦ Source v ∷ [] | Inner ↦ joined (λ lane. Compute v lane ∷ []) p.unroll | Output ↦ joined (λ lane. Compute v lane ∷ []) p.unroll ]) 0 (Source v))
      (sym e) (at_first (Source v) [])

  sink_stands : (v : ℕ) → kind_at p v ≡ Output → At (sinks p v) 0 (Sink v)
  unfolding sinks
  sink_stands v e =
      subst (λ (k : Kind). At (elim k [ Input ↦ [] | Inner ↦ [] | Output ↦ Sink v ∷ [] ]) 0 (Sink v)) (sym e) (at_first (Sink v) [])

  -- each module stands at its place
  pub stands : (m : Module) → IsThere p m → At (modules_of p) (place_of p m) m
  unfolding place_of near_begin near_forwards
  stands (Source v) h = at_place _ _ _ _ (omega arith) (in_producers v 0 (Source v) h.0 (source_stands v h.1))
  stands (Forward v lane tap) h = forward_stands v lane tap h
  stands (Compute v lane) h = in_producers v lane (Compute v lane) h.0 (compute_stands v lane h (kind_at p v) refl)
  stands (Sink v) h =
      at_place _ _ _ _ (omega (arith, length_joined (near_lane p v) p.unroll)) (in_sinks v 0 (Sink v) h.0 (sink_stands v h.1))

  -- what stands somewhere is one of the plan's, and stands at its place
  pub each_there : (k : ℕ) (d : Module) → k < length (modules_of p) → IsThere p (get_or (modules_of p) k d) × (place_of p (get_or (modules_of p) k d) ≡ k)
  each_there k d lt =
      let c = counted_at (IsThere p) (place_of p) 0 (modules_of p) k d (modules_counted p lanes) lt in (c.0, omega (arith, c.1))

  -- modules at one place are one
  pub one_place : (m n : Module) → IsThere p m → IsThere p n → place_of p m ≡ place_of p n → m ≡ n
  one_place m n h k e =
      sym ((stands m h).is m) ∙ ap (λ i. get_or (modules_of p) i m) e ∙ (stands n k).is m

same_itself : (m : Module) → is_same m m ≡ true
same_itself (Source v) = eq-eqb v v refl
same_itself (Forward v lane tap) = and_from _ _ (eq-eqb v v refl) (and_from _ _ (eq-eqb lane lane refl) (eq-eqb tap tap refl))
same_itself (Compute v lane) = and_from _ _ (eq-eqb v v refl) (eq-eqb lane lane refl)
same_itself (Sink v) = eq-eqb v v refl

same_one : (m n : Module) → is_same m n ≡ true → m ≡ n
same_one (Source v) (Source w) e = ap (λ x. Source x) (eqb-true v w e)
same_one (Source v) (Forward w row at) e = absurd (false≢true e)
same_one (Source v) (Compute w row) e = absurd (false≢true e)
same_one (Source v) (Sink w) e = absurd (false≢true e)
same_one (Forward v lane tap) (Source w) e = absurd (false≢true e)
same_one (Forward v lane tap) (Forward w row at) e =
    let a = and_parts (v == w) (lane == row && tap == at) e in
    let b = and_parts (lane == row) (tap == at) a.1 in
    ap (λ x. Forward x lane tap) (eqb-true v w a.0) ∙ ap (λ x. Forward w x tap) (eqb-true lane row b.0) ∙ ap (λ x. Forward w row x) (eqb-true tap at b.1)
same_one (Forward v lane tap) (Compute w row) e = absurd (false≢true e)
same_one (Forward v lane tap) (Sink w) e = absurd (false≢true e)
same_one (Compute v lane) (Source w) e = absurd (false≢true e)
same_one (Compute v lane) (Forward w row at) e = absurd (false≢true e)
same_one (Compute v lane) (Compute w row) e =
    let a = and_parts (v == w) (lane == row) e in ap (λ x. Compute x lane) (eqb-true v w a.0) ∙ ap (λ x. Compute w x) (eqb-true lane row a.1)
same_one (Compute v lane) (Sink w) e = absurd (false≢true e)
same_one (Sink v) (Source w) e = absurd (false≢true e)
same_one (Sink v) (Forward w row at) e = absurd (false≢true e)
same_one (Sink v) (Compute w row) e = absurd (false≢true e)
same_one (Sink v) (Sink w) e = ap (λ x. Sink x) (eqb-true v w e)

-- a module's number is its place
pub number_is : (p : Plan) → 0 < p.unroll → (m : Module) → IsThere p m → number_of p m ≡ place_of p m
unfolding number_of
number_is p lanes m h =
    let a = stands p lanes m h in
    position_or_len_is (is_same m) (modules_of p) (place_of p m) m (omega (arith, a.within))
    (λ k lt. ⊎_elim
    (λ e. let t = each_there p lanes k m (omega (arith, a.within)) in
    absurd (omega (arith, t.1, ap (place_of p) (same_one m (get_or (modules_of p) k m) e))))
    (λ e. e)
    (cases_Bool (is_same m (get_or (modules_of p) k m))))
    (λ lt. subst (λ n. is_same m n ≡ true) (sym (a.is m)) (same_itself m))
