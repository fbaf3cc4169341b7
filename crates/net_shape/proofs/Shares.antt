-- The reuse queues of a tensor hold in sum as many cells as its storage.
use Rattle.std.proofs.Common.{◌≡◌, ℕ, zero, suc, ◌+◌, ◌-◌, ◌<◌, ◌&&◌, ◌==◌, Bool, true, false, not, cond, nat_lt, max, List, [], ◌∷◌, ◌++◌, length, get_or, map, reverse, refl, sym, ◌∙◌, ap, subst, arith, ⊎_elim}
use Rattle.std.specs.List.{All, Contains, filter, flat_map, sum}
use Rattle.std.proofs.lemmas.Bool.{cases_lt, eq-eqb, lt-ltb, ne_eqb}
use Rattle.std.proofs.lemmas.List.Elements.{All-weaker}
use Rattle.std.proofs.lemmas.List.Sums.{sum_by-cons}
use Rattle.delay_net.specs.Sums.{sum_below}
use Rattle.delay_net.specs.Windows.{storage_of}
use Rattle.delay_net.proofs.CallerLemmas.{sum_below-add, sum_below_same}
use Rattle.net_ir.specs.Nets.{Net, age}
use Rattle.net_ir.specs.declared.network.Module.{Module}
use Rattle.net_ir.specs.declared.network.Module.TheVariants.{Source, Forward, Compute, Sink}
use Rattle.net_ir.specs.declared.network.Queue.{Queue}
use Rattle.reuse_chain.proofs.CallerLemmas.{head}
use Rattle.net_shape.specs.Lists.{joined}
use Rattle.net_shape.specs.Modules.{IsThere, block, far_forwards, far_lane, far_taps, gap_of, modules_of, near_forwards, near_lane, near_taps, number_of, producers, sinks}
use Rattle.net_shape.specs.Plans.{IsPlan, Plan, kind_at, taps_at}
use Rattle.net_shape.specs.Queues.{link, network_of, queues_from, reader_of, served, serving, taps_above, to_sink}
use Rattle.net_shape.specs.Reuse.{is_far, is_reuse, reuse_cells}
use Rattle.net_shape.specs.declared.kinds.Kind.{Kind}
use Rattle.net_shape.specs.declared.kinds.Kind.TheVariants.{Input, Inner, Output}
use Rattle.net_shape.proofs.Rising.{gap_first, gap_next, next_above}
use Rattle.net_shape.proofs.Numbers.{far_is, near_is, taps_rise}
use Rattle.net_shape.proofs.Stands.{each_there, number_is, stands}
use Rattle.net_shape.proofs.Feeds.{reader_there, served_all}
use Rattle.net_shape.proofs.Networks.{sink_ends}
use Rattle.net_shape.proofs.Spans.{spans_all, step, step_to, steps, steps-reverse, steps_parts}

-- what f gives, added up over a list
abbrev pub added : {A : Type 0} → (A → ℕ) → List A → ℕ
added f [] = 0
added f (x ∷ xs) = f x + added f xs

added-append : {A : Type 0} (f : A → ℕ) (xs ys : List A) → added f (xs ++ ys) ≡ added f xs + added f ys
added-append f [] ys = omega arith
added-append f (x ∷ xs) ys = omega (arith, added-append f xs ys)

added-joined : {A : Type 0} (f : A → ℕ) (g : ℕ → List A) (n : ℕ) → added f (joined g n) ≡ sum_below n (λ i. added f (g i))
unfolding joined sum_below
added-joined f g zero = refl
added-joined f g (suc n) = added-append f (joined g n) (g n) ∙ ap (λ k. k + added f (g n)) (added-joined f g n)

added-flat : {A B : Type 0} (f : B → ℕ) (g : A → List B) (xs : List A) → added f (flat_map g xs) ≡ added (λ x. added f (g x)) xs
added-flat f g [] = refl
added-flat f g (x ∷ xs) = added-append f (g x) (flat_map g xs) ∙ ap (λ k. added f (g x) + k) (added-flat f g xs)

added_same : {A : Type 0} (f g : A → ℕ) (xs : List A) → All (λ x. f x ≡ g x) xs → added f xs ≡ added g xs
added_same f g [] h = refl
added_same f g (x ∷ xs) h = let first : f x ≡ g x = h 0 x (omega arith) in omega (arith, added_same f g xs (λ k d lt. h (suc k) d (omega arith)))

added_none : {A : Type 0} (f : A → ℕ) (xs : List A) → All (λ x. f x ≡ 0) xs → added f xs ≡ 0
added_none f [] h = refl
added_none f (x ∷ xs) h = let first : f x ≡ 0 = h 0 x (omega arith) in omega (arith, added_none f xs (λ k d lt. h (suc k) d (omega arith)))

abbrev weight : Net → ℕ → Queue → ℕ
weight net v q = cond (is_reuse net v q) q.capacity 0

by_test : (b : Bool) (q : Queue) (qs : List Queue) (n : ℕ) → sum (map (λ x. x.capacity) qs) ≡ n → sum (map (λ x. x.capacity) (cond b (q ∷ qs) qs)) ≡ cond b q.capacity 0 + n
by_test true q qs n e = sum_by-cons (λ x. x) q.capacity (map (λ x. x.capacity) qs) ∙ omega arith
by_test false q qs n e = e ∙ omega arith

sum_is : (net : Net) (v : ℕ) (qs : List Queue) → sum (map (λ q. q.capacity) (filter (is_reuse net v) qs)) ≡ added (weight net v) qs
sum_is net v [] = refl
sum_is net v (q ∷ qs) = by_test (is_reuse net v q) q (filter (is_reuse net v) qs) _ (sum_is net v qs)

-- a sum with one part
sum_zeros : (n : ℕ) (f : ℕ → ℕ) → ((i : ℕ) → i < n → f i ≡ 0) → sum_below n f ≡ 0
unfolding sum_below
sum_zeros zero f h = refl
sum_zeros (suc n) f h = omega (arith, sum_zeros n f (λ i lt. h i (omega arith)), h n (omega arith))

sum_only : (n v : ℕ) (f : ℕ → ℕ) → v < n → ((w : ℕ) → (w ≡ v → ⊥) → f w ≡ 0) → sum_below n f ≡ f v
unfolding sum_below
sum_only zero v f h none = absurd (omega arith)
sum_only (suc n) v f h none =
    ⊎_elim
    (λ lt. omega (arith, sum_only n v f lt none, none n (λ e. omega arith)))
    (λ ge. let e : v ≡ n = omega arith in omega (arith, sum_zeros n f (λ i lt. none i (λ e. omega arith)), ap f e))
    (cases_lt v n)

pick : (b : Bool) (t a g : ℕ) → g ≡ t - a → (0 < t → a < t) → cond (b && nat_lt 0 t) (max 1 g) 0 + 0 ≡ cond b (t - a) 0
pick false t a g e h = omega arith
pick true zero a g e h = omega arith
pick true (suc t) a g e h = ap (λ c. cond c (max 1 g) 0 + 0) (lt-ltb 0 (suc t) (omega arith)) ∙ (let lt : a < suc t = h (omega arith) in omega arith)

nothing : (b : Bool) → ◌≡◌ {A = ℕ} 0 (cond b 0 0)
nothing true = refl
nothing false = refl

module _ (p : Plan) (plan : IsPlan p) (v : ℕ) where
  lanes : 0 < p.unroll
  lanes = plan.lanes

  -- what the reuse queues of the tensor from a module hold
  abbrev share : Module → ℕ
  share (Source w) = sum_below p.unroll (λ lane. cond (w == v) (step_to 0 (taps_at p w lane)) 0)
  share (Forward w lane a) = cond (w == v) (step (taps_at p w lane) a) 0
  share (Compute w lane) = cond (w == v) (step_to 0 (taps_at p w lane)) 0
  share (Sink w) = 0

  far_at : (m : Module) → IsThere p m → is_far v (get_or (modules_of p) (number_of p m) (Sink 0)) ≡ is_far v m
  far_at m h = ap (λ n. is_far v (get_or (modules_of p) n (Sink 0))) (number_is p lanes m h) ∙ ap (is_far v) ((stands p lanes m h).is (Sink 0))

  weigh_link : (m : Module) (w lane : ℕ) (ts : List ℕ)
      → ((t : ℕ) (rest : List ℕ) → ts ≡ t ∷ rest → IsThere p (Forward w lane t) × (gap_of (taps_at p w lane) t ≡ t - age m) × (0 < t → age m < t))
      → added (weight (network_of p) v) (link p m w lane ts) ≡ cond (w == v) (step_to (age m) ts) 0
  unfolding network_of
  weigh_link m w lane [] h = nothing (w == v)
  weigh_link m w lane (t ∷ rest) h =
      let k = h t rest refl in
      ap (λ b. cond b (max 1 (gap_of (taps_at p w lane) t)) 0 + 0) (far_at (Forward w lane t) k.0)
      ∙ pick (w == v) t (age m) (gap_of (taps_at p w lane) t) k.1 k.2

  first_at : (w lane t : ℕ) (rest : List ℕ) → w < length p.kinds → lane < p.unroll → taps_at p w lane ≡ t ∷ rest
      → IsThere p (Forward w lane t) × (gap_of (taps_at p w lane) t ≡ t - 0) × (0 < t → 0 < t)
  first_at w lane t rest h k e =
      ((h, k, subst (λ ts. Contains ts t) (sym e) (head t rest)), ap (λ ts. gap_of ts t) e ∙ gap_first t rest ∙ omega arith, λ up. up)

  weigh_source : (w : ℕ) → IsThere p (Source w) → added (weight (network_of p) v) (queues_from p (Source w)) ≡ share (Source w)
  unfolding queues_from
  weigh_source w h =
      added-joined (weight (network_of p) v) (λ lane. link p (Source w) w lane (taps_at p w lane)) p.unroll
      ∙ sum_below_same p.unroll _ _ (λ lane lt. weigh_link (Source w) w lane (taps_at p w lane) (λ t rest e. first_at w lane t rest h.0 lt e))

  -- other queues aren't reuse queues
  not_far : (m : Module) (q : Queue) → IsThere p m → is_far v m ≡ false → q.to ≡ number_of p m → weight (network_of p) v q ≡ 0
  unfolding network_of
  not_far m q h e to =
      ap (λ b. cond b q.capacity 0) (ap (λ n. is_far v (get_or (modules_of p) n (Sink 0))) to ∙ far_at m h ∙ e)

  weigh_sink : (w lane : ℕ) → w < length p.kinds → added (weight (network_of p) v) (to_sink p w lane) ≡ 0
  weigh_sink w lane h =
      added_none (weight (network_of p) v) (to_sink p w lane)
      (All-weaker (λ q. IsThere p (Sink w) × (q.to ≡ number_of p (Sink w))) (λ q. weight (network_of p) v q ≡ 0) (λ q e. not_far (Sink w) q e.0 refl e.1) _
      (sink_ends p plan w lane h (kind_at p w) refl).0)

  weigh_compute : (w lane : ℕ) → IsThere p (Compute w lane) → added (weight (network_of p) v) (queues_from p (Compute w lane)) ≡ share (Compute w lane)
  unfolding queues_from
  weigh_compute w lane h =
      added-append (weight (network_of p) v) (link p (Compute w lane) w lane (taps_at p w lane)) (to_sink p w lane)
      ∙ omega (arith, weigh_link (Compute w lane) w lane (taps_at p w lane) (λ t rest e. first_at w lane t rest h.0 h.2 e), weigh_sink w lane h.0)

  weigh_served : (w lane a : ℕ) → added (weight (network_of p) v) (served p w lane a) ≡ 0
  weigh_served w lane a =
      added_none (weight (network_of p) v) (served p w lane a)
      (served_all p plan (λ q. weight (network_of p) v q ≡ 0) w lane a (λ n lt e. not_far (reader_of p lane n) (serving p w lane a n) (reader_there p plan lane n lt) refl refl))

  weigh_forward : (w lane a : ℕ) → IsThere p (Forward w lane a) → added (weight (network_of p) v) (queues_from p (Forward w lane a)) ≡ share (Forward w lane a)
  unfolding queues_from
  weigh_forward w lane a h =
      added-append (weight (network_of p) v) (link p (Forward w lane a) w lane (taps_above a (taps_at p w lane))) (served p w lane a)
      ∙ omega (
        arith,
        weigh_link (Forward w lane a) w lane (taps_above a (taps_at p w lane))
            (λ t rest e. let k = next_above (taps_at p w lane) a t rest e in
            ((h.0, h.1, k.0), gap_next (taps_at p w lane) 0 a t rest (taps_rise p w lane lanes) h.2 e, λ up. k.1)),
        weigh_served w lane a,
      )

  weigh : (m : Module) → IsThere p m → added (weight (network_of p) v) (queues_from p m) ≡ share m
  unfolding queues_from
  weigh (Source w) h = weigh_source w h
  weigh (Forward w lane a) h = weigh_forward w lane a h
  weigh (Compute w lane) h = weigh_compute w lane h
  weigh (Sink w) h = refl

  -- by lanes
  abbrev chosen : ℕ → ℕ → ℕ
  chosen w n = cond (w == v) n 0

  chosen-add : (b : Bool) (m n : ℕ) → cond b m 0 + cond b n 0 ≡ cond b (m + n) 0
  chosen-add true m n = refl
  chosen-add false m n = refl

  added_taps : (w lane : ℕ) (xs : List ℕ) → added share (map (λ tap. Forward w lane tap) xs) ≡ chosen w (steps (taps_at p w lane) xs)
  added_taps w lane [] = nothing (w == v)
  added_taps w lane (x ∷ xs) =
      ap (λ n. chosen w (step (taps_at p w lane) x) + n) (added_taps w lane xs) ∙ chosen-add (w == v) (step (taps_at p w lane) x) (steps (taps_at p w lane) xs)

  added_far : (w : ℕ) → added share (far_forwards p w) ≡ sum_below p.unroll (λ lane. chosen w (steps (taps_at p w lane) (far_taps p w lane)))
  unfolding far_forwards far_lane
  added_far w =
      added-joined share (far_lane p w) p.unroll
      ∙ sum_below_same p.unroll _ _ (λ lane lt. added_taps w lane (reverse (far_taps p w lane)) ∙ ap (chosen w) (steps-reverse (taps_at p w lane) (far_taps p w lane)))

  added_near : (w : ℕ) → added share (near_forwards p w) ≡ sum_below p.unroll (λ lane. chosen w (steps (taps_at p w lane) (near_taps p w lane)))
  unfolding near_forwards near_lane
  added_near w =
      added-joined share (near_lane p w) p.unroll ∙ sum_below_same p.unroll _ _ (λ lane lt. added_taps w lane (near_taps p w lane))

  computes : (w : ℕ) → added share (joined (λ lane. Compute w lane ∷ []) p.unroll) ≡ sum_below p.unroll (λ lane. chosen w (step_to 0 (taps_at p w lane)))
  computes w = added-joined share (λ lane. Compute w lane ∷ []) p.unroll ∙ sum_below_same p.unroll _ _ (λ lane lt. omega arith)

  added_producers : (w : ℕ) (k : Kind) → added share (elim k [ Input ↦ Source w ∷ [] | Inner ↦ joined (λ lane. Compute w lane ∷ []) p.unroll | Output ↦ joined (λ lane. Compute w lane ∷ []) p.unroll ])
      ≡ sum_below p.unroll (λ lane. chosen w (step_to 0 (taps_at p w lane)))
  added_producers w Input = omega arith
  added_producers w Inner = computes w
  added_producers w Output = computes w

  added_sinks : (w : ℕ) (k : Kind) → added share (elim k [ Input ↦ [] | Inner ↦ [] | Output ↦ Sink w ∷ [] ]) ≡ 0
  added_sinks w Input = refl
  added_sinks w Inner = refl
  added_sinks w Output = refl

  added_block : (w : ℕ) → added share (block p w)
      ≡ sum_below p.unroll (λ lane. chosen w (step_to 0 (taps_at p w lane))) + sum_below p.unroll (λ lane. chosen w (steps (taps_at p w lane) (near_taps p w lane)))
  unfolding block producers sinks
  added_block w =
      omega (
        arith,
        added-append share (producers p w) (near_forwards p w ++ sinks p w),
        added-append share (near_forwards p w) (sinks p w),
        added_producers w (kind_at p w),
        added_near w,
        added_sinks w (kind_at p w),
      )

  -- all of a tensor
  of_tensor : ℕ → ℕ
  of_tensor w = added share (far_forwards p w) + added share (block p w)

  lane_sum : (w lane : ℕ) → chosen w (steps (taps_at p w lane) (far_taps p w lane)) + (chosen w (step_to 0 (taps_at p w lane)) + chosen w (steps (taps_at p w lane) (near_taps p w lane)))
      ≡ chosen w (step_to 0 (taps_at p w lane) + steps (taps_at p w lane) (taps_at p w lane))
  lane_sum w lane =
      let ts = taps_at p w lane in
      let parts : steps ts ts ≡ steps ts (far_taps p w lane) + steps ts (near_taps p w lane) = steps_parts ts ts (λ t. nat_lt 0 t)
      ∙ ap (λ xs. steps ts xs + steps ts (filter (λ t. not (nat_lt 0 t)) ts)) (sym (far_is p w lane lanes)) ∙ ap (λ xs. steps ts (far_taps p w lane) + steps ts xs) (sym (near_is p w lane lanes)) in
      ap (λ n. chosen w (steps ts (far_taps p w lane)) + n) (chosen-add (w == v) (step_to 0 ts) (steps ts (near_taps p w lane)))
      ∙ chosen-add (w == v) (steps ts (far_taps p w lane)) (step_to 0 ts + steps ts (near_taps p w lane))
      ∙ ap (chosen w) (let e : steps ts (far_taps p w lane) + (step_to 0 ts + steps ts (near_taps p w lane)) ≡ step_to 0 ts + steps ts ts = omega arith in e)

  tensor_sum : (w : ℕ) → of_tensor w ≡ sum_below p.unroll (λ lane. chosen w (step_to 0 (taps_at p w lane) + steps (taps_at p w lane) (taps_at p w lane)))
  unfolding of_tensor
  tensor_sum w =
      let far : ℕ → ℕ = λ lane. chosen w (steps (taps_at p w lane) (far_taps p w lane)) in
      let first : ℕ → ℕ = λ lane. chosen w (step_to 0 (taps_at p w lane)) in
      let near : ℕ → ℕ = λ lane. chosen w (steps (taps_at p w lane) (near_taps p w lane)) in
      omega (
        arith,
        added_far w,
        added_block w,
        sum_below-add p.unroll first near,
        sum_below-add p.unroll far (λ lane. first lane + near lane),
        sum_below_same p.unroll (λ lane. far lane + (first lane + near lane)) _ (λ lane lt. lane_sum w lane),
      )

  other_tensors : (w : ℕ) → (w ≡ v → ⊥) → of_tensor w ≡ 0
  other_tensors w ne =
      tensor_sum w
      ∙ sum_zeros p.unroll _ (λ lane lt. ap (λ b. cond b (step_to 0 (taps_at p w lane) + steps (taps_at p w lane) (taps_at p w lane)) 0) (ne_eqb w v ne))

  this_tensor : of_tensor v ≡ storage_of p.reads p.delays v
  this_tensor =
      tensor_sum v
      ∙ sum_below_same p.unroll _ _ (λ lane lt. ap (λ b. cond b (step_to 0 (taps_at p v lane) + steps (taps_at p v lane) (taps_at p v lane)) 0) (eq-eqb v v refl))
      ∙ spans_all p v lanes

  added_modules : added share (modules_of p) ≡ sum_below (length p.kinds) of_tensor
  unfolding modules_of of_tensor
  added_modules =
      omega (
        arith,
        added-append share (joined (far_forwards p) (length p.kinds)) (joined (block p) (length p.kinds)),
        added-joined share (far_forwards p) (length p.kinds),
        added-joined share (block p) (length p.kinds),
        sum_below-add (length p.kinds) (λ w. added share (far_forwards p w)) (λ w. added share (block p w)),
      )

  -- the reuse queues of a tensor hold its storage
  pub reuse_is_storage : v < length p.kinds → reuse_cells (network_of p) v ≡ storage_of p.reads p.delays v
  unfolding reuse_cells network_of
  reuse_is_storage h =
      sum_is (network_of p) v (flat_map (queues_from p) (modules_of p))
      ∙ added-flat (weight (network_of p) v) (queues_from p) (modules_of p)
      ∙ added_same (λ m. added (weight (network_of p) v) (queues_from p m)) share (modules_of p) (λ k d lt. weigh (get_or (modules_of p) k d) (each_there p lanes k d lt).0)
      ∙ added_modules ∙ sum_only (length p.kinds) v of_tensor h other_tensors ∙ this_tensor
