-- How many queues the network of a plan has, at the most: two for each module, and for each lane one for each tensor and
-- each read.
use Rattle.std.proofs.Common.{◌≡◌, ℕ, zero, suc, ◌+◌, ◌*◌, ◌/◌, ◌<◌, ◌≤◌, Bool, true, false, not, ◌&&◌, ◌==◌, cond, nat_lt, List, [], ◌∷◌, ◌++◌, length, map, reverse, get_or, refl, sym, ◌∙◌, ap, arith, if◌then◌else◌}
use Rattle.std.specs.List.{All, filter, flat_map, range_with_len, sum_by}
use Rattle.std.proofs.Math.Nat.{mul-add, mul-le-mul, mul-le-mul_left}
use Rattle.std.proofs.lemmas.Bool.{cond_both, eqb-true, ne_eqb}
use Rattle.std.proofs.lemmas.List.{length-append, length-map}
use Rattle.std.proofs.lemmas.List.Concat.{length-flat_map}
use Rattle.std.proofs.lemmas.List.FromFn.{length-range_with_len}
use Rattle.std.proofs.lemmas.List.Sorted.{IsPermutation-reverse, sum_by-IsPermutation}
use Rattle.std.proofs.lemmas.List.Sums.{sum_by-append, sum_by-cons}
use Rattle.delay_net.specs.Sums.{sum_below}
use Rattle.delay_net.proofs.CallerLemmas.{sum_below-add, sum_below_same}
use Rattle.net_ir.specs.declared.network.Module.{Module}
use Rattle.net_ir.specs.declared.network.Module.TheVariants.{Source, Forward, Compute, Sink}
use Rattle.net_ir.specs.declared.network.Queue.{Queue}
use Rattle.net_shape.specs.Lists.{joined}
use Rattle.net_shape.specs.Modules.{block, far_forwards, far_lane, far_taps, gap_of, modules_of, near_forwards, near_lane, near_taps, number_of, producers, sinks}
use Rattle.net_shape.specs.Plans.{Plan, age_of, kind_at, taps_at}
use Rattle.net_shape.specs.Queues.{by_receiver, goes_before, is_served, link, network_of, put_queue, queues_from, read_at, served, serving, taps_above, to_sink}
use Rattle.net_shape.specs.declared.kinds.Kind.{Kind}
use Rattle.net_shape.specs.declared.kinds.Kind.TheVariants.{Input, Inner, Output}
use Rattle.net_shape.proofs.CallerLemmas.{taps_rise}
use Rattle.reuse_chain.proofs.CallerLemmas.{Rises}
use Rattle.time_stages.specs.Staged.{staged_tensors}
use Rattle.time_stages.proofs.CallerLemmas.{reads_counted, tensors_counted}
use Rattle.net_build.specs.Planned.{kind_of, net_under, plan_of}
use Rattle.module_text.specs.Designs.{IsDesign, PlainDesign}
use Rattle.design_reader.specs.Limits.{most_queues}
use Rattle.design_reader.proofs.Unrefused.{few_modules}

-- 1 for a test that passes, else 0
abbrev one : Bool → ℕ
one b = if b then 1 else 0

-- ---- sums over lists
more_by : {A : Type 0} (f g : A → ℕ) (xs : List A) → ((x : A) → f x ≤ g x) → sum_by f xs ≤ sum_by g xs
more_by f g [] h = omega arith
more_by f g (x ∷ xs) h = omega (arith, sum_by-cons f x xs, sum_by-cons g x xs, h x, more_by f g xs h)

sum_of_two : {A : Type 0} (f g : A → ℕ) (xs : List A) → sum_by (λ x. f x + g x) xs ≡ sum_by f xs + sum_by g xs
sum_of_two f g [] = refl
sum_of_two f g (x ∷ xs) =
    omega (arith, sum_by-cons (λ y. f y + g y) x xs, sum_by-cons f x xs, sum_by-cons g x xs, sum_of_two f g xs)

none_of : {A : Type 0} (xs : List A) → sum_by (λ x. 0) xs ≡ 0
none_of [] = refl
none_of (x ∷ xs) = omega (arith, sum_by-cons (λ y. 0) x xs, none_of xs)

two_each : {A : Type 0} (xs : List A) → sum_by (λ x. 2) xs ≡ 2 * length xs
two_each [] = refl
two_each (x ∷ xs) = omega (arith, sum_by-cons (λ y. 2) x xs, two_each xs)

-- in two parts: over what passes a test, and over what doesn't
parts_by : {A : Type 0} (g : A → ℕ) (x : A) (ys zs xs : List A) (b : Bool) → sum_by g ys + sum_by g zs ≡ sum_by g xs
    → sum_by g (cond b (x ∷ ys) ys) + sum_by g (cond (not b) (x ∷ zs) zs) ≡ sum_by g (x ∷ xs)
parts_by g x ys zs xs true h = omega (arith, h, sum_by-cons g x ys, sum_by-cons g x xs)
parts_by g x ys zs xs false h = omega (arith, h, sum_by-cons g x zs, sum_by-cons g x xs)

in_parts : {A : Type 0} (g : A → ℕ) (test : A → Bool) (xs : List A)
    → sum_by g (filter test xs) + sum_by g (filter (λ x. not (test x)) xs) ≡ sum_by g xs
in_parts g test [] = refl
in_parts g test (x ∷ xs) =
    parts_by g x (filter test xs) (filter (λ y. not (test y)) xs) xs (test x) (in_parts g test xs)

kept_by : {A : Type 0} (b : Bool) (x : A) (ys : List A) (n : ℕ) → length ys ≡ n → length (cond b (x ∷ ys) ys) ≡ one b + n
kept_by true x ys n h = omega (arith, h)
kept_by false x ys n h = omega (arith, h)

kept_count : {A : Type 0} (test : A → Bool) (xs : List A) → length (filter test xs) ≡ sum_by (λ x. one (test x)) xs
kept_count test [] = refl
kept_count test (x ∷ xs) =
    kept_by (test x) x (filter test xs) (sum_by (λ y. one (test y)) xs) (kept_count test xs) ∙ sym (sum_by-cons (λ y. one (test y)) x xs)

sum_joined : {A : Type 0} (g : A → ℕ) (f : ℕ → List A) (n : ℕ) → sum_by g (joined f n) ≡ sum_below n (λ i. sum_by g (f i))
unfolding joined sum_below
sum_joined g f zero = refl
sum_joined g f (suc n) = sum_by-append g (joined f n) (f n) ∙ ap (λ k. k + sum_by g (f n)) (sum_joined g f n)

-- ---- numbers that rise, of which one at most is x
none_above : (x : ℕ) (ts : List ℕ) → All (λ t. x < t) ts → sum_by (λ t. one (x == t)) ts ≡ 0
none_above x [] h = refl
none_above x (t ∷ ts) h =
    let up : x < t = h 0 t (omega arith) in
    let apart : (x == t) ≡ false = ne_eqb x t (λ e. omega (arith, e, up)) in
    omega (arith, sum_by-cons (λ u. one (x == u)) t ts, ap one apart, none_above x ts (λ k d l. h (suc k) d (omega arith)))

one_at : (x t : ℕ) (ts : List ℕ) (b : Bool) → (x == t) ≡ b → All (λ u. t < u) ts → sum_by (λ u. one (x == u)) ts ≤ 1
    → one b + sum_by (λ u. one (x == u)) ts ≤ 1
one_at x t ts true e a h =
    let same : x ≡ t = eqb-true x t e in
    omega (arith, none_above x ts (λ k d l. let up : t < get_or ts k d = a k d l in omega (arith, same, up)))
one_at x t ts false e a h = omega (arith, h)

at_most_one : (x : ℕ) (ts : List ℕ) → Rises ts → sum_by (λ t. one (x == t)) ts ≤ 1
at_most_one x [] r = omega arith
at_most_one x (t ∷ ts) r =
    omega (arith, sum_by-cons (λ u. one (x == u)) t ts, one_at x t ts (x == t) refl r.0 (at_most_one x ts r.1))

-- so of numbers with a key each, that pass a test, there are no more for all keys that rise than there are
module _ (ts : List ℕ) (rise : Rises ts) where
  one_of : (b : Bool) (x : ℕ) → sum_by (λ t. one (b && x == t)) ts ≤ one b
  one_of true x = at_most_one x ts rise
  one_of false x = omega (arith, none_of ts)

  by_keys : (test : ℕ → Bool) (key : ℕ → ℕ) (ns : List ℕ)
      → sum_by (λ t. sum_by (λ n. one (test n && key n == t)) ns) ts ≤ sum_by (λ n. one (test n)) ns
  by_keys test key [] = omega (arith, none_of ts)
  by_keys test key (n ∷ ns) =
      omega (
        arith,
        more_by (λ t. sum_by (λ m. one (test m && key m == t)) (n ∷ ns))
            (λ t. one (test n && key n == t) + sum_by (λ m. one (test m && key m == t)) ns) ts
            (λ t. omega (arith, sum_by-cons (λ m. one (test m && key m == t)) n ns)),
        sum_of_two (λ t. one (test n && key n == t)) (λ t. sum_by (λ m. one (test m && key m == t)) ns) ts,
        one_of (test n) (key n),
        by_keys test key ns,
        sum_by-cons (λ m. one (test m)) n ns,
      )

-- ---- sums below a number
below_two : (n : ℕ) (f g : ℕ → ℕ) (c : ℕ) → ((i : ℕ) → f i + g i ≤ c) → sum_below n f + sum_below n g ≤ n * c
unfolding sum_below
below_two zero f g c h = omega arith
below_two (suc n) f g c h = omega (arith, below_two n f g c h, h n)

nothing : (n : ℕ) → sum_below n (λ v. 0) ≡ 0
unfolding sum_below
nothing zero = refl
nothing (suc n) = omega (arith, nothing n)

before : (x n : ℕ) → n ≤ x → sum_below n (λ v. one (x == v)) ≡ 0
unfolding sum_below
before x zero h = refl
before x (suc n) h = omega (arith, before x n (omega arith), ap one (ne_eqb x n (λ e. omega (arith, e, h))))

one_step : (x n : ℕ) (b : Bool) → (x == n) ≡ b → sum_below n (λ v. one (x == v)) ≤ 1 → sum_below n (λ v. one (x == v)) + one b ≤ 1
one_step x n true e h = omega (arith, before x n (omega (arith, eqb-true x n e)))
one_step x n false e h = omega (arith, h)

one_tensor : (x n : ℕ) → sum_below n (λ v. one (x == v)) ≤ 1
unfolding sum_below
one_tensor x zero = omega arith
one_tensor x (suc n) = one_step x n (x == n) refl (one_tensor x n)

-- ---- how many queues a module has
link_few : (p : Plan) (m : Module) (v lane : ℕ) (ts : List ℕ) → length (link p m v lane ts) < 2
link_few p m v lane [] = omega arith
link_few p m v lane (t ∷ ts) = omega arith

links_few : (p : Plan) (m : Module) (v n : ℕ) → length (joined (λ lane. link p m v lane (taps_at p v lane)) n) ≤ n
unfolding joined
links_few p m v zero = omega arith
links_few p m v (suc n) =
    omega (
      arith,
      length-append (joined (λ lane. link p m v lane (taps_at p v lane)) n) (link p m v n (taps_at p v n)),
      links_few p m v n,
      link_few p m v n (taps_at p v n),
    )

put_few : (q : Queue) (qs : List Queue) → length (put_queue q qs) ≤ suc (length qs)
put_few q [] = omega arith
put_few q (r ∷ rs) =
    cond_both (goes_before q r) (q ∷ r ∷ rs) (r ∷ put_queue q rs) (λ ys. length ys ≤ suc (suc (length rs))) (λ e. omega arith) (λ e. omega (arith, put_few q rs))

order_few : (qs : List Queue) → length (by_receiver qs) ≤ length qs
order_few [] = omega arith
order_few (q ∷ qs) = omega (arith, put_few q (by_receiver qs), order_few qs)

sink_few : (p : Plan) (v lane : ℕ) (k : Kind)
    → length {A = Queue} (elim k [ Input ↦ [] | Inner ↦ [] | Output ↦ record { from = number_of p (Compute v lane); to = number_of p (Sink v); port = lane; capacity = 1; lead = 0 } ∷ [] ]) < 2
sink_few p v lane Input = omega arith
sink_few p v lane Inner = omega arith
sink_few p v lane Output = omega arith

module _ (p : Plan) (lanes : 0 < p.unroll) where
  abbrev numbers : List ℕ
  numbers = range_with_len 0 (length p.reads)

  -- how many reads are of a tensor
  abbrev reads_at : ℕ → ℕ
  reads_at v = sum_by (λ n. one ((read_at p n).of == v)) numbers

  -- how many queues a module has besides two
  abbrev extra : Module → ℕ
  extra (Source v) = p.unroll
  extra (Forward v lane tap) = length (filter (is_served p v lane tap) numbers)
  extra (Compute v lane) = 0
  extra (Sink v) = 0

  from_few : (m : Module) → length (queues_from p m) ≤ 2 + extra m
  unfolding queues_from to_sink served
  from_few (Source v) = omega (arith, links_few p (Source v) v p.unroll)
  from_few (Forward v lane tap) =
      omega (
        arith,
        length-append (link p (Forward v lane tap) v lane (taps_above tap (taps_at p v lane)))
            (by_receiver (map (serving p v lane tap) (filter (is_served p v lane tap) numbers))),
        link_few p (Forward v lane tap) v lane (taps_above tap (taps_at p v lane)),
        order_few (map (serving p v lane tap) (filter (is_served p v lane tap) numbers)),
        length-map (filter (is_served p v lane tap) numbers) (serving p v lane tap),
      )
  from_few (Compute v lane) =
      omega (
        arith,
        length-append (link p (Compute v lane) v lane (taps_at p v lane)) (to_sink p v lane),
        link_few p (Compute v lane) v lane (taps_at p v lane),
        sink_few p v lane (kind_at p v),
      )
  from_few (Sink v) = omega arith

  abbrev served_at : ℕ → ℕ → ℕ → ℕ
  served_at v lane tap = length (filter (is_served p v lane tap) numbers)

  forwards_sum : (v lane : ℕ) (taps : List ℕ) → sum_by extra (map (λ tap. Forward v lane tap) taps) ≡ sum_by (served_at v lane) taps
  forwards_sum v lane [] = refl
  forwards_sum v lane (tap ∷ taps) =
      omega (
        arith,
        sum_by-cons extra (Forward v lane tap) (map (λ t. Forward v lane t) taps),
        sum_by-cons (served_at v lane) tap taps,
        forwards_sum v lane taps,
      )

  abbrev is_far : ℕ → ℕ → ℕ → Bool
  is_far v lane tap = nat_lt 0 (gap_of (taps_at p v lane) tap)

  -- those of a lane are no more than the reads of its tensor
  lane_few : (v lane : ℕ) → sum_by extra (far_lane p v lane) + sum_by extra (near_lane p v lane) ≤ reads_at v
  unfolding far_lane near_lane far_taps near_taps
  lane_few v lane =
      let ts = taps_at p v lane in
      omega (
        arith,
        forwards_sum v lane (reverse (filter (is_far v lane) ts)),
        sum_by-IsPermutation (served_at v lane) (filter (is_far v lane) ts) (reverse (filter (is_far v lane) ts)) (IsPermutation-reverse (filter (is_far v lane) ts)),
        forwards_sum v lane (filter (λ tap. not (is_far v lane tap)) ts),
        in_parts (served_at v lane) (is_far v lane) ts,
        more_by (served_at v lane) (λ tap. sum_by (λ n. one (is_served p v lane tap n)) numbers) ts
            (λ tap. omega (arith, kept_count (is_served p v lane tap) numbers)),
        by_keys ts (taps_rise p v lane lanes) (λ n. (read_at p n).of == v) (λ n. (lane + age_of p (read_at p n)) / p.unroll) numbers,
      )

  computes_none : (v n : ℕ) → sum_by extra (joined (λ lane. Compute v lane ∷ []) n) ≡ 0
  unfolding joined
  computes_none v zero = refl
  computes_none v (suc n) =
      omega (
        arith,
        sum_by-append extra (joined (λ lane. Compute v lane ∷ []) n) (Compute v n ∷ []),
        sum_by-cons extra (Compute v n) [],
        computes_none v n,
      )

  producers_by : (v : ℕ) (k : Kind)
      → sum_by extra (elim k [ Input ↦ Source v ∷ [] | Inner ↦ joined (λ lane. Compute v lane ∷ []) p.unroll | Output ↦ joined (λ lane. Compute v lane ∷ []) p.unroll ]) ≤ p.unroll
  producers_by v Input = omega (arith, sum_by-cons extra (Source v) [])
  producers_by v Inner = omega (arith, computes_none v p.unroll)
  producers_by v Output = omega (arith, computes_none v p.unroll)

  producers_few : (v : ℕ) → sum_by extra (producers p v) ≤ p.unroll
  unfolding producers
  producers_few v = producers_by v (kind_at p v)

  sinks_by : (v : ℕ) (k : Kind) → sum_by extra (elim k [ Input ↦ [] | Inner ↦ [] | Output ↦ Sink v ∷ [] ]) ≡ 0
  sinks_by v Input = refl
  sinks_by v Inner = refl
  sinks_by v Output = omega (arith, sum_by-cons extra (Sink v) [])

  sinks_none : (v : ℕ) → sum_by extra (sinks p v) ≡ 0
  unfolding sinks
  sinks_none v = sinks_by v (kind_at p v)

  tensor_few : (v : ℕ) → sum_by extra (far_forwards p v) + sum_by extra (block p v) ≤ p.unroll + p.unroll * reads_at v
  unfolding far_forwards near_forwards block
  tensor_few v =
      omega (
        arith,
        sum_joined extra (far_lane p v) p.unroll,
        sum_by-append extra (producers p v) (joined (near_lane p v) p.unroll ++ sinks p v),
        sum_by-append extra (joined (near_lane p v) p.unroll) (sinks p v),
        sum_joined extra (near_lane p v) p.unroll,
        producers_few v,
        sinks_none v,
        below_two p.unroll (λ lane. sum_by extra (far_lane p v lane)) (λ lane. sum_by extra (near_lane p v lane)) (reads_at v) (lane_few v),
      )

  tensors_few : (n : ℕ) → sum_below n (λ v. sum_by extra (far_forwards p v)) + sum_below n (λ v. sum_by extra (block p v))
      ≤ n * p.unroll + p.unroll * sum_below n reads_at
  unfolding sum_below
  tensors_few zero = omega arith
  tensors_few (suc n) = omega (arith, tensors_few n, tensor_few n, mul-add p.unroll (sum_below n reads_at) (reads_at n))

  each_read : (ns : List ℕ) (n : ℕ) → sum_below n (λ v. sum_by (λ k. one ((read_at p k).of == v)) ns) ≤ length ns
  each_read [] n = omega (arith, nothing n)
  each_read (k ∷ ns) n =
      omega (
        arith,
        sum_below_same n (λ v. sum_by (λ j. one ((read_at p j).of == v)) (k ∷ ns))
            (λ v. one ((read_at p k).of == v) + sum_by (λ j. one ((read_at p j).of == v)) ns)
            (λ v lt. sum_by-cons (λ j. one ((read_at p j).of == v)) k ns),
        sum_below-add n (λ v. one ((read_at p k).of == v)) (λ v. sum_by (λ j. one ((read_at p j).of == v)) ns),
        one_tensor (read_at p k).of n,
        each_read ns n,
      )

  all_few : sum_by extra (modules_of p) ≤ length p.kinds * p.unroll + p.unroll * length p.reads
  unfolding modules_of
  all_few =
      let k = length p.kinds in
      let many : sum_below k reads_at ≤ length p.reads = omega (arith, each_read numbers k, length-range_with_len 0 (length p.reads)) in
      omega (
        arith,
        sum_by-append extra (joined (far_forwards p) k) (joined (block p) k),
        sum_joined extra (far_forwards p) k,
        sum_joined extra (block p) k,
        tensors_few k,
        mul-le-mul_left p.unroll many,
      )

  -- two for each module, and for each lane one for each tensor and each read
  pub queues_few : length (flat_map (queues_from p) (modules_of p)) ≤ 2 * length (modules_of p) + (length p.kinds * p.unroll + p.unroll * length p.reads)
  queues_few =
      omega (
        arith,
        length-flat_map (queues_from p) (modules_of p),
        more_by (λ m. length (queues_from p m)) (λ m. 2 + extra m) (modules_of p) from_few,
        sum_of_two (λ m. 2) extra (modules_of p),
        two_each (modules_of p),
        all_few,
      )

-- so a design has few queues
pub few_queues : (d : PlainDesign) → IsDesign d → length (net_under d.program d.delays).queues ≤ most_queues
unfolding network_of
few_queues d h =
    let p = plan_of d.program d.delays in
    let limits = h.valid.sound.limits in
    let tensors : length p.kinds ≤ 512 = omega (arith, length-map (staged_tensors d.program) (kind_of d.program), tensors_counted d.program h.valid.sound, h.valid.few_live) in
    let reads : length p.reads ≤ 16384 = omega (arith, reads_counted d.program h.valid.sound, h.valid.few_reads) in
    let lanes : p.unroll ≤ 64 = limits.few_lanes in
    omega (arith, queues_few p limits.some_lanes, few_modules d h, mul-le-mul tensors lanes, mul-le-mul lanes reads)
