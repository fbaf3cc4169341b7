-- What a chart tells: the taps of lanes, and where modules stand.
use Rattle.std.proofs.Common.{◌≡◌, ℕ, zero, suc, ◌+◌, ◌-◌, ◌*◌, ◌%◌, ◌<◌, ◌≤◌, ◌^◌, ◌==◌, ◌&&◌, Bool, true, false, cond, max, nat_lt, List, [], ◌∷◌, ◌++◌, length, get_or, drop, map, refl, sym, ◌∙◌, ap, subst, arith, ⊎_elim, Err}
use Rattle.std.specs.List.{All, Contains, filter, flat_map, range_with_len}
use Rattle.std.proofs.Math.Nat.{mul-le-mul}
use Rattle.std.specs.List.Sorted.{IsBinarySearchResult, IsStrictlyIncreasing}
use Rattle.std.specs.Ordering.{nat_cmp}
use Rattle.std.proofs.lemmas.List.{append-nil, append_assoc, get_or_default}
use Rattle.std.proofs.lemmas.List.Sorted.{searched}
use Rattle.std.proofs.lemmas.Bool.{false≢true, cases_Bool, cases_lt, eq-eqb, le-ltb, lt-ltb, ltb-false, ne_eqb}
use Rattle.std.proofs.lemmas.List.Elements.{All-filter, Contains-get_or, recursion_from_All}
use Rattle.std.proofs.lemmas.List.FromFn.{get_or-range_with_len, length-range_with_len}
use Rattle.net_ir.specs.Nets.{Net}
use Rattle.net_ir.specs.declared.network.Module.{Module}
use Rattle.net_ir.specs.declared.network.Module.TheVariants.{Source, Forward, Compute, Sink}
use Rattle.net_ir.specs.declared.network.Queue.{Queue}
use Rattle.reuse_chain.proofs.CallerLemmas.{Rises, rises, taps_there}
use Rattle.net_shape.specs.Lists.{joined}
use Rattle.net_shape.specs.Modules.{IsThere, gap_after, gap_of, modules_of, number_of}
use Rattle.net_shape.specs.Plans.{IsPlan, Plan, age_of, ages_of, taps_at}
use Rattle.net_shape.specs.Queues.{by_receiver, is_served, link, network_of, read_at, reader_of, queues_from, served, serving, taps_above, to_sink}
use Rattle.net_shape.specs.declared.kinds.Kind.{Kind}
use Rattle.net_shape.specs.declared.kinds.Kind.TheVariants.{Input, Inner, Output}
use Rattle.net_shape.specs.machine.Places.{block_begin, count_above, far_lane_begin, near_begin, place_of}
use Rattle.net_shape.proofs.CallerLemmas.{At, above_later, all_above, compute_place, each_there, far_is, keep_all, number_is, place_far, place_near, queues_bound, reader_there, sink_place, stands, taps_rise}
use Rattle.plan_net.specs.machine.Tables.{by_lane, has_sink, is_at, link_from, reads_among}
use Rattle.plan_net.proofs.Steps.{at_lane, at_tensor, empty_joined, joined_more}

pub lane_at : {A : Type 0} (p : Plan) (f : ℕ → ℕ → A) (xs : List A) (v lane : ℕ) → xs ≡ by_lane p f → v < length p.kinds → lane < p.unroll → At xs (v * p.unroll + lane) (f v lane)
lane_at p f xs v lane e h k = subst (λ ys. At ys (v * p.unroll + lane) (f v lane)) (sym e) (at_lane p f v lane h k)

pub tensor_at : {A : Type 0} (f : ℕ → A) (n v : ℕ) (xs : List A) → xs ≡ joined (λ w. f w ∷ []) n → v < n → At xs v (f v)
tensor_at f n v xs e h = subst (λ ys. At ys v (f v)) (sym e) (at_tensor f n v h)

pub taps_increase : (p : Plan) (v lane : ℕ) → 0 < p.unroll → IsStrictlyIncreasing (taps_at p v lane)
unfolding taps_at
taps_increase p v lane h = (taps_there (ages_of p v) lane p.unroll h).rising

-- how many taps are above the one at a place
pub count_place : (ts : List ℕ) (i : ℕ) → Rises ts → i < length ts → count_above (get_or ts i 0) ts ≡ length ts - 1 - i
count_place [] i r h = absurd (omega arith)
count_place (x ∷ xs) zero r h = above_later x xs x (omega arith) ∙ all_above x xs r.0 ∙ omega arith
count_place (x ∷ xs) (suc i) r h =
    let up : x < get_or xs i 0 = r.0 i 0 (omega arith) in
    above_later x xs (get_or xs i 0) (omega arith) ∙ count_place xs i r.1 (omega arith) ∙ omega arith

-- 0 isn't above any
far_one : (t y : ℕ) (ys : List ℕ) (b : Bool) → count_above t (filter (λ z. nat_lt 0 z) ys) ≡ count_above t ys
    → length (cond b (y ∷ filter (λ z. nat_lt t z) (filter (λ z. nat_lt 0 z) ys)) (filter (λ z. nat_lt t z) (filter (λ z. nat_lt 0 z) ys)))
    ≡ length (cond b (y ∷ filter (λ z. nat_lt t z) ys) (filter (λ z. nat_lt t z) ys))
far_one t y ys true e = ap suc e
far_one t y ys false e = e

count_far : (ts : List ℕ) (t : ℕ) → count_above t (filter (λ y. nat_lt 0 y) ts) ≡ count_above t ts
count_far [] t = refl
count_far (y ∷ ys) t =
    let rest = count_far ys t in
    ⊎_elim
    (λ e. ap (λ b. count_above t (cond b (y ∷ filter (λ z. nat_lt 0 z) ys) (filter (λ z. nat_lt 0 z) ys))) e ∙ far_one t y ys (nat_lt t y) rest)
    (λ e. ap (λ b. count_above t (cond b (y ∷ filter (λ z. nat_lt 0 z) ys) (filter (λ z. nat_lt 0 z) ys))) e ∙ rest
    ∙ sym (above_later y ys t (omega (arith, ltb-false 0 y e))))
    (cases_Bool (nat_lt 0 y))

module _ (p : Plan) (plan : IsPlan p) (v lane i : ℕ) (h : v < length p.kinds) (k : lane < p.unroll) (within : i < length (taps_at p v lane)) where
  pub tap_there : IsThere p (Forward v lane (get_or (taps_at p v lane) i 0))
  tap_there = (h, k, Contains-get_or (taps_at p v lane) i 0 within)

  pub far_number : 0 < get_or (taps_at p v lane) i 0 → number_of p (Forward v lane (get_or (taps_at p v lane) i 0)) ≡ far_lane_begin p v lane + (length (taps_at p v lane) - 1 - i)
  far_number up =
      number_is p plan.lanes _ tap_there ∙ place_far p v lane _ up
      ∙ ap (λ n. far_lane_begin p v lane + n) (ap (count_above (get_or (taps_at p v lane) i 0)) (far_is p v lane plan.lanes) ∙ count_far (taps_at p v lane) _
      ∙ count_place (taps_at p v lane) i (taps_rise p v lane plan.lanes) within)

  pub near_number : get_or (taps_at p v lane) i 0 ≡ 0 → number_of p (Forward v lane (get_or (taps_at p v lane) i 0)) ≡ near_begin p v lane
  near_number e =
      number_is p plan.lanes _ tap_there ∙ ap (λ t. place_of p (Forward v lane t)) e ∙ place_near p v lane

-- numbers are below that of the modules
pub number_within : (p : Plan) → IsPlan p → (m : Module) → IsThere p m → number_of p m < length (modules_of p)
number_within p plan m there = omega (arith, number_is p plan.lanes m there, (stands p plan.lanes m there).within)

-- the gap of the tap at a place but the first
pub gap_place : (b : ℕ) (ts : List ℕ) (i : ℕ) → Rises ts → i + 1 < length ts → gap_after b ts (get_or ts (i + 1) 0) ≡ get_or ts (i + 1) 0 - get_or ts i 0
gap_place b [] i r h = absurd (omega arith)
gap_place b (x ∷ []) i r h = absurd (omega arith)
gap_place b (x ∷ y ∷ ys) zero r h =
    let lt : x < y = r.0 0 0 (omega arith) in
    let e : get_or (x ∷ y ∷ ys) (0 + 1) 0 ≡ y = refl in
    ap (gap_after b (x ∷ y ∷ ys)) e ∙ ap (λ c. cond c (x - b) (gap_after x (y ∷ ys) y)) (ne_eqb x y (λ s. omega arith))
    ∙ ap (λ c. cond c (y - x) (gap_after y ys y)) (eq-eqb y y refl) ∙ ap (λ z. z - x) (sym e)
gap_place b (x ∷ y ∷ ys) (suc i) r h =
    let n : suc i + 1 ≡ suc (i + 1) = omega arith in
    let e : get_or (x ∷ y ∷ ys) (suc i + 1) 0 ≡ get_or (y ∷ ys) (i + 1) 0 = ap (λ k. get_or (x ∷ y ∷ ys) k 0) n in
    let lt : x < get_or (y ∷ ys) (i + 1) 0 = r.0 (i + 1) 0 (omega arith) in
    ap (gap_after b (x ∷ y ∷ ys)) e
    ∙ ap (λ c. cond c (x - b) (gap_after x (y ∷ ys) (get_or (y ∷ ys) (i + 1) 0))) (ne_eqb x (get_or (y ∷ ys) (i + 1) 0) (λ s. omega arith))
    ∙ gap_place x (y ∷ ys) i r.1 (omega arith) ∙ ap (λ z. z - get_or (y ∷ ys) i 0) (sym e)

-- links
pub link_is : (p : Plan) (m : Module) (v lane from : ℕ) (ts : List ℕ) → from ≡ number_of p m → link_from p from v lane ts ≡ link p m v lane ts
link_is p m v lane from [] e = refl
link_is p m v lane from (t ∷ ts) e =
    ap (λ n. record { from = n; to = number_of p (Forward v lane t); port = 0; capacity = max 1 (gap_of (taps_at p v lane) t); lead = 0 } ∷ []) e

-- the taps above the one at a place are those behind it
pub above_place : (ts : List ℕ) (i : ℕ) → Rises ts → i < length ts → taps_above (get_or ts i 0) ts ≡ drop (i + 1) ts
above_place [] i r h = absurd (omega arith)
above_place (x ∷ xs) zero r h =
    ap (λ c. cond c (x ∷ taps_above x xs) (taps_above x xs)) (le-ltb x x (omega arith))
    ∙ keep_all (λ y. nat_lt x y) xs (recursion_from_All _ xs (λ k d lt. lt-ltb x _ (r.0 k d lt)))
above_place (x ∷ xs) (suc i) r h =
    let up : x < get_or xs i 0 = r.0 i 0 (omega arith) in
    let n : suc i + 1 ≡ suc (i + 1) = omega arith in
    ap (λ c. cond c (x ∷ taps_above (get_or xs i 0) xs) (taps_above (get_or xs i 0) xs)) (le-ltb (get_or xs i 0) x (omega arith))
    ∙ above_place xs i r.1 (omega arith) ∙ ap (λ k. drop k (x ∷ xs)) (sym n)

-- the reads of a tensor that belong to a tap are those that it serves
pub reads_served : (p : Plan) (v lane tap : ℕ) (ns : List ℕ) → filter (is_at p lane tap) (filter (λ n. (read_at p n).of == v) ns) ≡ filter (is_served p v lane tap) ns
reads_served p v lane tap [] = refl
reads_served p v lane tap (n ∷ ns) = by_test ((read_at p n).of == v) (is_at p lane tap n) n (reads_served p v lane tap ns)
  where
    by_test : (a b : Bool) (n : ℕ) → filter (is_at p lane tap) (filter (λ n. (read_at p n).of == v) ns) ≡ filter (is_served p v lane tap) ns
        → filter (is_at p lane tap) (cond a (n ∷ filter (λ n. (read_at p n).of == v) ns) (filter (λ n. (read_at p n).of == v) ns)) ≡ cond (a && is_at p lane tap n) (n ∷ filter (is_served p v lane tap) ns) (filter (is_served p v lane tap) ns)
    by_test true b n e = ap (λ xs. cond (is_at p lane tap n) (n ∷ xs) xs) e
    by_test false b n e = e

pub served_is : (p : Plan) (v lane tap : ℕ) (ns : List ℕ) → ns ≡ filter (is_at p lane tap) (reads_among p v (length p.reads)) → by_receiver (map (serving p v lane tap) ns) ≡ served p v lane tap
unfolding served
served_is p v lane tap ns e =
    ap (λ xs. by_receiver (map (serving p v lane tap) xs)) (e ∙ reads_served p v lane tap (range_with_len 0 (length p.reads)))

pub reads_known : (p : Plan) (v k : ℕ) → All (λ n. n < k) (reads_among p v k)
reads_known p v k =
    All-filter (λ n. (read_at p n).of == v) (λ n. n < k) (range_with_len 0 k) (λ i d lt. omega (arith, get_or-range_with_len 0 k i d (omega (arith, length-range_with_len 0 k)), length-range_with_len 0 k))

-- where the computing module of a read stands
pub reader_place : (p : Plan) → IsPlan p → (lane n : ℕ) → n < length p.reads → number_of p (reader_of p lane n) ≡ block_begin p (read_at p n).reader + (lane + age_of p (read_at p n)) % p.unroll
reader_place p plan lane n h =
    number_is p plan.lanes (reader_of p lane n) (reader_there p plan lane n h) ∙ compute_place p plan.lanes (read_at p n).reader ((lane + age_of p (read_at p n)) % p.unroll)

-- numbers by the tables
module _ (p : Plan) (plan : IsPlan p) (v lane i u place x : ℕ) (ts : List ℕ) (h : v < length p.kinds) (k : lane < p.unroll) (same : u ≡ p.unroll) (e : ts ≡ taps_at p v lane)
    (at : place ≡ v * u + lane) where
  placed : place ≡ v * p.unroll + lane
  placed = at ∙ ap (λ n. v * n + lane) same

  pub lane_within : {A : Type 0} (f : ℕ → ℕ → A) (xs : List A) → xs ≡ by_lane p f → place < length xs
  lane_within f xs is = omega (arith, placed, (lane_at p f xs v lane is h k).within)

  pub lane_found : {A : Type 0} (f : ℕ → ℕ → A) (xs : List A) (y : A) → xs ≡ by_lane p f → y ≡ get_or xs place y → y ≡ f v lane
  lane_found f xs y is g = g ∙ ap (λ n. get_or xs n y) placed ∙ (lane_at p f xs v lane is h k).is y

  pub near_found : (xs : List ℕ) → xs ≡ by_lane p (near_begin p) → x ≡ get_or xs place x → i < length (taps_at p v lane) → get_or ts i 0 ≡ 0
      → x ≡ number_of p (Forward v lane (get_or (taps_at p v lane) i 0))
  near_found xs is g within none =
      lane_found (near_begin p) xs x is g ∙ sym (near_number p plan v lane i h k within (ap (λ zs. get_or zs i 0) (sym e) ∙ none))

  pub far_found : (xs : List ℕ) → xs ≡ by_lane p (far_lane_begin p) → x ≡ get_or xs place x → i < length (taps_at p v lane) → (get_or ts i 0 ≡ 0 → ⊥)
      → x + (length ts - 1 - i) ≡ number_of p (Forward v lane (get_or (taps_at p v lane) i 0))
  far_found xs is g within some =
      let tap : get_or ts i 0 ≡ get_or (taps_at p v lane) i 0 = ap (λ zs. get_or zs i 0) e in
      ap (λ n. n + (length ts - 1 - i)) (lane_found (far_lane_begin p) xs x is g) ∙ ap (λ zs. far_lane_begin p v lane + (length zs - 1 - i)) e
      ∙ sym (far_number p plan v lane i h k within (up (get_or (taps_at p v lane) i 0) (λ z. some (tap ∙ z))))
    where
      up : (n : ℕ) → (n ≡ 0 → ⊥) → 0 < n
      up zero ne = absurd (ne refl)
      up (suc n) ne = omega arith

  pub forward_within : i < length (taps_at p v lane) → number_of p (Forward v lane (get_or (taps_at p v lane) i 0)) < length (modules_of p)
  forward_within within = number_within p plan (Forward v lane (get_or (taps_at p v lane) i 0)) (tap_there p plan v lane i h k within)

-- the computing module of a read, by the tables
pub reader_found : (p : Plan) → IsPlan p → (lane n sum u x r : ℕ) (xs : List ℕ) → n < length p.reads → xs ≡ joined (λ v. block_begin p v ∷ []) (length p.kinds) → r ≡ (read_at p n).reader → x ≡ get_or xs r x
    → sum ≡ lane + age_of p (read_at p n) → u ≡ p.unroll → (r < length xs) × (x + sum % u ≡ number_of p (reader_of p lane n)) × (number_of p (reader_of p lane n) < length (modules_of p))
reader_found p plan lane n sum u x r xs h is e g s same =
    let there = reader_there p plan lane n h in
    let within : r < length p.kinds = omega (arith, e, there.0) in
    let a = tensor_at (block_begin p) (length p.kinds) r xs is within in (
      a.within,
      ap (λ y. y + sum % u) (g ∙ a.is x ∙ ap (block_begin p) e) ∙ ap (λ y. block_begin p (read_at p n).reader + y % u) s
          ∙ ap (λ y. block_begin p (read_at p n).reader + (lane + age_of p (read_at p n)) % y) same ∙ sym (reader_place p plan lane n h),
      number_within p plan (reader_of p lane n) there,
    )

-- the sink of a tensor, by the tables
pub sink_found : (p : Plan) → IsPlan p → (v x : ℕ) (xs : List ℕ) → IsThere p (Sink v) → xs ≡ joined (λ w. near_begin p w p.unroll ∷ []) (length p.kinds) → x ≡ get_or xs v x → x ≡ number_of p (Sink v)
sink_found p plan v x xs there is g =
    g ∙ (tensor_at (λ w. near_begin p w p.unroll) (length p.kinds) v xs is there.0).is x ∙ sym (number_is p plan.lanes (Sink v) there ∙ sink_place p plan.lanes v)

pub reader_within : (p : Plan) → IsPlan p → (n r : ℕ) (xs : List ℕ) → n < length p.reads → xs ≡ joined (λ v. block_begin p v ∷ []) (length p.kinds) → r ≡ (read_at p n).reader → r < length xs
reader_within p plan n r xs h is e =
    let there = reader_there p plan 0 n h in
    let within : r < length p.kinds = omega (arith, e, there.0) in
    (tensor_at (block_begin p) (length p.kinds) r xs is within).within

-- a search doesn't miss a tap that is there
pub not_missed : (ts : List ℕ) (tap place : ℕ) → IsStrictlyIncreasing ts → Contains ts tap → IsBinarySearchResult (λ y. nat_cmp y tap) ts (Err place) → ⊥
not_missed ts tap place up has r =
    let parts = searched ts tap (Err place) r (λ i j le lt. rising_le ts (rises ts up) i j le lt) in
    let at : get_or ts has.0 0 ≡ tap = get_or_default ts has.0 0 tap has.1 ∙ has.2 in
    ⊎_elim (λ lt. omega (arith, parts.1 has.0 lt)) (λ ge. omega (arith, parts.2 has.0 ge has.1)) (cases_lt has.0 place)
  where
    rising_le : (ts : List ℕ) → Rises ts → (i j : ℕ) → i ≤ j → j < length ts → get_or ts i 0 ≤ get_or ts j 0
    rising_le [] r i j le lt = absurd (omega arith)
    rising_le (x ∷ xs) r zero zero le lt = omega arith
    rising_le (x ∷ xs) r zero (suc j) le lt = omega (arith, r.0 j 0 (omega arith))
    rising_le (x ∷ xs) r (suc i) zero le lt = absurd (omega arith)
    rising_le (x ∷ xs) r (suc i) (suc j) le lt = rising_le xs r.1 i j (omega arith) (omega arith)

-- what stands at a number is one of the plan's modules, of that number
pub found_there : (p : Plan) → IsPlan p → (n : ℕ) (x : Module) (xs : List Module) → xs ≡ modules_of p → n < length (modules_of p) → x ≡ get_or xs n x → IsThere p x × (number_of p x ≡ n)
found_there p plan n x xs e lt g =
    let is : get_or (modules_of p) n x ≡ x = sym (g ∙ ap (λ ys. get_or ys n x) e) in
    let t = each_there p plan.lanes n x lt in
    let there = subst (IsThere p) is t.0 in
    (there, number_is p plan.lanes x there ∙ ap (place_of p) (sym is) ∙ t.1)

pub kind_sinks : (k : Kind) → has_sink k ≡ true → k ≡ Output
kind_sinks Input e = absurd (false≢true e)
kind_sinks Inner e = absurd (false≢true e)
kind_sinks Output e = refl

drop_whole : (ns : List ℕ) → drop (length ns) ns ≡ []
drop_whole [] = refl
drop_whole (n ∷ ns) = drop_whole ns

pub none_left : (f : ℕ → Queue) (ns : List ℕ) → [] ≡ by_receiver (map f (drop (length ns - 0) ns))
none_left f ns =
    let e : length ns - 0 ≡ length ns = omega arith in
    sym (ap (λ k. by_receiver (map f (drop k ns))) e ∙ ap (λ zs. by_receiver (map f zs)) (drop_whole ns))

pub all_left : (f : ℕ → Queue) (ns : List ℕ) (i : ℕ) → length ns ≤ i → by_receiver (map f (drop (length ns - i) ns)) ≡ by_receiver (map f ns)
all_left f ns i h =
    let e : length ns - i ≡ 0 = omega arith in ap (λ k. by_receiver (map f (drop k ns))) e

-- the queues of a forwarding module
pub forward_whole : (p : Plan) → IsPlan p → (v lane tap from place : ℕ) (begun xs ys held : List Queue) → place < length (taps_at p v lane) → get_or (taps_at p v lane) place 0 ≡ tap
    → from ≡ number_of p (Forward v lane tap) → xs ≡ begun ++ link_from p from v lane (drop (place + 1) (taps_at p v lane)) → held ≡ served p v lane tap → ys ≡ xs ++ held
    → ys ≡ begun ++ queues_from p (Forward v lane tap)
unfolding queues_from
forward_whole p plan v lane tap from place begun xs ys held within is e g s k =
    let above : taps_above tap (taps_at p v lane) ≡ drop (place + 1) (taps_at p v lane) = ap (λ t. taps_above t (taps_at p v lane)) (sym is) ∙ above_place (taps_at p v lane) place (taps_rise p v lane plan.lanes) within in
    k ∙ ap (λ zs. zs ++ held) g ∙ append_assoc begun (link_from p from v lane (drop (place + 1) (taps_at p v lane))) held
    ∙ ap (λ zs. begun ++ zs) (ap (λ zs. zs ++ held) (link_is p (Forward v lane tap) v lane from (drop (place + 1) (taps_at p v lane)) e ∙ ap (link p (Forward v lane tap) v lane) (sym above))
    ∙ ap (λ zs. link p (Forward v lane tap) v lane (taps_above tap (taps_at p v lane)) ++ zs) s)

pub source_whole : (p : Plan) (v from : ℕ) → from ≡ number_of p (Source v) → joined (λ lane. link_from p from v lane (taps_at p v lane)) p.unroll ≡ queues_from p (Source v)
unfolding queues_from
source_whole p v from e = joined_same (λ lane. link_from p from v lane (taps_at p v lane)) (λ lane. link p (Source v) v lane (taps_at p v lane)) p.unroll (λ lane. link_is p (Source v) v lane from (taps_at p v lane) e)
  where
    joined_same : (f g : ℕ → List Queue) (n : ℕ) → ((i : ℕ) → f i ≡ g i) → joined f n ≡ joined g n
    joined_same f g zero h = empty_one f g
      where
        empty_one : (f g : ℕ → List Queue) → joined f 0 ≡ joined g 0
        empty_one f g = sym (empty_joined f [] refl) ∙ empty_joined g [] refl
    joined_same f g (suc n) h =
        let e : suc n ≡ n + 1 = omega arith in
        ap (joined f) e ∙ joined_more f n ∙ ap (λ zs. zs ++ f n) (joined_same f g n h) ∙ ap (λ zs. joined g n ++ zs) (h n) ∙ sym (joined_more g n) ∙ ap (joined g) (sym e)

pub compute_whole : (p : Plan) (v lane from : ℕ) (begun xs ys : List Queue) → from ≡ number_of p (Compute v lane) → xs ≡ begun ++ link_from p from v lane (taps_at p v lane) → ys ≡ xs ++ to_sink p v lane
    → ys ≡ begun ++ queues_from p (Compute v lane)
unfolding queues_from
compute_whole p v lane from begun xs ys e g k =
    k ∙ ap (λ zs. zs ++ to_sink p v lane) g ∙ append_assoc begun (link_from p from v lane (taps_at p v lane)) (to_sink p v lane)
    ∙ ap (λ zs. begun ++ (zs ++ to_sink p v lane)) (link_is p (Compute v lane) v lane from (taps_at p v lane) e)

pub sink_whole : (p : Plan) (v : ℕ) (xs : List Queue) → xs ≡ xs ++ queues_from p (Sink v)
unfolding queues_from
sink_whole p v xs = sym (append-nil xs)

-- there are few queues
pub few_queues : (p : Plan) → p.unroll ≤ 64 → length p.reads ≤ 16384 → length (modules_of p) ≤ 65536 → length (flat_map (queues_from p) (modules_of p)) < 2 ^ 32
few_queues p u r m =
    let k : p.unroll + length p.reads + 2 ≤ 16450 = omega arith in
    omega (arith, queues_bound p, mul-le-mul m k)

pub whole_network : (p : Plan) (ms : List Module) (qs : List Queue) → ms ≡ modules_of p → qs ≡ flat_map (queues_from p) (modules_of p) → ◌≡◌ {A = Net} (record { modules = ms; queues = qs }) (network_of p)
unfolding network_of
whole_network p ms qs e g =
    ap (λ x. record { modules = x; queues = qs }) e ∙ ap (λ x. record { modules = modules_of p; queues = x }) g
