-- Delays pressed together: of the numbers below a delay only those count that lie less than m behind the delay of some
-- tensor. Where no offset is further than m, pressed delays meet the windows too, and need no more storage.
use Rattle.std.proofs.Common.{◌≡◌, ℕ, zero, suc, ◌+◌, ◌*◌, ◌-◌, ◌<◌, ◌≤◌, ◌⊎◌, Bool, true, false, ◌&&◌, ◌||◌, cond, min, List, [], ◌∷◌, length, map, slice_index, get_or, nat_le, nat_lt, refl, sym, ◌∙◌, ap, arith, ⊎_elim, pos, ◌+ℤ◌, ◌-ℤ◌, ◌≤ℤ◌}
use Rattle.std.specs.List.{All}
use Rattle.std.proofs.lemmas.Bool.{and_from, and_parts, cases_lt, false≢true, leb-true, ltb-true, le-leb, lt-ltb, or_left, or_right}
use Rattle.std.proofs.lemmas.Int.{ints}
use Rattle.std.proofs.lemmas.List.{get_or-map, get_or_past, length-map}
use Rattle.std.proofs.Math.Nat.{mul-le-mul_left}
use Rattle.delay_net.specs.Shape.{HasSmallOffset, IsInOrder, IsNet}
use Rattle.delay_net.specs.Limits.{most_offset}
use Rattle.delay_net.specs.Sums.{sum_below}
use Rattle.delay_net.specs.Windows.{MeetsWindow, MeetsWindows, age, storage_of, total_storage}
use Rattle.delay_net.specs.declared.net.Read.{Read}
use Rattle.delay_net.proofs.CallerLemmas.{storage_of_is, sum_below_up_to}
use Rattle.flow_solve.proofs.LatticeLemmas.{storage_within}

-- how many numbers below v pass
abbrev counted : (ℕ → Bool) → ℕ → ℕ
counted f zero = 0
counted f (suc v) = counted f v + cond (f v) 1 0

bit_most : (b : Bool) → cond b 1 0 ≤ 1
bit_most true = omega arith
bit_most false = omega arith

counted_between : (f : ℕ → Bool) (u v : ℕ) → u ≤ v → (counted f u ≤ counted f v) × (counted f v ≤ counted f u + (v - u))
counted_between f u zero h =
    let i : u ≡ 0 = omega arith in
    let e : counted f u ≡ counted f 0 = ap (counted f) i in
    (omega arith, omega arith)
counted_between f u (suc v) h =
    ⊎_elim (λ (l : v < u).
    let i : u ≡ suc v = omega arith in
    let e : counted f u ≡ counted f (suc v) = ap (counted f) i in
    (omega arith, omega arith)) (λ (l : u ≤ v).
    let before = counted_between f u v l in
    let bit = bit_most (f v) in
    (omega (arith, before.0), omega (arith, before.1))) (cases_lt v u)

counted_full : (f : ℕ → Bool) (u v : ℕ) → u ≤ v → ((w : ℕ) → u ≤ w → w < v → f w ≡ true) → counted f v ≡ counted f u + (v - u)
counted_full f u zero h all =
    let i : u ≡ 0 = omega arith in
    let e : counted f u ≡ counted f 0 = ap (counted f) i in
    omega arith
counted_full f u (suc v) h all =
    ⊎_elim (λ (l : v < u).
    let i : u ≡ suc v = omega arith in
    let e : counted f u ≡ counted f (suc v) = ap (counted f) i in
    omega arith) (λ (l : u ≤ v).
    let before = counted_full f u v l (λ w a b. all w a (omega arith)) in
    let one : ◌≡◌ {A = ℕ} (cond (f v) 1 0) 1 = ap (λ b. cond b 1 0) (all v l (omega arith)) in
    omega arith) (cases_lt v u)

bit_either : (a b : Bool) → cond (a || b) 1 0 ≤ cond a 1 0 + cond b 1 0
bit_either true true = omega arith
bit_either true false = omega arith
bit_either false true = omega arith
bit_either false false = omega arith

counted_either : (f g : ℕ → Bool) (v : ℕ) → counted (λ u. f u || g u) v ≤ counted f v + counted g v
counted_either f g zero = omega arith
counted_either f g (suc v) = omega (arith, counted_either f g v, bit_either (f v) (g v))

-- the number lies behind a, and less than m behind it
abbrev is_near : (a m u : ℕ) → Bool
is_near a m u = nat_le a u && nat_lt u (a + m)

near_more : (b : Bool) (a m v k : ℕ) → k ≤ min m (v - a) → (b ≡ true → (a ≤ v) × (v < a + m)) → k + cond b 1 0 ≤ min m (suc v - a)
near_more true a m v k h inside = let i = inside refl in omega (arith, i.0, i.1)
near_more false a m v k h inside = omega arith

counted_near : (a m v : ℕ) → counted (is_near a m) v ≤ min m (v - a)
counted_near a m zero = omega arith
counted_near a m (suc v) =
    near_more (is_near a m v) a m v (counted (is_near a m) v) (counted_near a m v) (λ e.
    let both = and_parts (nat_le a v) (nat_lt v (a + m)) e in
    (leb-true a v both.0, ltb-true v (a + m) both.1))

-- the number lies less than m behind one of the first n delays
abbrev covered : (n m : ℕ) → (ℕ → ℕ) → ℕ → Bool
covered zero m d u = false
covered (suc n) m d u = covered n m d u || is_near (d n) m u

none_counted : (v : ℕ) → counted (λ u. false) v ≡ 0
none_counted zero = refl
none_counted (suc v) = omega (arith, none_counted v)

covered_few : (n m : ℕ) (d : ℕ → ℕ) (v : ℕ) → counted (covered n m d) v ≤ n * m
covered_few zero m d v = omega (arith, none_counted v)
covered_few (suc n) m d v =
    omega (arith, counted_either (covered n m d) (is_near (d n) m) v, covered_few n m d v, counted_near (d n) m v)

covered_at : (n m : ℕ) (d : ℕ → ℕ) (t u : ℕ) → t < n → d t ≤ u → u < d t + m → covered n m d u ≡ true
covered_at zero m d t u l a b = absurd (omega arith)
covered_at (suc n) m d t u l a b =
    ⊎_elim (λ (h : t < n). or_left (covered n m d u) (is_near (d n) m u) (covered_at n m d t u h a b)) (λ (h : n ≤ t).
    let i : t ≡ n = omega arith in
    let e : d t ≡ d n = ap d i in
    or_right (covered n m d u) (is_near (d n) m u) (and_from (nat_le (d n) u) (nat_lt u (d n + m)) (le-leb (d n) u (omega arith)) (lt-ltb u (d n + m) (omega arith)))) (cases_lt t n)

module _ (n m : ℕ) (delays : List ℕ) where
  abbrev delay : ℕ → ℕ
  delay = slice_index delays

  -- a delay pressed
  abbrev pub press : ℕ → ℕ
  press v = counted (covered n m delay) v

  pub press_most : (v : ℕ) → press v ≤ n * m
  press_most v = covered_few n m delay v

  -- what is less than m behind a tensor's delay keeps its distance
  kept : (t v : ℕ) → t < n → delay t ≤ v → v ≤ delay t + m → press v ≡ press (delay t) + (v - delay t)
  kept t v l a b =
      counted_full (covered n m delay) (delay t) v a (λ w c d. covered_at n m delay t w l c (omega arith))

  further : (t v : ℕ) → t < n → delay t + m ≤ v → press (delay t) + m ≤ press v
  further t v l a =
      omega (arith, kept t (delay t + m) l (omega arith) (omega arith), (counted_between (covered n m delay) (delay t + m) v a).0)

  -- all the delays pressed
  abbrev pub pressed : List ℕ
  pressed = map press delays

  module _ (size : length delays ≡ n) where
    pub pressed_at : (t : ℕ) → t < n → slice_index pressed t ≡ press (delay t)
    pressed_at t l = get_or-map press delays t 0 0 (omega arith)

    module _ (r : Read) (of : r.of < n) (reader : r.reader < n) (low : pos 0 ≤ℤ (r.offset +ℤ pos m)) (high : r.offset ≤ℤ pos m) (met : MeetsWindow delays r) where
      abbrev x : ℕ
      x = delay r.reader

      abbrev y : ℕ
      y = delay r.of

      pressed_between : ((pos (press y) +ℤ r.offset) ≤ℤ pos (press x)) × (((pos (press x) -ℤ r.offset) -ℤ pos (press y)) ≤ℤ ((pos x -ℤ r.offset) -ℤ pos y))
      pressed_between =
          ⊎_elim (λ (l : x < y).
          let e = kept r.reader y reader (omega arith) (omega (arith, ints)) in
          (omega (arith, ints), omega (arith, ints))) (λ (l : y ≤ x).
          ⊎_elim (λ (far : y + m < x).
          let a = further r.of x of (omega arith) in
          let b = (counted_between (covered n m delay) y x l).1 in
          (omega (arith, ints), omega (arith, ints))) (λ (near : x ≤ y + m).
          let e = kept r.of x of l near in
          (omega (arith, ints), omega (arith, ints))) (cases_lt (y + m) x)) (cases_lt x y)

      pub pressed_meets : MeetsWindow pressed r
      pressed_meets =
          let a = pressed_at r.of of in
          let b = pressed_at r.reader reader in
          let h = pressed_between.0 in
          omega (arith, ints)

      pub pressed_younger : age pressed r ≤ℤ age delays r
      pressed_younger =
          let a = pressed_at r.of of in
          let b = pressed_at r.reader reader in
          let h = pressed_between.1 in
          omega (arith, ints)

-- a net's delays pressed
abbrev pub pressed_delays : List ℕ → List ℕ → List ℕ
pressed_delays weights delays = pressed (length weights) most_offset delays

module _ (weights : List ℕ) (reads : List Read) (net : IsNet weights reads) (delays : List ℕ) (size : length delays ≡ length weights) (meets : MeetsWindows reads delays) where
  abbrev n : ℕ
  n = length weights

  pub all_pressed_meet : MeetsWindows reads (pressed_delays weights delays)
  all_pressed_meet = λ k d lt.
      let r = get_or reads k d in
      let order = net.order k d lt in
      let small = net.offsets k d lt in
      pressed_meets n most_offset delays size r (omega (arith, order.0, order.1)) order.1 (omega (arith, ints, small.0)) small.1 (meets k d lt)

  storage_pressed : (t : ℕ) → storage_of reads (pressed_delays weights delays) t ≤ storage_of reads delays t
  storage_pressed t =
      storage_within reads (pressed_delays weights delays) t (storage_of reads delays t) (λ k d lt of.
      let r = get_or reads k d in
      let order = net.order k d lt in
      let small = net.offsets k d lt in
      let younger = pressed_younger n most_offset delays size r (omega (arith, order.0, order.1)) order.1 (omega (arith, ints, small.0)) small.1 (meets k d lt) in
      let old = (storage_of_is reads delays t).bound k d lt of in
      omega (arith, ints))

  pub total_pressed : total_storage weights reads (pressed_delays weights delays) ≤ total_storage weights reads delays
  unfolding total_storage
  total_pressed =
      sum_below_up_to n (λ t. slice_index weights t * storage_of reads (pressed_delays weights delays) t) (λ t. slice_index weights t * storage_of reads delays t)
      (λ t lt. mul-le-mul_left (slice_index weights t) (storage_pressed t))
