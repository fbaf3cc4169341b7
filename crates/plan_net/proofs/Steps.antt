-- Lists that grow by one piece, values for each lane, and the pieces of the firing order.
use Rattle.std.proofs.Common.{◌≡◌, ℕ, zero, suc, ◌+◌, ◌-◌, ◌*◌, ◌<◌, ◌≤◌, Bool, true, false, not, cond, eqb, nat_lt, List, [], ◌∷◌, ◌++◌, length, get_or, drop, map, replicate, reverse, set, take, refl, sym, ◌∙◌, ap, subst, arith, add-one, pos, ⊎_elim, length-set, get_or-set_same, get_or-set_other}
use Rattle.std.specs.List.{filter, range_with_len}
use Rattle.std.proofs.Math.Seq.{drop-cons}
use Rattle.std.proofs.lemmas.Bool.{cases_eq, eq-eqb, ne_eqb}
use Rattle.std.proofs.lemmas.List.{append-nil, append_assoc, get_or_default, get_or-map, get_or-replicate, get_or-reverse, length-append, length-replicate, length-reverse, map-append, reverse-append, take_all, take_more}
use Rattle.std.proofs.lemmas.List.Elements.{filter-append, filter_more}
use Rattle.delay_net.specs.Sums.{sum_below}
use Rattle.net_ir.specs.declared.network.Module.{Module}
use Rattle.net_ir.specs.declared.network.Module.TheVariants.{Source, Forward, Compute, Sink}
use Rattle.net_shape.specs.Lists.{joined}
use Rattle.net_shape.specs.Modules.{block, far_forwards, far_lane, modules_of, near_forwards, near_lane, number_of, producers, sinks}
use Rattle.net_shape.specs.Plans.{Plan, age_of, ages_of, kind_at, taps_at}
use Rattle.net_shape.specs.Queues.{by_receiver, put_queue, read_at, to_sink}
use Rattle.reuse_chain.specs.Lanes.{taps_of}
use Rattle.net_ir.specs.declared.network.Queue.{Queue}
use Rattle.delay_net.specs.declared.net.Read.{Read}
use Rattle.net_shape.specs.declared.kinds.Kind.{Kind}
use Rattle.net_shape.specs.declared.kinds.Kind.TheVariants.{Input, Inner, Output}
use Rattle.net_shape.specs.machine.Places.{block_begin, far_begin, far_lane_begin, near_begin}
use Rattle.net_shape.proofs.CallerLemmas.{At, at_first, at_joined, at_place, far_is, length_joined, near_is, sum_below_ones}
use Rattle.plan_net.specs.machine.Tables.{AreReads, by_lane, has_sink, is_source, reads_among}

pub joined_more : {A : Type 0} (f : ℕ → List A) (i : ℕ) → joined f (i + 1) ≡ joined f i ++ f i
unfolding joined
joined_more f i = rw add-one refl

pub none_joined : {A : Type 0} (f : ℕ → List A) (xs : List A) → xs ≡ xs ++ joined f 0
unfolding joined
none_joined f xs = sym (append-nil xs)

pub empty_joined : {A : Type 0} (f : ℕ → List A) (xs : List A) → xs ≡ [] → xs ≡ joined f 0
unfolding joined
empty_joined f xs e = e

pub more_joined : {A : Type 0} (f : ℕ → List A) (begun xs ys : List A) (i : ℕ) → xs ≡ begun ++ joined f i → ys ≡ xs ++ f i → ys ≡ begun ++ joined f (i + 1)
more_joined f begun xs ys i e g =
    g ∙ ap (λ zs. zs ++ f i) e ∙ append_assoc begun (joined f i) (f i) ∙ ap (λ zs. begun ++ zs) (sym (joined_more f i))

pub next_joined : {A : Type 0} (f : ℕ → List A) (xs ys : List A) (i : ℕ) → xs ≡ joined f i → ys ≡ xs ++ f i → ys ≡ joined f (i + 1)
next_joined f xs ys i e g = g ∙ ap (λ zs. zs ++ f i) e ∙ sym (joined_more f i)

-- a value for each lane
rows : (u v : ℕ) → sum_below v (λ _. u) ≡ v * u
unfolding sum_below
rows u zero = omega arith
rows u (suc v) = omega (arith, rows u v)

lane_length : {A : Type 0} (f : ℕ → A) (u : ℕ) → length (joined (λ i. f i ∷ []) u) ≡ u
lane_length f u = length_joined (λ i. f i ∷ []) u ∙ sum_below_ones u

pub at_tensor : {A : Type 0} (f : ℕ → A) (n v : ℕ) → v < n → At (joined (λ w. f w ∷ []) n) v (f v)
at_tensor f n v h = at_place _ _ _ _ (omega (arith, sum_below_ones v)) (at_joined (λ w. f w ∷ []) n v 0 (f v) h (at_first (f v) []))

same_sum : (v : ℕ) (f : ℕ → ℕ) (u : ℕ) → ((i : ℕ) → f i ≡ u) → sum_below v f ≡ sum_below v (λ _. u)
unfolding sum_below
same_sum zero f u h = refl
same_sum (suc v) f u h = omega (arith, same_sum v f u h, h v)

pub at_lane : {A : Type 0} (p : Plan) (f : ℕ → ℕ → A) (v lane : ℕ) → v < length p.kinds → lane < p.unroll → At (by_lane p f) (v * p.unroll + lane) (f v lane)
at_lane p f v lane h k =
    at_place _ _ _ _
    (ap (λ n. n + lane) (same_sum v (λ w. length (joined (λ l. f w l ∷ []) p.unroll)) p.unroll (λ w. lane_length (f w) p.unroll) ∙ rows p.unroll v))
    (at_joined (λ w. joined (λ l. f w l ∷ []) p.unroll) (length p.kinds) v lane (f v lane) h (at_tensor (f v) p.unroll lane k))

-- a filter and a reversal
filter_one : (p : ℕ → Bool) (b : Bool) (x : ℕ) (xs : List ℕ) → reverse xs ++ cond b (x ∷ []) [] ≡ reverse (cond b (x ∷ xs) xs)
filter_one p true x xs = sym (reverse-append (x ∷ []) xs)
filter_one p false x xs = append-nil (reverse xs)

pub filter-reverse : (p : ℕ → Bool) (xs : List ℕ) → filter p (reverse xs) ≡ reverse (filter p xs)
filter-reverse p [] = refl
filter-reverse p (x ∷ xs) =
    ap (filter p) (reverse-append (x ∷ []) xs) ∙ filter-append p (reverse xs) (x ∷ []) ∙ ap (λ ys. ys ++ cond (p x) (x ∷ []) []) (filter-reverse p xs)
    ∙ filter_one p (p x) x (filter p xs)

-- pieces of the firing order
pub far_piece : (p : Plan) (v lane : ℕ) (taps : List ℕ) → 0 < p.unroll → taps ≡ taps_at p v lane → map (λ tap. Forward v lane tap) (reverse (filter (λ t. nat_lt 0 t) taps)) ≡ far_lane p v lane
unfolding far_lane
far_piece p v lane taps h e =
    ap (λ ts. map (λ tap. Forward v lane tap) (reverse (filter (λ t. nat_lt 0 t) ts))) e ∙ ap (λ ts. map (λ tap. Forward v lane tap) (reverse ts)) (sym (far_is p v lane h))

pub near_piece : (p : Plan) (v lane : ℕ) (taps : List ℕ) → 0 < p.unroll → taps ≡ taps_at p v lane → map (λ tap. Forward v lane tap) (filter (λ t. not (nat_lt 0 t)) taps) ≡ near_lane p v lane
unfolding near_lane
near_piece p v lane taps h e =
    ap (λ ts. map (λ tap. Forward v lane tap) (filter (λ t. not (nat_lt 0 t)) ts)) e ∙ ap (map (λ tap. Forward v lane tap)) (sym (near_is p v lane h))

pub far_begun : (p : Plan) (v lane : ℕ) (begun xs : List Module) → length begun ≡ far_begin p v → xs ≡ begun ++ joined (far_lane p v) lane → length xs ≡ far_lane_begin p v lane
unfolding far_lane_begin
far_begun p v lane begun xs e g = omega (arith, ap length g, length-append begun (joined (far_lane p v) lane), length_joined (far_lane p v) lane)

pub near_begun : (p : Plan) (v lane : ℕ) (begun xs : List Module) → length begun ≡ near_begin p v 0 → xs ≡ begun ++ joined (near_lane p v) lane → length xs ≡ near_begin p v lane
unfolding near_begin sum_below
near_begun p v lane begun xs e g = omega (arith, ap length g, length-append begun (joined (near_lane p v) lane), length_joined (near_lane p v) lane)

pub far_whole : (p : Plan) (v : ℕ) → joined (far_lane p v) p.unroll ≡ far_forwards p v
unfolding far_forwards
far_whole p v = refl

pub near_whole : (p : Plan) (v : ℕ) → joined (near_lane p v) p.unroll ≡ near_forwards p v
unfolding near_forwards
near_whole p v = refl

pub tensor_begun : (p : Plan) (v : ℕ) (xs : List Module) → xs ≡ joined (far_forwards p) v → length xs ≡ far_begin p v
unfolding far_begin
tensor_begun p v xs e = ap length e ∙ length_joined (far_forwards p) v

pub block_begun : (p : Plan) (v : ℕ) (begun xs : List Module) → begun ≡ joined (far_forwards p) (length p.kinds) → xs ≡ begun ++ joined (block p) v → length xs ≡ block_begin p v
unfolding far_begin block_begin
block_begun p v begun xs e g =
    omega (arith, ap length g, ap length e, length-append begun (joined (block p) v), length_joined (block p) v, length_joined (far_forwards p) (length p.kinds))

-- within a block
pub near_from : (p : Plan) (v : ℕ) (begun xs : List Module) → length begun ≡ block_begin p v → xs ≡ begun ++ producers p v → length xs ≡ near_begin p v 0
unfolding near_begin sum_below
near_from p v begun xs e g = omega (arith, ap length g, length-append begun (producers p v))

pub sink_from : (p : Plan) (v : ℕ) (begun xs ys : List Module) → length begun ≡ block_begin p v → xs ≡ begun ++ producers p v → ys ≡ xs ++ near_forwards p v → length ys ≡ near_begin p v p.unroll
unfolding near_begin near_forwards
sink_from p v begun xs ys e g h =
    omega (arith, ap length g, ap length h, length-append begun (producers p v), length-append xs (joined (near_lane p v) p.unroll), length_joined (near_lane p v) p.unroll)

pub block_whole : (p : Plan) (v : ℕ) (begun xs ys zs : List Module) → xs ≡ begun ++ producers p v → ys ≡ xs ++ near_forwards p v → zs ≡ ys ++ sinks p v → zs ≡ begun ++ block p v
unfolding block
block_whole p v begun xs ys zs e g h =
    h ∙ ap (λ q. q ++ sinks p v) (g ∙ ap (λ q. q ++ near_forwards p v) e ∙ append_assoc begun (producers p v) (near_forwards p v))
    ∙ append_assoc begun (producers p v ++ near_forwards p v) (sinks p v) ∙ ap (λ q. begun ++ q) (append_assoc (producers p v) (near_forwards p v) (sinks p v))

pub modules_whole : (p : Plan) (xs : List Module) → xs ≡ joined (far_forwards p) (length p.kinds) ++ joined (block p) (length p.kinds) → xs ≡ modules_of p
unfolding modules_of
modules_whole p xs e = e

-- by kind
pub kind_is : {A : Type 0} (f : Kind → A) (p : Plan) (v : ℕ) (xs : List Kind) (d : Kind) → v < length p.kinds → xs ≡ p.kinds → f (get_or xs v d) ≡ f (kind_at p v)
kind_is f p v xs d h e = ap (λ ys. f (get_or ys v d)) e ∙ ap f (get_or_default p.kinds v d Inner h)

pub producers_by : (p : Plan) (v : ℕ) → producers p v ≡ cond (is_source (kind_at p v)) (Source v ∷ []) (joined (λ lane. Compute v lane ∷ []) p.unroll)
unfolding producers
producers_by p v = by_kind (kind_at p v)
  where
    by_kind : (k : Kind) → elim k [ Input ↦ Source v ∷ [] | Inner ↦ joined (λ lane. Compute v lane ∷ []) p.unroll | Output ↦ joined (λ lane. Compute v lane ∷ []) p.unroll ]
        ≡ cond (is_source k) (Source v ∷ []) (joined (λ lane. Compute v lane ∷ []) p.unroll)
    by_kind Input = refl
    by_kind Inner = refl
    by_kind Output = refl

pub sinks_by : (p : Plan) (v : ℕ) → sinks p v ≡ cond (has_sink (kind_at p v)) (Sink v ∷ []) []
unfolding sinks
sinks_by p v = by_kind (kind_at p v)
  where
    by_kind : (k : Kind) → elim k [ Input ↦ [] | Inner ↦ [] | Output ↦ Sink v ∷ [] ] ≡ cond (has_sink k) (Sink v ∷ []) []
    by_kind Input = refl
    by_kind Inner = refl
    by_kind Output = refl

pub to_sink_by : (p : Plan) (v lane : ℕ) → to_sink p v lane ≡ cond {A = List Queue} (has_sink (kind_at p v)) (record { from = number_of p (Compute v lane); to = number_of p (Sink v); port = lane; capacity = 1; lead = 0 } ∷ []) []
unfolding to_sink
to_sink_by p v lane = by_kind (kind_at p v)
  where
    by_kind : (k : Kind) → elim k [ Input ↦ [] | Inner ↦ [] | Output ↦ record { from = number_of p (Compute v lane); to = number_of p (Sink v); port = lane; capacity = 1; lead = 0 } ∷ [] ]
        ≡ cond {A = List Queue} (has_sink k) (record { from = number_of p (Compute v lane); to = number_of p (Sink v); port = lane; capacity = 1; lead = 0 } ∷ []) []
    by_kind Input = refl
    by_kind Inner = refl
    by_kind Output = refl

pub lanes_are : (p : Plan) (v u : ℕ) (ages : List ℕ) → ages ≡ ages_of p v → u ≡ p.unroll → joined (λ lane. taps_of ages lane u ∷ []) u ≡ joined (λ lane. taps_at p v lane ∷ []) p.unroll
unfolding taps_at
lanes_are p v u ages e g =
    ap (λ xs. joined (λ lane. taps_of xs lane u ∷ []) u) e ∙ ap (λ n. joined (λ lane. taps_of (ages_of p v) lane n ∷ []) n) g

-- one element more of those that a filter keeps
one_more : {A : Type 0} (f : ℕ → A) (b : Bool) (t : ℕ) → map f (cond b (t ∷ []) []) ≡ cond b (f t ∷ []) []
one_more f true t = refl
one_more f false t = refl

pub kept_more : {A : Type 0} (f : ℕ → A) (p : ℕ → Bool) (begun xs ys : List A) (rs : List ℕ) (i t : ℕ) → i < length rs → t ≡ get_or rs i 0 → xs ≡ begun ++ map f (filter p (take i rs))
    → ys ≡ xs ++ cond (p t) (f t ∷ []) [] → ys ≡ begun ++ map f (filter p (take (i + 1) rs))
kept_more f p begun xs ys rs i t h e g k =
    k ∙ ap (λ zs. zs ++ cond (p t) (f t ∷ []) []) g ∙ append_assoc begun (map f (filter p (take i rs))) (cond (p t) (f t ∷ []) [])
    ∙ ap (λ zs. begun ++ zs) (ap (λ zs. map f (filter p (take i rs)) ++ zs) (sym (one_more f (p t) t)) ∙ sym (map-append f (filter p (take i rs)) (cond (p t) (t ∷ []) []))
    ∙ ap (map f) (ap (λ x. filter p (take i rs) ++ cond (p x) (x ∷ []) []) e ∙ sym (filter_more p rs i 0 h)))

-- ranges
pub range_more : (a n : ℕ) → range_with_len a (n + 1) ≡ range_with_len a n ++ (a + n) ∷ []
range_more a zero = let e : a ≡ a + 0 = omega arith in ap (λ x. x ∷ []) e
range_more a (suc n) =
    let e : suc n + 1 ≡ suc (n + 1) = omega arith in
    let g : a + 1 + n ≡ a + suc n = omega arith in
    ap (range_with_len a) e ∙ ap (λ xs. a ∷ xs) (range_more (a + 1) n ∙ ap (λ x. range_with_len (a + 1) n ++ x ∷ []) g)

-- the reads of tensors
pub among_more : (p : Plan) (v k : ℕ) → reads_among p v (k + 1) ≡ reads_among p v k ++ cond (eqb (read_at p k).of v) (k ∷ []) []
among_more p v k =
    ap (filter (λ n. eqb (read_at p n).of v)) (range_more 0 k) ∙ filter-append (λ n. eqb (read_at p n).of v) (range_with_len 0 k) ((0 + k) ∷ [])
    ∙ (let e : 0 + k ≡ k = omega arith in ap (λ x. reads_among p v k ++ cond (eqb (read_at p x).of v) (x ∷ []) []) e)

pub reads_none : (p : Plan) (lists : List (List ℕ)) → lists ≡ replicate (length p.kinds) [] → AreReads p 0 lists
reads_none p lists e = record {
  whole = ap length e ∙ length-replicate (length p.kinds) [];
  each = λ v h. ap (λ xs. get_or xs v []) e ∙ get_or-replicate (length p.kinds) v [] [] h;
}

pub reads_more : (p : Plan) (k of : ℕ) (lists : List (List ℕ)) (one : List ℕ) → of < length p.kinds → of ≡ (read_at p k).of → one ≡ get_or lists of [] ++ k ∷ [] → AreReads p k lists → AreReads p (k + 1) (set lists of one)
reads_more p k of lists one h e g r = record {
  whole = length-set lists of one ∙ r.whole;
  each = λ v lt. ⊎_elim
      (λ same. ap (λ w. get_or (set lists of one) w []) same ∙ get_or-set_same lists of one [] (omega (arith, r.whole)) ∙ g ∙ ap (λ xs. xs ++ k ∷ []) (r.each of h)
      ∙ ap (λ b. reads_among p of k ++ cond b (k ∷ []) []) (sym (eq-eqb (read_at p k).of of (sym e))) ∙ sym (among_more p of k) ∙ ap (λ w. reads_among p w (k + 1)) (sym same))
      (λ other. get_or-set_other lists of v one [] other ∙ r.each v lt ∙ sym (append-nil (reads_among p v k))
      ∙ ap (λ b. reads_among p v k ++ cond b (k ∷ []) []) (sym (ne_eqb (read_at p k).of v (λ s. other (sym (e ∙ s))))) ∙ sym (among_more p v k))
      (cases_eq v of);
}

-- the ages of a tensor's reads
ages_first : (p : Plan) (v k : ℕ) → k ≤ length p.reads → map (λ n. age_of p (read_at p n)) (reads_among p v k) ≡ map (age_of p) (filter (λ r. eqb r.of v) (take k p.reads))
ages_first p v zero h = refl
ages_first p v (suc k) h =
    let n : k + 1 ≡ suc k = omega arith in
    let d : Read = record { reader = 0; of = 0; offset = pos 0 } in
    let step : map (λ n. age_of p (read_at p n)) (reads_among p v (k + 1)) ≡ map (age_of p) (filter (λ r. eqb r.of v) (take (k + 1) p.reads)) =
    ap (map (λ n. age_of p (read_at p n))) (among_more p v k) ∙ map-append (λ n. age_of p (read_at p n)) (reads_among p v k) (cond (eqb (read_at p k).of v) (k ∷ []) [])
    ∙ ap (λ xs. xs ++ map (λ n. age_of p (read_at p n)) (cond (eqb (read_at p k).of v) (k ∷ []) [])) (ages_first p v k (omega arith))
    ∙ ap (λ xs. map (age_of p) (filter (λ r. eqb r.of v) (take k p.reads)) ++ xs) (both (eqb (read_at p k).of v))
    ∙ sym (map-append (age_of p) (filter (λ r. eqb r.of v) (take k p.reads)) (cond (eqb (read_at p k).of v) (read_at p k ∷ []) []))
    ∙ ap (map (age_of p)) (sym (filter_more (λ r. eqb r.of v) p.reads k d (omega arith))) in
    subst (λ (m : ℕ). map (λ n. age_of p (read_at p n)) (reads_among p v m) ≡ map (age_of p) (filter (λ r. eqb r.of v) (take m p.reads))) n step
  where
    both : (b : Bool) → map (λ n. age_of p (read_at p n)) (cond b (k ∷ []) []) ≡ map (age_of p) (cond b (read_at p k ∷ []) [])
    both true = refl
    both false = refl

pub ages_are : (p : Plan) (v : ℕ) → map (λ n. age_of p (read_at p n)) (reads_among p v (length p.reads)) ≡ ages_of p v
ages_are p v =
    ages_first p v (length p.reads) (omega arith) ∙ ap (λ rs. map (age_of p) (filter (λ r. eqb r.of v) rs)) (take_all (length p.reads) p.reads (omega arith))

pub ages_more : (p : Plan) (ns all xs ys : List ℕ) (i : ℕ) → i < length ns → all ≡ map (age_of p) p.reads → get_or ns i 0 < length p.reads
    → xs ≡ map (λ n. age_of p (read_at p n)) (take i ns) → ys ≡ xs ++ get_or all (get_or ns i 0) 0 ∷ [] → ys ≡ map (λ n. age_of p (read_at p n)) (take (i + 1) ns)
ages_more p ns all xs ys i h e lt g k =
    let d : Read = record { reader = 0; of = 0; offset = pos 0 } in
    k ∙ ap (λ zs. zs ++ get_or all (get_or ns i 0) 0 ∷ []) g
    ∙ ap (λ x. map (λ n. age_of p (read_at p n)) (take i ns) ++ x ∷ []) (ap (λ zs. get_or zs (get_or ns i 0) 0) e ∙ get_or-map (age_of p) p.reads (get_or ns i 0) d 0 lt)
    ∙ sym (map-append (λ n. age_of p (read_at p n)) (take i ns) (get_or ns i 0 ∷ [])) ∙ ap (map (λ n. age_of p (read_at p n))) (sym (take_more ns i 0 h))

-- one queue less is left
pub less_left : (f : ℕ → Queue) (ns : List ℕ) (i : ℕ) (xs ys : List Queue) → i < length ns → xs ≡ by_receiver (map f (drop (length ns - i) ns))
    → ys ≡ put_queue (f (get_or ns (length ns - 1 - i) 0)) xs → ys ≡ by_receiver (map f (drop (length ns - (i + 1)) ns))
less_left f ns i xs ys h e g =
    let a : length ns - (i + 1) ≡ length ns - 1 - i = omega arith in
    let b : suc (length ns - 1 - i) ≡ length ns - i = omega arith in
    let whole : drop (length ns - (i + 1)) ns ≡ get_or ns (length ns - 1 - i) 0 ∷ drop (length ns - i) ns = ap (λ k. drop k ns) a ∙ drop-cons ns (length ns - 1 - i) 0 (omega arith)
    ∙ ap (λ k. get_or ns (length ns - 1 - i) 0 ∷ drop k ns) b in
    g ∙ ap (put_queue (f (get_or ns (length ns - 1 - i) 0))) e ∙ ap (λ zs. by_receiver (map f zs)) (sym whole)

-- one queue more is handed on
pub handed_more : (begun xs ys held : List Queue) (i : ℕ) (q d : Queue) → i < length held → q ≡ get_or held (length held - 1 - i) d → xs ≡ begun ++ take i (reverse held) → ys ≡ xs ++ q ∷ [] → ys ≡ begun ++ take (i + 1) (reverse held)
handed_more begun xs ys held i q d h e g k =
    k ∙ ap (λ zs. zs ++ q ∷ []) g ∙ append_assoc begun (take i (reverse held)) (q ∷ [])
    ∙ ap (λ zs. begun ++ zs) (ap (λ x. take i (reverse held) ++ x ∷ []) (e ∙ sym (get_or-reverse held i d h)) ∙ sym (take_more (reverse held) i d (omega (arith, length-reverse held))))
