-- The gaps of a lane are those of its taps, and how many queues there are at most.
use Rattle.std.proofs.Common.{◌≡◌, ℕ, zero, suc, ◌+◌, ◌-◌, ◌*◌, ◌<◌, ◌≤◌, Bool, cond, List, [], ◌∷◌, length, map, refl, ◌∙◌, ap, arith}
use Rattle.std.specs.List.{AllByRecursion, filter, flat_map, range_with_len}
use Rattle.std.proofs.lemmas.Bool.{cond_both, eq-eqb, ne_eqb}
use Rattle.std.proofs.lemmas.List.{length-append, length-map}
use Rattle.std.proofs.lemmas.List.Elements.{recursion_from_All}
use Rattle.std.proofs.lemmas.List.FromFn.{length-range_with_len}
use Rattle.net_ir.specs.declared.network.Module.{Module}
use Rattle.net_ir.specs.declared.network.Module.TheVariants.{Source, Forward, Compute, Sink}
use Rattle.net_ir.specs.declared.network.Queue.{Queue}
use Rattle.reuse_chain.specs.Lanes.{differences, gaps_of}
use Rattle.reuse_chain.proofs.CallerLemmas.{Rises}
use Rattle.net_shape.specs.Lists.{joined}
use Rattle.net_shape.specs.Modules.{gap_after, gap_of, modules_of, number_of}
use Rattle.net_shape.specs.Plans.{Plan, kind_at, taps_at}
use Rattle.net_shape.specs.Queues.{by_receiver, goes_before, is_served, link, put_queue, queues_from, served, serving, taps_above, to_sink}
use Rattle.net_shape.specs.declared.kinds.Kind.{Kind}
use Rattle.net_shape.specs.declared.kinds.Kind.TheVariants.{Input, Inner, Output}

same_map : (f g : ℕ → ℕ) (xs : List ℕ) → AllByRecursion (λ x. f x ≡ g x) xs → map f xs ≡ map g xs
same_map f g [] h = refl
same_map f g (x ∷ xs) h = ap (λ y. y ∷ map f xs) h.0 ∙ ap (λ ys. g x ∷ ys) (same_map f g xs h.1)

weaken : (x b : ℕ) (xs ys : List ℕ) → AllByRecursion (λ y. x < y) ys → AllByRecursion (λ t. gap_after b (x ∷ xs) t ≡ gap_after x xs t) ys
weaken x b xs [] h = tt
weaken x b xs (y ∷ ys) h =
    (ap (λ c. cond c (x - b) (gap_after x xs y)) (ne_eqb x y (λ e. omega (arith, h.0))), weaken x b xs ys h.1)

gaps_after : (b : ℕ) (ts : List ℕ) → Rises ts → map (gap_after b ts) ts ≡ differences b ts
gaps_after b [] r = refl
gaps_after b (x ∷ xs) r =
    ap (λ n. n ∷ map (gap_after b (x ∷ xs)) xs) (ap (λ c. cond c (x - b) (gap_after x xs x)) (eq-eqb x x refl))
    ∙ ap (λ ys. (x - b) ∷ ys) (same_map (gap_after b (x ∷ xs)) (gap_after x xs) xs (weaken x b xs xs (recursion_from_All (λ y. x < y) xs r.0)) ∙ gaps_after x xs r.1)

from_zero : (ts : List ℕ) → differences 0 ts ≡ gaps_of ts
from_zero [] = refl
from_zero (x ∷ xs) = let e : x - 0 ≡ x = omega arith in ap (λ n. n ∷ differences x xs) e

-- the gaps of taps that rise
pub gaps_are : (ts : List ℕ) → Rises ts → map (gap_of ts) ts ≡ gaps_of ts
gaps_are ts r = gaps_after 0 ts r ∙ from_zero ts

-- how many queues a module has
link_length : (p : Plan) (m : Module) (v lane : ℕ) (ts : List ℕ) → length (link p m v lane ts) ≤ 1
link_length p m v lane [] = omega arith
link_length p m v lane (t ∷ ts) = omega arith

joined_length : {A : Type 0} (f : ℕ → List A) (n : ℕ) → ((i : ℕ) → length (f i) ≤ 1) → length (joined f n) ≤ n
unfolding joined
joined_length f zero h = omega arith
joined_length f (suc n) h = omega (arith, length-append (joined f n) (f n), joined_length f n h, h n)

put_length : (q : Queue) (qs : List Queue) → length (put_queue q qs) ≡ suc (length qs)
put_length q [] = refl
put_length q (r ∷ rs) = cond_both (goes_before q r) (q ∷ r ∷ rs) (r ∷ put_queue q rs) (λ ys. length ys ≡ suc (suc (length rs))) (λ _. refl) (λ _. ap suc (put_length q rs))

order_length : (qs : List Queue) → length (by_receiver qs) ≡ length qs
order_length [] = refl
order_length (q ∷ qs) = put_length q (by_receiver qs) ∙ ap suc (order_length qs)

filter_length : (p : ℕ → Bool) (xs : List ℕ) → length (filter p xs) ≤ length xs
filter_length p [] = omega arith
filter_length p (x ∷ xs) = cond_both (p x) (x ∷ filter p xs) (filter p xs) (λ ys. length ys ≤ suc (length xs)) (λ _. omega (arith, filter_length p xs)) (λ _. omega (arith, filter_length p xs))

served_length : (p : Plan) (v lane tap : ℕ) → length (served p v lane tap) ≤ length p.reads
unfolding served
served_length p v lane tap =
    omega (
      arith,
      order_length (map (serving p v lane tap) (filter (is_served p v lane tap) (range_with_len 0 (length p.reads)))),
      length-map (filter (is_served p v lane tap) (range_with_len 0 (length p.reads))) (serving p v lane tap),
      filter_length (is_served p v lane tap) (range_with_len 0 (length p.reads)),
      length-range_with_len 0 (length p.reads),
    )

sink_length : (p : Plan) (v lane : ℕ) (k : Kind) → length {A = Queue} (elim k [ Input ↦ [] | Inner ↦ [] | Output ↦ record { from = number_of p (Compute v lane); to = number_of p (Sink v); port = lane; capacity = 1; lead = 0 } ∷ [] ]) ≤ 1
sink_length p v lane Input = omega arith
sink_length p v lane Inner = omega arith
sink_length p v lane Output = omega arith

from_length : (p : Plan) (m : Module) → length (queues_from p m) ≤ p.unroll + length p.reads + 2
unfolding queues_from to_sink
from_length p (Source v) = omega (arith, joined_length (λ lane. link p (Source v) v lane (taps_at p v lane)) p.unroll (λ lane. link_length p (Source v) v lane (taps_at p v lane)))
from_length p (Forward v lane tap) =
    omega (arith, length-append (link p (Forward v lane tap) v lane (taps_above tap (taps_at p v lane))) (served p v lane tap), link_length p (Forward v lane tap) v lane (taps_above tap (taps_at p v lane)), served_length p v lane tap)
from_length p (Compute v lane) =
    omega (arith, length-append (link p (Compute v lane) v lane (taps_at p v lane)) (to_sink p v lane), link_length p (Compute v lane) v lane (taps_at p v lane), sink_length p v lane (kind_at p v))
from_length p (Sink v) = omega arith

flat_length : {A B : Type 0} (f : A → List B) (k : ℕ) (xs : List A) → ((x : A) → length (f x) ≤ k) → length (flat_map f xs) ≤ length xs * k
flat_length f k [] h = omega arith
flat_length f k (x ∷ xs) h = omega (arith, length-append (f x) (flat_map f xs), h x, flat_length f k xs h)

-- how many queues there are at most
pub queues_bound : (p : Plan) → length (flat_map (queues_from p) (modules_of p)) ≤ length (modules_of p) * (p.unroll + length p.reads + 2)
queues_bound p = flat_length (queues_from p) (p.unroll + length p.reads + 2) (modules_of p) (from_length p)
