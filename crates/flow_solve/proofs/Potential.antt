-- Potentials of the residual graph, and the plan that they give.
use Rattle.std.proofs.Common.{◌≡◌, ◌⊎◌, ℕ, zero, suc, ◌+◌, ◌*◌, ◌-◌, ◌<◌, ◌≤◌, true, false, cond, List, [], ◌∷◌, length, slice_index, get_or, ◌++◌, refl, subst, sym, ◌∙◌, ap, arith, inl, inr, ⊎_elim, pos, negsuc, ℤ, ◌+ℤ◌, ◌-ℤ◌, ◌≤ℤ◌, ltb}
use Rattle.std.specs.List.{All, AllByRecursion}
use Rattle.std.proofs.lemmas.Int.{ints}
use Rattle.std.proofs.lemmas.Bool.Decides.{nat_tests}
use Rattle.std.proofs.lemmas.List.Elements.{recursion_from_All, All-from_recursion}
use Rattle.std.proofs.Math.Nat.{mul-le-mul_right}
use Rattle.delay_net.specs.Shape.{IsInOrder}
use Rattle.delay_net.specs.Windows.{MeetsWindow, MeetsWindows, age, at_least_0, storage_of, total_storage}
use Rattle.delay_net.specs.Certificate.{IsBalanced, value_of, Fits}
use Rattle.delay_net.specs.declared.net.Read.{Read}
use Rattle.delay_net.specs.pieces.Weighed.{weighed}
use Rattle.delay_net.proofs.CallerLemmas.{storage_of_is, age_parts, age_within, gap, value_and_slack}
use Rattle.flow_solve.specs.declared.arc.Arc.{Arc}
use Rattle.flow_solve.specs.Walk.{at, arc_at, IsWalk, walk_length, IsGreatestLength}
use Rattle.flow_solve.specs.machine.Residual.{residual, window_back, storage_back}
use Rattle.std.proofs.lemmas.List.{get_or_default}
use Rattle.flow_solve.proofs.WalkLemmas.{walk_join, walk_length-append}

-- what a potential keeps at a read with a hold and a need
pub record Keeps (p : ℕ → ℤ) (n : ℕ) (r : Read) (h m : ℕ) : Type 0 where
  pub window : (p r.of +ℤ r.offset) ≤ℤ p r.reader
  pub storage : (p r.reader -ℤ r.offset) ≤ℤ p (n + r.of)
  pub needed : 0 < m → (p r.reader -ℤ r.offset) ≤ℤ p r.of
  pub held : 0 < h → (p (n + r.of) +ℤ r.offset) ≤ℤ p r.reader

unfoldable pub Obeys : (ℕ → ℤ) → ℕ → List Read → List ℕ → List ℕ → Type 0
Obeys p n [] hold need = Unit {0}
Obeys p n (r ∷ reads) [] need = Unit {0}
Obeys p n (r ∷ reads) (h ∷ hold) [] = Unit {0}
Obeys p n (r ∷ reads) (h ∷ hold) (m ∷ need) = Keeps p n r h m × Obeys p n reads hold need

-- an arc leads no further than the potential
abbrev pub Within : (ℕ → ℤ) → Arc → Type 0
Within p arc = (p arc.from +ℤ arc.length) ≤ℤ p arc.to

needed_from : (p : ℕ → ℤ) (r : Read) (m : ℕ) → Within p (window_back r m) → 0 < m → (p r.reader -ℤ r.offset) ≤ℤ p r.of
needed_from p r zero w lt = absurd (omega arith)
needed_from p r (suc m) w lt = omega (arith, ints)

held_from : (p : ℕ → ℤ) (n : ℕ) (r : Read) (h : ℕ) → Within p (storage_back n r h) → 0 < h → (p (n + r.of) +ℤ r.offset) ≤ℤ p r.reader
held_from p n r zero w lt = absurd (omega arith)
held_from p n r (suc h) w lt = w

pub obeys_from_arcs : (p : ℕ → ℤ) (n : ℕ) (reads : List Read) (hold need : List ℕ) → AllByRecursion (Within p) (residual n reads hold need)
    → Obeys p n reads hold need
unfolding residual Obeys
obeys_from_arcs p n [] hold need all = tt
obeys_from_arcs p n (r ∷ reads) [] need all = tt
obeys_from_arcs p n (r ∷ reads) (h ∷ hold) [] all = tt
obeys_from_arcs p n (r ∷ reads) (h ∷ hold) (m ∷ need) all = (
  record { window = all.0; storage = omega (arith, ints, all.1.0); needed = needed_from p r m all.1.1.0; held = held_from p n r h all.1.1.1.0 },
  obeys_from_arcs p n reads hold need all.1.1.1.1,
)

back_within : (p : ℕ → ℤ) (r : Read) (m : ℕ) → (0 < m → (p r.reader -ℤ r.offset) ≤ℤ p r.of) → Within p (window_back r m)
back_within p r zero w = omega (arith, ints)
back_within p r (suc m) w = let here = w (omega arith) in omega (arith, ints)

hold_within : (p : ℕ → ℤ) (n : ℕ) (r : Read) (h : ℕ) → (0 < h → (p (n + r.of) +ℤ r.offset) ≤ℤ p r.reader) → Within p (storage_back n r h)
hold_within p n r zero w = omega (arith, ints)
hold_within p n r (suc h) w = w (omega arith)

pub arcs_from_obeys : (p : ℕ → ℤ) (n : ℕ) (reads : List Read) (hold need : List ℕ) → Obeys p n reads hold need
    → AllByRecursion (Within p) (residual n reads hold need)
unfolding residual Obeys
arcs_from_obeys p n [] hold need all = tt
arcs_from_obeys p n (r ∷ reads) [] need all = tt
arcs_from_obeys p n (r ∷ reads) (h ∷ hold) [] all = tt
arcs_from_obeys p n (r ∷ reads) (h ∷ hold) (m ∷ need) all = (
  all.0.window,
  (
    let here = all.0.storage in omega (arith, ints),
    (back_within p r m all.0.needed, (hold_within p n r h all.0.held, arcs_from_obeys p n reads hold need all.1)),
  ),
)

-- numbers stand beside f only where f is 0
unfoldable pub Vanishes : (Read → ℕ) → List Read → List ℕ → Type 0
Vanishes f [] numbers = Unit {0}
Vanishes f (r ∷ reads) [] = Unit {0}
Vanishes f (r ∷ reads) (n ∷ numbers) = (0 < n → f r ≡ 0) × Vanishes f reads numbers

product_0 : (n x : ℕ) → (0 < n → x ≡ 0) → n * x ≡ 0
product_0 zero x h = omega arith
product_0 (suc n) x h = omega (arith, ap (λ y. suc n * y) (h (omega arith)))

factor_0 : (n x : ℕ) → n * x ≡ 0 → 0 < n → x ≡ 0
factor_0 zero x e lt = absurd (omega arith)
factor_0 (suc n) x e lt = omega (arith, mul-le-mul_right x (pos_le n), e)
  where
    pos_le : (n : ℕ) → 1 ≤ suc n
    pos_le n = omega arith

pub weighed_vanishes : (f : Read → ℕ) (reads : List Read) (numbers : List ℕ) → Vanishes f reads numbers → weighed f reads numbers ≡ 0
unfolding Vanishes weighed
weighed_vanishes f [] numbers v = refl
weighed_vanishes f (r ∷ reads) [] v = refl
weighed_vanishes f (r ∷ reads) (n ∷ numbers) v = omega (arith, product_0 n (f r) v.0, weighed_vanishes f reads numbers v.1)

pub vanishes_from_weighed : (f : Read → ℕ) (reads : List Read) (numbers : List ℕ) → weighed f reads numbers ≡ 0 → Vanishes f reads numbers
unfolding Vanishes weighed
vanishes_from_weighed f [] numbers e = tt
vanishes_from_weighed f (r ∷ reads) [] e = tt
vanishes_from_weighed f (r ∷ reads) (n ∷ numbers) e = (factor_0 n (f r) (omega arith), vanishes_from_weighed f reads numbers (omega arith))

-- the windows and storages that a potential keeps, read by read
abbrev pub Covers : (ℕ → ℤ) → ℕ → Read → Type 0
Covers p n r = ((p r.of +ℤ r.offset) ≤ℤ p r.reader) × ((p r.reader -ℤ r.offset) ≤ℤ p (n + r.of))

pub obeys_covers : (p : ℕ → ℤ) (n : ℕ) (reads : List Read) (hold need : List ℕ) → length hold ≡ length reads → length need ≡ length reads
    → Obeys p n reads hold need → AllByRecursion (Covers p n) reads
unfolding Obeys
obeys_covers p n [] hold need e f all = tt
obeys_covers p n (r ∷ reads) [] need e f all = absurd (omega arith)
obeys_covers p n (r ∷ reads) (h ∷ hold) [] e f all = absurd (omega arith)
obeys_covers p n (r ∷ reads) (h ∷ hold) (m ∷ need) e f all = ((all.0.window, all.0.storage), obeys_covers p n reads hold need (omega arith) (omega arith) all.1)

-- the delays are the potentials of the first nodes
abbrev pub AreDelays : (ℕ → ℤ) → ℕ → List ℕ → Type 0
AreDelays p n delays = (length delays ≡ n) × ((t : ℕ) → t < n → p t ≡ pos (slice_index delays t))

covers_window : (p : ℕ → ℤ) (weights delays : List ℕ) (r : Read) → AreDelays p (length weights) delays → IsInOrder weights r → Covers p (length weights) r
    → MeetsWindow delays r
covers_window p weights delays r are order covers =
    let of = are.1 r.of (omega (arith, order.0, order.1)) in
    let reader = are.1 r.reader order.1 in
    let window = covers.0 in omega (arith, ints)

covers_age : (p : ℕ → ℤ) (weights delays : List ℕ) (r : Read) → AreDelays p (length weights) delays → IsInOrder weights r → Covers p (length weights) r
    → (age delays r +ℤ p r.of) ≤ℤ p (length weights + r.of)
covers_age p weights delays r are order covers =
    let of = are.1 r.of (omega (arith, order.0, order.1)) in
    let reader = are.1 r.reader order.1 in
    let storage = covers.1 in omega (arith, ints)

pub covers_meets : (p : ℕ → ℤ) (weights delays : List ℕ) (reads : List Read) → AreDelays p (length weights) delays → All (IsInOrder weights) reads
    → All (Covers p (length weights)) reads → MeetsWindows reads delays
covers_meets p weights delays reads are order covers = λ k d lt.
    covers_window p weights delays (get_or reads k d) are (order k d lt) (covers k d lt)

-- a tensor's storage is within the potentials of its two nodes
pub covers_storage : (p : ℕ → ℤ) (weights delays : List ℕ) (reads : List Read) (t : ℕ) → AreDelays p (length weights) delays → All (IsInOrder weights) reads
    → All (Covers p (length weights)) reads
    → (storage_of reads delays t ≡ 0) ⊎ ((pos (storage_of reads delays t) +ℤ p t) ≤ℤ p (length weights + t))
covers_storage p weights delays reads t are order covers =
    ⊎_elim (λ none. inl none)
    (λ some.
    let r = some.0 in
    let k = some.1.0 in
    let order_here : IsInOrder weights r = subst (IsInOrder weights) some.1.2 (order k r some.1.1) in
    let covers_here : Covers p (length weights) r = subst (Covers p (length weights)) some.1.2 (covers k r some.1.1) in
    let within = covers_age p weights delays r are order_here covers_here in
    let bound : (pos (storage_of reads delays t) +ℤ p r.of)
    ≤ℤ p (length weights + r.of) = subst (λ z. (z +ℤ p r.of) ≤ℤ p (length weights + r.of)) some.3 within in
    inr (subst (λ u. (pos (storage_of reads delays t) +ℤ p u) ≤ℤ p (length weights + u)) some.2 bound))
    (storage_of_is reads delays t).reached

at_least_0_above : (z : ℤ) (n : ℕ) → pos n ≤ℤ z → n ≤ at_least_0 z
at_least_0_above (pos m) n h = omega (arith, ints)
at_least_0_above (negsuc m) n h = absurd (omega (arith, ints))

at_least_0_none : (z : ℤ) → z ≤ℤ pos 0 → at_least_0 z ≡ 0
at_least_0_none (pos m) h = omega (arith, ints)
at_least_0_none (negsuc m) h = refl

oldest : (p : ℕ → ℤ) (weights delays : List ℕ) (all : List Read) (r : Read) (h m : ℕ) → AreDelays p (length weights) delays → IsInOrder weights r
    → Keeps p (length weights) r h m
    → (storage_of all delays r.of ≡ 0) ⊎ ((pos (storage_of all delays r.of) +ℤ p r.of) ≤ℤ p (length weights + r.of)) → 0 < h → gap all delays r ≡ 0
oldest p weights delays all r h m are order keeps storage lt =
    ⊎_elim (λ none. omega arith)
    (λ within.
    let of = are.1 r.of (omega (arith, order.0, order.1)) in
    let reader = are.1 r.reader order.1 in
    let held = keeps.held lt in
    let above : storage_of all delays r.of ≤ at_least_0 (age delays r) = at_least_0_above (age delays r) _ (omega (arith, ints)) in
    omega arith)
    storage

youngest : (p : ℕ → ℤ) (weights delays : List ℕ) (r : Read) (h m : ℕ) → AreDelays p (length weights) delays → IsInOrder weights r
    → Keeps p (length weights) r h m → 0 < m → at_least_0 (age delays r) ≡ 0
youngest p weights delays r h m are order keeps lt =
    let of = are.1 r.of (omega (arith, order.0, order.1)) in
    let reader = are.1 r.reader order.1 in
    let needed = keeps.needed lt in
    at_least_0_none (age delays r) (omega (arith, ints))

-- a potential's delays leave no slack
pub obeys_tight : (p : ℕ → ℤ) (weights delays : List ℕ) (all reads : List Read) (hold need : List ℕ) → AreDelays p (length weights) delays
    → ((t : ℕ) → (storage_of all delays t ≡ 0) ⊎ ((pos (storage_of all delays t) +ℤ p t) ≤ℤ p (length weights + t)))
    → AllByRecursion (IsInOrder weights) reads → length hold ≡ length reads → length need ≡ length reads → Obeys p (length weights) reads hold need
    → Vanishes (gap all delays) reads hold × Vanishes (λ r. at_least_0 (age delays r)) reads need
unfolding Obeys Vanishes
obeys_tight p weights delays all [] hold need are storage order e f obeys = (tt, tt)
obeys_tight p weights delays all (r ∷ reads) [] need are storage order e f obeys = absurd (omega arith)
obeys_tight p weights delays all (r ∷ reads) (h ∷ hold) [] are storage order e f obeys = absurd (omega arith)
obeys_tight p weights delays all (r ∷ reads) (h ∷ hold) (m ∷ need) are storage order e f obeys =
    let rest = obeys_tight p weights delays all reads hold need are storage order.1 (omega arith) (omega arith) obeys.1 in
    ((oldest p weights delays all r h m are order.0 obeys.0 (storage r.of), rest.0), (youngest p weights delays r h m are order.0 obeys.0, rest.1))

-- a balanced certificate fits the delays of a potential of what it leaves
pub obeys_fits : (p : ℕ → ℤ) (weights delays : List ℕ) (reads : List Read) (hold need : List ℕ) → AreDelays p (length weights) delays
    → All (IsInOrder weights) reads
    → length hold ≡ length reads → length need ≡ length reads → Obeys p (length weights) reads hold need → IsBalanced weights reads hold need
    → MeetsWindows reads delays × Fits weights reads delays hold need
obeys_fits p weights delays reads hold need are order e f obeys balanced =
    let covers = All-from_recursion (Covers p (length weights)) reads (obeys_covers p (length weights) reads hold need e f obeys) in
    let meets = covers_meets p weights delays reads are order covers in
    let tight = obeys_tight p weights delays reads reads hold need are (λ t. covers_storage p weights delays reads t are order covers)
    (recursion_from_All (IsInOrder weights) reads order) e f obeys in
    let sum = value_and_slack weights reads hold need delays order balanced meets in
    let holds = weighed_vanishes (gap reads delays) reads hold tight.0 in
    let needs = weighed_vanishes (λ r. at_least_0 (age delays r)) reads need tight.1 in
    (meets, record { balanced = balanced; value = omega (arith, ints) })

-- the potential of another assignment: its delays, and its delays plus its storages
unfoldable pub potential_of : ℕ → List Read → List ℕ → ℕ → ℤ
potential_of n reads others v = cond (ltb v n) (pos (slice_index others v)) (pos (slice_index others (v - n) + storage_of reads others (v - n)))

pub potential_delay : (n : ℕ) (reads : List Read) (others : List ℕ) (v : ℕ) → v < n → potential_of n reads others v ≡ pos (slice_index others v)
unfolding potential_of
potential_delay n reads others v lt =
    let below : ltb v n ≡ true = grind (arith, nat_tests) in
    ap (λ b. cond b (pos (slice_index others v)) (pos (slice_index others (v - n) + storage_of reads others (v - n)))) below

pub potential_storage : (n : ℕ) (reads : List Read) (others : List ℕ) (t : ℕ)
    → potential_of n reads others (n + t) ≡ pos (slice_index others t + storage_of reads others t)
unfolding potential_of
potential_storage n reads others t =
    let above : ltb (n + t) n ≡ false = grind (arith, nat_tests) in
    let place : (n + t) - n ≡ t = omega arith in
    ap (λ b. cond b (pos (slice_index others (n + t))) (pos (slice_index others ((n + t) - n) + storage_of reads others ((n + t) - n)))) above
    ∙ ap (λ u. pos (slice_index others u + storage_of reads others u)) place

-- where an assignment leaves no slack, its potential keeps each read
tight_keeps : (n : ℕ) (all : List Read) (others : List ℕ) (weights : List ℕ) (r : Read) (h m : ℕ) → length weights ≡ n → IsInOrder weights r
    → MeetsWindow others r
    → at_least_0 (age others r) ≤ storage_of all others r.of → (0 < h → gap all others r ≡ 0) → (0 < m → at_least_0 (age others r) ≡ 0)
    → Keeps (potential_of n all others) n r h m
tight_keeps n all others weights r h m size order meets within held needed =
    let of = potential_delay n all others r.of (omega (arith, order.0, order.1)) in
    let reader = potential_delay n all others r.reader (omega (arith, order.1)) in
    let storage = potential_storage n all others r.of in
    let parts = age_parts others r meets in
    record {
      window = omega (arith, ints);
      storage = omega (arith, ints);
      needed = λ lt. let none = needed lt in omega (arith, ints);
      held = λ lt. let none = held lt in omega (arith, ints);
    }

pub tight_obeys : (n : ℕ) (all : List Read) (others weights : List ℕ) (reads : List Read) (hold need : List ℕ) → length weights ≡ n
    → AllByRecursion (IsInOrder weights) reads → AllByRecursion (MeetsWindow others) reads
    → AllByRecursion (λ r. at_least_0 (age others r) ≤ storage_of all others r.of) reads
    → Vanishes (gap all others) reads hold → Vanishes (λ r. at_least_0 (age others r)) reads need
    → Obeys (potential_of n all others) n reads hold need
unfolding Obeys Vanishes
tight_obeys n all others weights [] hold need size order meets within gaps ages = tt
tight_obeys n all others weights (r ∷ reads) [] need size order meets within gaps ages = tt
tight_obeys n all others weights (r ∷ reads) (h ∷ hold) [] size order meets within gaps ages = tt
tight_obeys n all others weights (r ∷ reads) (h ∷ hold) (m ∷ need) size order meets within gaps ages = (
  tight_keeps n all others weights r h m size order.0 meets.0 within.0 gaps.0 ages.0,
  tight_obeys n all others weights reads hold need size order.1 meets.1 within.1 gaps.1 ages.1,
)

-- another assignment of the same storage obeys what the certificate leaves
pub least_obeys : (weights : List ℕ) (reads : List Read) (hold need others : List ℕ) → All (IsInOrder weights) reads → IsBalanced weights reads hold need
    → MeetsWindows reads others
    → value_of reads hold need ≡ pos (total_storage weights reads others) → Obeys (potential_of (length weights) reads others) (length weights) reads hold need
least_obeys weights reads hold need others order balanced meets value =
    let sum = value_and_slack weights reads hold need others order balanced meets in
    let holds : weighed (gap reads others) reads hold ≡ 0 = omega (arith, ints) in
    let needs : weighed (λ r. at_least_0 (age others r)) reads need ≡ 0 = omega (arith, ints) in
    tight_obeys (length weights) reads others weights reads hold need refl
    (recursion_from_All (IsInOrder weights) reads order) (recursion_from_All (MeetsWindow others) reads meets)
    (recursion_from_All (λ r. at_least_0 (age others r) ≤ storage_of reads others r.of) reads (age_within others reads))
    (vanishes_from_weighed (gap reads others) reads hold holds) (vanishes_from_weighed (λ r. at_least_0 (age others r)) reads need needs)

-- a walk is no longer than the rise of a potential along it
pub walk_rises : (p : ℕ → ℤ) (graph : List Arc) (s t : ℕ) (walk : List ℕ) → All (Within p) graph → IsWalk graph s walk t
    → (p s +ℤ walk_length graph walk) ≤ℤ p t
walk_rises p graph s t [] all w = subst (λ n. (p s +ℤ pos 0) ≤ℤ p n) w (omega (arith, ints))
walk_rises p graph s t (k ∷ walk) all w =
    let first = all k (record { from = 0; to = 0; length = pos 0 }) w.0 in
    let start : p (arc_at graph k).from ≡ p s = ap p w.1 in
    let rest = walk_rises p graph (arc_at graph k).to t walk all w.2 in
    omega (arith, ints)

-- greatest lengths are a potential
pub lengths_within : (nodes : ℕ) (graph : List Arc) (lengths : List ℤ) → ((v : ℕ) → v < nodes → IsGreatestLength nodes graph v (at lengths v))
    → ((k : ℕ) → k < length graph → ((arc_at graph k).from < nodes) × ((arc_at graph k).to < nodes))
    → All (Within (at lengths)) graph
lengths_within nodes graph lengths greatest ends = λ k d lt.
    let arc = arc_at graph k in
    let same : get_or graph k d ≡ arc = get_or_default graph k d (record { from = 0; to = 0; length = pos 0 }) lt in
    let to_from = (greatest arc.from (ends k lt).0).reached in
    let longer = walk_join graph to_from.0 arc.from arc.to to_from.1 (k ∷ []) to_from.3 (lt, refl, refl) in
    let bound = (greatest arc.to (ends k lt).1).bound to_from.0 (to_from.1 ++ k ∷ []) longer in
    subst (Within (at lengths)) (sym same) (omega (arith, ints, bound, walk_length-append graph to_from.1 (k ∷ []), to_from.4))

-- greatest lengths are the least potential
pub lengths_least : (p : ℕ → ℤ) (nodes : ℕ) (graph : List Arc) (v : ℕ) (z : ℤ) → IsGreatestLength nodes graph v z → All (Within p) graph
    → ((u : ℕ) → u < nodes → pos 0 ≤ℤ p u) → z ≤ℤ p v
lengths_least p nodes graph v z greatest all above =
    let to = greatest.reached in
    let rises = walk_rises p graph to.0 v to.1 all to.3 in
    let start = above to.0 to.2 in
    omega (arith, ints, to.4)
