-- The plan, from a balanced certificate that leaves no positive cycle.
use Rattle.std.proofs.Common.{◌≡◌, ℕ, zero, suc, ◌+◌, ◌*◌, ◌-◌, ◌<◌, ◌≤◌, List, [], ◌∷◌, length, subst, sym, ◌∙◌, ap, arith, ⊎_elim, pos, ℤ, ◌≤ℤ◌}
use Rattle.std.specs.List.{AllByRecursion}
use Rattle.std.proofs.lemmas.Int.{ints}
use Rattle.std.proofs.lemmas.Bool.{cases_lt}
use Rattle.std.proofs.lemmas.List.Elements.{recursion_from_All, All-from_recursion}
use Rattle.std.proofs.lemmas.List.{ext_get_or}
use Rattle.delay_net.specs.Shape.{IsInOrder, IsNet, HasSmallOffset}
use Rattle.delay_net.specs.Windows.{total_storage}
use Rattle.delay_net.specs.Certificate.{IsBalanced, Fits}
use Rattle.delay_net.specs.declared.net.Read.{Read}
use Rattle.delay_net.proofs.CallerLemmas.{fitting_is_least}
use Rattle.flow_solve.specs.declared.arc.Arc.{Arc}
use Rattle.flow_solve.specs.Walk.{at, IsArc, IsGraph, IsGreatestLength}
use Rattle.flow_solve.specs.LeastPlan.{IsLeastPlan}
use Rattle.flow_solve.specs.machine.Residual.{residual, window_back, storage_back}
use Rattle.flow_solve.proofs.Potential.{Within, AreDelays, obeys_from_arcs, arcs_from_obeys, obeys_fits, least_obeys, lengths_within, lengths_least, potential_of, potential_delay, potential_storage}

-- a read of the net
abbrev IsReadOf : List ℕ → Read → Type 0
IsReadOf weights r = IsInOrder weights r × HasSmallOffset r

back_arc : (weights : List ℕ) (r : Read) (m : ℕ) → IsReadOf weights r → IsArc (length weights + length weights) (window_back r m)
back_arc weights r zero is = (omega (arith, is.0.1), omega (arith, is.0.1), omega (arith, ints), omega (arith, ints))
back_arc weights r (suc m) is = (omega (arith, is.0.1), omega (arith, is.0.0, is.0.1), omega (arith, ints, is.1.0, is.1.1), omega (arith, ints, is.1.0, is.1.1))

hold_arc : (weights : List ℕ) (r : Read) (h : ℕ) → IsReadOf weights r → IsArc (length weights + length weights) (storage_back (length weights) r h)
hold_arc weights r zero is = (omega (arith, is.0.1), omega (arith, is.0.1), omega (arith, ints), omega (arith, ints))
hold_arc weights r (suc h) is = (omega (arith, is.0.0, is.0.1), omega (arith, is.0.1), is.1.0, is.1.1)

residual_arcs : (weights : List ℕ) (reads : List Read) (hold need : List ℕ) → AllByRecursion (IsReadOf weights) reads
    → AllByRecursion (IsArc (length weights + length weights)) (residual (length weights) reads hold need)
unfolding residual
residual_arcs weights [] hold need all = tt
residual_arcs weights (r ∷ reads) [] need all = tt
residual_arcs weights (r ∷ reads) (h ∷ hold) [] all = tt
residual_arcs weights (r ∷ reads) (h ∷ hold) (m ∷ need) all = (
  (omega (arith, all.0.0.0, all.0.0.1), omega (arith, all.0.0.1), all.0.1.0, all.0.1.1),
  (
    (omega (arith, all.0.0.1), omega (arith, all.0.0.0, all.0.0.1), omega (arith, ints, all.0.1.0, all.0.1.1), omega (arith, ints, all.0.1.0, all.0.1.1)),
    (back_arc weights r m all.0, (hold_arc weights r h all.0, residual_arcs weights reads hold need all.1)),
  ),
)

pub residual_length : (n : ℕ) (reads : List Read) (hold need : List ℕ) → length (residual n reads hold need) ≤ 4 * length reads
unfolding residual
residual_length n [] hold need = omega arith
residual_length n (r ∷ reads) [] need = omega arith
residual_length n (r ∷ reads) (h ∷ hold) [] = omega arith
residual_length n (r ∷ reads) (h ∷ hold) (m ∷ need) = omega (arith, residual_length n reads hold need)

-- what a certificate leaves is a graph for the search
pub residual_graph : (weights : List ℕ) (reads : List Read) (hold need : List ℕ) → IsNet weights reads
    → IsGraph (length weights + length weights) (residual (length weights) reads hold need)
residual_graph weights reads hold need net = record {
  few_nodes = omega (arith, net.few_tensors);
  few_arcs = omega (arith, net.few_reads, residual_length (length weights) reads hold need);
  arcs = All-from_recursion (IsArc (length weights + length weights)) _
      (residual_arcs weights reads hold need (recursion_from_All (IsReadOf weights) reads (λ k d lt. (net.order k d lt, net.offsets k d lt))));
}

pub graph_is : (weights : List ℕ) (reads : List Read) (hold need : List ℕ) (tensors : ℕ) (arcs : List Arc) → IsNet weights reads → tensors ≡ length weights
    → arcs ≡ residual (length weights) reads hold need → IsGraph (2 * tensors) arcs
graph_is weights reads hold need tensors arcs net count e =
    let nodes : length weights + length weights ≡ 2 * tensors = omega arith in
    subst (λ (g : List Arc). IsGraph (2 * tensors) g) (sym e)
    (subst (λ v. IsGraph v (residual (length weights) reads hold need)) nodes (residual_graph weights reads hold need net))

-- the delays of the greatest lengths are the plan
pub plan_is : (weights : List ℕ) (reads : List Read) (hold need delays : List ℕ) (lengths : List ℤ) → IsNet weights reads → IsBalanced weights reads hold need
    → length hold ≡ length reads → length need ≡ length reads
    → ((v : ℕ) → v < length weights + length weights → IsGreatestLength (length weights + length weights) (residual (length weights) reads hold need) v
    (at lengths v))
    → AreDelays (at lengths) (length weights) delays
    → IsLeastPlan weights reads delays × Fits weights reads delays hold need
plan_is weights reads hold need delays lengths net balanced e f greatest are =
    let n = length weights in
    let graph = residual n reads hold need in
    let is = residual_graph weights reads hold need net in
    let within = lengths_within (n + n) graph lengths greatest
    (λ k lt. let arc = is.arcs k (record { from = 0; to = 0; length = pos 0 }) lt in (arc.0, arc.1)) in
    let obeys = obeys_from_arcs (at lengths) n reads hold need (recursion_from_All (Within (at lengths)) graph within) in
    let fits = obeys_fits (at lengths) weights delays reads hold need are net.order e f obeys balanced in
    let least = fitting_is_least weights reads delays hold need net.order fits.1 in (
      record {
        least = record { assignment = are.0; meets = fits.0; least = least };
        first = λ others other t lt.
            let here = least others other.assignment other.meets in
            let there = other.least delays are.0 fits.0 in
            let same : total_storage weights reads delays ≡ total_storage weights reads others = omega arith in
            let kept = least_obeys weights reads hold need others net.order balanced other.meets (fits.1.value ∙ ap pos same) in
            let arcs = All-from_recursion (Within (potential_of n reads others)) graph (arcs_from_obeys (potential_of n reads others) n reads hold need kept) in
            let below = lengths_least (potential_of n reads others) (n + n) graph t (at lengths t) (greatest t (omega arith)) arcs
            (λ u in_range. above n reads others u in_range) in
            let mine = are.1 t lt in
            let theirs = potential_delay n reads others t lt in
            omega (arith, ints);
      },
      fits.1,
    )
  where
    above : (n : ℕ) (reads : List Read) (others : List ℕ) (u : ℕ) → u < n + n → pos 0 ≤ℤ potential_of n reads others u
    above n reads others u in_range = ⊎_elim
        (λ lt. omega (arith, ints, potential_delay n reads others u lt))
        (λ past.
        let place : n + (u - n) ≡ u = omega arith in
        let storage = potential_storage n reads others (u - n) in
        subst (λ v. pos 0 ≤ℤ potential_of n reads others v) place (omega (arith, ints, storage)))
        (cases_lt u n)

-- there is one plan
pub plan_one : (weights : List ℕ) (reads : List Read) (plan other : List ℕ) → IsLeastPlan weights reads plan → IsLeastPlan weights reads other → other ≡ plan
plan_one weights reads plan other p o =
    ext_get_or 0 other plan (o.least.assignment ∙ sym p.least.assignment)
    (λ t lt. let below = o.first plan p.least t (omega (arith, o.least.assignment)) in let above = p.first other o.least t (omega (arith, o.least.assignment))
    in omega arith)
