-- Walks joined and cut, and their lengths.
use Rattle.std.proofs.Common.{◌≡◌, ℕ, ◌<◌, List, [], ◌∷◌, ◌++◌, length, ℤ, pos, ◌+ℤ◌, ◌≤ℤ◌, refl, sym, subst, ap, arith}
use Rattle.std.proofs.lemmas.Int.{ints}
use Rattle.flow_solve.specs.declared.arc.Arc.{Arc}
use Rattle.flow_solve.specs.Walk.{arc_at, IsWalk, walk_length}
use Rattle.flow_solve.specs.machine.Rounds.{at}

pub walk_join : (graph : List Arc) (s u t : ℕ) (a b : List ℕ) → IsWalk graph s a u → IsWalk graph u b t → IsWalk graph s (a ++ b) t
walk_join graph s u t [] b w x = subst (λ n. IsWalk graph n b t) (sym w) x
walk_join graph s u t (k ∷ a) b w x = (w.0, w.1, walk_join graph (arc_at graph k).to u t a b w.2 x)

pub walk_length-append : (graph : List Arc) (a b : List ℕ) → walk_length graph (a ++ b) ≡ walk_length graph a +ℤ walk_length graph b
walk_length-append graph [] b = omega (arith, ints)
walk_length-append graph (k ∷ a) b = omega (arith, ints, walk_length-append graph a b)

-- a walk is cut at each place
pub walk_cut : (graph : List Arc) (s t : ℕ) (a b : List ℕ) → IsWalk graph s (a ++ b) t → (u : ℕ) × IsWalk graph s a u × IsWalk graph u b t
walk_cut graph s t [] b w = (s, refl, w)
walk_cut graph s t (k ∷ a) b w =
    let rest = walk_cut graph (arc_at graph k).to t a b w.2 in (rest.0, (w.0, w.1, rest.1), rest.2)

-- where no arc leads further, no walk does
pub walk_within : (graph : List Arc) (lengths : List ℤ) →
    ((k : ℕ) → k < length graph → (at lengths (arc_at graph k).from +ℤ (arc_at graph k).length) ≤ℤ at lengths (arc_at graph k).to)
    → (s t : ℕ) (walk : List ℕ) → IsWalk graph s walk t → (at lengths s +ℤ walk_length graph walk) ≤ℤ at lengths t
walk_within graph lengths h s t [] w = subst (λ n. (at lengths s +ℤ pos 0) ≤ℤ at lengths n) w (omega (arith, ints))
walk_within graph lengths h s t (k ∷ walk) w =
    let first = h k w.0 in
    let start : at lengths (arc_at graph k).from ≡ at lengths s = ap (at lengths) w.1 in
    let rest = walk_within graph lengths h (arc_at graph k).to t walk w.2 in
    omega (arith, ints)

-- a walk that isn't empty is a walk and a last arc
pub walk_last : (graph : List Arc) (s t k : ℕ) (walk : List ℕ) → IsWalk graph s (k ∷ walk) t
    → (init : List ℕ) × (last : ℕ) × ((k ∷ walk) ≡ init ++ last ∷ []) × IsWalk graph s init (arc_at graph last).from × (last < length graph)
    × ((arc_at graph last).to ≡ t)
walk_last graph s t k [] w = ([], k, refl, sym w.1, w.0, w.2)
walk_last graph s t k (j ∷ walk) w =
    let rest = walk_last graph (arc_at graph k).to t j walk w.2 in
    (k ∷ rest.0, rest.1, ap (λ l. k ∷ l) rest.2, (w.0, w.1, rest.3), rest.4, rest.5)
