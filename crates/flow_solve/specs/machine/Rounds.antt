-- Walks of ever more arcs, round by round.
use Rattle.std.specs.Prelude.{◌≡◌, ℕ, ◌<◌, ◌≤◌, ℤ, pos, ◌+ℤ◌, ◌≤ℤ◌, Option, Some, None, List, [], ◌∷◌, length}
use Rattle.std.specs.List.{slice_index_or}
use Rattle.flow_solve.specs.declared.arc.Arc.{Arc}
pub use Rattle.flow_solve.specs.Walk.{at, IsArc, IsGraph}
use Rattle.flow_solve.specs.Walk.{arc_at, IsWalk, walk_length}

-- how a node's new length comes from the old ones: it stays, or an arc leads to it
abbrev pub ComesBy : List Arc → List ℤ → ℕ → ℤ → Option ℕ → Type 0
ComesBy graph old node new None = new ≡ at old node
ComesBy graph old node new (Some k) =
    (k < length graph) × ((arc_at graph k).to ≡ node) × (new ≡ at old (arc_at graph k).from +ℤ (arc_at graph k).length)

-- one round over the arcs: the new lengths, and for each node the arc by which its length came
pub record IsRound (graph : List Arc) (old : List ℤ) (last : List (Option ℕ)) (new : List ℤ) : Type 0 where
  pub size : length new ≡ length old
  pub last_size : length last ≡ length old
  pub comes : (v : ℕ) → v < length old → ComesBy graph old v (at new v) (slice_index_or last v None)
  pub grows : (v : ℕ) → v < length old → at old v ≤ℤ at new v
  pub further : (k : ℕ) → k < length graph → (at old (arc_at graph k).from +ℤ (arc_at graph k).length)
      ≤ℤ at new (arc_at graph k).to

-- the lengths after rounds, the latest first, from 0 on
abbrev pub After : List Arc → ℕ → List (List (Option ℕ)) → List ℤ → Type 0
After graph nodes [] lengths = (length lengths ≡ nodes) × ((v : ℕ) → v < nodes → at lengths v ≡ pos 0)
After graph nodes (last ∷ rounds) lengths =
    (old : List ℤ) × IsRound graph old last lengths × After graph nodes rounds old

-- no walk of at most n arcs is longer
abbrev pub BoundsWalks : List Arc → ℕ → List ℤ → Type 0
BoundsWalks graph n lengths =
    (from : ℕ) (walk : List ℕ) (to : ℕ) → IsWalk graph from walk to → length walk ≤ n → to < length lengths
    → walk_length graph walk ≤ℤ at lengths to
