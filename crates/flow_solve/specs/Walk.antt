-- Walks in a graph whose arcs have lengths. A walk is a list of arc numbers.
use Rattle.std.specs.Prelude.{◌≡◌, ◌≢◌, slice_index, ℕ, ◌<◌, ◌≤◌, ℤ, pos, neg_ℤ, ◌+ℤ◌, ◌<ℤ◌, ◌≤ℤ◌, List, [], ◌∷◌, length}
use Rattle.std.specs.List.{All, slice_index_or}
use Rattle.flow_solve.specs.Limits.{most_nodes, most_arcs, most_arc_length, most_length}
use Rattle.flow_solve.specs.declared.arc.Arc.{Arc}
use Rattle.flow_solve.specs.declared.arc.Longest.{Longest}
use Rattle.flow_solve.specs.declared.arc.Longest.TheVariants.{Lengths, Cycle}

-- the number at a node
abbrev pub at : List ℤ → ℕ → ℤ
at lengths node = slice_index_or lengths node (pos 0)

-- an arc between nodes of the graph, with a length within the limit
abbrev pub IsArc : ℕ → Arc → Type 0
IsArc nodes arc =
    (arc.from < nodes) × (arc.to < nodes) × (neg_ℤ (pos most_arc_length) ≤ℤ arc.length)
    × (arc.length ≤ℤ pos most_arc_length)

-- a graph within the limits
pub record IsGraph (nodes : ℕ) (graph : List Arc) : Type 0 where
  pub few_nodes : nodes ≤ most_nodes
  pub few_arcs : length graph ≤ most_arcs
  pub arcs : All (IsArc nodes) graph

-- the arc with a number
abbrev pub arc_at : List Arc → ℕ → Arc
arc_at graph k = slice_index_or graph k (record { from = 0; to = 0; length = pos 0 })

-- the arcs follow each other, from one node to another; the empty walk stays where it is
abbrev pub IsWalk : List Arc → ℕ → List ℕ → ℕ → Type 0
IsWalk graph from [] to = from ≡ to
IsWalk graph from (k ∷ walk) to =
    (k < length graph) × ((arc_at graph k).from ≡ from) × IsWalk graph (arc_at graph k).to walk to

-- the lengths of the arcs, added up
abbrev pub walk_length : List Arc → List ℕ → ℤ
walk_length graph [] = pos 0
walk_length graph (k ∷ walk) = (arc_at graph k).length +ℤ walk_length graph walk

-- the greatest length of a walk that ends at a node
pub record IsGreatestLength (nodes : ℕ) (graph : List Arc) (node : ℕ) (greatest : ℤ) : Type 0 where
  pub reached : (from : ℕ) × (walk : List ℕ) × (from < nodes) × IsWalk graph from walk node
      × (walk_length graph walk ≡ greatest)
  pub bound : (from : ℕ) (walk : List ℕ) → IsWalk graph from walk node → walk_length graph walk ≤ℤ greatest

-- a closed walk of positive length
abbrev pub IsPositiveCycle : List Arc → List ℕ → Type 0
IsPositiveCycle graph walk = (node : ℕ) × IsWalk graph node walk node × (pos 0 <ℤ walk_length graph walk)

abbrev pub HasPositiveCycle : List Arc → Type 0
HasPositiveCycle graph = (walk : List ℕ) × IsPositiveCycle graph walk

-- no arc stands twice in a walk
abbrev pub NoRepeat : List ℕ → Type 0
NoRepeat walk = (p q : ℕ) → p < q → q < length walk → slice_index walk p ≢ slice_index walk q

-- the answer is a closed walk
abbrev pub IsCycle : Longest → Type 0
IsCycle (Lengths lengths) = ⊥
IsCycle (Cycle walk) = Unit {0}

-- the answer is right: the greatest length of a walk to each node, or a positive cycle
abbrev pub TellsWalks : ℕ → List Arc → Longest → Type 0
TellsWalks nodes graph (Lengths lengths) =
    (length lengths.items ≡ nodes) × ((node : ℕ) → node < nodes
    → IsGreatestLength nodes graph node (at lengths.items node))
TellsWalks nodes graph (Cycle walk) = IsPositiveCycle graph walk.items

-- greatest lengths are from 0 to the limit; a cycle has each arc once, and at most as many as a graph has nodes
abbrev pub IsSimple : ℕ → Longest → Type 0
IsSimple nodes (Lengths lengths) =
    (node : ℕ) → node < nodes → (pos 0 ≤ℤ at lengths.items node) × (at lengths.items node ≤ℤ pos most_length)
IsSimple nodes (Cycle walk) = NoRepeat walk.items × (length walk.items ≤ most_nodes)
