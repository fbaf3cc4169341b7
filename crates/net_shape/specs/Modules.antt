-- The modules of a plan, in firing order.
use Rattle.std.specs.Prelude.{◌≡◌, ◌≢◌, ◌<◌, Contains, ℕ, ◌-◌, Bool, false, not, ◌&&◌, ◌==◌, nat_lt, List, [], ◌∷◌, ◌++◌, map, filter, reverse, length, if◌then◌else◌}
use Rattle.std.specs.List.{position_or_len}
use Rattle.net_ir.specs.declared.network.Module.{Module}
use Rattle.net_ir.specs.declared.network.Module.TheVariants.{Source, Forward, Compute, Sink}
use Rattle.net_shape.specs.Lists.{joined}
use Rattle.net_shape.specs.Plans.{Plan, kind_at, taps_at}
use Rattle.net_shape.specs.declared.kinds.Kind.TheVariants.{Input, Inner, Output}

-- the gap of a tap: the tap less the one before it in its lane, and less `before` where it is the first
abbrev pub gap_after : (before : ℕ) → List ℕ → ℕ → ℕ
gap_after before [] tap = 0
gap_after before (t ∷ ts) tap = if t == tap then t - before else gap_after t ts tap

-- the gap of a tap of a lane: the first tap itself, later the difference to the tap before
abbrev pub gap_of : List ℕ → ℕ → ℕ
gap_of taps tap = gap_after 0 taps tap

-- the taps of a lane whose gap is at least 1, rising
unfoldable pub far_taps : Plan → ℕ → ℕ → List ℕ
far_taps p v lane = filter (λ tap. nat_lt 0 (gap_of (taps_at p v lane) tap)) (taps_at p v lane)

-- the taps of a lane whose gap is 0
unfoldable pub near_taps : Plan → ℕ → ℕ → List ℕ
near_taps p v lane = filter (λ tap. not (nat_lt 0 (gap_of (taps_at p v lane) tap))) (taps_at p v lane)

-- the forwarding modules of a lane whose gap is at least 1, from the highest tap down
unfoldable pub far_lane : Plan → ℕ → ℕ → List Module
far_lane p v lane = map (λ tap. Forward v lane tap) (reverse (far_taps p v lane))

-- those of a tensor, lane by lane
unfoldable pub far_forwards : Plan → ℕ → List Module
far_forwards p v = joined (far_lane p v) p.unroll

-- what sends the cells of a tensor: a source, or a computing module for each lane
unfoldable pub producers : Plan → ℕ → List Module
producers p v = elim (kind_at p v) [
  | Input ↦ Source v ∷ []
  | Inner ↦ joined (λ lane. Compute v lane ∷ []) p.unroll
  | Output ↦ joined (λ lane. Compute v lane ∷ []) p.unroll
]

-- the forwarding modules of a lane whose gap is 0
unfoldable pub near_lane : Plan → ℕ → ℕ → List Module
near_lane p v lane = map (λ tap. Forward v lane tap) (near_taps p v lane)

-- those of a tensor, lane by lane
unfoldable pub near_forwards : Plan → ℕ → List Module
near_forwards p v = joined (near_lane p v) p.unroll

-- the sink of a tensor, if it has one
unfoldable pub sinks : Plan → ℕ → List Module
sinks p v = elim (kind_at p v) [ Input ↦ [] | Inner ↦ [] | Output ↦ Sink v ∷ [] ]

-- what sends a tensor, its forwarding modules whose gap is 0, and its sink
unfoldable pub block : Plan → ℕ → List Module
block p v = producers p v ++ (near_forwards p v ++ sinks p v)

-- The firing order: first, by tensor and lane, the forwarding modules whose gap is at least 1, from the highest tap
-- down; then, by tensor, its block.
unfoldable pub modules_of : Plan → List Module
modules_of p = joined (far_forwards p) (length p.kinds) ++ joined (block p) (length p.kinds)

-- The set of modules: a source for each input of the first iteration, a computing module for each other tensor and
-- lane, a forwarding module for each tensor, lane and tap, and a sink for each output of the last iteration.
abbrev pub IsThere : Plan → Module → Type 0
IsThere p (Source v) = (v < length p.kinds) × (kind_at p v ≡ Input)
IsThere p (Forward v lane tap) = (v < length p.kinds) × (lane < p.unroll) × Contains (taps_at p v lane) tap
IsThere p (Compute v lane) = (v < length p.kinds) × (kind_at p v ≢ Input) × (lane < p.unroll)
IsThere p (Sink v) = (v < length p.kinds) × (kind_at p v ≡ Output)

-- two modules are one
abbrev pub is_same : Module → Module → Bool
is_same (Source v) (Source w) = v == w
is_same (Forward v lane tap) (Forward w row at) = v == w && (lane == row && tap == at)
is_same (Compute v lane) (Compute w row) = v == w && lane == row
is_same (Sink v) (Sink w) = v == w
is_same _ _ = false

-- the number of a module: its place in the firing order
unfoldable pub number_of : Plan → Module → ℕ
number_of p m = position_or_len (is_same m) (modules_of p)
