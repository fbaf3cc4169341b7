-- What the code has in hand while it makes a network.
use Rattle.std.specs.Prelude.{◌≡◌, ◌<◌, ◌+◌, ◌/◌, ℕ, Bool, true, false, max, ◌==◌, List, [], ◌∷◌, filter, length, map, slice_index_or}
use Rattle.std.specs.List.{range_with_len}
use Rattle.net_ir.specs.declared.network.Module.TheVariants.{Forward}
use Rattle.net_ir.specs.declared.network.Queue.{Queue}
use Rattle.net_shape.specs.Lists.{joined}
use Rattle.net_shape.specs.Modules.{gap_of, modules_of, number_of}
use Rattle.net_shape.specs.Plans.{Plan, age_of, taps_at}
use Rattle.net_shape.specs.Queues.{read_at}
use Rattle.net_shape.specs.declared.kinds.Kind.{Kind}
use Rattle.net_shape.specs.declared.kinds.Kind.TheVariants.{Input, Inner, Output}
use Rattle.net_shape.specs.machine.Places.{block_begin, far_lane_begin, near_begin}
use Rattle.plan_net.specs.declared.charts.Chart.{Chart}

-- a value for each tensor and lane, lane by lane
abbrev pub by_lane : {A : Type 0} → Plan → (ℕ → ℕ → A) → List A
by_lane p f = joined (λ v. joined (λ lane. f v lane ∷ []) p.unroll) (length p.kinds)

-- the numbers of the reads of a tensor among the first k
abbrev pub reads_among : Plan → (v k : ℕ) → List ℕ
reads_among p v k = filter (λ n. (read_at p n).of == v) (range_with_len 0 k)

-- at each tensor the numbers of its reads among the first k
pub record AreReads (p : Plan) (k : ℕ) (readings : List (List ℕ)) : Type 0 where
  pub whole : length readings ≡ length p.kinds
  pub each : (v : ℕ) → v < length p.kinds → slice_index_or readings v [] ≡ reads_among p v k

-- the read of a number belongs to the tap at the lane
abbrev pub is_at : Plan → (lane tap n : ℕ) → Bool
is_at p lane tap n = (lane + age_of p (read_at p n)) / p.unroll == tap

-- at each of these taps of a lane, those of these reads that belong to it
abbrev pub by_tap : Plan → (lane : ℕ) → (taps numbers : List ℕ) → List (List ℕ)
by_tap p lane taps numbers = map (λ tap. filter (is_at p lane tap) numbers) taps

-- at each tap of a lane of a tensor, the reads that belong to it
abbrev pub served_at : Plan → (v lane : ℕ) → List (List ℕ)
served_at p v lane = by_tap p lane (taps_at p v lane) (reads_among p v (length p.reads))

-- the modules of a plan, the taps of its lanes with the reads that belong to them, and where modules begin
pub record IsChart (p : Plan) (chart : Chart) : Type 0 where
  pub modules : chart.modules.items ≡ modules_of p
  pub taps : chart.taps.items ≡ by_lane p (taps_at p)
  pub served : chart.served.items ≡ by_lane p (served_at p)
  pub tops : chart.tops.items ≡ by_lane p (far_lane_begin p)
  pub begins : chart.begins.items ≡ joined (λ v. block_begin p v ∷ []) (length p.kinds)
  pub nears : chart.nears.items ≡ by_lane p (near_begin p)
  pub ends : chart.ends.items ≡ joined (λ v. near_begin p v p.unroll ∷ []) (length p.kinds)

-- the queue from the module of a number to the forwarding module at the first of these taps of a lane, if there is one
abbrev pub link_from : Plan → (from v lane : ℕ) → List ℕ → List Queue
link_from p from v lane [] = []
link_from p from v lane (tap ∷ taps) = record {
  from = from;
  to = number_of p (Forward v lane tap);
  port = 0;
  capacity = max 1 (gap_of (taps_at p v lane) tap);
  lead = 0;
} ∷ []

-- a tensor is an input, or it goes to a sink
abbrev pub is_source : Kind → Bool
is_source Input = true
is_source Inner = false
is_source Output = false

abbrev pub has_sink : Kind → Bool
has_sink Input = false
has_sink Inner = false
has_sink Output = true
