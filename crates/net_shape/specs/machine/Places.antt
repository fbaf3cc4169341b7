-- The places of modules in the firing order, by counts.
use Rattle.std.specs.Prelude.{ℕ, zero, suc, ◌+◌, nat_lt, List, filter, length}
use Rattle.delay_net.specs.Sums.{sum_below}
use Rattle.net_ir.specs.declared.network.Module.{Module}
use Rattle.net_ir.specs.declared.network.Module.TheVariants.{Source, Forward, Compute, Sink}
use Rattle.net_shape.specs.Modules.{block, far_forwards, far_lane, far_taps, near_lane, producers}
use Rattle.net_shape.specs.Plans.{Plan}

-- how many of these taps are above one
abbrev pub count_above : ℕ → List ℕ → ℕ
count_above tap taps = length (filter (λ t. nat_lt tap t) taps)

-- where the far forwarding modules of a tensor begin, and those of one of its lanes
unfoldable pub far_begin : Plan → ℕ → ℕ
far_begin p v = sum_below v (λ w. length (far_forwards p w))

unfoldable pub far_lane_begin : Plan → (v lane : ℕ) → ℕ
far_lane_begin p v lane = far_begin p v + sum_below lane (λ l. length (far_lane p v l))

-- where the block of a tensor begins, where its near forwarding modules begin, and those of one of its lanes
unfoldable pub block_begin : Plan → ℕ → ℕ
block_begin p v = far_begin p (length p.kinds) + sum_below v (λ w. length (block p w))

unfoldable pub near_begin : Plan → (v lane : ℕ) → ℕ
near_begin p v lane =
    block_begin p v + (length (producers p v) + sum_below lane (λ l. length (near_lane p v l)))

-- the place of a module
unfoldable pub place_of : Plan → Module → ℕ
place_of p (Source v) = block_begin p v
place_of p (Forward v lane zero) = near_begin p v lane
place_of p (Forward v lane (suc tap)) = far_lane_begin p v lane + count_above (suc tap) (far_taps p v lane)
place_of p (Compute v lane) = block_begin p v + lane
place_of p (Sink v) = near_begin p v p.unroll
