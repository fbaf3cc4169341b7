-- The definitions at small programs.
use Rattle.std.proofs.Common.{◌≡◌, ℕ, [], ◌∷◌, length, refl, pos, negsuc}
use Rattle.net_ir.specs.Worked.{two_reads}
use Rattle.net_ir.specs.declared.network.Module.TheVariants.{Source, Forward, Compute, Sink}
use Rattle.net_ir.specs.declared.network.Queue.{Queue}
use Rattle.net_shape.specs.Lists.{joined}
use Rattle.net_shape.specs.Modules.{block, far_forwards, far_lane, far_taps, modules_of, near_forwards, near_lane, near_taps, number_of, producers, sinks}
use Rattle.net_shape.specs.Plans.{Plan, taps_at}
use Rattle.net_shape.specs.Queues.{network_of, queues_from, served, to_sink}
use Rattle.net_shape.specs.Reuse.{reuse_cells}
use Rattle.net_shape.specs.declared.kinds.Kind.TheVariants.{Input, Inner, Output}
use Rattle.reuse_chain.specs.Lanes.{taps_of}

-- the mean of a cell and the cells beside it
mean : ℕ → Plan
mean unroll = record {
  unroll = unroll;
  kinds = Input ∷ Output ∷ [];
  reads = record { reader = 1; of = 0; offset = negsuc 0 } ∷ record { reader = 1; of = 0; offset = pos 0 } ∷ record { reader = 1; of = 0; offset = pos 1 } ∷ [];
  delays = 0 ∷ 1 ∷ [];
}

queue : ℕ → ℕ → ℕ → ℕ → ℕ → Queue
queue from to port capacity lead = record { from = from; to = to; port = port; capacity = capacity; lead = lead }

mean_network : network_of (mean 1) ≡ record {
  modules = Forward 0 0 2 ∷ Forward 0 0 1 ∷ Source 0 ∷ Forward 0 0 0 ∷ Compute 1 0 ∷ Sink 1 ∷ [];
  queues = queue 0 4 0 1 2 ∷ queue 1 0 0 1 0 ∷ queue 1 4 1 1 1 ∷ queue 2 3 0 1 0 ∷ queue 3 1 0 1 0 ∷ queue 3 4 2 1 0 ∷ queue 4 5 0 1 0 ∷ [];
}
unfolding network_of queues_from served to_sink number_of modules_of block sinks near_forwards near_lane producers far_forwards far_lane near_taps far_taps taps_at taps_of joined mean queue
mean_network = refl

mean_two_lanes : network_of (mean 2) ≡ record {
  modules = Forward 0 0 1 ∷ Forward 0 1 1 ∷ Source 0 ∷ Forward 0 0 0 ∷ Forward 0 1 0 ∷ Compute 1 0 ∷ Compute 1 1 ∷ Sink 1 ∷ [];
  queues = queue 0 5 0 1 1 ∷ queue 1 5 1 1 1 ∷ queue 1 6 0 1 1 ∷ queue 2 3 0 1 0 ∷ queue 2 4 0 1 0 ∷ queue 3 0 0 1 0 ∷ queue 3 5 2 1 0 ∷ queue 3 6 1 1 0 ∷ queue 4 1 0 1 0
      ∷ queue 4 6 2 1 0 ∷ queue 5 7 0 1 0 ∷ queue 6 7 1 1 0 ∷ [];
}
unfolding network_of queues_from served to_sink number_of modules_of block sinks near_forwards near_lane producers far_forwards far_lane near_taps far_taps taps_at taps_of joined mean queue
mean_two_lanes = refl

-- a cell and the fourth behind it
apart : Plan
apart = record {
  unroll = 1;
  kinds = Input ∷ Output ∷ [];
  reads = record { reader = 1; of = 0; offset = pos 0 } ∷ record { reader = 1; of = 0; offset = pos 4 } ∷ [];
  delays = 0 ∷ 4 ∷ [];
}

apart_network : network_of apart ≡ two_reads 4
unfolding network_of queues_from served to_sink number_of modules_of block sinks near_forwards near_lane producers far_forwards far_lane near_taps far_taps taps_at taps_of joined apart
apart_network = refl

apart_reuse : reuse_cells (two_reads 4) 0 ≡ 4
unfolding reuse_cells
apart_reuse = refl

-- a mean of three lines, and of three cells of a line
blur : Plan
blur = record {
  unroll = 16;
  kinds = Input ∷ Inner ∷ Output ∷ [];
  reads = record { reader = 1; of = 0; offset = pos 0 } ∷ record { reader = 1; of = 0; offset = pos 2000 } ∷ record { reader = 1; of = 0; offset = pos 4000 }
      ∷ record { reader = 2; of = 1; offset = pos 0 } ∷ record { reader = 2; of = 1; offset = pos 1 } ∷ record { reader = 2; of = 1; offset = pos 2 } ∷ [];
  delays = 0 ∷ 4000 ∷ 4002 ∷ [];
}

blur_modules : length (modules_of blur) ≡ 100
unfolding modules_of block sinks near_forwards near_lane producers far_forwards far_lane near_taps far_taps taps_at taps_of joined blur
blur_modules = refl
