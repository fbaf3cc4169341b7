-- The streams of a small program, by computation.
use Rattle.std.proofs.Common.{◌≡◌, ℕ, ◌==◌, List, [], ◌∷◌, ℤ, pos, negsuc, codes, refl, if◌then◌else◌}
use Rattle.soda_words.specs.declared.operators.BinOp.TheVariants.{Add, Div}
use Rattle.int_types.specs.Operators.{binary_value}
use Rattle.int_types.specs.Ranges.{wrapped}
use Rattle.net_ir.specs.Nets.{entrances_among}
use Rattle.net_shape.specs.Lists.{joined}
use Rattle.net_shape.specs.Modules.{block, far_forwards, far_lane, far_taps, modules_of, near_forwards, near_lane, near_taps, number_of, producers, sinks}
use Rattle.net_shape.specs.Plans.{taps_at}
use Rattle.net_shape.specs.Queues.{network_of, queues_from, served, to_sink}
use Rattle.reuse_chain.specs.Lanes.{taps_of}
use Rattle.soda_ir.specs.Counts.{is_reached, is_wanted}
use Rattle.soda_ir.specs.Formula.{number, binary}
use Rattle.soda_ir.specs.Points.{listed}
use Rattle.soda_ir.specs.Program.{PlainProgram}
use Rattle.soda_ir.specs.declared.program.Border.TheVariants.{Ignore}
use Rattle.soda_eval.specs.Arrays.{cell, in_region}
use Rattle.soda_eval.specs.Examples.{at, input_of, output_of}
use Rattle.time_stages.specs.Margins.{input_margins, margins_over}
use Rattle.time_stages.specs.Placing.{placed_in}
use Rattle.time_stages.specs.Staged.{reads_of, reads_of_first, staged_reads, staged_statements, staged_tensors}
use Rattle.staged_cells.specs.Cells.{defined_cell, inner_cell, outer_cell, sent_cell}
use Rattle.staged_cells.specs.Sends.{firings_given, handed_list, items_given, sent_item, sent_list}
use Rattle.staged_cells.specs.Streams.{stage_cell, stream}

-- the mean of a cell and the cells beside it
abbrev mean : ℕ → PlainProgram
mean unroll = record {
  kernel = codes "m";
  burst = 8;
  unroll = unroll;
  iterate = 1;
  border = Ignore;
  params = [];
  extents = [];
  tensors = input_of (codes "a") ∷ output_of (codes "o") (binary Div (binary Add (binary Add (at (negsuc 0)) (at (pos 0))) (at (pos 1))) (number 3)) ∷ [];
}

abbrev five : List (List ℤ)
five = (pos 1 ∷ pos 2 ∷ pos 4 ∷ pos 8 ∷ pos 16 ∷ []) ∷ []

abbrev delays : List ℕ
delays = 0 ∷ 1 ∷ []

-- queue 0 comes from the forwarding module of the highest tap, queue 6 goes to the sink
mean_carries : (listed (stream (mean 1) 5 [] five delays 0) 6 ≡ pos 1 ∷ pos 2 ∷ pos 4 ∷ pos 8 ∷ pos 16 ∷ pos 0 ∷ [])
    × (listed (stream (mean 1) 5 [] five delays 6) 6 ≡ pos 0 ∷ pos 0 ∷ pos 2 ∷ pos 4 ∷ pos 9 ∷ pos 0 ∷ [])
unfolding stream stage_cell defined_cell cell in_region wrapped binary_value network_of queues_from served to_sink number_of modules_of block sinks
    near_forwards near_lane producers far_forwards far_lane near_taps far_taps taps_at taps_of joined staged_reads reads_of_first reads_of
    staged_tensors staged_statements placed_in margins_over input_margins is_reached is_wanted
mean_carries = (refl, refl)

-- with two lanes queues 10 and 11 go to the sink
mean_of_lanes : (listed (stream (mean 2) 5 [] five delays 10) 3 ≡ pos 0 ∷ pos 2 ∷ pos 9 ∷ [])
    × (listed (stream (mean 2) 5 [] five delays 11) 3 ≡ pos 0 ∷ pos 4 ∷ pos 0 ∷ [])
unfolding stream stage_cell defined_cell cell in_region wrapped binary_value network_of queues_from served to_sink number_of modules_of block sinks
    near_forwards near_lane producers far_forwards far_lane near_taps far_taps taps_at taps_of joined staged_reads reads_of_first reads_of
    staged_tensors staged_statements placed_in margins_over input_margins is_reached is_wanted
mean_of_lanes = (refl, refl)

-- what the computing module sends where only three items were taken from the queue of lead 1, and what the sink hands on
-- where four were taken
abbrev taken : ℕ → List ℤ
taken queue =
    if queue == 6 then pos 0 ∷ pos 0 ∷ pos 2 ∷ pos 4 ∷ []
    else (if queue == 2 then pos 1 ∷ pos 2 ∷ pos 4 ∷ [] else pos 1 ∷ pos 2 ∷ pos 4 ∷ pos 8 ∷ pos 16 ∷ pos 0 ∷ [])

mean_sends : (sent_list (mean 1) 5 [] delays [] 6 taken 6 ≡ pos 0 ∷ pos 0 ∷ pos 2 ∷ pos 4 ∷ []) ×
    (handed_list (mean 1) 5 delays 6 taken 5 1 ≡ pos 0 ∷ pos 2 ∷ pos 4 ∷ [])
unfolding sent_list handed_list firings_given items_given sent_item sent_cell inner_cell outer_cell entrances_among wrapped binary_value network_of
    queues_from served to_sink number_of modules_of block sinks near_forwards near_lane producers far_forwards far_lane near_taps far_taps taps_at
    taps_of joined staged_reads reads_of_first reads_of staged_tensors staged_statements placed_in margins_over input_margins is_reached is_wanted
mean_sends = (refl, refl)
