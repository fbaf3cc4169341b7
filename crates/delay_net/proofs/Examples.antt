-- The definitions at two small nets, by computation.
use Rattle.std.proofs.Common.{◌≡◌, ℕ, ◌+◌, List, [], ◌∷◌, refl, pos}
use Rattle.delay_net.specs.Sums.{sum_below}
use Rattle.delay_net.specs.Windows.{storage_of, total_storage}
use Rattle.delay_net.specs.Certificate.{sum_at, sum_read, sum_reading, width_if_read, sum_of_offsets, value_of}
use Rattle.delay_net.specs.declared.net.Read.{Read}

abbrev read : ℕ → ℕ → ℕ → Read
read reader of offset = record { reader = reader; of = of; offset = pos offset }

-- three reads of one tensor by the next, along lines of 2,000 cells, and three along a line
abbrev blur : List Read
blur = read 1 0 0 ∷ read 1 0 2000 ∷ read 1 0 4000 ∷ read 2 1 0 ∷ read 2 1 1 ∷ read 2 1 2 ∷ []

blur_storage : total_storage (16 ∷ 16 ∷ 16 ∷ []) blur (0 ∷ 4000 ∷ 4002 ∷ []) ≡ 64032
unfolding total_storage sum_below storage_of
blur_storage = refl

blur_value : value_of blur (16 ∷ 0 ∷ 0 ∷ 16 ∷ 0 ∷ 0 ∷ []) (0 ∷ 0 ∷ 16 ∷ 0 ∷ 0 ∷ 16 ∷ []) ≡ pos 64032
unfolding sum_of_offsets
blur_value = refl

-- a wide tensor that is better computed late
abbrev far : List Read
far = read 1 0 0 ∷ read 2 0 1000 ∷ read 2 1 0 ∷ []

far_storage : total_storage (8 ∷ 32 ∷ 32 ∷ []) far (0 ∷ 1000 ∷ 1000 ∷ []) ≡ 8000
unfolding total_storage sum_below storage_of
far_storage = refl

far_earliest : total_storage (8 ∷ 32 ∷ 32 ∷ []) far (0 ∷ 0 ∷ 1000 ∷ []) ≡ 32000
unfolding total_storage sum_below storage_of
far_earliest = refl

far_value : value_of far (8 ∷ 0 ∷ 32 ∷ []) (0 ∷ 8 ∷ 24 ∷ []) ≡ pos 8000
unfolding sum_of_offsets
far_value = refl

-- at the second tensor: holds 8 in and needs 24 out, needs 0 in and its width out
far_even : sum_reading 1 far (8 ∷ 0 ∷ 32 ∷ []) + sum_read 1 far (0 ∷ 8 ∷ 24 ∷ []) ≡ sum_reading 1 far (0 ∷ 8 ∷ 24 ∷ []) + width_if_read (8 ∷ 32 ∷ 32 ∷ []) far 1
unfolding sum_at
far_even = refl
