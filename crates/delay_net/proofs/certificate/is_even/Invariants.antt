use Rattle.std.proofs.Common.{◌≡◌, ℕ, ◌<◌, slice_index, ◌+◌}
use Rattle.delay_net.proofs.certificate.is_even.Given as goal

-- the tensors so far are even
abbrev pub invariant-loop-tensor : goal.invariant-loop-tensor
invariant-loop-tensor l = (t : ℕ) → t < l.tensor
    → slice_index l.holds_in t + slice_index l.needs_out t ≡ slice_index l.needs_in t + slice_index l.holds_out t
