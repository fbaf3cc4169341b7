use Rattle.std.proofs.Common.{◌≡◌, ℕ, ◌<◌, false, get_or}
use Rattle.time_stages.specs.declared.staging.StagedTensor.{StagedTensor}
use Rattle.time_stages.specs.Staged.{is_stage}
use Rattle.time_stages.proofs.readings.number_of.Given as goal

abbrev pub invariant-loop-number : goal.invariant-loop-number
invariant-loop-number l =
    (k : ℕ) (d : StagedTensor) → k < l.number → is_stage l.turn l.tensor (get_or l.tensors k d) ≡ false
