use Rattle.std.proofs.Common.{[], length, sym, ◌∙◌, ap, arith}
use Rattle.std.proofs.lemmas.List.Sums.{position_or_len_is}
use Rattle.time_stages.specs.declared.staging.StagedTensor.{StagedTensor}
use Rattle.time_stages.specs.Staged.{is_stage}
use Rattle.time_stages.proofs.readings.number_of.Goals as goal

pub returns-then-is_stage : goal.returns-then-is_stage
returns-then-is_stage c =
    let d = c.index-tensors-number.result in
    let test = is_stage c.args.turn c.args.tensor in
    sym (position_or_len_is test c.args.tensors.now c.loop-number.number d (omega arith) (λ k l. c.loop-number.invariant k d l) (λ l. ap test (sym c.index-tensors-number.is) ∙ sym c.is_stage.ensures ∙ c.if-is_stage.true))

pub returns : goal.returns
returns c =
    let d : StagedTensor = record { turn = 0; tensor = 0; low = []; high = [] } in
    sym (position_or_len_is (is_stage c.args.turn c.args.tensor) c.args.tensors.now (length c.args.tensors.now) d (omega arith) (λ k l. c.loop-number.invariant k d (omega arith)) (λ l. absurd (omega arith)))
