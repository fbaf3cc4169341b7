use Rattle.std.proofs.Common.{length, sym}
use Rattle.std.proofs.lemmas.List.{length-map}
use Rattle.soda_ir.specs.Program.{plain, plain_tensor}
use Rattle.time_stages.proofs.Sequence.{first_input_margins, first_made}
use Rattle.time_stages.proofs.iterations.first_margins.Goals as goal

pub returns : goal.returns
returns c =
    let p = plain c.args.program.now in
    let sound = c.requires.sound in
    first_made p sound (length c.args.program.now.tensors) _ (sym (length-map c.args.program.now.tensors plain_tensor)) c.in_ok-margins.ensures.value (c.in_ok-margins.ensures.most 0 (λ j. first_input_margins p sound 0 j))
