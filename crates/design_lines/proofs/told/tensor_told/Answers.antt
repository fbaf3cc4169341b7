use Rattle.std.proofs.Common.{◌∙◌}
use Rattle.soda_ir.specs.Program.{plain}
use Rattle.design_lines.proofs.Tensors.{tensor_far, tensor_none, tensor_yes}
use Rattle.design_lines.proofs.told.tensor_told.Goals as goal

pub returns-then-delay-lt-DELAY_END : goal.returns-then-delay-lt-DELAY_END
returns-then-delay-lt-DELAY_END c =
    let t = c.in-Some.told in (
      c.if-delay-lt-DELAY_END.true,
      c.in-Some.ensures.1,
      tensor_yes (plain c.args.parts.now) c.args.number c.args.staged.now c.deref.result.now c.args.text.now t.rest.now t.first t.second
          (c.deref.ensures.value ∙ c.in_ok-front.ensures) c.in-Some.ensures.2,
    )

pub returns-in-Some : goal.returns-in-Some
returns-in-Some c =
    let t = c.in-Some.told in
    tensor_far (plain c.args.parts.now) c.args.number c.args.staged.now c.args.text.now t.rest.now t.first t.second
    (tensor_yes (plain c.args.parts.now) c.args.number c.args.staged.now c.deref.result.now c.args.text.now t.rest.now t.first t.second
    (c.deref.ensures.value ∙ c.in_ok-front.ensures) c.in-Some.ensures.2) c.in-Some.ensures.0 c.if-delay-lt-DELAY_END.false

pub returns : goal.returns
returns c =
    tensor_none (plain c.args.parts.now) c.args.number c.args.staged.now c.deref.result.now c.args.text.now
    (c.deref.ensures.value ∙ c.in_ok-front.ensures) c.in-None.ensures
