use Rattle.std.proofs.Common.{length, slice_get, refl, sym, ap, ◌∙◌}
use Rattle.std.proofs.lemmas.Option.{slice_get_read}
use Rattle.soda_ir.specs.Program.{plain}
use Rattle.design_reader.proofs.Telling.{tensor_more, tensor_stop}
use Rattle.design_reader.proofs.plans.tensors_told.Goals as goal

pub returns-in_default-clause-refused : goal.returns-in_default-clause-refused
returns-in_default-clause-refused c =
    let i = c.loop-number.number in
    let s = c.index-tensors-number.result in
    let ts = c.args.tensors.now in
    let told = rw c.in_default.is at c.in_ok-told.ensures in
    tensor_stop (plain c.args.parts.now) c.args.text.now c.loop-number.delays.items c.loop-number.storages.items c.loop-number.rest.now i c.args.before _ s
    c.loop-number.invariant
    (ap (λ us. slice_get us i) (sym c.requires.tensors) ∙ slice_get_read ts (length ts) i s refl c.loop-number-test.true c.index-tensors-number.is)
    told refl

pub loop-number-preserved : goal.loop-number-preserved
loop-number-preserved c =
    let i = c.loop-number.number in
    let s = c.index-tensors-number.result in
    let ts = c.args.tensors.now in
    let t = c.in-Some.told in
    let told = rw c.in-Some.is at c.in_ok-told.ensures in
    tensor_more (plain c.args.parts.now) c.args.text.now c.loop-number.delays.items c.loop-number.storages.items c.loop-number.rest.now t.rest.now _ _ i
    t.first t.second s c.loop-number.invariant
    (ap (λ us. slice_get us i) (sym c.requires.tensors) ∙ slice_get_read ts (length ts) i s refl c.loop-number-test.true c.index-tensors-number.is)
    told.0 told.1 told.2 c.in_ok-add_to_each.ensures.firsts c.in_ok-add_to_each.ensures.seconds
