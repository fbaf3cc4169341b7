use Rattle.std.proofs.Common.{◌≡◌, ◌<◌, ◌≤◌, ℕ, List, ◌++◌, length, map, get_or, codes, slice_index, sym, ap, ◌∙◌, arith}
use Rattle.std.proofs.lemmas.List.{length-map}
use Rattle.delay_net.specs.Limits.{most_tensors}
use Rattle.delay_net.specs.Windows.{storage_of}
use Rattle.soda_ir.specs.Program.{PlainProgram, plain}
use Rattle.time_stages.specs.declared.staging.Staged.{Staged}
use Rattle.time_stages.specs.declared.staging.StagedTensor.{StagedTensor}
use Rattle.time_stages.specs.Staged.{staged, staged_tensors, staged_widths, type_of}
use Rattle.design_lines.specs.PlanLines.{tensor_line}
use Rattle.design_lines.proofs.Written.{written_more}
use Rattle.design_lines.proofs.plan.add_tensors.Goals as goal

-- there are as many staged tensors as widths
as_many : (p : PlainProgram) (held : Staged) (ts : List StagedTensor) (weights : List ℕ) → ts ≡ held.tensors → held ≡ staged p → weights ≡ staged_widths p
    → length ts ≡ length weights
unfolding staged_widths
as_many p held ts weights lent same widths =
    ap length (lent ∙ ap (λ (s : Staged). s.tensors) same) ∙ sym (length-map (staged_tensors p) (λ s. (type_of p s.tensor).bits)) ∙ ap length (sym widths)

pub bounds-delays-number : goal.bounds-delays-number
bounds-delays-number c =
    let many = as_many (plain c.args.program.now) c.args.staging.now c.as_slice-tensors.result.now c.args.net.now.weights c.as_slice-tensors.ensures
    c.requires.staging c.requires.weights in
    omega (arith, c.requires.assignment)

pub bounds-storages-number : goal.bounds-storages-number
bounds-storages-number c =
    let many = as_many (plain c.args.program.now) c.args.staging.now c.as_slice-tensors.result.now c.args.net.now.weights c.as_slice-tensors.ensures
    c.requires.staging c.requires.weights in
    omega (arith, c.storages-storages.ensures.few)

pub loop-number-preserved : goal.loop-number-preserved
loop-number-preserved c =
    let p = plain c.parts-parts.result.now in
    let i = c.loop-number.number in
    let s = c.index-tensors-number.result in
    let many = as_many (plain c.args.program.now) c.args.staging.now c.as_slice-tensors.result.now c.args.net.now.weights c.as_slice-tensors.ensures
    c.requires.staging c.requires.weights in
    let small : i < most_tensors = omega (arith, c.storages-storages.ensures.few) in
    written_more (λ n t. tensor_line p n t (slice_index c.args.delays.now n) (storage_of c.args.net.now.reads c.args.delays.now n))
    c.as_slice-tensors.result.now i s c.args.text.now.items c.loop-number.text.items c.add_tensor.new.text.items _
    c.loop-number.invariant c.loop-number-test.true
    (ap (λ n. tensor_line p i s (slice_index c.args.delays.now i) n) (c.storages-storages.ensures.each i small)
    ∙ ap (λ t. tensor_line p i t (slice_index c.args.delays.now i) (storage_of c.args.net.now.reads c.args.delays.now i)) c.index-tensors-number.is)
    c.in_ok-add_tensor.ensures
