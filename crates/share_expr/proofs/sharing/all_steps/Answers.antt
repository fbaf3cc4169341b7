use Rattle.std.proofs.Common.{◌≡◌, ◌<◌, ℕ, List, true, Some, None, suc, map, length, refl, sym, ◌∙◌, ap, subst, arith}
use Rattle.soda_ir.specs.declared.program.Tensor.{Tensor}
use Rattle.soda_ir.specs.Program.{plain_tensor}
use Rattle.share_shape.specs.Procedure.{is_used, next_shared}
use Rattle.share_shape.proofs.CallerLemmas.{fewer, fit_dims, fit_next, fit_of, shared_next, shared_same}
use Rattle.share_shape.specs.Compounds.{have_dims}
use Rattle.share_expr.specs.Working.{names_with, with_tensors}
use Rattle.share_expr.proofs.sharing.all_steps.Goals as goal

pub loop-tensors-smaller : goal.loop-tensors-smaller
loop-tensors-smaller c =
    let s = rw c.in-Some.is at c.in_ok-step.ensures in
    let q = with_tensors c.args.parts.now c.loop-tensors.tensors.items in
    let next : next_shared q ≡ Some (with_tensors c.args.parts.now c.in-Some.step.tensors.items) = ap (λ ts. next_shared (with_tensors c.args.parts.now ts)) (sym c.as_slice.ensures.value) ∙ s.0 in
    omega (arith, fewer q (with_tensors c.args.parts.now c.in-Some.step.tensors.items) next)

pub loop-tensors-preserved : goal.loop-tensors-preserved
loop-tensors-preserved c =
    let s = rw c.in-Some.is at c.in_ok-step.ensures in
    let q = with_tensors c.args.parts.now c.loop-tensors.tensors.items in
    let next : next_shared q ≡ Some (with_tensors c.args.parts.now c.in-Some.step.tensors.items) = ap (λ ts. next_shared (with_tensors c.args.parts.now ts)) (sym c.as_slice.ensures.value) ∙ s.0 in
    (sym (shared_next q (with_tensors c.args.parts.now c.in-Some.step.tensors.items) next) ∙ c.loop-tensors.invariant.0, fit_next q (with_tensors c.args.parts.now c.in-Some.step.tensors.items) next c.loop-tensors.invariant.1, s.1)

pub returns : goal.returns
returns c =
    let s = rw c.in_default.is at c.in_ok-step.ensures in
    let q = with_tensors c.args.parts.now c.loop-tensors.tensors.items in
    let none : next_shared q ≡ None = ap (λ ts. next_shared (with_tensors c.args.parts.now ts)) (sym c.as_slice.ensures.value) ∙ s in
    sym (shared_same q none) ∙ c.loop-tensors.invariant.0

pub loop-tensors-init : goal.loop-tensors-init
loop-tensors-init c = (refl, fit_of (with_tensors c.args.parts.now c.args.tensors.items) c.requires, λ n h. absurd (omega arith))

pub next_step-requires-clause-dims : goal.next_step-requires-clause-dims
next_step-requires-clause-dims c =
    let q = with_tensors c.args.parts.now c.loop-tensors.tensors.items in
    (suc (length c.args.parts.now.extents), ap (λ ts. have_dims (suc (length c.args.parts.now.extents)) (map plain_tensor ts)) c.as_slice.ensures.value ∙ fit_dims q c.loop-tensors.invariant.1)

pub next_step-requires-clause-from : goal.next_step-requires-clause-from
next_step-requires-clause-from c =
    subst (λ (ts : List Tensor). (n : ℕ) → n < c.loop-tensors.from → is_used (names_with c.args.parts.now ts) n ≡ true) (sym c.as_slice.ensures.value) c.loop-tensors.invariant.2
