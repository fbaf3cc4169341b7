use Rattle.std.proofs.Common.{◌<◌, length, refl, ap, arith}
use Rattle.std.proofs.lemmas.Bool.{false≢true}
use Rattle.delay_net.specs.Limits.{most_tensors}
use Rattle.delay_net.proofs.Filled.{right_side}
use Rattle.delay_net.proofs.certificate.is_even.Goals as goal

pub returns-then-holds_in-tensor : goal.returns-then-holds_in-tensor
returns-then-holds_in-tensor c =
    let net = c.args.net.now in
    let t = c.loop-tensor.tensor in
    let lt : t < length net.weights = omega (arith, c.loop-tensor-test.true, ap length c.weights-tensor-end.ensures.value) in
    let in_table : t < most_tensors = omega (arith, c.weights-tensor-end.ensures.net.few_tensors, lt) in
    let right = right_side net.weights net.reads c.args.hold.now c.args.need.now t _ _ c.requires.filled lt (c.sums-needs_in.ensures.sums t in_table)
    (c.sums-holds_out.ensures.sums t in_table) in (
      λ no. absurd (false≢true no),
      λ even. absurd
          (c.if-holds_in-tensor.true (omega (arith, right, even t lt, c.sums-holds_in.ensures.sums t in_table, c.sums-needs_out.ensures.sums t in_table))),
    )

pub returns : goal.returns
returns c =
    let net = c.args.net.now in
    let few = c.weights-tensor-end.ensures.net.few_tensors in (
      λ _. λ t lt.
          let in_table : t < most_tensors = omega (arith, few, lt) in
          let right = right_side net.weights net.reads c.args.hold.now c.args.need.now t _ _ c.requires.filled lt (c.sums-needs_in.ensures.sums t in_table)
          (c.sums-holds_out.ensures.sums t in_table) in
          omega (
            arith,
            right,
            c.sums-holds_in.ensures.sums t in_table,
            c.sums-needs_out.ensures.sums t in_table,
            c.loop-tensor.invariant t
                (omega (arith, lt, ap length c.weights-tensor-end.ensures.value)),
          ),
      λ _. refl,
    )
