use Rattle.std.proofs.Common.{◌≡◌, ℕ, ◌+◌, ◌*◌, ◌≤◌, ◌<◌, ◌^◌, length, get_or, slice_index, arith, rules, ap, ◌∙◌, sym}
use Rattle.std.proofs.Math.Nat.{mul-le-mul}
use Rattle.delay_net.specs.Limits.{most_tensors}
use Rattle.delay_net.specs.Sums.{sum_below}
use Rattle.delay_net.specs.Windows.{storage_of, total_storage}
use Rattle.delay_net.proofs.CallerLemmas.{sum_below_none, sum_below_more}
use Rattle.delay_net.proofs.storing.storage.Goals as goal

pub loop-tensor-init : goal.loop-tensor-init
loop-tensor-init c = record { told = sym (sum_below_none _); small = omega arith }

pub loop-tensor-preserved : goal.loop-tensor-preserved
loop-tensor-preserved c =
    let i = c.loop-tensor.tensor in
    let net = c.args.net.now in
    let bits_of : ℕ → ℕ = λ t. slice_index net.weights t * storage_of net.reads c.args.delays.now t in
    let width = get_or c.weights-width-items.result.now i 0 in
    let cells = get_or c.storages-greatest.result i 0 in
    let in_table : i < most_tensors = search rules in
    let term : width * cells ≡ bits_of i =
    ap (λ ws. get_or ws i 0 * cells) c.weights-width-items.ensures.value
    ∙ ap (λ n. get_or net.weights i 0 * n) (c.storages-greatest.ensures.each i in_table) in
    let narrow : width ≤ 2 ^ 8 = search rules in
    let short : cells ≤ 2 ^ 64 = search rules in
    record {
      told = ap (λ x. c.loop-tensor.bits + x) term ∙ ap (λ b. b + bits_of i) c.loop-tensor.invariant.told ∙ sym (sum_below_more i bits_of);
      small = omega (arith, mul-le-mul narrow short, c.loop-tensor.invariant.small);
    }

pub returns : goal.returns
unfolding total_storage
returns c =
    let net = c.args.net.now in
    let bits_of : ℕ → ℕ = λ t. slice_index net.weights t * storage_of net.reads c.args.delays.now t in
    let all : c.loop-tensor.tensor ≡ length net.weights = omega (arith, ap length c.weights-width-items.ensures.value) in
    c.loop-tensor.invariant.told ∙ ap (λ n. sum_below n bits_of) all
