use Rattle.std.proofs.Common.{ℕ, ◌+◌, ◌≤◌, ◌^◌, arith, ap, ◌∙◌, sym}
use Rattle.delay_net.specs.Windows.{storage_of}
use Rattle.delay_net.proofs.CallerLemmas.{sum_below_none, sum_below_more}
use Rattle.net_build.specs.Limits.{most_delay}
use Rattle.net_build.proofs.Ages.{storage_short}
use Rattle.net_build.proofs.layouts.cells_held.Goals as goal

pub loop-tensor-init : goal.loop-tensor-init
loop-tensor-init c = record { told = sym (sum_below_none _); small = omega arith }

pub loop-tensor-preserved : goal.loop-tensor-preserved
loop-tensor-preserved c =
    let i = c.loop-tensor.tensor in
    let reads = c.args.net.now.reads in
    let delays = c.args.delays.now in
    let f : ℕ → ℕ = storage_of reads delays in
    let short : c.storage_of-cells.result ≤ most_delay + 2 ^ 42 =
    storage_short reads delays i c.storage_of-cells.result most_delay c.weights.ensures.net.offsets c.requires.kept
    c.storage_of-cells.ensures.greatest in
    record {
      told = ap (λ x. c.loop-tensor.cells + x) c.storage_of-cells.ensures.value ∙ ap (λ b. b + f i) c.loop-tensor.invariant.told ∙ sym (sum_below_more i f);
      small = omega (arith, c.loop-tensor.invariant.small, short);
    }
