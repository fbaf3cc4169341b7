use Rattle.std.proofs.Common.{◌≡◌, ℕ, List, length, ap, sym, ◌∙◌}
use Rattle.std.proofs.lemmas.Result.{IfOk-weaker}
use Rattle.net_ir.specs.Nets.{Net}
use Rattle.net_ir.specs.declared.network.Module.{Module}
use Rattle.net_ir.specs.declared.network.Queue.{Queue}
use Rattle.soda_ir.specs.Program.{plain}
use Rattle.net_build.specs.Planned.{net_under}
use Rattle.compile_job.specs.Modules.{size_of}
use Rattle.compile_job.proofs.texts.size_text.Goals as goal

pub returns : goal.returns
returns c =
    let p = plain c.args.design.now.program in
    let delays = c.args.design.now.delays in
    let modules : length c.modules-modules.result.now ≡ length (net_under p delays).modules =
    ap (λ (ms : List Module). length ms) (c.modules-modules.ensures.value ∙ ap (λ (n : Net). n.modules) c.network.ensures) in
    let queues : length c.queues-queues.result.now ≡ length (net_under p delays).queues =
    ap (λ (qs : List Queue). length qs) (c.queues-queues.ensures.value ∙ ap (λ (n : Net). n.queues) c.network-2.ensures) in
    IfOk-weaker c.size_of.result _ _
    (λ v e. e ∙ ap (λ (n : ℕ). size_of n (length c.queues-queues.result.now) c.in_ok-bits.bits) modules
    ∙ ap (λ (n : ℕ). size_of (length (net_under p delays).modules) n c.in_ok-bits.bits) queues
    ∙ ap (λ (n : ℕ). size_of (length (net_under p delays).modules) (length (net_under p delays).queues) n) c.in_ok-bits.ensures)
    c.size_of.ensures
