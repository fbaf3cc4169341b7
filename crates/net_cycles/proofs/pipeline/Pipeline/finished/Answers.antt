use Rattle.std.proofs.Common.{◌≡◌, ◌<◌, ◌↔◌, ℕ, List, IsTrue, length, get_or, subst}
use Rattle.net_ir.specs.Firings.{firings_at}
use Rattle.net_ir.specs.States.{IsFinished, IsLawful}
use Rattle.net_cycles.specs.Between.{between}
use Rattle.net_cycles.specs.Running.{Running}
use Rattle.net_cycles.proofs.Readiness.{finished_iff}
use Rattle.net_cycles.proofs.Runs.{run_ends}
use Rattle.net_cycles.proofs.pipeline.Pipeline.finished.Goals as goal

pub returns-clause-finished : goal.returns-clause-finished
returns-clause-finished c =
    let r = c.self.inside in
    subst (λ (x : Running). IsTrue c.all_done.result ↔ IsFinished x.network x.firings (between x.fired)) c.self.view_is
    (finished_iff r.network r.firings r.fired.items c.all_done.result
    (subst (λ (xs : List ℕ). IsTrue c.all_done.result ↔ ((m : ℕ) → m < length r.network.modules
    → get_or xs m 0 ≡ firings_at r.network r.firings m)) c.deref.ensures.value c.all_done.ensures))

pub returns-clause-ends : goal.returns-clause-ends
returns-clause-ends c h stalls run =
    let now : Running = c.args.self.now in
    run_ends now.network now.firings stalls now.fired run ((returns-clause-finished c).0 h)

pub returns-clause-lawful : goal.returns-clause-lawful
returns-clause-lawful c =
    subst (λ (x : Running). IsLawful x.network x.firings (between x.fired)) c.self.view_is c.self.invariant.running.lawful
