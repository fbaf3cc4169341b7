use Rattle.std.proofs.Common.{[], ℤ, List, refl, sym, subst}
use Rattle.net_ir.specs.Nets.{Net}
use Rattle.cycle_rows.specs.Relayed.{module_at, IsReady, IsSource, IsSink}
use Rattle.cycle_rows.proofs.Sent.{ready_at_start}
use Rattle.cycle_rows.proofs.relay.relay_if_one.Goals as goal

pub returns-clause-ready : goal.returns-clause-ready
returns-clause-ready c =
    let p = c.args.pipeline.now in
    let source_is = subst (λ (n : Net). IsSource (module_at n c.args.source)) c.network-net.ensures (c.if-not-is_source.ensures refl) in
    let sink_is = subst (λ (n : Net). IsSink (module_at n c.args.sink)) c.network-net.ensures (c.if-not-is_sink.ensures refl) in
    subst (λ (xs : List ℤ). IsReady p.network c.args.source c.args.sink xs c.new-2.result.items p.fired) (sym c.new.ensures.items)
    (subst (λ (xs : List ℤ). IsReady p.network c.args.source c.args.sink [] xs p.fired) (sym c.new-2.ensures.items)
    (ready_at_start p.network c.args.source c.args.sink p.fired c.requires source_is sink_is))
