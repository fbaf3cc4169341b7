use Rattle.std.proofs.Common.{◌≡◌, ◌<◌, ◌++◌, ◌∙◌, ap, get_or, length, subst, sym, List, ℕ}
use Rattle.std.proofs.lemmas.List.{get_or_default}
use Rattle.std.proofs.lemmas.Result.{on_ok_weaker}
use Rattle.net_ir.specs.declared.network.Module.{Module}
use Rattle.net_ir.specs.declared.network.Module.TheVariants.{Source, Forward, Compute, Sink}
use Rattle.net_shape.specs.Modules.{IsThere, modules_of, number_of}
use Rattle.net_shape.specs.Plans.{IsPlan, Plan}
use Rattle.net_shape.specs.Queues.{queues_from}
use Rattle.plan_net.proofs.Standing.{compute_whole, found_there, sink_whole, source_whole}
use Rattle.plan_net.proofs.joins.push_queues_from.Goals as goal

-- the module of the number, by what the match found
there : (p : Plan) → IsPlan p → (n : ℕ) (x m : Module) (xs : List Module) → xs ≡ modules_of p → n < length (modules_of p) → x ≡ get_or xs n x → x ≡ m → IsThere p m × (number_of p m ≡ n)
there p plan n x m xs e lt g is =
    let t = found_there p plan n x xs e lt g in (subst (IsThere p) is t.0, ap (number_of p) (sym is) ∙ t.1)

at : (p : Plan) (n : ℕ) (x m : Module) (xs : List Module) → xs ≡ modules_of p → n < length (modules_of p) → x ≡ get_or xs n x → x ≡ m → queues_from p (get_or (modules_of p) n (Sink 0)) ≡ queues_from p m
at p n x m xs e lt g is =
    ap (queues_from p) (get_or_default (modules_of p) n (Sink 0) x lt ∙ sym (g ∙ ap (λ ys. get_or ys n x) e) ∙ is)

pub push_first_links-requires-clause-tensor : goal.push_first_links-requires-clause-tensor
push_first_links-requires-clause-tensor c =
    (there c.args.layout.now c.requires.plan c.args.number c.index.result.now (Source c.in-Source.tensor) c.args.chart.now.modules.items c.requires.chart.modules c.requires.number c.index.ensures c.in-Source.is).0.0

pub push_forward-requires-clause-there : goal.push_forward-requires-clause-there
push_forward-requires-clause-there c =
    (there c.args.layout.now c.requires.plan c.args.number c.index.result.now (Forward c.in-Forward.tensor c.in-Forward.lane c.in-Forward.tap) c.args.chart.now.modules.items c.requires.chart.modules c.requires.number
    c.index.ensures c.in-Forward.is).0

pub push_forward-requires-clause-from : goal.push_forward-requires-clause-from
push_forward-requires-clause-from c =
    sym (there c.args.layout.now c.requires.plan c.args.number c.index.result.now (Forward c.in-Forward.tensor c.in-Forward.lane c.in-Forward.tap) c.args.chart.now.modules.items c.requires.chart.modules c.requires.number
    c.index.ensures c.in-Forward.is).1

pub push_link-requires-clause-tensor : goal.push_link-requires-clause-tensor
push_link-requires-clause-tensor c =
    (there c.args.layout.now c.requires.plan c.args.number c.index.result.now (Compute c.in-Compute.tensor c.in-Compute.lane) c.args.chart.now.modules.items c.requires.chart.modules c.requires.number
    c.index.ensures c.in-Compute.is).0.0

pub push_link-requires-clause-lane : goal.push_link-requires-clause-lane
push_link-requires-clause-lane c =
    (there c.args.layout.now c.requires.plan c.args.number c.index.result.now (Compute c.in-Compute.tensor c.in-Compute.lane) c.args.chart.now.modules.items c.requires.chart.modules c.requires.number
    c.index.ensures c.in-Compute.is).0.2

pub push_to_sink-requires-clause-tensor : goal.push_to_sink-requires-clause-tensor
push_to_sink-requires-clause-tensor c =
    (there c.args.layout.now c.requires.plan c.args.number c.index.result.now (Compute c.in-Compute.tensor c.in-Compute.lane) c.args.chart.now.modules.items c.requires.chart.modules c.requires.number
    c.index.ensures c.in-Compute.is).0.0

pub push_to_sink-requires-clause-lane : goal.push_to_sink-requires-clause-lane
push_to_sink-requires-clause-lane c =
    (there c.args.layout.now c.requires.plan c.args.number c.index.result.now (Compute c.in-Compute.tensor c.in-Compute.lane) c.args.chart.now.modules.items c.requires.chart.modules c.requires.number
    c.index.ensures c.in-Compute.is).0.2

pub push_to_sink-requires-clause-from : goal.push_to_sink-requires-clause-from
push_to_sink-requires-clause-from c =
    sym (there c.args.layout.now c.requires.plan c.args.number c.index.result.now (Compute c.in-Compute.tensor c.in-Compute.lane) c.args.chart.now.modules.items c.requires.chart.modules c.requires.number
    c.index.ensures c.in-Compute.is).1

pub returns-in-Source : goal.returns-in-Source
returns-in-Source c =
    let p = c.args.layout.now in
    let t = there p c.requires.plan c.args.number c.index.result.now (Source c.in-Source.tensor) c.args.chart.now.modules.items c.requires.chart.modules c.requires.number c.index.ensures c.in-Source.is in
    on_ok_weaker c.push_first_links.result (λ e. e ∙ ap (λ qs. c.args.queues.now.items ++ qs) (source_whole p c.in-Source.tensor c.args.number (sym t.1)
    ∙ sym (at p c.args.number c.index.result.now (Source c.in-Source.tensor) c.args.chart.now.modules.items c.requires.chart.modules c.requires.number c.index.ensures c.in-Source.is))) c.push_first_links.ensures

pub returns-in-Forward : goal.returns-in-Forward
returns-in-Forward c =
    on_ok_weaker c.push_forward.result (λ e. e ∙ ap (λ qs. c.args.queues.now.items ++ qs) (sym (at c.args.layout.now c.args.number c.index.result.now
    (Forward c.in-Forward.tensor c.in-Forward.lane c.in-Forward.tap) c.args.chart.now.modules.items c.requires.chart.modules c.requires.number c.index.ensures c.in-Forward.is))) c.push_forward.ensures

pub returns-in_ok-push_link-in-Compute : goal.returns-in_ok-push_link-in-Compute
returns-in_ok-push_link-in-Compute c =
    let p = c.args.layout.now in
    let t = there p c.requires.plan c.args.number c.index.result.now (Compute c.in-Compute.tensor c.in-Compute.lane) c.args.chart.now.modules.items c.requires.chart.modules c.requires.number c.index.ensures c.in-Compute.is in
    on_ok_weaker c.push_to_sink.result (λ e. compute_whole p c.in-Compute.tensor c.in-Compute.lane c.args.number c.args.queues.now.items c.push_link.new.queues.items c.push_to_sink.new.queues.items (sym t.1)
    c.in_ok-push_link-in-Compute.ensures e ∙ ap (λ qs. c.args.queues.now.items ++ qs) (sym (at p c.args.number c.index.result.now
    (Compute c.in-Compute.tensor c.in-Compute.lane) c.args.chart.now.modules.items c.requires.chart.modules c.requires.number c.index.ensures c.in-Compute.is))) c.push_to_sink.ensures

pub returns-in-Sink : goal.returns-in-Sink
returns-in-Sink c =
    sink_whole c.args.layout.now c.in-Sink.tensor c.args.queues.now.items ∙ ap (λ qs. c.args.queues.now.items ++ qs) (sym (at c.args.layout.now c.args.number c.index.result.now
    (Sink c.in-Sink.tensor) c.args.chart.now.modules.items c.requires.chart.modules c.requires.number c.index.ensures c.in-Sink.is))
