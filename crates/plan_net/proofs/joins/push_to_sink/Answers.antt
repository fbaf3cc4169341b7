use Rattle.std.proofs.Common.{◌≡◌, ◌++◌, [], ◌∷◌, ◌∙◌, ap, arith, cond, length, sym, true, false, List}
use Rattle.std.proofs.lemmas.List.{append-nil}
use Rattle.net_ir.specs.declared.network.Module.TheVariants.{Compute, Sink}
use Rattle.net_ir.specs.declared.network.Queue.{Queue}
use Rattle.net_shape.specs.Modules.{IsThere, number_of}
use Rattle.net_shape.specs.Plans.{kind_at}
use Rattle.net_shape.specs.machine.Places.{near_begin}
use Rattle.plan_net.specs.machine.Tables.{has_sink}
use Rattle.plan_net.proofs.Standing.{kind_sinks, number_within, sink_found, tensor_at}
use Rattle.plan_net.proofs.Steps.{kind_is, to_sink_by}
use Rattle.plan_net.proofs.joins.push_to_sink.Goals as goal

pub index-requires : goal.index-requires
index-requires c =
    let p = c.args.layout.now in
    let a = tensor_at (λ w. near_begin p w p.unroll) (length p.kinds) c.args.tensor c.args.chart.now.ends.items c.requires.chart.ends c.requires.tensor in
    omega (arith, a.within, c.args.chart.now.ends.ok)

pub overflow_cast-to : goal.overflow_cast-to
overflow_cast-to c =
    let p = c.args.layout.now in
    let is : has_sink (kind_at p c.args.tensor) ≡ true = sym (kind_is has_sink p c.args.tensor c.kinds.result.now _ c.requires.tensor c.kinds.ensures.value) ∙ sym c.has_sink.ensures ∙ c.if-has_sink.true in
    let there : IsThere p (Sink c.args.tensor) = (c.requires.tensor, kind_sinks (kind_at p c.args.tensor) is) in
    omega (
      arith,
      sink_found p c.requires.plan c.args.tensor c.index.result.now c.args.chart.now.ends.items there c.requires.chart.ends c.index.ensures,
      number_within p c.requires.plan (Sink c.args.tensor) there,
      c.requires.few,
    )

pub returns-in_ok-push : goal.returns-in_ok-push
returns-in_ok-push c =
    let p = c.args.layout.now in
    let v = c.args.tensor in
    let is : has_sink (kind_at p c.args.tensor) ≡ true = sym (kind_is has_sink p v c.kinds.result.now _ c.requires.tensor c.kinds.ensures.value) ∙ sym c.has_sink.ensures ∙ c.if-has_sink.true in
    let there : IsThere p (Sink c.args.tensor) = (c.requires.tensor, kind_sinks (kind_at p c.args.tensor) is) in
    let to : c.index.result.now ≡ number_of p (Sink c.args.tensor) = sink_found p c.requires.plan v c.index.result.now c.args.chart.now.ends.items there c.requires.chart.ends c.index.ensures in
    let one : Queue = record { from = number_of p (Compute v c.args.lane); to = number_of p (Sink v); port = c.args.lane; capacity = 1; lead = 0 } in
    c.in_ok-push.ensures.items
    ∙ ap (λ f. c.args.queues.now.items ++ record { from = f; to = c.index.result.now; port = c.args.lane; capacity = 1; lead = 0 } ∷ []) c.requires.from
    ∙ ap (λ t. c.args.queues.now.items ++ record { from = number_of p (Compute v c.args.lane); to = t; port = c.args.lane; capacity = 1; lead = 0 } ∷ []) to
    ∙ ap (λ qs. c.args.queues.now.items ++ qs) (ap (λ b. cond {A = List Queue} b (one ∷ []) []) (sym is) ∙ sym (to_sink_by p v c.args.lane))

pub returns-else-has_sink : goal.returns-else-has_sink
returns-else-has_sink c =
    let p = c.args.layout.now in
    let v = c.args.tensor in
    let is : has_sink (kind_at p c.args.tensor) ≡ false = sym (kind_is has_sink p v c.kinds.result.now _ c.requires.tensor c.kinds.ensures.value) ∙ sym c.has_sink.ensures ∙ c.if-has_sink.false in
    let one : Queue = record { from = number_of p (Compute v c.args.lane); to = number_of p (Sink v); port = c.args.lane; capacity = 1; lead = 0 } in
    sym (append-nil c.args.queues.now.items)
    ∙ ap (λ qs. c.args.queues.now.items ++ qs) (ap (λ b. cond {A = List Queue} b (one ∷ []) []) (sym is) ∙ sym (to_sink_by p v c.args.lane))
