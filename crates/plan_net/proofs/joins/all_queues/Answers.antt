use Rattle.std.proofs.Common.{◌≡◌, ◌≤◌, ◌∙◌, ap, arith, length}
use Rattle.std.specs.List.{flat_map}
use Rattle.std.proofs.lemmas.List.{take_all}
use Rattle.net_shape.specs.Modules.{modules_of}
use Rattle.net_shape.specs.Queues.{queues_from}
use Rattle.plan_net.proofs.Standing.{few_queues}
use Rattle.plan_net.proofs.joins.all_queues.Goals as goal

pub returns-clause-small : goal.returns-clause-small
returns-clause-small c =
    let p = c.args.layout.now in
    let lanes : p.unroll ≤ 64 = omega (arith, c.unroll.ensures.value, c.unroll.ensures.few) in
    let past : length (modules_of p) ≤ c.loop-number.number = omega (arith, c.loop-number-test.false, ap length c.requires.chart.modules, c.requires.few, c.len-number-end.ensures, c.args.chart.now.modules.ok) in
    let all : c.loop-number.queues.items ≡ flat_map (queues_from p) (modules_of p) = c.loop-number.invariant ∙ ap (flat_map (queues_from p)) (take_all c.loop-number.number (modules_of p) past) in
    omega (arith, ap length all, few_queues p lanes c.reads.ensures.few c.requires.few)
