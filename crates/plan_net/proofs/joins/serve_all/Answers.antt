use Rattle.std.proofs.Common.{◌-◌, ◌<◌, ◌∙◌, All, ap, arith, length, reverse, subst, sym}
use Rattle.std.proofs.lemmas.List.Elements.{All-filter, All-get_or}
use Rattle.net_shape.specs.Queues.{serving}
use Rattle.plan_net.specs.machine.Tables.{is_at, reads_among}
use Rattle.plan_net.proofs.Standing.{all_left, none_left, reads_known, served_is}
use Rattle.plan_net.proofs.Steps.{less_left}
use Rattle.plan_net.proofs.joins.serve_all.Goals as goal

pub loop-passed-init : goal.loop-passed-init
loop-passed-init c =
    ap reverse c.new-held.ensures.items ∙ none_left (serving c.args.layout.now c.args.lane.0 c.args.lane.1 c.args.tap) c.args.numbers.now

pub loop-passed-preserved : goal.loop-passed-preserved
loop-passed-preserved c =
    less_left (serving c.args.layout.now c.args.lane.0 c.args.lane.1 c.args.tap) c.args.numbers.now c.loop-passed.passed
    (reverse c.loop-passed.held.items) (reverse c.serve.new.held.items) c.loop-passed-test.true c.loop-passed.invariant c.in_ok-serve.ensures

pub serve-requires-clause-port : goal.serve-requires-clause-port
serve-requires-clause-port c =
    let p = c.args.layout.now in
    All-get_or (λ n. n < length p.reads) c.args.numbers.now (length c.args.numbers.now - 1 - c.loop-passed.passed) 0 (omega (arith, c.loop-passed-test.true))
    (subst (All (λ n. n < length p.reads)) (sym c.requires.numbers)
    (All-filter (is_at p c.args.lane.1 c.args.tap) (λ n. n < length p.reads) (reads_among p c.args.lane.0 (length p.reads)) (reads_known p c.args.lane.0 (length p.reads))))

pub returns : goal.returns
returns c =
    let p = c.args.layout.now in
    c.loop-passed.invariant
    ∙ all_left (serving p c.args.lane.0 c.args.lane.1 c.args.tap) c.args.numbers.now c.loop-passed.passed c.loop-passed-test.false
    ∙ served_is p c.args.lane.0 c.args.lane.1 c.args.tap c.args.numbers.now c.requires.numbers
