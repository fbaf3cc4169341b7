use Rattle.std.proofs.Common.{ℕ, Bool, ◌≤◌, ◌∙◌, ap, sym, subst}
use Rattle.std.specs.List.{list_all}
use Rattle.std.proofs.lemmas.Bool.{and_left}
use Rattle.net_ir.specs.declared.network.Queue.{Queue}
use Rattle.net_ir.specs.declared.events.Event.TheVariants.{Take}
use Rattle.net_ir.specs.States.{is_possible}
use Rattle.net_ir.proofs.Scans.{ready_in, ready_end, ready_takes}
use Rattle.net_ir.proofs.cycle.takes_possible.Goals as goal

pub returns-then-not-is_possible : goal.returns-then-not-is_possible
returns-then-not-is_possible c =
    let test : ℕ → Bool = λ n. is_possible c.args.net.now c.args.counts.now.state (Take n) in
    let ports = c.entrances-ports.result.now in
    let lead = subst (λ (q : Queue). q.lead ≤ c.args.firing) c.queue_of.ensures.value c.if-queue_of-firing.true in
    sym (and_left _ _ (sym c.is_possible.ensures ∙ c.if-not-is_possible.true))
    ∙ sym (ap (list_all test) (ready_in c.args.net.now.queues c.args.firing ports c.loop-queue.queue-index c.loop-queue-test.true lead))
    ∙ sym c.loop-queue.invariant
    ∙ ap (list_all test) (ready_takes c.args.net.now c.args.module c.args.firing ports c.entrances-ports.ensures.value)

pub returns : goal.returns
returns c =
    let test : ℕ → Bool = λ n. is_possible c.args.net.now c.args.counts.now.state (Take n) in
    let ports = c.entrances-ports.result.now in
    sym (ap (list_all test) (ready_end c.args.net.now.queues c.args.firing ports c.loop-queue.queue-index c.loop-queue-test.false))
    ∙ sym c.loop-queue.invariant
    ∙ ap (list_all test) (ready_takes c.args.net.now c.args.module c.args.firing ports c.entrances-ports.ensures.value)
