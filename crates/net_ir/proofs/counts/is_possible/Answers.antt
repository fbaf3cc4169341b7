use Rattle.std.proofs.Common.{ap, sym, ◌∙◌, subst, arith}
use Rattle.net_ir.specs.declared.network.Queue.{Queue}
use Rattle.net_ir.specs.States.{IsKnown, is_possible}
use Rattle.net_ir.proofs.Facts.{possible_send, possible_take, possible_close}
use Rattle.net_ir.proofs.counts.is_possible.Goals as goal

pub overflow_sub-held : goal.overflow_sub-held
overflow_sub-held c =
    omega (
      arith,
      c.sent-in-Send.ensures.lawful.low c.in-Send.queue
          (subst (IsKnown c.args.net.now) c.in-Send.is c.requires.known),
      c.sent-in-Send.ensures.value,
      c.taken-in-Send.ensures.value,
    )

pub returns-in-Take : goal.returns-in-Take
returns-in-Take c =
    possible_take c.args.net.now c.args.counts.now.state c.in-Take.queue c.taken.result c.sent.result c.taken.ensures.value c.sent.ensures.value
    ∙ ap (is_possible c.args.net.now c.args.counts.now.state) (sym c.in-Take.is)

pub returns-in-Send : goal.returns-in-Send
returns-in-Send c =
    possible_send c.args.net.now c.args.counts.now.state c.in-Send.queue c.taken-in-Send.result c.sent-in-Send.result c.queue_of.result.capacity c.taken-in-Send.ensures.value c.sent-in-Send.ensures.value (ap (λ (q : Queue). q.capacity) c.queue_of.ensures.value)
    (omega (
      arith,
      c.sent-in-Send.ensures.lawful.low c.in-Send.queue
          (subst (IsKnown c.args.net.now) c.in-Send.is c.requires.known),
      c.sent-in-Send.ensures.value,
      c.taken-in-Send.ensures.value,
    ))
    ∙ ap (is_possible c.args.net.now c.args.counts.now.state) (sym c.in-Send.is)

pub returns-in-Close : goal.returns-in-Close
returns-in-Close c =
    possible_close c.args.net.now c.args.counts.now.state ∙ ap (is_possible c.args.net.now c.args.counts.now.state) (sym c.in-Close.is)
