use Rattle.std.proofs.Common.{◌++◌, ◌∙◌, ap}
use Rattle.std.proofs.lemmas.Result.{on_ok_weaker}
use Rattle.time_stages.proofs.Gathered.{tensor_added}
use Rattle.time_stages.proofs.readings.add_tensor.Goals as goal

pub returns : goal.returns
returns c = λ d.
    on_ok_weaker c.add_reads.result (λ e. e ∙ ap (λ rs. c.args.reads.now.items ++ rs) (tensor_added c.args.parts.now c.args.tensors.now c.args.number c.index-tensors-number.result d c.args.graph.now c.readings_of-readings.result.now
    c.in_ok-pairs.pairs.items c.put_in_order.new.pairs.items c.deref.result.now c.requires.there c.index-tensors-number.is c.requires.graph c.readings_of-readings.ensures c.in_ok-pairs.ensures c.put_in_order.ensures c.deref.ensures.value)) c.add_reads.ensures
