use Rattle.std.proofs.Common.{◌∙◌, ap, Option, None, Some, pos}
use Rattle.net_ir.specs.declared.network.Module.{Module}
use Rattle.net_build.specs.Planned.{net_under, plan_of}
use Rattle.time_stages.specs.declared.staging.StagedTensor.{StagedTensor}
use Rattle.staged_cells.specs.Cells.{sent_cell}
use Rattle.staged_cells.specs.Sends.{sent_by, sent_item, wrapped_ports}
use Rattle.staged_cells.specs.Streams.{cell_number, lane_between, receiver}
use Rattle.staged_cells.proofs.laws.items_are_by_module.Goals as goal

pub returns-clause-source : goal.returns-clause-source
unfolding sent_item
returns-clause-source c = λ p delays rows params array queue k v ports e.
    ap (λ (m : Module). sent_by p rows params delays array m (lane_between m (receiver (net_under p delays) queue)) k ports) e

pub returns-clause-forward : goal.returns-clause-forward
unfolding sent_item
returns-clause-forward c = λ p delays rows params array queue k v lane tap ports e.
    ap (λ (m : Module). sent_by p rows params delays array m (lane_between m (receiver (net_under p delays) queue)) k ports) e

pub returns-clause-compute : goal.returns-clause-compute
unfolding sent_item
returns-clause-compute c = λ p delays rows params array queue k x lane ports s e named.
    ap (λ (m : Module). sent_by p rows params delays array m (lane_between m (receiver (net_under p delays) queue)) k ports) e
    ∙ ap (λ (o : Option StagedTensor). elim o [
      | None ↦ pos 0
      | Some u ↦ sent_cell p rows params x u (wrapped_ports p x ports)
          (cell_number (plan_of p delays) x lane k)
    ]) named
