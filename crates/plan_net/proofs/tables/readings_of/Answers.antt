use Rattle.std.proofs.Common.{◌∙◌, ap, length, replicate, [], List, ℕ}
use Rattle.plan_net.proofs.Steps.{reads_none}
use Rattle.plan_net.proofs.tables.readings_of.Goals as goal

pub loop-number-init : goal.loop-number-init
loop-number-init c =
    reads_none c.args.layout.now c.in_ok-readings.readings.items (c.in_ok-readings.ensures ∙ ap (λ ks. replicate {A = List ℕ} (length ks) []) c.kinds.ensures.value)
