use Rattle.net_ir.proofs.Facts.{waits_none_iff}
use Rattle.net_ir.proofs.Rings.{no_ring}
use Rattle.net_ir.proofs.counts.waits_for.Goals as goal

pub returns-clause-none : goal.returns-clause-none
returns-clause-none c =
    waits_none_iff c.args.net.now c.args.counts.now.firings c.args.counts.now.state c.args.module c.other_end.result c.other_end.ensures.value

pub returns-clause-no_ring : goal.returns-clause-no_ring
returns-clause-no_ring c =
    λ orderly. no_ring c.args.net.now c.args.counts.now.firings c.other_end.ensures.network orderly c.args.counts.now.state c.other_end.ensures.lawful
