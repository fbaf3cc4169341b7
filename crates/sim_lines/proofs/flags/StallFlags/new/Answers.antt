use Rattle.std.proofs.Common.{◌∙◌, ap, length}
use Rattle.std.proofs.lemmas.List.{with_items_is}
use Rattle.sim_lines.proofs.Ends.{flags_are}
use Rattle.sim_lines.proofs.flags.StallFlags.new.Goals as goal

pub returns-clause-made : goal.returns-clause-made
returns-clause-made c = λ cycle.
    let long = c.mark-end.auto.flags ∙ c.deref_mut.ensures.len in
    flags_are c.args.staged.now c.args.stalls.now c.args.modules.now c.in_ok-stalled.stalled.items cycle _ (ap length (with_items_is c.in_ok-flags.flags c.mark-end.new.flags long) ∙ (long ∙ c.in_ok-flags.ensures.len)) (c.in_ok-stalled.ensures.stalled cycle)
