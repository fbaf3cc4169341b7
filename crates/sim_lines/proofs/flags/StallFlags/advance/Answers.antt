use Rattle.std.proofs.Common.{◌∙◌, ap, drop, length, sym}
use Rattle.std.proofs.lemmas.List.{take_at, take_rest}
use Rattle.sim_lines.proofs.Cursor.{advanced}
use Rattle.sim_lines.proofs.flags.StallFlags.advance.Goals as goal

pub invariant_of-self : goal.invariant_of-self
invariant_of-self c =
    let s = c.self.inside in
    let now = c.mark.ensures in
    let long = c.mark.auto.flags ∙ c.deref_mut-2.ensures.len in
    let before = sym (ap length c.deref_mut.ensures.value) ∙ c.deref_mut.ensures.len in
    advanced
    s.stalled.items _ s.first s.end s.cycle c.mark.result s.flags.items c.mark.new.flags _ c.self.invariant (take_rest c.deref-2.result.now s.end ∙ ap (drop s.end) c.deref-2.ensures.value) (long ∙ sym before) (take_at c.mark.new.flags _ s.flags.len long) (now.within, now.now, now.after, now.marked)
