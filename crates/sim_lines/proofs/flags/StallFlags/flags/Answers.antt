use Rattle.std.proofs.Common.{◌∙◌, ap}
use Rattle.sim_lines.specs.Timetable.{Timetable, flags_of}
use Rattle.sim_lines.proofs.Cursor.{flags_now}
use Rattle.sim_lines.proofs.flags.StallFlags.flags.Goals as goal

pub returns : goal.returns
returns c =
    let s = c.self.inside in
    c.deref.ensures.value
    ∙ (flags_now s.stalled.items s.first s.end s.cycle s.flags.items c.self.invariant
    ∙ ap (λ (t : Timetable). flags_of t t.cycle) c.self.view_is)
