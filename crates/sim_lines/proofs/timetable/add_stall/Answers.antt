use Rattle.std.proofs.Common.{◌∙◌, ◌++◌, ap, append-nil, get_or, sym}
use Rattle.sim_lines.specs.declared.stalled.ModuleEnd.{ModuleEnd}
use Rattle.sim_lines.proofs.Ends.{is_passed_by, is_stalled_by, stalled_more}
use Rattle.sim_lines.proofs.timetable.add_stall.Goals as goal
use Rattle.sim_lines.proofs.timetable.add_stall.Goals.{then-stall-end+in_ok-push, else-stall-end}

pub loop-end-preserved : goal.loop-end-preserved
loop-end-preserved c =
    let none : ModuleEnd = record { tensor = 0; number = 0 } in
    let ends = c.args.ends.now in
    let now = c.loop-end.stalled.items in
    let end = get_or ends c.loop-end.end-index none in
    elim c.if-stall-end.branch [
      | then-stall-end+in_ok-push w ↦
          ap (λ v. v.items) w.stalled-is ∙ stalled_more c.args.stall ends c.loop-end.end-index none c.args.stalled.now.items now _ c.loop-end-test.true c.loop-end.invariant (w.in_ok-push.ensures.items ∙ ap (λ ss. now ++ ss) (is_stalled_by c.args.stall end w.if-stall-end.true))
      | else-stall-end w ↦
          ap (λ v. v.items) w.stalled-is ∙ stalled_more c.args.stall ends c.loop-end.end-index none c.args.stalled.now.items now _ c.loop-end-test.true c.loop-end.invariant (sym (append-nil now) ∙ ap (λ ss. now ++ ss) (is_passed_by c.args.stall end w.if-stall-end.false))
    ]
