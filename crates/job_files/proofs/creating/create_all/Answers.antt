use Rattle.std.proofs.Common.{◌+◌, false, sym, ◌∙◌, arith}
use Rattle.job_files.proofs.CallerLemmas.{holds_kept}
use Rattle.job_files.proofs.Emptying.{emptied_more}
use Rattle.job_files.proofs.Listed.{ids_more, one_more, part_asked, part_pushed, stuck_at, whole_list}
use Rattle.job_files.proofs.creating.create_all.Goals as goal

pub returns-in_default-clause-journal : goal.returns-in_default-clause-journal
returns-in_default-clause-journal g c = λ told first begun asked ended places more e p.
    let before = c.loop-name.invariant.journal told first begun asked ended places more e p in
    part_pushed false more c.args.names.now e c.loop-name.name-index first begun asked ended places _ _ c.loop-name-test.true _ c.in-Ok.id
    (λ f is. c.in-Ok.ensures.journal told first begun _ ended places f is before)

pub returns-in_default-clause-emptied : goal.returns-in_default-clause-emptied
returns-in_default-clause-emptied g c = λ told before outputs holds apart. (
  c.loop-name.name-index + 1,
  omega (arith, c.in-Ok.ensures.id.1, c.loop-name.invariant.given),
  omega (arith, c.loop-name-test.true),
  emptied_more before _ outputs c.args.names.now apart c.loop-name.name-index c.loop-name-test.true _
      (c.in-Ok.ensures.emptied told before _ (c.loop-name.invariant.emptied told before outputs holds apart)),
)

pub returns-in-Err-Failed-clause-journal : goal.returns-in-Err-Failed-clause-journal
returns-in-Err-Failed-clause-journal g c = λ told first begun asked ended places more e p.
    let before = c.loop-name.invariant.journal told first begun asked ended places more e p in
    stuck_at false more c.args.names.now e c.loop-name.name-index first begun asked ended places _ _ c.loop-name-test.true _ c.in-Err-Failed.field-0
    c.in-Err-Failed.field-0-is
    (λ f is. c.in-Err-Failed.ensures.journal told first begun _ ended places f is before) c.len.result (sym (c.len.ensures ∙ c.loop-name.invariant.count))

pub returns-in-Err-Failed-clause-emptied : goal.returns-in-Err-Failed-clause-emptied
returns-in-Err-Failed-clause-emptied g c = λ told before outputs holds apart. (
  c.loop-name.name-index,
  c.in-Err-Failed.ensures.id ∙ c.loop-name.invariant.given,
  omega (arith, c.loop-name-test.true),
  holds_kept before _ _ _ (c.in-Err-Failed.ensures.kept told) (c.loop-name.invariant.emptied told before outputs holds apart),
)

pub returns-in-Err-Memory-clause-journal : goal.returns-in-Err-Memory-clause-journal
returns-in-Err-Memory-clause-journal g c = λ told first begun asked ended places more e p.
    let before = c.loop-name.invariant.journal told first begun asked ended places more e p in
    part_asked false more c.args.names.now e c.loop-name.name-index first begun asked ended places _ _ c.loop-name-test.true _ c.in-Err-Memory.field-0
    c.in-Err-Memory.field-0-is
    (λ f is. c.in-Err-Memory.ensures.journal told first begun _ ended places f is before)

pub returns-in-Err-Memory-clause-emptied : goal.returns-in-Err-Memory-clause-emptied
returns-in-Err-Memory-clause-emptied g c = λ told before outputs holds apart. (
  c.loop-name.name-index,
  c.in-Err-Memory.ensures.id ∙ c.loop-name.invariant.given,
  omega (arith, c.loop-name-test.true),
  holds_kept before _ _ _ (c.in-Err-Memory.ensures.kept told) (c.loop-name.invariant.emptied told before outputs holds apart),
)

pub loop-name-preserved : goal.loop-name-preserved
loop-name-preserved g c =
    let i = c.loop-name.name-index in
    record {
      ids = ids_more _ _ _ _ _ _ c.in-Ok-push.ensures.items c.loop-name.invariant.ids c.in-Ok.ensures.id.0 c.loop-name.invariant.given;
      few = omega (arith, c.in-Ok-push.ensures.len, c.in-Ok.ensures.id.1, c.in-Ok.ensures.id.2);
      count = omega (arith, c.in-Ok-push.ensures.len);
      given = omega (arith, c.in-Ok.ensures.id.1);
      faults = c.in-Ok.ensures.cause.kept ∙ c.loop-name.invariant.faults;
      journal = λ told first begun asked ended places more e p.
          let before = c.loop-name.invariant.journal told first begun asked ended places more e p in
          one_more false more c.args.names.now e i first begun asked ended places _ _ c.loop-name-test.true _ c.in-Ok.id
          (λ f is. c.in-Ok.ensures.journal told first begun _ ended places f is before);
      emptied = λ told before outputs holds apart.
          emptied_more before _ outputs c.args.names.now apart i c.loop-name-test.true _
          (c.in-Ok.ensures.emptied told before _ (c.loop-name.invariant.emptied told before outputs holds apart));
    }

pub returns-clause-journal : goal.returns-clause-journal
returns-clause-journal g c = λ told first begun asked ended places more e p.
    whole_list false more c.args.names.now e c.loop-name.name-index first begun asked ended places _ _ (omega arith)
    (c.loop-name.invariant.journal told first begun asked ended places more e p)

pub returns-clause-emptied : goal.returns-clause-emptied
returns-clause-emptied g c = λ told before outputs holds
    apart. (c.loop-name.name-index, c.loop-name.invariant.given, c.loop-name.auto.name-index-end, c.loop-name.invariant.emptied told before outputs holds apart)
