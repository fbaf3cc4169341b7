use Rattle.std.proofs.Common.{true, sym, ◌∙◌, arith}
use Rattle.job_files.proofs.Listed.{all_names, all_there, ids_more, one_more, part_asked, part_pushed, stuck_at, whole_list}
use Rattle.job_files.proofs.opening.open_all.Goals as goal

pub returns-in_default-clause-journal : goal.returns-in_default-clause-journal
returns-in_default-clause-journal g c = λ told first begun asked ended places more e p.
    let before = c.loop-name.invariant.journal told first begun asked ended places more e p in
    part_pushed true more c.args.names.now e c.loop-name.name-index first begun asked ended places _ _ c.loop-name-test.true _ c.in-Ok.id
    (λ f is. c.in-Ok.ensures.journal told first begun _ ended places f is before)

pub returns-in-Err-Failed-clause-journal : goal.returns-in-Err-Failed-clause-journal
returns-in-Err-Failed-clause-journal g c = λ told first begun asked ended places more e p.
    let before = c.loop-name.invariant.journal told first begun asked ended places more e p in
    stuck_at true more c.args.names.now e c.loop-name.name-index first begun asked ended places _ _ c.loop-name-test.true _ c.in-Err-Failed.field-0
    c.in-Err-Failed.field-0-is
    (λ f is. c.in-Err-Failed.ensures.journal told first begun _ ended places f is before) c.len.result (sym (c.len.ensures ∙ c.loop-name.invariant.count))

pub returns-in-Err-Memory-clause-journal : goal.returns-in-Err-Memory-clause-journal
returns-in-Err-Memory-clause-journal g c = λ told first begun asked ended places more e p.
    let before = c.loop-name.invariant.journal told first begun asked ended places more e p in
    part_asked true more c.args.names.now e c.loop-name.name-index first begun asked ended places _ _ c.loop-name-test.true _ c.in-Err-Memory.field-0
    c.in-Err-Memory.field-0-is
    (λ f is. c.in-Err-Memory.ensures.journal told first begun _ ended places f is before)

pub loop-name-preserved : goal.loop-name-preserved
loop-name-preserved g c =
    let i = c.loop-name.name-index in
    record {
      ids = ids_more _ _ _ _ _ _ c.in-Ok-push.ensures.items c.loop-name.invariant.ids c.in-Ok.ensures.id.0 c.loop-name.invariant.given;
      few = omega (arith, c.in-Ok-push.ensures.len, c.in-Ok.ensures.id.1, c.in-Ok.ensures.id.2);
      count = omega (arith, c.in-Ok-push.ensures.len);
      given = omega (arith, c.in-Ok.ensures.id.1);
      faults = c.in-Ok.ensures.cause.kept ∙ c.loop-name.invariant.faults;
      journal = λ told first begun asked ended places more e p.
          let before = c.loop-name.invariant.journal told first begun asked ended places more e p in
          one_more true more c.args.names.now e i first begun asked ended places _ _ c.loop-name-test.true _ c.in-Ok.id
          (λ f is. c.in-Ok.ensures.journal told first begun _ ended places f is before);
      there = λ told. all_there _ _ c.args.names.now i c.loop-name-test.true _ (c.loop-name.invariant.bytes told) (c.loop-name.invariant.there told)
          (c.in-Ok.ensures.there told);
      bytes = λ told n. c.in-Ok.ensures.bytes told n ∙ c.loop-name.invariant.bytes told n;
    }

pub returns-clause-journal : goal.returns-clause-journal
returns-clause-journal g c = λ told first begun asked ended places more e p.
    whole_list true more c.args.names.now e c.loop-name.name-index first begun asked ended places _ _ (omega arith)
    (c.loop-name.invariant.journal told first begun asked ended places more e p)

pub returns-clause-there : goal.returns-clause-there
returns-clause-there g c = λ told. all_names (g.F.Files.store c.args.files.now).bytes c.args.names.now c.loop-name.name-index (omega arith)
    (c.loop-name.invariant.there told)
