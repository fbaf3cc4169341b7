use Rattle.std.proofs.Common.{refl, ◌∙◌, arith}
use Rattle.whole_files.proofs.WriteSteps.{length_rest, at, put_none, put_more, all_put, part_put}
use Rattle.whole_files.proofs.writing.write_whole.Goals as goal

pub loop-done-init : goal.loop-done-init
loop-done-init g c = record { done = omega arith; given = refl; faults = refl; put = λ told. put_none _ _ _ _ }

pub loop-done-preserved : goal.loop-done-preserved
loop-done-preserved g c = record {
  done = omega (arith, c.in-Ok.ensures.count.1, length_rest c.loop-done.done c.args.bytes.now c.loop-done.invariant.done);
  given = c.write.ensures.ids ∙ c.loop-done.invariant.given;
  faults = c.in-Ok.ensures.cause.kept ∙ c.loop-done.invariant.faults;
  put = λ told.
      let w = at _ _ _ _ _ _ _ _ c.loop-done.invariant.given (c.in-Ok.ensures.store told) in
      put_more _ _ _ _ _ _ _ _ c.loop-done.invariant.done c.requires.given (c.loop-done.invariant.put told) w c.in-Ok.ensures.count.0;
}

pub returns-in-Err-clause-store : goal.returns-in-Err-clause-store
returns-in-Err-clause-store g c = λ told.
    let w = at _ _ _ _ _ _ _ _ c.loop-done.invariant.given (c.in-Err.ensures.store told) in
    part_put _ _ _ _ _ _ c.loop-done.invariant.done (c.loop-done.invariant.put told) _ c.in-Err.fault c.requires.given w

pub returns-clause-store : goal.returns-clause-store
returns-clause-store g c = λ told. all_put _ _ _ _ _ _ c.loop-done.invariant.done (c.loop-done.invariant.put told) (omega arith)
