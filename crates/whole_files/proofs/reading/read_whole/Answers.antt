use Rattle.std.proofs.Common.{◌≡◌, ◌++◌, ◌+◌, ℕ, List, length, take, drop, refl, sym, ap, subst, ◌∙◌, arith, length-append, length-drop}
use Rattle.std.proofs.Common.{Result, Ok, Err}
use Rattle.std.proofs.lemmas.List.{length-take}
use Rattle.soda_io.specs.declared.error.IoErr.{IoErr}
use Rattle.whole_files.specs.Machine.SoFar.{Took}
use Rattle.whole_files.proofs.ReadSteps.{at, took_none, took_more, took_length, copied, stopped, failed, no_memory, at_end, whole}
use Rattle.whole_files.proofs.reading.read_whole.Goals as goal

abbrev ok : ℕ → Result ℕ IoErr
ok n = Ok n

abbrev err : IoErr → Result ℕ IoErr
err e = Err e

pub loop-block-init : goal.loop-block-init
loop-block-init g c = record {
  given = refl;
  faults = refl;
  block = refl;
  few = omega arith;
  took = λ told.
      let s = g.F.Files.store c.args.files.now in
      let P : List ℕ → Type 0 = λ xs. Took (g.F.Files.given c.args.files.now) s s c.args.id xs in
      subst P (sym c.new-bytes.ensures.items) (took_none (g.F.Files.given c.args.files.now) s c.args.id);
}

pub loop-block-preserved : goal.loop-block-preserved
loop-block-preserved g c =
    let room : length c.read.new.buf ≡ c.min-room.result + 1 =
    c.read.auto.buf ∙ length-take (c.min-room.result + 1) c.loop-block.block ∙ omega (arith, c.min-room.ensures) in
    record {
      given = c.read.ensures.ids ∙ c.loop-block.invariant.given;
      faults = c.in-Ok.ensures.cause.kept ∙ c.loop-block.invariant.faults;
      block = length-append c.read.new.buf (drop (c.min-room.result + 1) c.loop-block.block) ∙ omega (arith, length-drop (c.min-room.result + 1) c.loop-block.block, c.min-room.ensures);
      few = omega (arith, c.in-Ok-extend_from_slice.ensures.len, length-take c.in-Ok.count (c.read.new.buf ++ drop (c.min-room.result + 1) c.loop-block.block), c.in-Ok.ensures.count, c.min-room.ensures);
      took = λ told.
          let a = g.F.Files.store c.args.files.now in
          let z = g.F.Files.store c.read.new.self in
          let r = at _ _ _ _ _ _ _ _ _ c.loop-block.invariant.given refl (c.in-Ok.ensures.store told) in
          let P : List ℕ → Type 0 = λ xs. Took (g.F.Files.given c.args.files.now) a z c.args.id xs in
          subst P (sym (copied _ _ _ _ _ c.in-Ok.ensures.count c.in-Ok-extend_from_slice.ensures.items))
          (took_more _ _ _ _ _ _ _ _ _ (c.loop-block.invariant.took told) r (omega (arith, c.in-Ok.count-test.1)) c.in-Ok.ensures.count);
    }

pub returns-in-Ok-eq0-clause-store : goal.returns-in-Ok-eq0-clause-store
returns-in-Ok-eq0-clause-store g c = λ told.
    let r = at _ _ _ _ _ _ _ _ _ c.loop-block.invariant.given (ap (λ (n : ℕ). ok n) c.in-Ok-eq0.field-0-test) (c.in-Ok-eq0.ensures.store told) in
    at_end _ _ _ _ _ _ c.requires.given (c.loop-block.invariant.took told) _ _ _ r (omega (arith, c.loop-block.bytes.ok.0))

pub returns-in-Ok-eq0-clause-whole : goal.returns-in-Ok-eq0-clause-whole
returns-in-Ok-eq0-clause-whole g c = λ told.
    let r = at _ _ _ _ _ _ _ _ _ c.loop-block.invariant.given (ap (λ (n : ℕ). ok n) c.in-Ok-eq0.field-0-test) (c.in-Ok-eq0.ensures.store told) in
    whole _ c.args.most _ _ _ _ c.requires.given (c.loop-block.invariant.took told) _ _ _ r

pub returns-in-Err-Failed-clause-store : goal.returns-in-Err-Failed-clause-store
returns-in-Err-Failed-clause-store g c = λ told.
    let r = at _ _ _ _ _ _ _ _ _ c.loop-block.invariant.given (ap (λ (e : IoErr). err e) c.in-Err-Failed.field-0-is) (c.in-Err-Failed.ensures.store told) in
    failed _ _ _ _ _ _ c.requires.given (c.loop-block.invariant.took told) _ _ _ r (omega (arith, c.loop-block.bytes.ok.0))

pub returns-in-Err-Memory-clause-store : goal.returns-in-Err-Memory-clause-store
returns-in-Err-Memory-clause-store g c = λ told.
    let r = at _ _ _ _ _ _ _ _ _ c.loop-block.invariant.given (ap (λ (e : IoErr). err e) c.in-Err-Memory.field-0-is) (c.in-Err-Memory.ensures.store told) in
    no_memory _ _ _ _ _ _ c.requires.given (c.loop-block.invariant.took told) _ _ _ r (omega (arith, c.loop-block.bytes.ok.0))

pub returns-clause-store : goal.returns-clause-store
returns-clause-store g c = λ told. stopped _ _ _ _ _ _ c.requires.given (c.loop-block.invariant.took told) _ refl (omega (arith, c.loop-block.bytes.ok.0, c.len.ensures))

pub returns-clause-too_long : goal.returns-clause-too_long
returns-clause-too_long g c = λ told _. omega (arith, took_length _ _ _ _ _ (c.loop-block.invariant.took told), c.len.ensures, c.loop-block.bytes.ok.0)

pub returns-in_default-clause-store : goal.returns-in_default-clause-store
returns-in_default-clause-store g c = λ told.
    let r = at _ _ _ _ _ _ _ _ _ c.loop-block.invariant.given refl (c.in-Ok.ensures.store told) in
    stopped _ _ _ _ _ _ c.requires.given (took_more _ _ _ _ _ _ _ _ _ (c.loop-block.invariant.took told) r (omega (arith, c.in-Ok.count-test.1)) c.in-Ok.ensures.count) _ refl
    (omega (arith, length-append c.loop-block.bytes.items (take c.in-Ok.count c.read.new.buf), length-take c.in-Ok.count c.read.new.buf, c.read.auto.buf, length-take (c.min-room.result + 1) c.loop-block.block, c.loop-block.bytes.ok.0, c.min-room.ensures))
