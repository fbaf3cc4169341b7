use Rattle.std.proofs.Common.{◌≡◌, ℕ, ◌++◌, List, Err, take, refl, sym, ap, ◌∙◌, arith, append_assoc}
use Rattle.std.proofs.lemmas.List.{append-nil}
use Rattle.soda_io.specs.declared.error.IoErr.TheVariants.{Memory}
use Rattle.whole_files.proofs.WriteSteps.{rest, length_rest, take_rest}
use Rattle.whole_files.proofs.sinking.put_whole.Goals as goal

pub loop-done-init : goal.loop-done-init
loop-done-init g c = record { done = omega arith; faults = refl; taken = λ told. sym (append-nil _) }

pub loop-done-preserved : goal.loop-done-preserved
loop-done-preserved g c =
    let bytes = c.args.bytes.now in
    let i = c.loop-done.done in
    record {
      done = omega (arith, c.in-Ok.ensures.count.1, length_rest i bytes c.loop-done.invariant.done);
      faults = c.in-Ok.ensures.cause.kept ∙ c.loop-done.invariant.faults;
      taken = λ told.
          c.in-Ok.ensures.taken told ∙ ap (λ (xs : List ℕ). xs ++ take c.in-Ok.count (rest i bytes)) (c.loop-done.invariant.taken told)
          ∙ append_assoc _ (take i bytes) (take c.in-Ok.count (rest i bytes)) ∙ ap (λ (xs : List ℕ). g.S.Sink.taken c.args.sink.now ++ xs) (take_rest i c.in-Ok.count bytes c.loop-done.invariant.done);
    }

pub returns-in-Err-clause-taken : goal.returns-in-Err-clause-taken
returns-in-Err-clause-taken g c = λ told. record { count = c.loop-done.done; at_most = c.loop-done.invariant.done; all = tt; taken = c.in-Err.ensures.taken told ∙ c.loop-done.invariant.taken told }

pub returns-in-Err-clause-spared : goal.returns-in-Err-clause-spared
returns-in-Err-clause-spared g c = λ want.
    let is : c.in-Err.fault ≡ Memory = cc in
    c.in-Err.ensures.spared (ap Err is) ∙ c.loop-done.invariant.faults

pub returns-clause-taken : goal.returns-clause-taken
returns-clause-taken g c = λ told. record { count = c.loop-done.done; at_most = c.loop-done.invariant.done; all = omega arith; taken = c.loop-done.invariant.taken told }
