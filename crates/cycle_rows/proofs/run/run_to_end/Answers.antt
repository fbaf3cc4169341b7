use Rattle.std.proofs.Common.{◌∙◌, ◌++◌, ◌∷◌, [], length-append, arith}
use Rattle.std.proofs.lemmas.Bool.{false≢true}
use Rattle.cycle_rows.proofs.run.run_to_end.Goals as goal

pub loop-cycles-preserved : goal.loop-cycles-preserved
loop-cycles-preserved g c =
    let l = c.loop-cycles in
    let inv = l.invariant in
    let stalls = inv.run.0 in
    record {
      network = c.cycle.ensures.network ∙ inv.network;
      firings = c.cycle.ensures.firings ∙ inv.firings;
      few = omega arith;
      run = (
        stalls ++ c.args.stalled.now ∷ [],
        omega (arith, length-append stalls (c.args.stalled.now ∷ []), inv.run.1),
        c.in-Ok.ensures.run stalls inv.run.2 (λ done. false≢true (c.if-not-finished.ensures.finished.1 done)),
      );
      streams = c.in-Ok.ensures.streams;
      ready = c.in-Ok.ensures.ready;
    }
