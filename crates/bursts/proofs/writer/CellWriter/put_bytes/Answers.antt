use Rattle.std.proofs.Common.{rules, ◌≡◌, ◌++◌, ℤ, FitsSigned, refl, subst}
use Rattle.std.specs.Int.{w128}
use Rattle.std.proofs.lemmas.Int.{to_z-of_z}
use Rattle.array_bytes.specs.Written.{raw_bytes}
use Rattle.bursts.proofs.WriterSteps.{raw_puts}
use Rattle.bursts.proofs.writer.CellWriter.put_bytes.Goals as goal

pub returns-clause-put : goal.returns-clause-put
returns-clause-put g c = λ told before bytes there h.
    let w = c.args.self.now in
    let fits : FitsSigned w128 c.args.cell = search rules in
    let P : ℤ → Type 0 = λ v. c.put_raw.new.out.items ≡ w.buffer.items ++ raw_bytes w.ty v in
    raw_puts _ _ _ w _ c.args.cell refl c.requires.given before bytes there h c.requires.raw w.some_word w.whole
    _ (subst P (to_z-of_z w128 c.args.cell fits) c.put_raw.ensures.put) _ (c.write_full.ensures.store told) c.write_full.ensures.kept refl
