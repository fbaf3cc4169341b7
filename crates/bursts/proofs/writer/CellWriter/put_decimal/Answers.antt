use Rattle.std.proofs.Common.{rules, inl, inr, refl, arith}
use Rattle.std.proofs.lemmas.Result.{err_from_is_err_and}
use Rattle.bursts.proofs.WriterSteps.{text_fails, text_puts}
use Rattle.bursts.proofs.writer.CellWriter.put_decimal.Goals as goal

pub returns-in_err-write_full-clause-put : goal.returns-in_err-write_full-clause-put
returns-in_err-write_full-clause-put g c = λ told before bytes there h.
    let p = err_from_is_err_and c.from_residual.result c.from_residual.ensures.1 in
    rw (p.1, p.2) (text_fails _ _ _ c.args.self.now _ c.args.cell refl c.requires.given before bytes there h _ c.requires.text
    (c.in_err-write_full.ensures.store told))

pub returns-then-self-clause-put : goal.returns-then-self-clause-put
returns-then-self-clause-put g c = λ told before bytes there h.
    text_puts _ _ _ c.args.self.now _ c.args.cell refl c.requires.given before bytes there h _ c.requires.text (c.in_ok-write_full.ensures.store told)
    (search rules) refl (inl (search rules, refl)) (omega (arith, c.put_text.ensures.few))

pub returns-else-self-clause-put : goal.returns-else-self-clause-put
returns-else-self-clause-put g c = λ told before bytes there h.
    text_puts _ _ _ c.args.self.now _ c.args.cell refl c.requires.given before bytes there h _ c.requires.text (c.in_ok-write_full.ensures.store told)
    (search rules) refl (inr (search rules, refl)) (omega (arith, c.put_text.ensures.few))
