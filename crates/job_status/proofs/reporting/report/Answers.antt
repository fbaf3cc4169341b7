use Rattle.std.proofs.Common.{refl, sym, inr}
use Rattle.std.proofs.lemmas.List.{append-nil}
use Rattle.job_status.proofs.reporting.report.Goals as goal

pub returns-in_default-clause-reports : goal.returns-in_default-clause-reports
returns-in_default-clause-reports g c = λ told. record {
  own = c.args.status;
  count = 0;
  put = sym (append-nil (g.E.Sink.taken c.args.err.now));
  whole = inr (inr refl);
  same = inr (refl, refl);
}
