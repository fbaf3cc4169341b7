use Rattle.std.proofs.Common.{◌≡◌, ℕ, ℤ, List, [], map, refl, arith}
use Rattle.array_bytes.specs.Runs.{ended_runs, open_run}
use Rattle.array_bytes.proofs.text_scan.TextScan.new.Goals as goal

pub returns-clause-fresh : goal.returns-clause-fresh
unfolding ended_runs open_run
returns-clause-fresh c = record {
  spent = omega arith;
  values = refl;
  of_type = λ k d lt. absurd (omega arith);
  count = refl;
  few = omega arith;
  going = c.new.ensures.empty;
  full = λ e. refl;
}
