use Rattle.std.proofs.Common.{◌≡◌, drop}
use Rattle.std.specs.Prelude.{find}
use Rattle.soda_checks.specs.Conditions.{has_wrong_dims}
use Rattle.soda_checks.proofs.places.wrong_dims_at.Given as goal

abbrev pub invariant-loop-site : goal.invariant-loop-site
invariant-loop-site l = find (has_wrong_dims l.outline l.dims) (drop l.site-index l.sites) ≡ find (has_wrong_dims l.outline l.dims) l.sites
