use Rattle.std.proofs.Common.{◌≡◌, drop}
use Rattle.std.specs.Prelude.{find}
use Rattle.soda_checks.specs.Conditions.{is_wrong_site}
use Rattle.soda_checks.proofs.places.param_use.Given as goal

abbrev pub invariant-loop-site : goal.invariant-loop-site
invariant-loop-site l = find (is_wrong_site l.outline) (drop l.site-index l.sites) ≡ find (is_wrong_site l.outline) l.sites
