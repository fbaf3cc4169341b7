use Rattle.std.proofs.Common.{◌≡◌, drop}
use Rattle.std.specs.Prelude.{find}
use Rattle.soda_checks.specs.Conditions.{is_unknown}
use Rattle.soda_checks.proofs.conditions.unknown_name.Given as goal

abbrev pub invariant-loop-site : goal.invariant-loop-site
invariant-loop-site l = find (is_unknown l.outline.declared) (drop l.site-index l.sites) ≡ find (is_unknown l.outline.declared) l.sites
