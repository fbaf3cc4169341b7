use Rattle.std.proofs.Common.{◌≡◌, drop, []}
use Rattle.soda_parse.specs.ProgramConditions.{far_from}
use Rattle.soda_parse.proofs.conditions.offset_past.Given as goal

abbrev pub invariant-loop-site : goal.invariant-loop-site
invariant-loop-site l = far_from l.outline l.left (drop l.site-index l.sites) ≡ far_from l.outline [] l.sites
