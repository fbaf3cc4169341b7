use Rattle.std.proofs.Common.{◌≡◌, drop}
use Rattle.std.specs.List.{list_any}
use Rattle.soda_checks.specs.Conditions.{is_kind}
use Rattle.soda_checks.proofs.conditions.has_kind.Given as goal

abbrev pub invariant-loop-setting : goal.invariant-loop-setting
invariant-loop-setting l = list_any (is_kind l.kind) (drop l.setting-index l.settings) ≡ list_any (is_kind l.kind) l.settings
