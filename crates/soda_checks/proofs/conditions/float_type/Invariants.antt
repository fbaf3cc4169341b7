use Rattle.std.proofs.Common.{◌≡◌, drop}
use Rattle.std.specs.Prelude.{find}
use Rattle.soda_checks.specs.Types.{is_float}
use Rattle.soda_checks.proofs.conditions.float_type.Given as goal

abbrev pub invariant-loop-word : goal.invariant-loop-word
invariant-loop-word l = find (λ w. is_float w.text) (drop l.word-index l.types) ≡ find (λ w. is_float w.text) l.types
