use Rattle.std.proofs.Common.{◌≡◌, drop, is_none}
use Rattle.std.specs.Prelude.{find}
use Rattle.soda_checks.specs.Types.{type_of}
use Rattle.soda_checks.proofs.conditions.bad_width.Given as goal

abbrev pub invariant-loop-word : goal.invariant-loop-word
invariant-loop-word l = find (λ w. is_none (type_of w.text)) (drop l.word-index l.types) ≡ find (λ w. is_none (type_of w.text)) l.types
