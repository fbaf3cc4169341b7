use Rattle.std.proofs.Common.{◌≡◌, ◌++◌, map, take}
use Rattle.soda_checks.proofs.names.add_words.Given as goal

abbrev pub invariant-loop-word : goal.invariant-loop-word
invariant-loop-word l = l.names ≡ l.initial.names ++ map (λ x. x.text) (take l.word-index l.words)
