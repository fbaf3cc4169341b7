-- What a parse by the command `sodac` says of the words.
use Rattle.std.proofs.Common.{◌≡◌, ◌∙◌, Bool, true, false, List, [], refl, ap, subst}
use Rattle.clap.specs.Faults.{fault_of, is_simple_and_free}
use Rattle.clap.specs.Matches.{found_of}
use Rattle.clap.specs.Simple.{App, HasMatchesOf, is_simple, matches_of}
use Rattle.clap.specs.Takes.{takes}
use Rattle.clap.specs.Walk.{Text, rows_of}
use Rattle.clap.specs.declared.parser.matches.ArgMatches.{ArgMatches}
use Rattle.command_words.specs.Command.{are_taken, found_in, sodac_command}
use Rattle.command_words.proofs.Faultless.{takes_faultless}

module _ (a : App) (words : List Text) (is : a ≡ sodac_command) where
  -- words whose parse succeeds are taken
  pub taken : (is_simple_and_free a ≡ true → fault_of a words ≡ []) → are_taken words ≡ true
  unfolding are_taken
  taken faultless =
      takes_faultless sodac_command words refl refl refl refl (subst (λ (x : App). fault_of x words ≡ []) is (faultless (ap is_simple_and_free is)))

  -- and its rows are those that the definition gives
  pub rows : (m : ArgMatches) → HasMatchesOf a words m → rows_of (found_of m) ≡ found_in words
  unfolding found_in
  rows m has = (has (ap is_simple is)).0 ∙ ap (λ (x : App). matches_of x words) is

  -- where taking them leads to what isn't so, they aren't taken
  pub untaken : (takes a words ≡ true → ⊥) → are_taken words ≡ false
  unfolding are_taken
  untaken never = by (takes sodac_command words) refl
    where
      by : (t : Bool) → takes sodac_command words ≡ t → t ≡ false
      by true e = absurd (never (ap (λ (x : App). takes x words) is ∙ e))
      by false e = refl
