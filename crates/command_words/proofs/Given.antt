-- What is given, by the matches of a parse.
use Rattle.std.proofs.Common.{◌≡◌, ◌∙◌, ◌&&◌, false, Option, None, Some, is_some, refl}
use Rattle.std.specs.Prelude.{option_and_then}
use Rattle.std.specs.Option.{option_map_or}
use Rattle.clap.specs.Facts.{explicit_source}
use Rattle.clap.specs.Matches.{matched_of}
use Rattle.clap.specs.Takes.{is_given}
use Rattle.clap.specs.Walk.{Text, rows_of}
use Rattle.clap.specs.declared.parser.matches.Found.{Found}
use Rattle.clap.specs.declared.parser.matches.MatchedArg.{MatchedArg}
use Rattle.clap.proofs.TakesLemmas.{present_row}

-- what has an entry whose value stands in the words
pub given : (f : Found) (id : Text)
    → (is_some (matched_of f id) && explicit_source (option_and_then (λ a. a.source) (matched_of f id))) ≡ is_given id (rows_of f)
given f id = entry (matched_of f id) ∙ present_row f id
  where
    entry : (o : Option MatchedArg) → (is_some o && explicit_source (option_and_then (λ a. a.source) o)) ≡ option_map_or (λ a. explicit_source a.source) o false
    entry None = refl
    entry (Some a) = refl
